-- The number of packets that are held, and the counts that a slot changes.
use Rattle.std.proofs.Common.{◌≡◌, ℕ, zero, suc, ◌+◌, ◌<◌, ◌≤◌, Bool, true, false, Option, Some, None, IsSome, refl, sym, ap, subst, ◌∙◌, arith, if◌then◌else◌}
use Rattle.std.specs.Prelude.{nat_eq, is_some}
use Rattle.std.specs.FinMap.{get, FinMap}
use Rattle.std.specs.Ordering.{nat_cmp}
use Rattle.std.proofs.lemmas.Bool.Decides.{nat_tests}
use Rattle.rtp_stream.specs.Counts.{is_restarted, is_taken_fate}
use Rattle.rtp_stream.specs.CountsFacts.{Tally, with_body, with_fate}
use Rattle.rtp_stream.specs.Marks.{body_of}
use Rattle.path_merge.specs.MergeState.{held_count}
use Rattle.rtp_stream.specs.declared.fate.Fate.{Fate}
use Rattle.rtp_stream.specs.declared.fate.Fate.TheVariants.{Ahead, Closed, CountersFull, Double, Late, OffGrid, Restarted, Taken, Unlike, WrongSource}
use Rattle.rtp_stream.specs.declared.packet.Packet.{Packet}

pub no_packet : (o : Option Packet) → (IsSome o → ⊥) → o ≡ None
no_packet None none = refl
no_packet (Some p) none = absurd (none refl)

-- maps that agree from a number on
pub held_count-from : (g h : FinMap nat_cmp Packet) (n count : ℕ) → ((k : ℕ) → n ≤ k → get g k ≡ get h k) → held_count g n count ≡ held_count h n count
held_count-from g h n zero same = refl
held_count-from g h n (suc count) same =
    ap (λ (o : Option Packet). (if is_some o then 1 else 0) + held_count g (suc n) count) (same n (omega arith))
    ∙ ap (λ c. (if is_some (get h n) then 1 else 0) + c) (held_count-from g h (suc n) count (λ k le. same k (omega (arith, le))))

pub held_count-none : (h : FinMap nat_cmp Packet) (n count : ℕ) → ((k : ℕ) → get h k ≡ None) → held_count h n count ≡ 0
held_count-none h n zero none = refl
held_count-none h n (suc count) none = ap (λ (o : Option Packet). (if is_some o then 1 else 0) + held_count h (suc n) count) (none n) ∙ omega (arith, held_count-none h (suc n) count none)

held_count-last : (h : FinMap nat_cmp Packet) (n count : ℕ) → held_count h n (suc count) ≡ held_count h n count + (if is_some (get h (n + count)) then 1 else 0)
held_count-last h n zero = ap (λ k. (if is_some (get h k) then 1 else 0) + 0) (same n) ∙ swapped (if is_some (get h (n + 0)) then 1 else 0)
  where
    same : (k : ℕ) → k ≡ k + 0
    same k = omega arith

    swapped : (k : ℕ) → k + 0 ≡ 0 + k
    swapped k = omega arith
held_count-last h n (suc count) =
    let later : suc n + count ≡ n + suc count = omega arith in
    let rest = held_count-last h (suc n) count in
    let last = ap (λ k. held_count h (suc n) count + (if is_some (get h k) then 1 else 0)) later in
    omega (arith, rest, last)

-- the number of packets held after the one at the base was taken
pub held_count-taken : (g h : FinMap nat_cmp Packet) (base size : ℕ) → 0 < size → get g (base + size) ≡ None → ((n : ℕ) → get h n ≡ (if nat_eq n base then None else get g n)) → held_count g base size ≡ (if is_some (get g base) then 1 else 0) + held_count h (base + 1) size
held_count-taken g h base zero some beyond taken = absurd (omega (arith, some))
held_count-taken g h base (suc size) some beyond taken =
    let up : suc base ≡ base + 1 = omega arith in
    let far : base + suc size ≡ suc base + size = omega arith in
    let not_base : nat_eq (suc base + size) base ≡ false = grind (arith, nat_tests) in
    let none : get h (suc base + size) ≡ None = taken (suc base + size) ∙ ap (λ b. if b then None else get g (suc base + size)) not_base ∙ ap (get g) (sym far) ∙ beyond in
    let last = held_count-last h (suc base) size in
    let gone = ap (λ (o : Option Packet). held_count h (suc base) size + (if is_some o then 1 else 0)) none in
    let same : held_count g (suc base) size ≡ held_count h (suc base) size = held_count-from g h (suc base) size (λ k le. let other : nat_eq k base ≡ false = grind (arith, nat_tests, le) in sym (taken k ∙ ap (λ b. if b then None else get g k) other)) in
    let moved = ap (λ b. held_count h b (suc size)) up in
    omega (arith, last, gone, same, moved)

-- one more is put
pub held_count-put : (g h : FinMap nat_cmp Packet) (packet : Packet) (number base size : ℕ) → base ≤ number → number < base + size → get g number ≡ None → ((n : ℕ) → get h n ≡ (if nat_eq n number then Some packet else get g n)) → held_count h base size ≡ held_count g base size + 1
held_count-put g h packet number base zero low high none put = absurd (omega (arith, low, high))
held_count-put g h packet number base (suc size) low high none put = by_first (λ more. held_count-put g h packet number (suc base) size more (omega (arith, high)) none put) (nat_eq base number) refl
  where
    by_first : (suc base ≤ number → held_count h (suc base) size ≡ held_count g (suc base) size + 1) → (b : Bool) → nat_eq base number ≡ b → held_count h base (suc size) ≡ held_count g base (suc size) + 1
    by_first later true is =
        let same : base ≡ number = grind (arith, nat_tests, is) in
        let now : get h base ≡ Some packet = put base ∙ ap (λ b. if b then Some packet else get g base) is in
        let before : get g base ≡ None = ap (get g) same ∙ none in
        let rest : held_count h (suc base) size ≡ held_count g (suc base) size = held_count-from h g (suc base) size (λ k le. let other : nat_eq k number ≡ false = grind (arith, nat_tests, le, same) in put k ∙ ap (λ b. if b then Some packet else get g k) other) in
        let one = ap (λ (o : Option Packet). (if is_some o then 1 else 0) + held_count h (suc base) size) now in
        let zero = ap (λ (o : Option Packet). (if is_some o then 1 else 0) + held_count g (suc base) size) before in
        omega (arith, rest, one, zero)
    by_first later false is =
        let more : suc base ≤ number = grind (arith, nat_tests, is, low) in
        let now : get h base ≡ get g base = put base ∙ ap (λ b. if b then Some packet else get g base) is in
        let rest = later more in
        let one = ap (λ (o : Option Packet). (if is_some o then 1 else 0) + held_count h (suc base) size) now in
        omega (arith, rest, one)

-- the counts after one more slot, with the packet at the base if there is one
pub record SlotCounts (t u : Tally) (o : Option Packet) : Type 0 where
  pub restarts : u.restarts ≡ t.restarts
  pub arrived : u.arrived ≡ t.arrived
  pub taken : u.taken ≡ t.taken
  pub got : u.got ≡ t.got + (if is_some o then 1 else 0)
  pub given : u.got + u.lost ≡ t.got + t.lost + 1

pub with_body-counts : (t : Tally) (o : Option Packet) → SlotCounts t (with_body t (body_of o)) o
with_body-counts t None = record { restarts = refl; arrived = refl; taken = refl; got = omega arith; given = omega arith }
with_body-counts t (Some p) = record { restarts = refl; arrived = refl; taken = refl; got = refl; given = omega arith }

-- the counts with one more arrival
pub record FateCounts (t u : Tally) (fate : Fate) : Type 0 where
  pub arrived : u.arrived ≤ t.arrived + 1
  pub taken : u.taken ≡ t.taken + (if is_taken_fate fate then 1 else 0)
  pub got : u.got ≡ t.got
  pub lost : u.lost ≡ t.lost
  pub more : t.arrived ≤ u.arrived
  pub restarts : u.restarts ≡ t.restarts + (if is_restarted fate then 1 else 0)

pub with_fate-counts : (t : Tally) (path : ℕ) (fate : Fate) → FateCounts t (with_fate t path fate) fate
with_fate-counts t path Closed = record { arrived = omega arith; taken = omega arith; got = refl; lost = refl; more = omega arith; restarts = omega arith }
with_fate-counts t path CountersFull = record { arrived = omega arith; taken = omega arith; got = refl; lost = refl; more = omega arith; restarts = omega arith }
with_fate-counts t path WrongSource = record { arrived = omega arith; taken = omega arith; got = refl; lost = refl; more = omega arith; restarts = omega arith }
with_fate-counts t path OffGrid = record { arrived = omega arith; taken = omega arith; got = refl; lost = refl; more = omega arith; restarts = omega arith }
with_fate-counts t path Late = record { arrived = omega arith; taken = omega arith; got = refl; lost = refl; more = omega arith; restarts = omega arith }
with_fate-counts t path Ahead = record { arrived = omega arith; taken = omega arith; got = refl; lost = refl; more = omega arith; restarts = omega arith }
with_fate-counts t path Taken = record { arrived = omega arith; taken = refl; got = refl; lost = refl; more = omega arith; restarts = omega arith }
with_fate-counts t path Double = record { arrived = omega arith; taken = omega arith; got = refl; lost = refl; more = omega arith; restarts = omega arith }
with_fate-counts t path Unlike = record { arrived = omega arith; taken = omega arith; got = refl; lost = refl; more = omega arith; restarts = omega arith }
with_fate-counts t path Restarted = record { arrived = omega arith; taken = refl; got = refl; lost = refl; more = omega arith; restarts = refl }

-- a packet among these numbers counts
pub held_count-some : (h : FinMap nat_cmp Packet) (n base count : ℕ) → base ≤ n → n < base + count → IsSome (get h n) → 0 < held_count h base count
held_count-some h n base zero low high some = absurd (omega (arith, low, high))
held_count-some h n base (suc count) low high some = by_first (λ more. held_count-some h n (suc base) count more (omega (arith, high)) some) (nat_eq base n) refl
  where
    by_first : (suc base ≤ n → 0 < held_count h (suc base) count) → (b : Bool) → nat_eq base n ≡ b → 0 < held_count h base (suc count)
    by_first later true is =
        let same : n ≡ base = grind (arith, nat_tests, is) in
        let one : is_some (get h base) ≡ true = subst (λ k. IsSome (get h k)) same some in
        rw one (omega arith)
    by_first later false is = omega (arith, later (grind (arith, nat_tests, is, low)))
