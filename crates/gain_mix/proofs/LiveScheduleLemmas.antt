-- A schedule in use: changes that are taken, and changes that are passed.
use Rattle.std.proofs.Common.{◌≡◌, ℕ, zero, suc, ◌+◌, ◌-◌, ◌<◌, ◌≤◌, ◌≤ℤ◌, ◌<ℤ◌, Bool, true, false, cond, ◌&&◌, ℤ, List, [], ◌∷◌, ◌++◌, length, take, drop, get_or, set, slice_get, Some, None, All, ◌*◌, refl, sym, ap, subst, ◌∙◌, arith}
use Rattle.std.specs.Int.RustNames.{int_le, int_lt}
use Rattle.std.proofs.lemmas.Bool.{false≢true}
use Rattle.std.proofs.lemmas.Int.{ints}
use Rattle.std.proofs.lemmas.List.{length_push, length-set, at_drop_more, length-take-le, take-append-le, take-take, take_all, take_more_set}
use Rattle.std.proofs.lemmas.Option.{get_or_from_slice_get}
use Rattle.std.proofs.lemmas.List.Elements.{All-nil, All-cons, All-head, All-tail, All-push, All-set, All-take, All-weaker}
use Rattle.gain_mix.specs.Gain.{ins_of, rows_of}
use Rattle.gain_mix.proofs.RowLemmas.{length-rows_of, ins_of-rows_of}
use Rattle.gain_mix.specs.Changes.{Changes, before, last_change, matrix_at, rest_at, rest_of, with_change}
use Rattle.gain_mix.specs.LiveSchedule.{AreSlots, HasFree, Rises, is_due}
use Rattle.gain_mix.specs.Schedule.{IsChanges, has_few, has_one_shape, has_times, is_rising, rises_from, schedule_fault_of}
use Rattle.gain_mix.specs.declared.schedule.ScheduleFault.TheVariants.{TooMany, Shape, Time, Order}
use Rattle.gain_mix.proofs.ChangeLemmas.{shared-last_change}

-- the last change of a list is in force from its time on
pub last_change_push : (rows : List (List ℤ)) (later : List (ℤ × List (List ℤ))) (at : ℤ) (more : List (List ℤ)) (t : ℤ)
    → last_change rows (later ++ (at, more) ∷ []) t ≡ cond (int_le at t) more (last_change rows later t)
last_change_push rows [] at more t = refl
last_change_push rows (change ∷ later) at more t = last_change_push (cond (int_le change.0 t) change.1 rows) later at more t

-- before a time, only the changes before it count
before_step : (rows : List (List ℤ)) (c : ℤ × List (List ℤ)) (kept later : List (ℤ × List (List ℤ))) (at t : ℤ) → t <ℤ at
    → ((r : List (List ℤ)) → last_change r kept t ≡ last_change r later t)
    → (b : Bool) → int_lt c.0 at ≡ b → last_change rows (cond b (c ∷ kept) kept) t ≡ last_change rows (c ∷ later) t
before_step rows c kept later at t h same true e = same (cond (int_le c.0 t) c.1 rows)
before_step rows c kept later at t h same false e =
    let late : int_le c.0 t ≡ false = grind (arith, ints, h, e) in
    same rows ∙ ap (λ (b : Bool). last_change (cond b c.1 rows) later t) (sym late)

pub last_change_before : (later : List (ℤ × List (List ℤ))) (at t : ℤ) → t <ℤ at → (rows : List (List ℤ)) → last_change rows (before at later) t ≡ last_change rows later t
last_change_before [] at t h rows = refl
last_change_before (c ∷ later) at t h rows = before_step rows c (before at later) later at t h (last_change_before later at t h) (int_lt c.0 at) refl

-- a change of gains does not change the matrix at times before it
pub unchanged_before : (changes : Changes) (at : ℤ) (more : List (List ℤ)) (t : ℤ) → t <ℤ at → matrix_at (with_change changes at more) t ≡ matrix_at changes t
unchanged_before changes at more t h =
    let late : int_le at t ≡ false = grind (arith, ints, h) in
    last_change_push changes.first (before at changes.later) at more t
    ∙ ap (λ (b : Bool). cond b more (last_change changes.first (before at changes.later) t)) late
    ∙ last_change_before changes.later at t h changes.first

-- a change's matrix is in force from its time on
pub changed_from : (changes : Changes) (at : ℤ) (more : List (List ℤ)) (t : ℤ) → at ≤ℤ t → matrix_at (with_change changes at more) t ≡ more
changed_from changes at more t h =
    let there : int_le at t ≡ true = grind (arith, ints, h) in
    last_change_push changes.first (before at changes.later) at more t
    ∙ ap (λ (b : Bool). cond b more (last_change changes.first (before at changes.later) t)) there

-- the rest of a schedule: one step
rest_due : (rows : List (List ℤ)) (c : ℤ × List (List ℤ)) (later : List (ℤ × List (List ℤ))) (t : ℤ) → c.0 ≤ℤ t → rest_of rows (c ∷ later) t ≡ rest_of c.1 later t
rest_due rows c later t h =
    let there : int_le c.0 t ≡ true = grind (arith, ints, h) in
    ap (λ (b : Bool). cond b (rest_of c.1 later t) (record { first = rows; later = c ∷ later })) there

-- from its time on, the rest of a schedule has the same matrices in force as the whole schedule
matrix_step : (rows : List (List ℤ)) (c : ℤ × List (List ℤ)) (later : List (ℤ × List (List ℤ))) (t u : ℤ) → t ≤ℤ u
    → matrix_at (rest_of c.1 later t) u ≡ last_change c.1 later u
    → (b : Bool) → int_le c.0 t ≡ b
    → matrix_at (cond b (rest_of c.1 later t) (record { first = rows; later = c ∷ later })) u ≡ last_change rows (c ∷ later) u
matrix_step rows c later t u h same false e = refl
matrix_step rows c later t u h same true e =
    let there : int_le c.0 u ≡ true = grind (arith, ints, h, e) in
    same ∙ ap (λ (b : Bool). last_change (cond b c.1 rows) later u) (sym there)

pub matrix_at_rest : (later : List (ℤ × List (List ℤ))) (t u : ℤ) → t ≤ℤ u → (rows : List (List ℤ)) → matrix_at (rest_of rows later t) u ≡ last_change rows later u
matrix_at_rest [] t u h rows = refl
matrix_at_rest (c ∷ later) t u h rows = matrix_step rows c later t u h (matrix_at_rest later t u h c.1) (int_le c.0 t) refl

-- the rest of a rest, at a later time, is the rest of the whole schedule
rest_step : (rows : List (List ℤ)) (c : ℤ × List (List ℤ)) (later : List (ℤ × List (List ℤ))) (t u : ℤ) → t ≤ℤ u
    → rest_at (rest_of c.1 later t) u ≡ rest_of c.1 later u
    → (b : Bool) → int_le c.0 t ≡ b
    → rest_at (cond b (rest_of c.1 later t) (record { first = rows; later = c ∷ later })) u ≡ rest_of rows (c ∷ later) u
rest_step rows c later t u h same false e = refl
rest_step rows c later t u h same true e =
    let there : c.0 ≤ℤ u = grind (arith, ints, h, e) in
    same ∙ sym (rest_due rows c later u there)

pub rest_rest : (later : List (ℤ × List (List ℤ))) (t u : ℤ) → t ≤ℤ u → (rows : List (List ℤ)) → rest_at (rest_of rows later t) u ≡ rest_of rows later u
rest_rest [] t u h rows = refl
rest_rest (c ∷ later) t u h rows = rest_step rows c later t u h (rest_rest later t u h c.1) (int_le c.0 t) refl

-- a change for the current time leaves no change to come
now_step : (rows : List (List ℤ)) (c : ℤ × List (List ℤ)) (kept : List (ℤ × List (List ℤ))) (at t : ℤ) (more : List (List ℤ)) → at ≤ℤ t
    → ((r : List (List ℤ)) → rest_of r (kept ++ (at, more) ∷ []) t ≡ record { first = more; later = [] })
    → (b : Bool) → int_lt c.0 at ≡ b → rest_of rows (cond b (c ∷ kept) kept ++ (at, more) ∷ []) t ≡ record { first = more; later = [] }
now_step rows c kept at t more h same false e = same rows
now_step rows c kept at t more h same true e =
    let there : c.0 ≤ℤ t = grind (arith, ints, h, e) in
    rest_due rows c (kept ++ (at, more) ∷ []) t there ∙ same c.1

rest_now : (later : List (ℤ × List (List ℤ))) (at t : ℤ) (more : List (List ℤ)) → at ≤ℤ t → (rows : List (List ℤ))
    → rest_of rows (before at later ++ (at, more) ∷ []) t ≡ record { first = more; later = [] }
rest_now [] at t more h rows = rest_due rows (at, more) [] t h
rest_now (c ∷ later) at t more h rows = now_step rows c (before at later) at t more h (rest_now later at t more h) (int_lt c.0 at) refl

-- the rest of a schedule with one more change is the rest of its own rest with this change
later_step : (rows : List (List ℤ)) (c : ℤ × List (List ℤ)) (later : List (ℤ × List (List ℤ))) (t at : ℤ) (more : List (List ℤ)) → t <ℤ at
    → rest_at (with_change (rest_of c.1 later t) at more) t ≡ rest_of c.1 (before at later ++ (at, more) ∷ []) t
    → (b : Bool) → int_le c.0 t ≡ b
    → rest_at (with_change (cond b (rest_of c.1 later t) (record { first = rows; later = c ∷ later })) at more) t
    ≡ rest_of rows (before at (c ∷ later) ++ (at, more) ∷ []) t
later_step rows c later t at more h same false e = refl
later_step rows c later t at more h same true e =
    let due : c.0 ≤ℤ t = grind (arith, ints, e) in
    let kept : int_lt c.0 at ≡ true = grind (arith, ints, due, h) in
    same
    ∙ sym (rest_due rows c (before at later ++ (at, more) ∷ []) t due)
    ∙ ap (λ (b : Bool). rest_of rows (cond b (c ∷ before at later) (before at later) ++ (at, more) ∷ []) t) (sym kept)

rest_later : (later : List (ℤ × List (List ℤ))) (t at : ℤ) (more : List (List ℤ)) → t <ℤ at → (rows : List (List ℤ))
    → rest_at (with_change (rest_of rows later t) at more) t ≡ rest_of rows (before at later ++ (at, more) ∷ []) t
rest_later [] t at more h rows = refl
rest_later (c ∷ later) t at more h rows = later_step rows c later t at more h (rest_later later t at more h c.1) (int_le c.0 t) refl

pub rest_with_change : (changes : Changes) (t at : ℤ) (more : List (List ℤ)) → t ≤ℤ at
    → rest_at (with_change (rest_at changes t) at more) t ≡ rest_at (with_change changes at more) t
rest_with_change changes t at more h = by (int_le at t) refl
  where
    by : (b : Bool) → int_le at t ≡ b → rest_at (with_change (rest_at changes t) at more) t ≡ rest_at (with_change changes at more) t
    by true e =
        let now : at ≤ℤ t = grind (arith, ints, e) in
        rest_now (rest_at changes t).later at t more now (rest_at changes t).first ∙ sym (rest_now changes.later at t more now changes.first)
    by false e = rest_later changes.later t at more (grind (arith, ints, e)) changes.first

-- the times of a schedule's changes rise
fault_free : (a b c d : Bool) → cond a (cond b (cond c (cond d None (Some Order)) (Some Time)) (Some Shape)) (Some TooMany) ≡ None → (a ≡ true) × (d ≡ true)
fault_free true true true true e = (refl, refl)
fault_free true true true false e = absurd (let f : Some Order ≡ None = e in cc)
fault_free true true false d e = absurd (let f : Some Time ≡ None = e in cc)
fault_free true false c d e = absurd (let f : Some Shape ≡ None = e in cc)
fault_free false b c d e = absurd (let f : Some TooMany ≡ None = e in cc)

both_left : (a b : Bool) → a && b ≡ true → a ≡ true
both_left true b h = refl
both_left false b h = absurd (false≢true h)

both_right : (a b : Bool) → a && b ≡ true → b ≡ true
both_right true b h = h
both_right false b h = absurd (false≢true h)

abbrev comes_after : ℤ → ℤ × List (List ℤ) → Type 0
comes_after t c = t <ℤ c.0

rises_all : (t : ℤ) (later : List (ℤ × List (List ℤ))) → rises_from t later ≡ true → All (comes_after t) later × Rises later
rises_all t [] e = (All-nil (comes_after t), tt)
rises_all t (c ∷ later) e =
    let rest = rises_all c.0 later (both_right (int_lt t c.0) (rises_from c.0 later) e) in
    let first = both_left (int_lt t c.0) (rises_from c.0 later) e in
    let below : t <ℤ c.0 = grind (arith, ints, first) in
    (All-cons (comes_after t) c later below (All-weaker (comes_after c.0) (comes_after t) (λ d h. omega (arith, ints, below, h)) later rest.0), rest)

rises_if : (later : List (ℤ × List (List ℤ))) → is_rising later ≡ true → Rises later
rises_if [] e = tt
rises_if (c ∷ later) e = rises_all c.0 later e

pub schedule_rises : (first : List (List ℤ)) (later : List (ℤ × List (List ℤ))) → schedule_fault_of first later ≡ None → Rises later
schedule_rises first later none = rises_if later (fault_free (has_few later) (has_one_shape first later) (has_times later) (is_rising later) none).1

-- the changes before a time: their times rise too, and they are the first of all changes
before_holds_step : (P : ℤ × List (List ℤ) → Type 0) (c : ℤ × List (List ℤ)) (kept : List (ℤ × List (List ℤ))) → All P kept → (b : Bool) → (b ≡ true → P c) → All P (cond b (c ∷ kept) kept)
before_holds_step P c kept all true p = All-cons P c kept (p refl) all
before_holds_step P c kept all false p = all

before_holds : (P : ℤ × List (List ℤ) → Type 0) (at : ℤ) (later : List (ℤ × List (List ℤ))) → All P later → All P (before at later)
before_holds P at [] all = all
before_holds P at (c ∷ later) all = before_holds_step P c (before at later) (before_holds P at later (All-tail P c later all)) (int_lt c.0 at) (λ e. All-head P c later all)

abbrev comes_before : ℤ → ℤ × List (List ℤ) → Type 0
comes_before t c = c.0 <ℤ t

before_is_before : (at : ℤ) (later : List (ℤ × List (List ℤ))) → All (comes_before at) (before at later)
before_is_before at [] = All-nil (comes_before at)
before_is_before at (c ∷ later) = before_holds_step (comes_before at) c (before at later) (before_is_before at later) (int_lt c.0 at) (λ e. grind (arith, ints, e))

before_rises_step : (c : ℤ × List (List ℤ)) (kept : List (ℤ × List (List ℤ))) → All (comes_after c.0) kept → Rises kept → (b : Bool) → Rises (cond b (c ∷ kept) kept)
before_rises_step c kept all rises true = (all, rises)
before_rises_step c kept all rises false = rises

before_rises : (at : ℤ) (later : List (ℤ × List (List ℤ))) → Rises later → Rises (before at later)
before_rises at [] rises = tt
before_rises at (c ∷ later) rises = before_rises_step c (before at later) (before_holds (comes_after c.0) at later rises.0) (before_rises at later rises.1) (int_lt c.0 at)

-- the times rise after one more change that is later than all
rises_push : (later : List (ℤ × List (List ℤ))) (x : ℤ × List (List ℤ)) → Rises later → All (comes_before x.0) later → Rises (later ++ x ∷ [])
rises_push [] x rises all = (All-nil (comes_after x.0), tt)
rises_push (c ∷ later) x rises all = (
  All-push (comes_after c.0) later x rises.0 (All-head (comes_before x.0) c later all),
  rises_push later x rises.1 (All-tail (comes_before x.0) c later all),
)

-- if all changes are later than a time, none is before it
none_before_step : (c : ℤ × List (List ℤ)) (kept : List (ℤ × List (List ℤ))) → kept ≡ [] → (b : Bool) → b ≡ false → cond b (c ∷ kept) kept ≡ []
none_before_step c kept e true f = absurd (false≢true (sym f))
none_before_step c kept e false f = e

none_before : (at t : ℤ) (later : List (ℤ × List (List ℤ))) → at ≤ℤ t → All (comes_after t) later → before at later ≡ []
none_before at t [] h all = refl
none_before at t (c ∷ later) h all =
    let after : t <ℤ c.0 = All-head (comes_after t) c later all in
    none_before_step c (before at later) (none_before at t later h (All-tail (comes_after t) c later all)) (int_lt c.0 at) (grind (arith, ints, h, after))

begin_step : (c : ℤ × List (List ℤ)) (kept later : List (ℤ × List (List ℤ))) → take (length kept) later ≡ kept → (b : Bool) → (b ≡ false → kept ≡ [])
    → take (length (cond b (c ∷ kept) kept)) (c ∷ later) ≡ cond b (c ∷ kept) kept
begin_step c kept later same true none = ap (λ (l : List (ℤ × List (List ℤ))). c ∷ l) same
begin_step c kept later same false none = subst (λ (k : List (ℤ × List (List ℤ))). take (length k) (c ∷ later) ≡ k) (sym (none refl)) refl

pub before_begins : (at : ℤ) (later : List (ℤ × List (List ℤ))) → Rises later → take (length (before at later)) later ≡ before at later
before_begins at [] rises = refl
before_begins at (c ∷ later) rises =
    begin_step c (before at later) later (before_begins at later rises.1) (int_lt c.0 at)
    (λ e. let late : at ≤ℤ c.0 = grind (arith, ints, e) in none_before at c.0 later late rises.0)

few_step : (c : ℤ × List (List ℤ)) (kept : List (ℤ × List (List ℤ))) (n : ℕ) → length kept ≤ n → (b : Bool) → length (cond b (c ∷ kept) kept) ≤ n + 1
few_step c kept n h true = omega (arith, h)
few_step c kept n h false = omega (arith, h)

pub before_few : (at : ℤ) (later : List (ℤ × List (List ℤ))) → length (before at later) ≤ length later
before_few at [] = omega arith
before_few at (c ∷ later) =
    let step = few_step c (before at later) (length later) (before_few at later) (int_lt c.0 at) in
    omega (arith, step)

-- counting the changes before a time one by one
count_step : (c : ℤ × List (List ℤ)) (kept : List (ℤ × List (List ℤ))) (b : Bool) → length (cond b (c ∷ kept) kept) ≡ cond b 1 0 + length kept
count_step c kept true = omega arith
count_step c kept false = omega arith

before_count : (at : ℤ) (c : ℤ × List (List ℤ)) (later : List (ℤ × List (List ℤ))) → length (before at (c ∷ later)) ≡ cond (int_lt c.0 at) 1 0 + length (before at later)
before_count at c later = count_step c (before at later) (int_lt c.0 at)

-- the count so far, after one more change
module _ (at : ℤ) (items : List (ℤ × List (List ℤ))) (i kept : ℕ) (change : ℤ × List (List ℤ)) (h : i < length items) (is : change ≡ get_or items i change)
    (so_far : kept + length (before at (drop i items)) ≡ length (before at items)) where
  next_count : length (before at (drop i items)) ≡ cond (int_lt change.0 at) 1 0 + length (before at (drop (i + 1) items))
  next_count =
      at_drop_more (λ l. length (before at l)) items i change h
      ∙ ap (λ (c : ℤ × List (List ℤ)). length (before at (c ∷ drop (i + 1) items))) (sym is)
      ∙ before_count at change (drop (i + 1) items)

  pub counted : change.0 <ℤ at → (kept + 1) + length (before at (drop (i + 1) items)) ≡ length (before at items)
  counted early =
      let yes : int_lt change.0 at ≡ true = grind (arith, ints, early) in
      let next = next_count ∙ ap (λ (b : Bool). cond b 1 0 + length (before at (drop (i + 1) items))) yes in
      omega (arith, next, so_far)

  pub not_counted : at ≤ℤ change.0 → kept + length (before at (drop (i + 1) items)) ≡ length (before at items)
  not_counted late =
      let no : int_lt change.0 at ≡ false = grind (arith, ints, late) in
      let next = next_count ∙ ap (λ (b : Bool). cond b 1 0 + length (before at (drop (i + 1) items))) no in
      omega (arith, next, so_far)

  pub few_counted : change.0 <ℤ at → kept < length items
  few_counted early =
      let sum = counted early in
      let few = before_few at items in
      omega (arith, sum, few)

-- a schedule in use that passed some of the changes up to a time
pub record HasPassed (t : ℤ) (old : Changes) (first : List (List ℤ)) (slots : List (ℤ × List (List ℤ))) (used : ℕ) : Type 0 where
  pub sound : AreSlots first slots used
  pub all : length slots ≡ 64
  pub same : rest_of first (take used slots) t ≡ rest_at old t
  pub outs : length first ≡ length old.first
  pub ins : ins_of first ≡ ins_of old.first

abbrev outs_like : List (List ℤ) → ℤ × List (List ℤ) → Type 0
outs_like first slot = length slot.1 ≡ length first

abbrev ins_like : List (List ℤ) → ℤ × List (List ℤ) → Type 0
ins_like first slot = ins_of slot.1 ≡ ins_of first

pass_step : (t : ℤ) (old : Changes) (first : List (List ℤ)) (c : ℤ × List (List ℤ)) (rest : List (ℤ × List (List ℤ))) (n : ℕ)
    → HasPassed t old first (c ∷ rest) (suc n) → c.0 ≤ℤ t → HasPassed t old c.1 (rest ++ (c.0, first) ∷ []) (suc n - 1)
pass_step t old first c rest n passed h =
    let P = outs_like first in
    let Q = ins_like first in
    let outs : length c.1 ≡ length first = All-head P c rest passed.sound.outs in
    let ins : ins_of c.1 ≡ ins_of first = All-head Q c rest passed.sound.ins in
    let few = passed.sound.few in
    let all = passed.all in
    let long = length_push rest (c.0, first) in
    let less : suc n - 1 ≡ n = omega arith in
    let kept : take (suc n - 1) (rest ++ (c.0, first) ∷ []) ≡ take n rest = ap (λ k. take k (rest ++ (c.0, first) ∷ [])) less ∙ take-append-le n rest ((c.0, first) ∷ []) (omega (arith, few)) in
    record {
      sound = record {
        outs = All-push (outs_like c.1) rest (c.0, first) (λ k d g. All-tail P c rest passed.sound.outs k d g ∙ sym outs) (sym outs);
        ins = All-push (ins_like c.1) rest (c.0, first) (λ k d g. All-tail Q c rest passed.sound.ins k d g ∙ sym ins) (sym ins);
        few = omega (arith, few, long);
        rises = subst Rises (sym kept) passed.sound.rises.1;
      };
      all = omega (arith, all, long);
      same = ap (λ later. rest_of c.1 later t) kept ∙ sym (rest_due first c (take n rest) t h) ∙ passed.same;
      outs = outs ∙ passed.outs;
      ins = ins ∙ passed.ins;
    }

-- one more change is passed
pub HasPassed-more : (t : ℤ) (old : Changes) (first : List (List ℤ)) (slots : List (ℤ × List (List ℤ))) (used : ℕ) (slot : ℤ × List (List ℤ))
    → HasPassed t old first slots used → is_due (take used slots) t ≡ true → slice_get slots 0 ≡ Some slot
    → HasPassed t old slot.1 (drop 1 slots ++ (slot.0, first) ∷ []) (used - 1)
HasPassed-more t old first slots zero slot passed due at = absurd (false≢true due)
HasPassed-more t old first [] (suc n) slot passed due at = absurd (false≢true due)
HasPassed-more t old first (c ∷ rest) (suc n) slot passed due at =
    let is : c ≡ slot = get_or_from_slice_get (c ∷ rest) 0 slot slot at in
    let early : c.0 ≤ℤ t = grind (arith, ints, due) in
    subst (λ (s : ℤ × List (List ℤ)). HasPassed t old s.1 (rest ++ (s.0, first) ∷ []) (suc n - 1)) is (pass_step t old first c rest n passed early)

-- the first place
pub first_slot : (slots : List (ℤ × List (List ℤ))) → 0 < length slots → (slot : ℤ × List (List ℤ)) × (slice_get slots 0 ≡ Some slot)
first_slot [] some = absurd (omega (arith, some))
first_slot (slot ∷ slots) some = (slot, refl)

-- a change is due only if there is one
pub due_some : (slots : List (ℤ × List (List ℤ))) (used : ℕ) (t : ℤ) → is_due (take used slots) t ≡ true → 0 < used
due_some slots zero t due = absurd (false≢true due)
due_some slots (suc n) t due = omega arith

-- no change is due any more
not_due : (rows : List (List ℤ)) (later : List (ℤ × List (List ℤ))) (t : ℤ) → is_due later t ≡ false → rest_of rows later t ≡ record { first = rows; later = later }
not_due rows [] t none = refl
not_due rows (c ∷ later) t none = ap (λ (b : Bool). cond b (rest_of c.1 later t) (record { first = rows; later = c ∷ later })) none

pub all_passed : (t : ℤ) (old : Changes) (first : List (List ℤ)) (slots : List (ℤ × List (List ℤ))) (used : ℕ)
    → HasPassed t old first slots used → is_due (take used slots) t ≡ false → record { first = first; later = take used slots } ≡ rest_at old t
all_passed t old first slots used passed none = sym (not_due first (take used slots) t none) ∙ passed.same

pub passed_none : (t : ℤ) (old : Changes) (first : List (List ℤ)) (slots : List (ℤ × List (List ℤ))) (used : ℕ)
    → AreSlots first slots used → length slots ≡ 64 → record { first = first; later = take used slots } ≡ old → HasPassed t old first slots used
passed_none t old first slots used sound all is = record {
  sound = sound;
  all = all;
  same = ap (λ (s : Changes). rest_at s t) is;
  outs = ap (λ (s : Changes). length s.first) is;
  ins = ap (λ (s : Changes). ins_of s.first) is;
}

pub ins_of-like : (first : List (List ℤ)) (gs : List ℤ) → length gs ≡ length first * ins_of first → ins_of (rows_of (ins_of first) (length first) gs) ≡ ins_of first
ins_of-like [] gs e = refl
ins_of-like (row ∷ rows) gs e = ins_of-rows_of (length row) (length (row ∷ rows)) gs (omega arith) e

-- one more change is written after those before its time
module _ (first : List (List ℤ)) (slots : List (ℤ × List (List ℤ))) (used kept : ℕ) (at : ℤ) (gs : List ℤ)
    (sound : AreSlots first slots used) (is : kept ≡ length (before at (take used slots))) (h : kept < length slots) (e : length gs ≡ length first * ins_of first) where
  put_taken : take (kept + 1) (set slots kept (at, rows_of (ins_of first) (length first) gs)) ≡ before at (take used slots) ++ (at, rows_of (ins_of first) (length first) gs) ∷ []
  put_taken =
      let few = sound.few in
      let less = before_few at (take used slots) in
      let long : length (take used slots) ≡ used = length-take-le used slots few in
      let inner : take kept (take used slots) ≡ take kept slots = take-take kept used slots (omega (arith, is, less, long)) in
      take_more_set slots kept (at, rows_of (ins_of first) (length first) gs) h
      ∙ ap (λ l. l ++ (at, rows_of (ins_of first) (length first) gs) ∷ []) (sym inner ∙ ap (λ k. take k (take used slots)) is ∙ before_begins at (take used slots) sound.rises)

  pub put_sound : AreSlots first (set slots kept (at, rows_of (ins_of first) (length first) gs)) (kept + 1)
  put_sound =
      let x : ℤ × List (List ℤ) = (at, rows_of (ins_of first) (length first) gs) in
      let long = length-set slots kept x in
      record {
        outs = All-set (outs_like first) slots kept x (length-rows_of (ins_of first) (length first) gs) sound.outs;
        ins = All-set (ins_like first) slots kept x (ins_of-like first gs e) sound.ins;
        few = omega (arith, h, long);
        rises = subst Rises (sym put_taken) (rises_push (before at (take used slots)) x (before_rises at (take used slots) sound.rises) (before_is_before at (take used slots)));
      }

  pub put_changes : record { first = first; later = take (kept + 1) (set slots kept (at, rows_of (ins_of first) (length first) gs)) }
      ≡ with_change (record { first = first; later = take used slots }) at (rows_of (ins_of first) (length first) gs)
  put_changes = ap (λ (later : List (ℤ × List (List ℤ))). record { first = first; later = later }) put_taken

-- one more free place
pub HasFree-more : (first : List (List ℤ)) (later slots : List (ℤ × List (List ℤ))) (space : ℕ) (t : ℤ) (rows : List (List ℤ)) → HasFree first later slots space → rows ≡ first
    → HasFree first later (slots ++ (t, rows) ∷ []) (space + 1)
HasFree-more first later slots space t rows free e =
    let few = free.sound.few in
    let long = free.long in
    let pushed = length_push slots (t, rows) in
    let begin = take-append-le (length later) slots ((t, rows) ∷ []) few in
    record {
      sound = record {
        outs = All-push (outs_like first) slots (t, rows) free.sound.outs (ap length e);
        ins = All-push (ins_like first) slots (t, rows) free.sound.ins (ap ins_of e);
        few = omega (arith, few, pushed);
        rises = subst Rises (sym begin) free.sound.rises;
      };
      begin = begin ∙ free.begin;
      long = omega (arith, long, pushed);
    }

pub HasFree-none : (first : List (List ℤ)) (later slots : List (ℤ × List (List ℤ))) → IsChanges first later → slots ≡ later → HasFree first later slots 0
HasFree-none first later slots sound e =
    let begin : take (length later) slots ≡ later = ap (take (length later)) e ∙ take_all (length later) later (omega arith) in
    record {
      sound = record {
        outs = subst (All (outs_like first)) (sym e) sound.outs;
        ins = subst (All (ins_like first)) (sym e) sound.ins;
        few = let l = ap length e in omega (arith, l);
        rises = subst Rises (sym begin) (schedule_rises first later sound.no_fault);
      };
      begin = begin;
      long = let l = ap length e in omega (arith, l);
    }

-- the shape of the matrix in force
module _ (first : List (List ℤ)) (slots : List (ℤ × List (List ℤ))) (used : ℕ) (seen : Changes) (sound : AreSlots first slots used)
    (is : record { first = first; later = take used slots } ≡ seen) (t : ℤ) where
  pub outs_in_force : length (matrix_at seen t) ≡ length seen.first
  outs_in_force =
      ap (λ (s : Changes). length (matrix_at s t)) (sym is)
      ∙ shared-last_change length (length first) first (take used slots) t refl (All-take (outs_like first) used slots sound.outs)
      ∙ ap (λ (s : Changes). length s.first) is

  pub ins_in_force : ins_of (matrix_at seen t) ≡ ins_of seen.first
  ins_in_force =
      ap (λ (s : Changes). ins_of (matrix_at s t)) (sym is)
      ∙ shared-last_change ins_of (ins_of first) first (take used slots) t refl (All-take (ins_like first) used slots sound.ins)
      ∙ ap (λ (s : Changes). ins_of s.first) is
