-- A packet that is put: the invariant of the model, what is held, and the counts after it.
use Rattle.std.proofs.Common.{◌≡◌, ℕ, ◌+◌, ◌^◌, ◌<◌, ◌≤◌, Bool, true, false, ◌&&◌, Option, Some, None, Ok, Err, IsSome, ℤ, refl, sym, ap, subst, ◌∙◌, arith, if◌then◌else◌}
use Rattle.std.specs.Prelude.{nat_eq, bytes_eq, List}
use Rattle.std.specs.Ordering.{nat_cmp}
use Rattle.std.specs.FinMap.{FinMap, get}
use Rattle.std.proofs.lemmas.Bool.Decides.{nat_tests}
use Rattle.path_merge.proofs.PlaceLemmas.{has_no_place, has_place, taken_put}
use Rattle.path_merge.proofs.HeldCountLemmas.{FateCounts, held_count-from, held_count-put, with_fate-counts}
use Rattle.path_merge.proofs.SoundLemmas.{anchored_at, anchored_back}
use Rattle.rtp_stream.specs.Anchor.{next_number}
use Rattle.rtp_stream.specs.Counts.{is_restarted, is_taken_fate}
use Rattle.rtp_stream.specs.CountsFacts.{Tally, with_fate}
use Rattle.rtp_stream.specs.Fate.{fate_at, fate_of_put, place_of}
use Rattle.rtp_stream.specs.Grid.{of_width}
use Rattle.path_merge.specs.MergeState.{IsSound, MergeState, held_count}
use Rattle.path_merge.specs.Steps.{IsPutStep}
use Rattle.rtp_stream.specs.declared.probation.Probation.{Probation}
use Rattle.std.proofs.lemmas.Int.{ints}
use Rattle.rtp_stream.specs.StreamSpec.{Fits}
use Rattle.rtp_stream.specs.Put.{is_taken, put_answer}
use Rattle.rtp_stream.specs.declared.anchor.Anchor.{Anchor}
use Rattle.rtp_stream.specs.declared.fate.Fate.{Fate}
use Rattle.rtp_stream.specs.declared.packet.Packet.{Packet}
use Rattle.rtp_stream.specs.declared.fate.Put.{Put}
use Rattle.rtp_stream.specs.declared.fate.Put.TheVariants.{Double as PutDouble, Taken as PutTaken, Unlike as PutUnlike}

-- the steps that the code makes
pub put_step_fault : (m : MergeState) (width : ℕ) (a : Anchor) (path : ℕ) (packet : Packet) (fate : Fate) (counts' : Tally) → place_of (of_width m.spec width) a m.base packet ≡ Err fate → counts' ≡ with_fate m.counts path fate → IsPutStep m.spec width m (record m { counts = counts' }) a path packet fate
put_step_fault m width a path packet fate counts' is is_counts =
    let untaken = (has_no_place (of_width m.spec width) a m.base packet fate is).untaken in
    record {
      fate_is = rw is refl;
      held = λ n. rw untaken refl;
      changed = rw is_counts refl;
    }

pub put_step_put : (m : MergeState) (width : ℕ) (a : Anchor) (path : ℕ) (packet : Packet) (h : FinMap nat_cmp Packet) (base' size' number : ℕ) (counts' : Tally) (p : Put) (fate : Fate) → place_of (of_width m.spec width) a m.base packet ≡ Ok number → fate ≡ fate_of_put p → p ≡ put_answer (get m.held number) packet → ((n : ℕ) → get h n ≡ (if is_taken p && nat_eq n number then Some packet else get m.held n)) → base' ≡ m.base → size' ≡ m.size → counts' ≡ with_fate m.counts path fate → IsPutStep m.spec width m (record m { base = base'; size = size'; held = h; counts = counts' }) a path packet fate
put_step_put m width a path packet h base' size' number counts' p fate is is_fate answer held is_base is_size is_counts = record {
  fate_is = is_fate ∙ ap fate_of_put answer ∙ sym (ap (λ o. fate_at o (get m.held) packet) is);
  held = λ n. held n ∙ ap (λ b. if b && nat_eq n number then Some packet else get m.held n) (sym (ap is_taken_fate is_fate ∙ taken_put p)) ∙ ap (λ x. if is_taken_fate fate && nat_eq n x then Some packet else get m.held n) (has_place (of_width m.spec width) a m.base packet number is).is;
  changed = rw (is_base, is_size, is_counts) refl;
}

-- a number that wasn't held, by the answer of the put
was_free : (o : Option Packet) (packet : Packet) → is_taken (put_answer o packet) ≡ true → o ≡ None
was_free None packet e = refl
was_free (Some p) packet e = absurd (by_test (bytes_eq p.payload.items packet.payload.items) e)
  where
    by_test : (b : Bool) → is_taken (if b then PutDouble else PutUnlike) ≡ true → ⊥
    by_test true e = cc
    by_test false e = cc

-- the counts after a put
pub record PutCounts (m : MergeState) (h : FinMap nat_cmp Packet) (counts : Tally) : Type 0 where
  pub few_arrived : counts.arrived ≤ 2 ^ 62
  pub slots_given : counts.got + counts.lost ≡ m.counts.got + m.counts.lost
  pub restarts : counts.restarts ≡ m.counts.restarts
  pub more : m.counts.arrived ≤ counts.arrived
  pub taken_are : m.counts.taken ≡ m.counts.got + held_count m.held m.base m.spec.window → counts.taken ≡ counts.got + held_count h m.base m.spec.window

put_counts : (m : MergeState) (packet : Packet) (h : FinMap nat_cmp Packet) (number path : ℕ) (p : Put) → m.counts.arrived < 2 ^ 62 → m.base ≤ number → number < m.base + m.spec.window → p ≡ put_answer (get m.held number) packet → ((n : ℕ) → get h n ≡ (if is_taken p && nat_eq n number then Some packet else get m.held n)) → PutCounts m h (with_fate m.counts path (fate_of_put p))
put_counts m packet h number path p space low high answer held = by_put p refl
  where
    counts : FateCounts m.counts (with_fate m.counts path (fate_of_put p)) (fate_of_put p)
    counts = with_fate-counts m.counts path (fate_of_put p)

    taken_is : is_taken p ≡ true → held_count h m.base m.spec.window ≡ held_count m.held m.base m.spec.window + 1
    taken_is e = held_count-put m.held h packet number m.base m.spec.window low high (was_free (get m.held number) packet (ap is_taken (sym answer) ∙ e)) (λ n. held n ∙ ap (λ b. if b && nat_eq n number then Some packet else get m.held n) e)

    not_taken : is_taken p ≡ false → held_count h m.base m.spec.window ≡ held_count m.held m.base m.spec.window
    not_taken e = held_count-from h m.held m.base m.spec.window (λ n le. held n ∙ ap (λ b. if b && nat_eq n number then Some packet else get m.held n) e)

    by_put : (q : Put) → p ≡ q → PutCounts m h (with_fate m.counts path (fate_of_put p))
    by_put PutTaken is =
        let one = taken_is (ap is_taken is) in
        let more = ap {B = ℕ} (λ q. if is_taken_fate (fate_of_put q) then 1 else 0) is in
        record { few_arrived = omega (arith, counts.arrived, space); slots_given = omega (arith, counts.got, counts.lost); restarts = omega (arith, counts.restarts, ap {B = ℕ} (λ q. if is_restarted (fate_of_put q) then 1 else 0) is); more = counts.more; taken_are = λ are. omega (arith, counts.taken, counts.got, one, more, are) }
    by_put PutDouble is =
        let same = not_taken (ap is_taken is) in
        let none = ap {B = ℕ} (λ q. if is_taken_fate (fate_of_put q) then 1 else 0) is in
        record { few_arrived = omega (arith, counts.arrived, space); slots_given = omega (arith, counts.got, counts.lost); restarts = omega (arith, counts.restarts, ap {B = ℕ} (λ q. if is_restarted (fate_of_put q) then 1 else 0) is); more = counts.more; taken_are = λ are. omega (arith, counts.taken, counts.got, same, none, are) }
    by_put PutUnlike is =
        let same = not_taken (ap is_taken is) in
        let none = ap {B = ℕ} (λ q. if is_taken_fate (fate_of_put q) then 1 else 0) is in
        record { few_arrived = omega (arith, counts.arrived, space); slots_given = omega (arith, counts.got, counts.lost); restarts = omega (arith, counts.restarts, ap {B = ℕ} (λ q. if is_restarted (fate_of_put q) then 1 else 0) is); more = counts.more; taken_are = λ are. omega (arith, counts.taken, counts.got, same, none, are) }

pub sound_put : (m : MergeState) (media : ℤ) (a : Anchor) (path : ℕ) (packet : Packet) (h : FinMap nat_cmp Packet) (base' size' number : ℕ) (counts' : Tally) (p : Put) (probations' : List Probation) → IsSound m media → m.anchor ≡ Some a → m.closed ≡ false → m.counts.arrived < 2 ^ 62 → Fits m.spec packet → m.base ≤ number → number < m.base + m.spec.window → p ≡ put_answer (get m.held number) packet → ((n : ℕ) → get h n ≡ (if is_taken p && nat_eq n number then Some packet else get m.held n)) → base' ≡ m.base → size' ≡ m.size → counts' ≡ with_fate m.counts path (fate_of_put p) → IsSound (record m { probations = probations'; base = base'; size = size'; held = h; counts = counts' }) media
sound_put m media a path packet h base' size' number counts' p probations' s is_a open_yet space fits low high answer held is_base is_size is_counts = rw (is_base, is_size, is_counts) (record {
  spec_ok = s.spec_ok;
  time_low = s.time_low;
  time_high = s.time_high;
  size_is = s.size_is;
  few_arrived = counts.few_arrived;
  anchored = anchored_back _ _ m.anchor a is_a (let an = anchored_at m media m.anchor a is_a s.anchored in record {
    epoch_is = omega (arith, counts.restarts, an.epoch_is);
    few_epochs = omega (arith, counts.more, an.few_epochs);
    bounds = an.bounds;
    media_is = an.media_is;
    next_open = an.next_open;
    next_low = an.next_low;
    next_high = an.next_high;
    held_low = λ n some_n. by_put n m.base (is_taken p) (held n) some_n low (an.held_low n);
    held_high = λ n some_n. by_put_high n (is_taken p) (held n) some_n (an.next_open open_yet) (an.held_high n);
    held_fits = λ n q is. by_packet n q (is_taken p && nat_eq n number) (held n) is (an.held_fits n q);
    slots_given = omega (arith, ints, counts.slots_given, an.slots_given);
    taken_are = counts.taken_are an.taken_are;
  });
})
  where
    counts : PutCounts m h (with_fate m.counts path (fate_of_put p))
    counts = put_counts m packet h number path p space low high answer held

    by_packet : (n : ℕ) (q : Packet) (b : Bool) → get h n ≡ (if b then Some packet else get m.held n) → get h n ≡ Some q → (get m.held n ≡ Some q → Fits m.spec q) → Fits m.spec q
    by_packet n q true e is other = let same : packet ≡ q = some_inj (sym e ∙ is) in subst (λ x. Fits m.spec x) same fits
      where
        some_inj : {x y : Packet} → Some x ≡ Some y → x ≡ y
        some_inj e = cc
    by_packet n q false e is other = other (sym e ∙ is)

    by_put : (n low_n : ℕ) (b : Bool) → get h n ≡ (if b && nat_eq n number then Some packet else get m.held n) → IsSome (get h n) → low_n ≤ number → (IsSome (get m.held n) → low_n ≤ n) → low_n ≤ n
    by_put n low_n false e some_n le other = other (subst IsSome e some_n)
    by_put n low_n true e some_n le other = by_eq (nat_eq n number) refl e
      where
        by_eq : (c : Bool) → nat_eq n number ≡ c → get h n ≡ (if c then Some packet else get m.held n) → low_n ≤ n
        by_eq true is e = grind (arith, nat_tests, is, le)
        by_eq false is e = other (subst IsSome e some_n)

    by_put_high : (n : ℕ) (b : Bool) → get h n ≡ (if b && nat_eq n number then Some packet else get m.held n) → IsSome (get h n) → m.base ≡ next_number m.spec a m.time → (IsSome (get m.held n) → n < next_number m.spec a m.time + m.spec.window) → n < next_number m.spec a m.time + m.spec.window
    by_put_high n false e some_n next other = other (subst IsSome e some_n)
    by_put_high n true e some_n next other = by_eq (nat_eq n number) refl e
      where
        by_eq : (c : Bool) → nat_eq n number ≡ c → get h n ≡ (if c then Some packet else get m.held n) → n < next_number m.spec a m.time + m.spec.window
        by_eq true is e = let same : n ≡ number = grind (arith, nat_tests, is) in omega (arith, same, high, next)
        by_eq false is e = other (subst IsSome e some_n)
