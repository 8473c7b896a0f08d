-- Lost slots that are passed at once are passed one by one.
use Rattle.std.proofs.Common.{◌≡◌, ℕ, zero, suc, ◌+◌, ◌-◌, ◌*◌, ◌/◌, ◌^◌, ◌<◌, ◌≤◌, Bool, true, false, List, [], ◌∷◌, ◌++◌, length, Option, Some, None, ℤ, pos, ◌+ℤ◌, ◌≤ℤ◌, refl, sym, ap, subst, ◌∙◌, arith, ⊎_elim, if◌then◌else◌}
use Rattle.std.specs.Prelude.{nat_eq, neg_ℤ}
use Rattle.std.specs.Ordering.{nat_cmp}
use Rattle.std.specs.FinMap.{FinMap, get}
use Rattle.std.proofs.lemmas.Bool.{cases_lt}
use Rattle.std.proofs.lemmas.Int.{ints}
use Rattle.std.proofs.Math.Nat.{add-mul, le-div_iff_mul-le, mul-le-mul_left}
use Rattle.rtp_stream.specs.declared.stream_spec.Stream.{Stream}
use Rattle.rtp_stream.specs.declared.anchor.Anchor.{Anchor}
use Rattle.rtp_stream.specs.declared.event.Event.{Event}
use Rattle.rtp_stream.specs.declared.event.Event.TheVariants.{Tick}
use Rattle.rtp_stream.specs.declared.packet.Packet.{Packet}
use Rattle.rtp_stream.specs.Anchor.{deadline_of, media_time_of, next_number}
use Rattle.rtp_stream.specs.CountsFacts.{Tally}
use Rattle.rtp_stream.specs.MarkFacts.{MarkView}
use Rattle.rtp_stream.specs.Marks.{body_of, marks_of, slot_mark, slots_from}
use Rattle.path_merge.specs.Window.{IsEmpty}
use Rattle.path_merge.specs.MergeState.{IsAnchored, IsAnchoredOrNot, IsSound, MergeState, holds_nothing}
use Rattle.path_merge.specs.Merge.{HasHistory}
use Rattle.path_merge.specs.Steps.{Advances, IsBeforeDeadline, IsSlotStep, Moves}
use Rattle.path_merge.specs.NextMark.{anchor_due}
use Rattle.path_merge.specs.ReadingSteps.{IsOnWay}
use Rattle.path_merge.specs.PassLost.{LosesSlots, PassesLost, last_deadline, lost_due, lost_from, lost_marks, lost_under}
use Rattle.path_merge.proofs.AdvanceLemmas.{advance_slot}
use Rattle.path_merge.proofs.ReadingStepsLemmas.{way_goes_on, way_marks, way_stands, way_starts}
use Rattle.path_merge.proofs.DueLemmas.{before_next_number, due_before_next, media_time_of-from, media_time_of-suc}
use Rattle.path_merge.proofs.SoundLemmas.{anchored_at, from_first, media_small, sound_slot, time_before_deadline}
use Rattle.path_merge.proofs.NextMarkLemmas.{not_due}

-- the slots of one number more
slots_from-last : (stream : Stream) (a : Anchor) (n count : ℕ) → slots_from stream a [] n (suc count) ≡ slots_from stream a [] n count ++ slot_mark stream a (n + count) (body_of None) ∷ []
slots_from-last stream a n zero = let same : n ≡ n + 0 = omega arith in ap (λ k. slot_mark stream a k (body_of None) ∷ []) same
slots_from-last stream a n (suc count) =
    let same : suc n + count ≡ n + suc count = omega arith in
    ap (λ l. slot_mark stream a n (body_of None) ∷ l) (slots_from-last stream a (suc n) count ∙ ap (λ k. slots_from stream a [] (suc n) count ++ slot_mark stream a k (body_of None) ∷ []) same)

pub slots_from-length : (stream : Stream) (a : Anchor) (n count : ℕ) → length (slots_from stream a [] n count) ≡ count
slots_from-length stream a n zero = refl
slots_from-length stream a n (suc count) = omega (arith, slots_from-length stream a (suc n) count)

-- the slots of one number after another, in time
module _ (m : MergeState) (media : ℤ) (a : Anchor) (s : IsSound m media) (is_a : m.anchor ≡ Some a) (open_yet : m.closed ≡ false) where
  an : IsAnchored m media a
  an = anchored_at m media m.anchor a is_a s.anchored

  some : 0 < m.spec.frames
  some = s.spec_ok.some_frames

  first : a.number ≤ m.base
  first = from_first m media a open_yet an

  -- a slot some packets after the base begins that many packets later
  pub media_after : (count : ℕ) → media_time_of m.spec a (m.base + count) ≡ media +ℤ pos (count * m.spec.frames)
  media_after count =
      let split : m.base + count - a.number ≡ (m.base - a.number) + count = omega (arith, first) in
      let product : (m.base + count - a.number) * m.spec.frames ≡ (m.base - a.number) * m.spec.frames + count * m.spec.frames = ap (λ q. q * m.spec.frames) split ∙ add-mul (m.base - a.number) count m.spec.frames in
      omega (arith, ints, an.media_is, media_time_of-from m.spec a m.base first, media_time_of-from m.spec a (m.base + count) (omega (arith, first)), product)

  -- the number due next, by a division
  pub due_is_quotient : (now : ℤ) (since : ℕ) → now ≡ deadline_of m.spec a m.base +ℤ pos since → since / m.spec.frames + 1 ≡ next_number m.spec a now - m.base
  due_is_quotient now since apart =
      let count : ℕ = since / m.spec.frames in
      let below : count * m.spec.frames ≤ since = (le-div_iff_mul-le {k = m.spec.frames} {x = count} {y = since} some).0 (omega arith) in
      let last : deadline_of m.spec a (m.base + count) ≤ℤ now = omega (arith, ints, media_after count, an.media_is, apart, below) in
      let due = due_before_next m.spec a now (m.base + count) some (omega (arith, first)) last in
      let more : count + 1 ≤ since / m.spec.frames → ⊥ = λ h. absurd (omega (arith, h)) in
      ⊎_elim
      (λ lt.
      let next = before_next_number m.spec a now (m.base + (count + 1)) some (omega (arith, first)) (omega (arith, lt)) in
      let within : (count + 1) * m.spec.frames ≤ since = omega (arith, ints, media_after (count + 1), an.media_is, apart, next) in
      absurd (more ((le-div_iff_mul-le {k = m.spec.frames} {x = count + 1} {y = since} some).1 within)))
      (λ ge. omega (arith, ge, due))
      (cases_lt (m.base + count + 1) (next_number m.spec a now))

  -- all these slots are due by a reading
  abbrev pub AreDue : ℕ → ℤ → Type 0
  AreDue count now = (i : ℕ) → i < count → deadline_of m.spec a (m.base + i) ≤ℤ now

  pub all_due : (count : ℕ) (now : ℤ) → deadline_of m.spec a (m.base + count) ≤ℤ now → AreDue (suc count) now
  all_due count now last i lt = before_next_number m.spec a now (m.base + i) some (omega (arith, first)) (omega (arith, lt, due_before_next m.spec a now (m.base + count) some (omega (arith, first)) last))

  -- there is a slot that is due, and the deadline of the last one has come
  pub some_due : (now : ℤ) (count : ℕ) → deadline_of m.spec a m.base ≤ℤ now → count ≡ next_number m.spec a now - m.base → (0 < count) × (deadline_of m.spec a (m.base + (count - 1)) ≤ℤ now)
  some_due now count come is =
      let due = due_before_next m.spec a now m.base some first come in
      (omega (arith, due, is), before_next_number m.spec a now (m.base + (count - 1)) some (omega (arith, first)) (omega (arith, due, is)))

  earlier : (count : ℕ) (now : ℤ) → AreDue (suc count) now → AreDue count now
  earlier count now due i lt = due i (omega (arith, lt))

  -- the times and numbers of the slots that are passed, all of them small
  pub record LostTimes (count : ℕ) : Type 0 where
    pub last : deadline_of m.spec a (m.base + count) ≡ (media +ℤ pos (count * m.spec.frames)) +ℤ pos m.spec.latency
    pub next : media_time_of m.spec a (m.base + (count + 1)) ≡ (media +ℤ pos (count * m.spec.frames)) +ℤ pos m.spec.frames
    pub media_low : neg_ℤ (pos (2 ^ 34)) ≤ℤ media
    pub media_high : media ≤ℤ pos (2 ^ 60 + 2 ^ 35)
    pub length : count * m.spec.frames ≤ 2 ^ 60 + 2 ^ 34
    pub small : m.base + (count + 1) ≤ 2 ^ 61
    pub lost : m.counts.lost + (count + 1) < 2 ^ 63

  pub lost_times : (count : ℕ) → deadline_of m.spec a (m.base + count) ≤ℤ pos (2 ^ 60) → LostTimes count
  lost_times count soon =
      let t = media_small m media a s is_a in
      let after = media_after count in
      let suc_is : suc (m.base + count) ≡ m.base + (count + 1) = omega arith in
      let next = media_time_of-suc m.spec a (m.base + count) (omega (arith, first)) in
      let next_is = ap (media_time_of m.spec a) suc_is in
      let many : count * 1 ≤ count * m.spec.frames = mul-le-mul_left count some in
      let base = media_time_of-from m.spec a m.base first in
      let from : (m.base - a.number) * 1 ≤ (m.base - a.number) * m.spec.frames = mul-le-mul_left (m.base - a.number) some in
      let length : count * m.spec.frames ≤ 2 ^ 60 + 2 ^ 34 = omega (arith, ints, after, soon, t.1) in
      record {
        last = omega (arith, ints, after);
        next = omega (arith, ints, after, next, next_is);
        media_low = t.1;
        media_high = t.2;
        length = length;
        small = omega (arith, ints, after, soon, an.media_is, base, from, many, an.bounds.media_low, an.bounds.first_high);
        lost = omega (arith, ints, an.slots_given, t.2, many, length);
      }

-- nothing is held
module _ (m : MergeState) (media : ℤ) (a : Anchor) (s : IsSound m media) (is_a : m.anchor ≡ Some a) (open_yet : m.closed ≡ false) (empty : IsEmpty m.held) where
  -- the merge after this many lost slots
  abbrev pub after_slots : ℕ → MergeState
  after_slots count = record m { time = last_deadline m (Some a) count; base = m.base + count; counts = record m.counts { lost = m.counts.lost + count } }

  after_none : m ≡ after_slots 0
  after_none =
      let base : m.base ≡ m.base + 0 = omega arith in
      let lost : m.counts.lost ≡ m.counts.lost + 0 = omega arith in
      ap (λ n. record m { base = n }) base ∙ ap (λ n. record m { base = m.base + 0; counts = record m.counts { lost = n } }) lost

  none_at : (h : FinMap nat_cmp Packet) → IsEmpty h → (n : ℕ) (b : Bool) → get h n ≡ (if b then None else get m.held n)
  none_at h none n true = none n
  none_at h none n false = none n ∙ sym (empty n)

  -- one slot more, which leaves this window
  step : (count : ℕ) (h : FinMap nat_cmp Packet) → IsEmpty h → IsSlotStep m.spec (after_slots count) (record (after_slots (suc count)) { held = h }) a
  step count h none =
      let base : m.base + suc count ≡ m.base + count + 1 = omega arith in
      let lost : m.counts.lost + suc count ≡ m.counts.lost + count + 1 = omega arith in
      record {
        held = λ n. none_at h none n (nat_eq n (m.base + count));
        changed = rw (empty (m.base + count), base, lost) refl;
      }

  -- a merge after one slot more is sound
  one_sound : (count : ℕ) (h : FinMap nat_cmp Packet) → IsEmpty h → deadline_of m.spec a (m.base + count) ≤ℤ pos (2 ^ 60) → (later : ℤ) × IsSound (after_slots count) later → (later : ℤ) × IsSound (record (after_slots (suc count)) { held = h }) later
  one_sound count h none soon before = (
    before.0 +ℤ pos m.spec.frames,
    subst (λ x. IsSound x (before.0 +ℤ pos m.spec.frames)) (sym (step count h none).changed)
        (sound_slot (after_slots count) before.0 a h before.1 is_a open_yet soon (step count h none).held),
  )

  sound_after : (count : ℕ) → AreDue m media a s is_a open_yet count (pos (2 ^ 60)) → (later : ℤ) × IsSound (after_slots count) later
  sound_after zero due = (media, subst (λ x. IsSound x media) after_none s)
  sound_after (suc count) due = one_sound count m.held empty (due count (omega arith)) (sound_after count (earlier m media a s is_a open_yet count (pos (2 ^ 60)) due))

  pub sound_last : (count : ℕ) (h : FinMap nat_cmp Packet) → IsEmpty h → deadline_of m.spec a (m.base + count) ≤ℤ pos (2 ^ 60) → (later : ℤ) × IsSound (record (after_slots (suc count)) { held = h }) later
  sound_last count h none soon = one_sound count h none soon (sound_after count (earlier m media a s is_a open_yet count (pos (2 ^ 60)) (all_due m media a s is_a open_yet count (pos (2 ^ 60)) soon)))

  -- the deadline of the last slot
  last_deadline_is : (count : ℕ) → 0 < count → last_deadline m m.anchor count ≡ deadline_of m.spec a (m.base + (count - 1))
  last_deadline_is zero many = absurd (omega (arith, many))
  last_deadline_is (suc count) many =
      let same : count ≡ suc count - 1 = omega arith in
      ap (λ o. last_deadline m o (suc count)) is_a ∙ ap (λ n. deadline_of m.spec a (m.base + n)) same

  -- the merge after the slots, of values that are equal to these
  pub sound_passed_is : (count : ℕ) (h : FinMap nat_cmp Packet) (t' : ℤ) (base' size' : ℕ) (counts' : Tally) (media' : ℤ) → 0 < count → IsEmpty h
      → deadline_of m.spec a (m.base + (count - 1)) ≤ℤ pos (2 ^ 60) → t' ≡ deadline_of m.spec a (m.base + (count - 1)) → base' ≡ m.base + count → size' ≡ m.size
      → counts' ≡ record m.counts { lost = m.counts.lost + count } → media' ≡ media_time_of m.spec a (m.base + count)
      → IsSound (record m { time = t'; base = base'; size = size'; held = h; counts = counts' }) media'
  sound_passed_is zero h t' base' size' counts' media' many none soon is_t is_base is_size is_counts is_media = absurd (omega (arith, many))
  sound_passed_is (suc count) h t' base' size' counts' media' many none soon is_t is_base is_size is_counts is_media =
      let same : suc count - 1 ≡ count = omega arith in
      let soon_at = subst (λ n. deadline_of m.spec a (m.base + n) ≤ℤ pos (2 ^ 60)) same soon in
      let last = sound_last count h none soon_at in
      let media_last : last.0 ≡ media' = (anchored_at (record (after_slots (suc count)) { held = h }) last.0 m.anchor a is_a last.1.anchored).media_is ∙ sym is_media in
      let t_last : t' ≡ deadline_of m.spec a (m.base + count) = is_t ∙ ap (λ n. deadline_of m.spec a (m.base + n)) same in
      let made : record (after_slots (suc count)) { held = h } ≡ record m { time = t'; base = base'; size = size'; held = h; counts = counts' } = rw (t_last, is_base, is_size, is_counts) refl in
      subst (λ x. IsSound x media') made (subst (λ z. IsSound (record (after_slots (suc count)) { held = h }) z) media_last last.1)

  pub passed_is : (count : ℕ) (h : FinMap nat_cmp Packet) (t' : ℤ) (base' size' : ℕ) (counts' : Tally) → 0 < count → IsEmpty h
      → t' ≡ deadline_of m.spec a (m.base + (count - 1)) → base' ≡ m.base + count → size' ≡ m.size → counts' ≡ record m.counts { lost = m.counts.lost + count }
      → PassesLost m (record m { time = t'; base = base'; size = size'; held = h; counts = counts' }) count
  passed_is count h t' base' size' counts' many none is_t is_base is_size is_counts = record {
    held = λ n. none n ∙ sym (empty n);
    changed = rw (is_t, is_base, is_size, is_counts, last_deadline_is count many) refl;
  }

  -- the way to a reading, over the first slots
  module _ (open_at : ℤ) (events : List Event) (k : ℕ) (now : ℤ) (low : m.time ≤ℤ now) (high : now ≤ℤ pos (2 ^ 60)) (at : HasHistory m.spec open_at m events k) where
    in_time : (count : ℕ) → AreDue m media a s is_a open_yet count now → (after_slots count).time ≤ℤ now
    in_time zero due = low
    in_time (suc count) due = due count (omega arith)

    in_reach : (count : ℕ) → AreDue m media a s is_a open_yet count now → AreDue m media a s is_a open_yet count (pos (2 ^ 60))
    in_reach count due i lt = omega (arith, ints, due i lt, high)

    way_one : (count : ℕ) (h : FinMap nat_cmp Packet) → IsEmpty h → AreDue m media a s is_a open_yet (suc count) now
        → IsOnWay m.spec open_at (after_slots count) events now k (slots_from m.spec a [] m.base count)
        → IsOnWay m.spec open_at (record (after_slots (suc count)) { held = h }) events now k (slots_from m.spec a [] m.base (suc count))
    way_one count h none due way =
        let before = sound_after count (earlier m media a s is_a open_yet count (pos (2 ^ 60)) (in_reach (suc count) due)) in
        let come : deadline_of m.spec a (m.base + count) ≤ℤ now = due count (omega arith) in
        let mark : MarkView = slot_mark m.spec a (m.base + count) (body_of (get m.held (m.base + count))) in
        let new : MergeState = record (after_slots (suc count)) { held = h } in
        let adv : Advances m.spec open_at (after_slots count) new way.so_far (k + length (slots_from m.spec a [] m.base count)) now (Some mark)
        = advance_slot m.spec open_at (after_slots count) before.0 before.1 open_yet way.so_far (k + length (slots_from m.spec a [] m.base count)) way.stands new a now is_a come high (step count h none) in
        let anchored = anchored_at (after_slots count) before.0 m.anchor a is_a before.1.anchored in
        let later = time_before_deadline (after_slots count) before.0 a s.spec_ok.some_frames open_yet anchored in
        let moves : Moves (after_slots count) new now (Some mark) = (later, come, refl) in
        let body : body_of (get m.held (m.base + count)) ≡ body_of None = ap body_of (empty (m.base + count)) in
        subst (λ l. IsOnWay m.spec open_at new events now k l) (ap (λ b. slots_from m.spec a [] m.base count ++ slot_mark m.spec a (m.base + count) b ∷ []) body ∙ sym (slots_from-last m.spec a m.base count))
        (way_goes_on m.spec open_at (after_slots count) events now k (slots_from m.spec a [] m.base count) s.spec_ok.some_frames (in_time count (earlier m media a s is_a open_yet count now due)) high open_yet way new (Some mark) adv moves)

    way_after : (count : ℕ) → AreDue m media a s is_a open_yet count now → IsOnWay m.spec open_at (after_slots count) events now k (slots_from m.spec a [] m.base count)
    way_after zero due = subst (λ x. IsOnWay m.spec open_at x events now k []) after_none (way_starts m.spec open_at m events now k at)
    way_after (suc count) due = way_one count m.held empty due (way_after count (earlier m media a s is_a open_yet count now due))

    pub way_last : (count : ℕ) (h : FinMap nat_cmp Packet) → IsEmpty h → AreDue m media a s is_a open_yet (suc count) now
        → IsOnWay m.spec open_at (record (after_slots (suc count)) { held = h }) events now k (slots_from m.spec a [] m.base (suc count))
    way_last count h none due = way_one count h none due (way_after count (earlier m media a s is_a open_yet count now due))

    -- the slots are those that a reading of the last deadline produces
    last_loses : (count : ℕ) (h : FinMap nat_cmp Packet) → IsEmpty h → deadline_of m.spec a (m.base + count) ≤ℤ now
        → LosesSlots m.spec open_at m (record (after_slots (suc count)) { held = h }) events k now (suc count)
    last_loses count h none last =
        let new : MergeState = record (after_slots (suc count)) { held = h } in
        let more : List MarkView = slots_from m.spec a [] m.base (suc count) in
        let due = all_due m media a s is_a open_yet count now last in
        let way = way_last count h none due in
        let marks : slots_from m.spec a [] m.base (suc count) ≡ lost_marks m (suc count) = ap (λ o. lost_from m o (suc count)) (sym is_a) in
        record {
          stands = subst (λ n. HasHistory m.spec open_at new (events ++ Tick new.time ∷ []) (k + n)) (slots_from-length m.spec a m.base (suc count))
              (way_stands m.spec open_at new events now k more s.spec_ok.some_frames last high open_yet way);
          gained = way_marks m.spec open_at new events now k more s.spec_ok.some_frames last high open_yet way ∙ ap (λ l. marks_of m.spec open_at events ++ l) marks;
          on_way = subst (λ l. IsOnWay m.spec open_at new events now k l) marks way;
        }

  -- a merge that passed some slots
  passed_new : (new : MergeState) (count : ℕ) → PassesLost m new (suc count) → new ≡ record (after_slots (suc count)) { held = new.held }
  passed_new new count passed = passed.changed ∙ ap (λ o. record m { time = last_deadline m o (suc count); base = m.base + suc count; held = new.held; counts = record m.counts { lost = m.counts.lost + suc count } }) is_a

  passed_some : (count : ℕ) (new : MergeState) (now : ℤ) → now ≤ℤ pos (2 ^ 60) → m.time ≤ℤ now → PassesLost m new (suc count)
      → deadline_of m.spec a (m.base + count) ≤ℤ now → (open_at : ℤ) (events : List Event) (k : ℕ) → HasHistory m.spec open_at m events k
      → LosesSlots m.spec open_at m new events k now (suc count)
  passed_some count new now high low passed last open_at events k at =
      subst (λ x. LosesSlots m.spec open_at m x events k now (suc count)) (sym (passed_new new count passed))
      (last_loses open_at events k now low high at count new.held (λ n. passed.held n ∙ empty n) last)

  pub loses_slots : (count : ℕ) (new : MergeState) (now : ℤ) → now ≤ℤ pos (2 ^ 60) → m.time ≤ℤ now → 0 < count → PassesLost m new count
      → deadline_of m.spec a (m.base + (count - 1)) ≤ℤ now → (stream : Stream) (open_at : ℤ) (events : List Event) (k : ℕ) → HasHistory stream open_at m events k
      → LosesSlots stream open_at m new events k now count
  loses_slots zero new now high low many passed last stream open_at events k at = absurd (omega (arith, many))
  loses_slots (suc count) new now high low many passed last stream open_at events k at =
      let same : suc count - 1 ≡ count = omega arith in
      subst (λ st. LosesSlots st open_at m new events k now (suc count)) at.spec
      (passed_some count new now high low passed (subst (λ n. deadline_of m.spec a (m.base + n) ≤ℤ now) same last) open_at events k (subst (λ st. HasHistory st open_at m events k) (sym at.spec) at))

  -- the time moves on, and at most to the reading
  pub passed_time : (count : ℕ) (new : MergeState) (now : ℤ) → 0 < count → PassesLost m new count → deadline_of m.spec a (m.base + (count - 1)) ≤ℤ now
      → (m.time ≤ℤ new.time) × (new.time ≤ℤ now)
  passed_time count new now many passed last =
      let an_0 = anchored_at m media m.anchor a is_a s.anchored in
      let time : new.time ≡ deadline_of m.spec a (m.base + (count - 1)) = ap (λ (x : MergeState). x.time) passed.changed ∙ last_deadline_is count many in
      let later = time_before_deadline m media a s.spec_ok.some_frames open_yet an_0 in
      let after = media_after m media a s is_a open_yet (count - 1) in
      (omega (arith, ints, time, later, after, an_0.media_is), omega (arith, ints, time, last))

-- no slot is passed
pub loses_none : (m : MergeState) (media now : ℤ) → IsSound m media → m.closed ≡ false → m.time ≤ℤ now → now ≤ℤ pos (2 ^ 60)
    → (stream : Stream) (open_at : ℤ) (events : List Event) (k : ℕ) → HasHistory stream open_at m events k → LosesSlots stream open_at m m events k now 0
loses_none m media now s open_yet low high stream open_at events k at =
    let some : 0 < stream.frames = subst (λ (st : Stream). 0 < st.frames) at.spec s.spec_ok.some_frames in
    let way = way_starts stream open_at m events now k at in
    let none : [] ≡ lost_marks m 0 = by_anchor m.anchor in
    record {
      stands = way_stands stream open_at m events now k [] some low high open_yet way;
      gained = way_marks stream open_at m events now k [] some low high open_yet way ∙ ap (λ l. marks_of stream open_at events ++ l) none;
      on_way = subst (λ l. IsOnWay stream open_at m events now k l) none way;
    }
  where
    by_anchor : (o : Option Anchor) → [] ≡ lost_from m o 0
    by_anchor None = refl
    by_anchor (Some a) = refl

-- the number of slots that are passed
pub lost_is : (m : MergeState) (now : ℤ) (a : Anchor) → m.anchor ≡ Some a → holds_nothing m ≡ true → next_number m.spec a now - m.base ≡ lost_due m now
lost_is m now a is_a nothing = sym (rw (is_a, nothing) refl)

pub none_lost_held : (m : MergeState) (now : ℤ) → holds_nothing m ≡ false → 0 ≡ lost_due m now
none_lost_held m now some = by_anchor m.anchor
  where
    by_anchor : (o : Option Anchor) → 0 ≡ lost_under m now o
    by_anchor None = refl
    by_anchor (Some a) = rw some refl

pub none_lost_early : (m : MergeState) (media now : ℤ) → IsSound m media → m.closed ≡ false → anchor_due m now ≡ None → 0 ≡ lost_due m now
none_lost_early m media now s open_yet none = by_anchor m.anchor s.anchored (not_due m now none)
  where
    by_test : (b : Bool) (n : ℕ) → n ≡ 0 → 0 ≡ (if b then n else 0)
    by_test true n e = sym e
    by_test false n e = refl

    by_anchor : (o : Option Anchor) → IsAnchoredOrNot m media o → IsBeforeDeadline m.spec o m.base now → 0 ≡ lost_under m now o
    by_anchor None an early = refl
    by_anchor (Some a) an early =
        let first : a.number ≤ m.base = from_first m media a open_yet an in
        let none_due : next_number m.spec a now - m.base ≡ 0 = ⊎_elim
        (λ lt. absurd (omega (arith, ints, early, before_next_number m.spec a now m.base s.spec_ok.some_frames first lt)))
        (λ ge. omega (arith, ge))
        (cases_lt m.base (next_number m.spec a now)) in
        by_test (holds_nothing m) (next_number m.spec a now - m.base) none_due
