-- A merge stays sound.
use Rattle.std.proofs.Common.{◌≡◌, ℕ, suc, ◌+◌, ◌-◌, ◌*◌, ◌^◌, ◌<◌, ◌≤◌, Bool, true, false, Option, Some, None, ℤ, pos, ◌+ℤ◌, ◌-ℤ◌, ◌≤ℤ◌, ◌<ℤ◌, sym, ap, subst, ◌∙◌, arith, add-one, ⊎_elim, if◌then◌else◌, zero, refl}
use Rattle.std.specs.Prelude.{nat_eq, neg_ℤ, is_some}
use Rattle.std.specs.Ordering.{nat_cmp}
use Rattle.std.specs.FinMap.{FinMap, get}
use Rattle.std.proofs.lemmas.Bool.Decides.{nat_tests}
use Rattle.std.proofs.lemmas.Bool.{cases_lt}
use Rattle.std.proofs.lemmas.Int.{ints, by_lt_z}
use Rattle.std.proofs.lemmas.Nat.{mul-le}
use Rattle.std.proofs.Math.Nat.{mul-le-mul_left, add-mul}
use Rattle.path_merge.proofs.HeldCountLemmas.{held_count-taken, no_packet, with_body-counts}
use Rattle.path_merge.proofs.DueLemmas.{before_next_number, due_before_next, media_time_of-from, media_time_of-suc, next_number-at_deadline, next_number-stays}
use Rattle.rtp_stream.specs.Anchor.{deadline_of, media_time_of, next_number}
use Rattle.rtp_stream.specs.Counts.{is_got_body}
use Rattle.rtp_stream.specs.CountsFacts.{Tally, with_body}
use Rattle.rtp_stream.specs.MarkFacts.{HasLength, payload_length}
use Rattle.rtp_stream.specs.Marks.{body_of, quiet_mark}
use Rattle.path_merge.specs.MergeState.{IsAnchored, IsAnchoredOrNot, IsSound, MergeState, held_count}
use Rattle.path_merge.specs.Steps.{HoldsMore, IsBeforeDeadline, IsTimeStep, is_quiet_due, next_deadline_of}
use Rattle.rtp_stream.specs.declared.stream_spec.Stream.{Stream}
use Rattle.rtp_stream.specs.StreamSpecFacts.{IsStream, format_of}
use Rattle.rtp_stream.specs.declared.anchor.Anchor.{Anchor}
use Rattle.rtp_stream.specs.declared.packet.Packet.{Packet}

pub anchored_at : (m : MergeState) (media : ℤ) (o : Option Anchor) (a : Anchor) → o ≡ Some a → IsAnchoredOrNot m media o → IsAnchored m media a
anchored_at m media o a e h = subst (λ o. IsAnchoredOrNot m media o) e h

pub anchored_back : (m : MergeState) (media : ℤ) (o : Option Anchor) (a : Anchor) → o ≡ Some a → IsAnchored m media a → IsAnchoredOrNot m media o
anchored_back m media o a e h = subst (λ o. IsAnchoredOrNot m media o) (sym e) h

-- the anchor's number is not past the base
pub from_first : (m : MergeState) (media : ℤ) (a : Anchor) → m.closed ≡ false → IsAnchored m media a → a.number ≤ m.base
from_first m media a open_yet an = omega (arith, an.next_open open_yet)

-- the time is before the next deadline
pub time_before_deadline : (m : MergeState) (media : ℤ) (a : Anchor) → 0 < m.spec.frames → m.closed ≡ false → IsAnchored m media a → m.time <ℤ deadline_of m.spec a m.base
time_before_deadline m media a some open_yet an = by_lt_z m.time (deadline_of m.spec a m.base) (λ lt. lt) (λ ge. absurd (omega (arith, due_before_next m.spec a m.time m.base some (from_first m media a open_yet an) ge, an.next_open open_yet)))

-- the packets that are held after the front was taken
kept : (g h : FinMap nat_cmp Packet) (base n : ℕ) (packet : Packet) → get h n ≡ (if nat_eq n base then None else get g n) → get h n ≡ Some packet → get g n ≡ Some packet
kept g h base n packet taken is = by_test (nat_eq n base) taken
  where
    by_test : (b : Bool) → get h n ≡ (if b then None else get g n) → get g n ≡ Some packet
    by_test true e = absurd (let no = sym e ∙ is in cc)
    by_test false e = sym e ∙ is

-- nothing is held past the window
beyond : (m : MergeState) (media : ℤ) (a : Anchor) → IsAnchored m media a → get m.held (m.base + m.spec.window) ≡ None
beyond m media a an = no_packet (get m.held (m.base + m.spec.window)) (λ some_n. absurd (omega (arith, an.held_high (m.base + m.spec.window) some_n, an.next_low)))

pub some_window : (s : Stream) → IsStream s → 0 < s.window
some_window s ok = by_window s.window ok.wide
  where
    by_window : (w : ℕ) → s.latency + 2 * s.frames ≤ w * s.frames → 0 < w
    by_window zero wide = absurd (omega (arith, ok.some_latency))
    by_window (suc w) wide = omega arith

-- the counts after the slot of the base
pub record GivesSlot (m : MergeState) (media : ℤ) (h : FinMap nat_cmp Packet) (anchor : Anchor) : Type 0 where
  pub arrived : (with_body m.counts (body_of (get m.held m.base))).arrived ≤ 2 ^ 62
  pub slots_given : pos ((with_body m.counts (body_of (get m.held m.base))).got + (with_body m.counts (body_of (get m.held m.base))).lost) ≤ℤ ((media +ℤ pos m.spec.frames) +ℤ pos (2 ^ 33))
  pub epoch_is : anchor.epoch ≡ (with_body m.counts (body_of (get m.held m.base))).restarts
  pub few_epochs : anchor.epoch < (with_body m.counts (body_of (get m.held m.base))).arrived
  pub taken_are : (with_body m.counts (body_of (get m.held m.base))).taken ≡ (with_body m.counts (body_of (get m.held m.base))).got + held_count h (m.base + 1) m.spec.window

gives_slot : (m : MergeState) (media : ℤ) (a : Anchor) (h : FinMap nat_cmp Packet) → IsSound m media → IsAnchored m media a → ((n : ℕ) → get h n ≡ (if nat_eq n m.base then None else get m.held n)) → GivesSlot m media h a
gives_slot m media a h s an held =
    let counts = with_body-counts m.counts (get m.held m.base) in
    let taken = held_count-taken m.held h m.base m.spec.window (some_window m.spec s.spec_ok) (beyond m media a an) held in
    record {
      arrived = omega (arith, counts.arrived, s.few_arrived);
      slots_given = omega (arith, ints, counts.given, an.slots_given, s.spec_ok.some_frames);
      epoch_is = omega (arith, counts.restarts, an.epoch_is);
      few_epochs = omega (arith, counts.arrived, an.few_epochs);
      taken_are = omega (arith, counts.taken, counts.got, taken, an.taken_are);
    }

pub sound_slot : (m : MergeState) (media : ℤ) (a : Anchor) (h : FinMap nat_cmp Packet) → IsSound m media → m.anchor ≡ Some a → m.closed ≡ false → deadline_of m.spec a m.base ≤ℤ pos (2 ^ 60) → ((n : ℕ) → get h n ≡ (if nat_eq n m.base then None else get m.held n)) → IsSound (record m { time = deadline_of m.spec a m.base; base = m.base + 1; held = h; counts = with_body m.counts (body_of (get m.held m.base)) }) (media +ℤ pos m.spec.frames)
sound_slot m media a h s is_a open_yet soon held =
    let an = anchored_at m media m.anchor a is_a s.anchored in
    let some = s.spec_ok.some_frames in
    let first = from_first m media a open_yet an in
    let later = time_before_deadline m media a some open_yet an in
    let next = next_number-at_deadline m.spec a m.base some first in
    let media_next : (media +ℤ pos m.spec.frames) ≡ media_time_of m.spec a (m.base + 1) = rw add-one (ap (λ z. z +ℤ pos m.spec.frames) an.media_is ∙ sym (media_time_of-suc m.spec a m.base first)) in
    let gives = gives_slot m media a h s an held in
    record {
      spec_ok = s.spec_ok;
      time_low = omega (arith, ints, s.time_low);
      time_high = soon;
      size_is = s.size_is;
      few_arrived = gives.arrived;
      anchored = anchored_back _ _ m.anchor a is_a (record {
        epoch_is = gives.epoch_is;
        few_epochs = gives.few_epochs;
        bounds = an.bounds;
        media_is = media_next;
        next_open = λ _. omega (arith, next);
        next_low = omega (arith, next);
        next_high = omega (arith, next);
        held_low = λ n some_n. grind (arith, nat_tests, held n, an.held_low n);
        held_high = λ n some_n. grind (arith, nat_tests, next, held n, an.held_high n, an.next_open open_yet);
        held_fits = λ n packet is. an.held_fits n packet (kept m.held h m.base n packet (held n) is);
        slots_given = gives.slots_given;
        taken_are = gives.taken_are;
      });
    }

pub sound_left : (m : MergeState) (media : ℤ) (a : Anchor) (h : FinMap nat_cmp Packet) → IsSound m media → m.anchor ≡ Some a → m.closed ≡ true → HoldsMore m → ((n : ℕ) → get h n ≡ (if nat_eq n m.base then None else get m.held n)) → IsSound (record m { base = m.base + 1; held = h; counts = with_body m.counts (body_of (get m.held m.base)) }) (media +ℤ pos m.spec.frames)
sound_left m media a h s is_a shut holds held =
    let an = anchored_at m media m.anchor a is_a s.anchored in
    let first : a.number ≤ m.base = omega (arith, an.next_low) in
    let media_next : (media +ℤ pos m.spec.frames) ≡ media_time_of m.spec a (m.base + 1) = rw add-one (ap (λ z. z +ℤ pos m.spec.frames) an.media_is ∙ sym (media_time_of-suc m.spec a m.base first)) in
    let gives = gives_slot m media a h s an held in
    record {
      spec_ok = s.spec_ok;
      time_low = s.time_low;
      time_high = s.time_high;
      size_is = s.size_is;
      few_arrived = gives.arrived;
      anchored = anchored_back _ _ m.anchor a is_a (record {
        epoch_is = gives.epoch_is;
        few_epochs = gives.few_epochs;
        bounds = an.bounds;
        media_is = media_next;
        next_open = λ o. cc;
        next_low = omega (arith, an.next_low);
        next_high = omega (arith, holds.from_base, an.held_high holds.last holds.is_held);
        held_low = λ n some_n. grind (arith, nat_tests, held n, an.held_low n);
        held_high = λ n some_n. grind (arith, nat_tests, held n, an.held_high n);
        held_fits = λ n packet is. an.held_fits n packet (kept m.held h m.base n packet (held n) is);
        slots_given = gives.slots_given;
        taken_are = gives.taken_are;
      });
    }

-- a change of time, quiet and closing alone
pub sound_time : (m : MergeState) (media now quiet : ℤ) → IsSound m media → m.closed ≡ false → m.time ≤ℤ now → now ≤ℤ pos (2 ^ 60) → IsBeforeDeadline m.spec m.anchor m.base now → IsSound (record m { time = now; quiet = quiet }) media
sound_time m media now quiet s open_yet not_back not_far early =
    record {
      spec_ok = s.spec_ok;
      time_low = omega (arith, ints, s.time_low);
      time_high = not_far;
      size_is = s.size_is;
      few_arrived = s.few_arrived;
      anchored = by_anchor m.anchor s.anchored early;
    }
  where
    by_anchor : (o : Option Anchor) → IsAnchoredOrNot m media o → IsBeforeDeadline m.spec o m.base now → IsAnchoredOrNot (record m { time = now; quiet = quiet }) media o
    by_anchor None an early = record { empty = an.empty; none_taken = an.none_taken; none_got = an.none_got; none_lost = an.none_lost; none_restarted = an.none_restarted }
    by_anchor (Some a) an early =
        let same : next_number m.spec a now ≡ m.base = next_number-stays m.spec a m.time now s.spec_ok.some_frames not_back (subst (λ n. now <ℤ deadline_of m.spec a n) (an.next_open open_yet) early) ∙ sym (an.next_open open_yet) in
        record {
          epoch_is = an.epoch_is;
          few_epochs = an.few_epochs;
          bounds = an.bounds;
          media_is = an.media_is;
          next_open = λ _. sym same;
          next_low = omega (arith, same);
          next_high = omega (arith, same);
          held_low = an.held_low;
          held_high = λ n some_n. omega (arith, same, an.held_high n some_n, an.next_open open_yet);
          held_fits = an.held_fits;
          slots_given = an.slots_given;
          taken_are = an.taken_are;
        }

pub sound_closed : (m : MergeState) (media : ℤ) → IsSound m media → IsSound (record m { closed = true }) media
sound_closed m media s = record {
  spec_ok = s.spec_ok;
  time_low = s.time_low;
  time_high = s.time_high;
  size_is = s.size_is;
  few_arrived = s.few_arrived;
  anchored = by_anchor m.anchor s.anchored;
}
  where
    by_anchor : (o : Option Anchor) → IsAnchoredOrNot m media o → IsAnchoredOrNot (record m { closed = true }) media o
    by_anchor None an = record { empty = an.empty; none_taken = an.none_taken; none_got = an.none_got; none_lost = an.none_lost; none_restarted = an.none_restarted }
    by_anchor (Some a) an = record {
      epoch_is = an.epoch_is;
      few_epochs = an.few_epochs;
      bounds = an.bounds;
      media_is = an.media_is;
      next_open = λ o. cc;
      next_low = an.next_low;
      next_high = an.next_high;
      held_low = an.held_low;
      held_high = an.held_high;
      held_fits = an.held_fits;
      slots_given = an.slots_given;
      taken_are = an.taken_are;
    }

-- the same, of values that are equal to these
pub sound_slot_is : (m : MergeState) (media : ℤ) (a : Anchor) (h : FinMap nat_cmp Packet) (t' : ℤ) (base' size' : ℕ) (counts' : Tally) (media' : ℤ) → IsSound m media → m.anchor ≡ Some a → m.closed ≡ false → deadline_of m.spec a m.base ≤ℤ pos (2 ^ 60) → ((n : ℕ) → get h n ≡ (if nat_eq n m.base then None else get m.held n)) → t' ≡ deadline_of m.spec a m.base → base' ≡ m.base + 1 → size' ≡ m.size → counts' ≡ with_body m.counts (body_of (get m.held m.base)) → media' ≡ media +ℤ pos m.spec.frames → IsSound (record m { time = t'; base = base'; size = size'; held = h; counts = counts' }) media'
sound_slot_is m media a h t' base' size' counts' media' s is_a open_yet soon held is_t is_base is_size is_counts is_media =
    rw (is_t, is_base, is_size, is_counts, is_media) (sound_slot m media a h s is_a open_yet soon held)

pub sound_left_is : (m : MergeState) (media : ℤ) (a : Anchor) (h : FinMap nat_cmp Packet) (base' size' : ℕ) (counts' : Tally) (media' : ℤ) → IsSound m media → m.anchor ≡ Some a → m.closed ≡ true → HoldsMore m → ((n : ℕ) → get h n ≡ (if nat_eq n m.base then None else get m.held n)) → base' ≡ m.base + 1 → size' ≡ m.size → counts' ≡ with_body m.counts (body_of (get m.held m.base)) → media' ≡ media +ℤ pos m.spec.frames → IsSound (record m { base = base'; size = size'; held = h; counts = counts' }) media'
sound_left_is m media a h base' size' counts' media' s is_a shut holds held is_base is_size is_counts is_media =
    rw (is_base, is_size, is_counts, is_media) (sound_left m media a h s is_a shut holds held)

pub sound_time_is : (m : MergeState) (media t' now quiet : ℤ) → IsSound m media → m.closed ≡ false → m.time ≤ℤ now → now ≤ℤ pos (2 ^ 60) → IsBeforeDeadline m.spec m.anchor m.base now → t' ≡ now → IsSound (record m { time = t'; quiet = quiet }) media
sound_time_is m media t' now quiet s open_yet not_back not_far early is_t = rw is_t (sound_time m media now quiet s open_yet not_back not_far early)

-- the step of a time with a Quiet, and without one
pub time_step_gives : (m : MergeState) (now t' q' u' : ℤ) (no_slot : Bool) → is_quiet_due no_slot m.quiet (now -ℤ pos m.spec.latency) ≡ true → t' ≡ now → q' ≡ now -ℤ pos m.spec.latency → u' ≡ now -ℤ pos m.spec.latency → IsTimeStep m.spec m (record m { time = t'; quiet = q' }) now no_slot (Some (quiet_mark m.spec u'))
time_step_gives m now t' q' u' no_slot gives is_t is_q is_u = rw (is_t, is_q, is_u) (record { changed = rw gives; mark = rw gives })

pub time_step_none : (m : MergeState) (now t' : ℤ) (no_slot : Bool) → is_quiet_due no_slot m.quiet (now -ℤ pos m.spec.latency) ≡ false → t' ≡ now → IsTimeStep m.spec m (record m { time = t' }) now no_slot None
time_step_none m now t' no_slot none is_t = rw is_t (record { changed = rw none; mark = rw none })

pub quiet_due_is : (b r : Bool) (q q' u u' : ℤ) → r ≡ is_quiet_due b q u → q ≡ q' → u ≡ u' → is_quiet_due b q' u' ≡ r
quiet_due_is b r q q' u u' h e f = rw (← e, ← f) (sym h)

-- the next deadline is not far
pub deadline_small : (m : MergeState) (media : ℤ) (a : Anchor) → IsSound m media → m.anchor ≡ Some a → m.closed ≡ false → (pos 0 <ℤ deadline_of m.spec a m.base) × (deadline_of m.spec a m.base ≤ℤ pos (2 ^ 61)) × (media ≡ media_time_of m.spec a m.base) × (m.spec.latency < 2 ^ 32) × (m.spec.frames ≤ 192)
deadline_small m media a s is_a open_yet =
    let an = anchored_at m media m.anchor a is_a s.anchored in
    let later = time_before_deadline m media a s.spec_ok.some_frames open_yet an in
    let first = from_first m media a open_yet an in
    let high : deadline_of m.spec a m.base ≤ℤ pos (2 ^ 61) = ⊎_elim
    (λ lt.
    let back : suc (m.base - 1) ≡ m.base = omega arith in
    let before = before_next_number m.spec a m.time (m.base - 1) s.spec_ok.some_frames (omega arith) (omega (arith, an.next_open open_yet)) in
    let step = media_time_of-suc m.spec a (m.base - 1) (omega arith) in
    let is_base = ap (media_time_of m.spec a) back in
    omega (arith, ints, before, step, is_base, s.time_high, s.spec_ok.few_frames))
    (λ ge.
    let none : m.base - a.number ≡ 0 = omega arith in
    let zero = ap (λ q. q * m.spec.frames) none in
    omega (arith, ints, media_time_of-from m.spec a m.base first, zero, an.bounds.media_high, s.spec_ok.small_latency))
    (cases_lt a.number m.base) in
    (omega (arith, ints, later, s.time_low), high, an.media_is, s.spec_ok.small_latency, s.spec_ok.few_frames)

-- nothing is held without an anchor
pub held_anchored : (m : MergeState) (media : ℤ) → IsSound m media → HoldsMore m → (a : Anchor) × (m.anchor ≡ Some a)
held_anchored m media s holds = by_anchor m.anchor s.anchored
  where
    by_anchor : (o : Option Anchor) → IsAnchoredOrNot m media o → (a : Anchor) × (o ≡ Some a)
    by_anchor None none = absurd (let e = none.empty holds.last in let h = holds.is_held in cc)
    by_anchor (Some a) an = (a, refl)

-- the media time of the base is small, also after the close
pub media_small : (m : MergeState) (media : ℤ) (a : Anchor) → IsSound m media → m.anchor ≡ Some a → (media ≡ media_time_of m.spec a m.base) × (neg_ℤ (pos (2 ^ 34)) ≤ℤ media) × (media ≤ℤ pos (2 ^ 60 + 2 ^ 35)) × (m.spec.frames ≤ 192)
media_small m media a s is_a =
    let an = anchored_at m media m.anchor a is_a s.anchored in
    let first : a.number ≤ m.base = omega (arith, an.next_low) in
    let from = media_time_of-from m.spec a m.base first in
    -- the steps from the number next due, and those before it
    let extra : m.base - next_number m.spec a m.time ≤ 16384 = omega (arith, an.next_high, s.spec_ok.narrow) in
    let extra_product : (m.base - next_number m.spec a m.time) * m.spec.frames ≤ 16384 * 192 = mul-le (m.base - next_number m.spec a m.time) m.spec.frames 16384 192 extra s.spec_ok.few_frames in
    let split : m.base - a.number ≡ (next_number m.spec a m.time - a.number) + (m.base - next_number m.spec a m.time) = omega (arith, an.next_low) in
    let product : (m.base - a.number) * m.spec.frames ≡ (next_number m.spec a m.time - a.number) * m.spec.frames + (m.base - next_number m.spec a m.time) * m.spec.frames = ap (λ q. q * m.spec.frames) split ∙ add-mul (next_number m.spec a m.time - a.number) (m.base - next_number m.spec a m.time) m.spec.frames in
    let up : (a.media +ℤ pos ((next_number m.spec a m.time - a.number) * m.spec.frames)) ≤ℤ pos (2 ^ 60 + 2 ^ 34) = ⊎_elim
    (λ lt.
    let back : suc (next_number m.spec a m.time - 1 - a.number) ≡ next_number m.spec a m.time - a.number = omega (arith, lt) in
    let due = before_next_number m.spec a m.time (next_number m.spec a m.time - 1) s.spec_ok.some_frames (omega (arith, lt)) (omega (arith, lt)) in
    let from_1 = media_time_of-from m.spec a (next_number m.spec a m.time - 1) (omega (arith, lt)) in
    let step = ap (λ q. q * m.spec.frames) (sym back) in
    omega (arith, ints, due, from_1, step, s.time_high, s.spec_ok.few_frames))
    (λ ge.
    let none : next_number m.spec a m.time - a.number ≡ 0 = omega (arith, ge) in
    let zero = ap (λ q. q * m.spec.frames) none in
    omega (arith, ints, zero, an.bounds.media_high))
    (cases_lt a.number (next_number m.spec a m.time)) in
    (an.media_is, omega (arith, ints, an.media_is, from, an.bounds.media_low), omega (arith, ints, an.media_is, from, product, extra_product, up), s.spec_ok.few_frames)

-- the base is small too
pub base_small : (m : MergeState) (media : ℤ) (a : Anchor) → IsSound m media → m.anchor ≡ Some a → (a.number ≤ m.base) × (m.base ≤ 2 ^ 61)
base_small m media a s is_a =
    let an = anchored_at m media m.anchor a is_a s.anchored in
    let first : a.number ≤ m.base = omega (arith, an.next_low) in
    let t = media_small m media a s is_a in
    let from = media_time_of-from m.spec a m.base first in
    let many : (m.base - a.number) * 1 ≤ (m.base - a.number) * m.spec.frames = mul-le-mul_left (m.base - a.number) s.spec_ok.some_frames in
    (first, omega (arith, ints, t.0, t.2, from, many, an.bounds.media_low, an.bounds.first_high))

-- if the base has a packet, fewer packets were got than taken
pub space_for_got : (m : MergeState) (media : ℤ) (a : Anchor) → IsSound m media → m.anchor ≡ Some a → is_got_body (body_of (get m.held m.base)) ≡ true → m.counts.got < m.counts.taken
space_for_got m media a s is_a got =
    let an = anchored_at m media m.anchor a is_a s.anchored in
    let one = by_size m.spec.window (some_window m.spec s.spec_ok) (by_packet (get m.held m.base) got) in
    omega (arith, an.taken_are, one)
  where
    by_packet : (o : Option Packet) → is_got_body (body_of o) ≡ true → is_some o ≡ true
    by_packet None e = cc
    by_packet (Some p) e = refl

    by_size : (w : ℕ) → 0 < w → is_some (get m.held m.base) ≡ true → 1 ≤ held_count m.held m.base w
    by_size zero some e = absurd (omega arith)
    by_size (suc w) some e = let b = ap (λ b. (if b then 1 else 0) + held_count m.held (suc m.base) w) e in omega (arith, b)

pub few_lost : (m : MergeState) (media : ℤ) (a : Anchor) → IsSound m media → m.anchor ≡ Some a → m.counts.lost < 2 ^ 63
few_lost m media a s is_a =
    let an = anchored_at m media m.anchor a is_a s.anchored in
    let t = media_small m media a s is_a in
    omega (arith, ints, an.slots_given, t.2)

-- the payload at the base has the stream's length
pub base_fits : (m : MergeState) (media : ℤ) (a : Anchor) → IsSound m media → m.anchor ≡ Some a → HasLength (payload_length (format_of m.spec)) (body_of (get m.held m.base))
base_fits m media a s is_a = by_packet (get m.held m.base) refl
  where
    by_packet : (o : Option Packet) → get m.held m.base ≡ o → HasLength (payload_length (format_of m.spec)) (body_of o)
    by_packet None is = tt
    by_packet (Some p) is = (anchored_at m media m.anchor a is_a s.anchored).held_fits m.base p is

-- the times of a slot that is due
pub record DueTimes (m : MergeState) (media : ℤ) (a : Anchor) : Type 0 where
  pub media_is : media ≡ media_time_of m.spec a m.base
  pub media_low : neg_ℤ (pos (2 ^ 34)) ≤ℤ media
  pub media_high : media ≤ℤ pos (2 ^ 60 + 2 ^ 35)
  pub after : pos 0 <ℤ (media +ℤ pos m.spec.latency)
  pub deadline : (media +ℤ pos m.spec.latency) ≡ deadline_of m.spec a m.base
  pub later : m.time <ℤ deadline_of m.spec a m.base
  pub small_latency : m.spec.latency < 2 ^ 32
  pub few_frames : m.spec.frames ≤ 192

pub due_times : (m : MergeState) (media : ℤ) (a : Anchor) → IsSound m media → m.anchor ≡ Some a → m.closed ≡ false → DueTimes m media a
due_times m media a s is_a open_yet =
    let an = anchored_at m media m.anchor a is_a s.anchored in
    let later = time_before_deadline m media a s.spec_ok.some_frames open_yet an in
    let t = media_small m media a s is_a in
    record {
      media_is = an.media_is;
      media_low = t.1;
      media_high = t.2;
      after = omega (arith, ints, an.media_is, s.time_low);
      deadline = ap (λ z. z +ℤ pos m.spec.latency) an.media_is;
      later = later;
      small_latency = s.spec_ok.small_latency;
      few_frames = s.spec_ok.few_frames;
    }

pub paths_few : (m : MergeState) (media : ℤ) → IsSound m media → (path : ℕ) → path < m.spec.paths → path < 4
paths_few m media s path lt = omega (arith, lt, s.spec_ok.few_paths)

pub next_deadline_is : (m : MergeState) (media : ℤ) (a : Anchor) → IsSound m media → m.anchor ≡ Some a → m.closed ≡ false → Some (media +ℤ pos m.spec.latency) ≡ next_deadline_of m
next_deadline_is m media a s is_a open_yet = ap (λ z. Some z) (due_times m media a s is_a open_yet).deadline ∙ sym (rw (open_yet, is_a) refl)
