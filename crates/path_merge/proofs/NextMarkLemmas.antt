-- The mark that a merge returns next, compared with the mark of its history.
use Rattle.std.proofs.Common.{◌≡◌, ℕ, zero, suc, ◌+◌, ◌<◌, ◌≤◌, Bool, true, false, Option, Some, None, IsSome, List, ℤ, pos, ◌-ℤ◌, ◌≤ℤ◌, ◌<ℤ◌, refl, sym, ap, subst, ◌∙◌, arith, if◌then◌else◌}
use Rattle.std.specs.Prelude.{int_le, is_some, nat_eq}
use Rattle.std.specs.Ordering.{nat_cmp}
use Rattle.std.specs.FinMap.{FinMap, get}
use Rattle.std.proofs.lemmas.Bool.Decides.{nat_tests}
use Rattle.std.proofs.lemmas.Int.{ints}
use Rattle.rtp_stream.specs.declared.anchor.Anchor.{Anchor}
use Rattle.rtp_stream.specs.declared.mark.Body.{Body}
use Rattle.rtp_stream.specs.declared.mark.Body.TheVariants.{Got, Lost}
use Rattle.rtp_stream.specs.declared.packet.Packet.{Packet}
use Rattle.rtp_stream.specs.MarkFacts.{HasLength, MarkView}
use Rattle.rtp_stream.specs.MarkRef.{IsShort}
use Rattle.rtp_stream.specs.Anchor.{deadline_of, next_number}
use Rattle.path_merge.specs.MergeState.{IsAnchored, IsAnchoredOrNot, IsSound, MergeState, held_count}
use Rattle.rtp_stream.specs.declared.event.Event.{Event}
use Rattle.rtp_stream.specs.Marks.{quiet_mark}
use Rattle.path_merge.specs.Merge.{HasHistory}
use Rattle.path_merge.specs.NextMark.{anchor_due, anchor_if_due, anchor_if_held, anchor_after_close, next_left, next_mark, quiet_next, slot_or_end, slot_or_quiet}
use Rattle.path_merge.specs.Clock.{clock_fault_of}
use Rattle.path_merge.specs.Steps.{Drains, HoldsMore, IsBeforeDeadline, IsLeftStep, IsTimeStep, is_quiet_due, marks_left}
use Rattle.rtp_stream.specs.declared.stream_spec.Stream.{Stream}
use Rattle.path_merge.proofs.AdvanceLemmas.{IsAtReading, at_reading, no_slot_of}
use Rattle.path_merge.proofs.DrainLemmas.{drains_end, end_mark_is}
use Rattle.path_merge.proofs.SoundLemmas.{anchored_at, time_step_gives, time_step_none}
use Rattle.path_merge.proofs.HeldCountLemmas.{held_count-none, no_packet}

-- a merge at a reading that is not refused
pub reading : (m seen : MergeState) (media now : ℤ) → m ≡ seen → IsSound m media → clock_fault_of seen.time seen.closed now ≡ None → IsAtReading seen media now
reading m seen media now same sound none = at_reading seen seen media now refl (subst (λ x. IsSound x media) same sound) none

-- the deadline of the base has come
pub due : (m : MergeState) (now : ℤ) (a : Anchor) → anchor_due m now ≡ Some a → (m.anchor ≡ Some a) × (deadline_of m.spec a m.base ≤ℤ now)
due m now a is = by_anchor m.anchor refl is
  where
    by_test : (b : Anchor) (t : Bool) → m.anchor ≡ Some b → int_le (deadline_of m.spec b m.base) now ≡ t → (if t then Some b else None) ≡ Some a → (m.anchor ≡ Some a) × (deadline_of m.spec a m.base ≤ℤ now)
    by_test b true e come is =
        let same : b ≡ a = cc in
        (e ∙ is, subst (λ x. deadline_of m.spec x m.base ≤ℤ now) same (grind (arith, ints, come)))
    by_test b false e come is = cc

    by_anchor : (o : Option Anchor) → m.anchor ≡ o → anchor_if_due m now o ≡ Some a → (m.anchor ≡ Some a) × (deadline_of m.spec a m.base ≤ℤ now)
    by_anchor None e is = cc
    by_anchor (Some b) e is = by_test b (int_le (deadline_of m.spec b m.base) now) e refl is

-- no deadline has come
pub not_due : (m : MergeState) (now : ℤ) → anchor_due m now ≡ None → IsBeforeDeadline m.spec m.anchor m.base now
not_due m now is = by_anchor m.anchor is
  where
    by_test : (b : Anchor) (t : Bool) → int_le (deadline_of m.spec b m.base) now ≡ t → (if t then Some b else None) ≡ None → now <ℤ deadline_of m.spec b m.base
    by_test b true come is = cc
    by_test b false come is = grind (arith, ints, come)

    by_anchor : (o : Option Anchor) → anchor_if_due m now o ≡ None → IsBeforeDeadline m.spec o m.base now
    by_anchor None is = tt
    by_anchor (Some b) is = by_test b (int_le (deadline_of m.spec b m.base) now) refl is

-- the answer, by the test
pub due_is : (m : MergeState) (now : ℤ) (a : Anchor) → m.anchor ≡ Some a → deadline_of m.spec a m.base ≤ℤ now → Some a ≡ anchor_due m now
due_is m now a is_a come = let yes : int_le (deadline_of m.spec a m.base) now ≡ true = grind (arith, ints, come) in rw (is_a, yes)

pub not_due_is : (m : MergeState) (now : ℤ) (a : Anchor) → m.anchor ≡ Some a → now <ℤ deadline_of m.spec a m.base → None ≡ anchor_due m now
not_due_is m now a is_a early = let no : int_le (deadline_of m.spec a m.base) now ≡ false = grind (arith, ints, early) in rw (is_a, no)

-- some are held: here is one
held_some : (h : FinMap nat_cmp Packet) (n count : ℕ) → nat_eq (held_count h n count) 0 ≡ false → (k : ℕ) × (n ≤ k) × IsSome (get h k)
held_some h n zero some = cc
held_some h n (suc count) some = by_first (is_some (get h n)) refl (held_some h (suc n) count) some
  where
    by_first : (t : Bool) → is_some (get h n) ≡ t → (nat_eq (held_count h (suc n) count) 0 ≡ false → (k : ℕ) × (suc n ≤ k) × IsSome (get h k)) → nat_eq ((if t then 1 else 0) + held_count h (suc n) count) 0 ≡ false → (k : ℕ) × (n ≤ k) × IsSome (get h k)
    by_first true e rest some = (n, omega arith, e)
    by_first false e rest some =
        let same : held_count h (suc n) count ≡ 0 + held_count h (suc n) count = omega arith in
        let later = rest (ap (λ k. nat_eq k 0) same ∙ some) in
        (later.0, omega (arith, later.1), later.2)

-- no packet is held
held_none : (h : FinMap nat_cmp Packet) (n count : ℕ) → held_count h n count ≡ 0 → (k : ℕ) → n ≤ k → k < n + count → IsSome (get h k) → ⊥
held_none h n zero none k low high some = absurd (omega (arith, low, high))
held_none h n (suc count) none k low high some = by_first (is_some (get h n)) refl (λ rest later. held_none h (suc n) count rest k later (omega (arith, high)) some) none
  where
    by_first : (t : Bool) → is_some (get h n) ≡ t → (held_count h (suc n) count ≡ 0 → suc n ≤ k → ⊥) → (if t then 1 else 0) + held_count h (suc n) count ≡ 0 → ⊥
    by_first true e rest none = absurd (omega (arith, none))
    by_first false e rest none = by_place (nat_eq k n) refl
      where
        by_place : (same : Bool) → nat_eq k n ≡ same → ⊥
        by_place true is = let here : k ≡ n = grind (arith, nat_tests, is) in let other : is_some (get h k) ≡ false = ap (λ i. is_some (get h i)) here ∙ e in cc
        by_place false is = rest (omega (arith, none)) (grind (arith, nat_tests, is, low))

-- a payload of a stream's length is short
pub short_body : (len : ℕ) (body : Body) → HasLength len body → len ≤ 1440 → IsShort body
short_body len (Got payload) has short = omega (arith, has, short)
short_body len Lost has short = tt

-- a packet is held at the base or later
pub left_more : (m : MergeState) (a : Anchor) → anchor_after_close m ≡ Some a → (m.anchor ≡ Some a) × HoldsMore m
left_more m a is = by_anchor m.anchor refl is
  where
    by_test : (b : Anchor) (t : Bool) → m.anchor ≡ Some b → nat_eq (held_count m.held m.base m.spec.window) 0 ≡ t → (if t then None else Some b) ≡ Some a → (m.anchor ≡ Some a) × HoldsMore m
    by_test b true e none is = cc
    by_test b false e some is =
        let one = held_some m.held m.base m.spec.window some in
        (e ∙ is, record { last = one.0; from_base = one.1; is_held = one.2 })

    by_anchor : (o : Option Anchor) → m.anchor ≡ o → anchor_if_held m o ≡ Some a → (m.anchor ≡ Some a) × HoldsMore m
    by_anchor None e is = cc
    by_anchor (Some b) e is = by_test b (nat_eq (held_count m.held m.base m.spec.window) 0) e refl is

-- what is held is within the window's width of the base
in_width : (m : MergeState) (media : ℤ) (a : Anchor) → IsAnchored m media a → (n : ℕ) → IsSome (get m.held n) → n < m.base + m.spec.window
in_width m media a an n some = omega (arith, an.held_high n some, an.next_low)

-- nothing is held
pub left_none : (m : MergeState) (media : ℤ) → IsSound m media → anchor_after_close m ≡ None → (n : ℕ) → IsSome (get m.held n) → n < m.base
left_none m media s is n some = by_anchor m.anchor s.anchored is
  where
    by_test : (b : Anchor) (t : Bool) → IsAnchored m media b → nat_eq (held_count m.held m.base m.spec.window) 0 ≡ t → (if t then None else Some b) ≡ None → n < m.base
    by_test b true an none is = absurd (held_none m.held m.base m.spec.window (grind (arith, nat_tests, none)) n (an.held_low n some) (in_width m media b an n some) some)
    by_test b false an none is = cc

    by_anchor : (o : Option Anchor) → IsAnchoredOrNot m media o → anchor_if_held m o ≡ None → n < m.base
    by_anchor None un is = absurd (let e = un.empty n in cc)
    by_anchor (Some b) an is = by_test b (nat_eq (held_count m.held m.base m.spec.window) 0) an refl is

-- the answer, by the window's end
pub left_is : (m : MergeState) (media : ℤ) (a : Anchor) → IsAnchored m media a → m.anchor ≡ Some a → HoldsMore m → Some a ≡ anchor_after_close m
left_is m media a an is_a more = by_test (nat_eq (held_count m.held m.base m.spec.window) 0) refl
  where
    by_test : (t : Bool) → nat_eq (held_count m.held m.base m.spec.window) 0 ≡ t → Some a ≡ anchor_after_close m
    by_test true none = absurd (held_none m.held m.base m.spec.window (grind (arith, nat_tests, none)) more.last more.from_base (in_width m media a an more.last more.is_held) more.is_held)
    by_test false some = rw (is_a, some)

pub left_none_is : (m : MergeState) (media : ℤ) (a : Anchor) → IsAnchored m media a → m.anchor ≡ Some a → ((n : ℕ) → IsSome (get m.held n) → n < m.base) → None ≡ anchor_after_close m
left_none_is m media a an is_a below =
    let count : held_count m.held m.base m.spec.window ≡ 0 = held_count-none m.held m.base m.spec.window (λ n. no_packet (get m.held n) (λ some. absurd (omega (arith, below n some, an.held_low n some)))) in
    let none : nat_eq (held_count m.held m.base m.spec.window) 0 ≡ true = grind (arith, nat_tests, count) in
    rw (is_a, none)

-- the next mark, by the results of the tests
pub next_is : (m : MergeState) (now : ℤ) (o : Option Anchor) → anchor_due m now ≡ o → next_mark m now ≡ slot_or_quiet m now o
next_is m now o is = ap (slot_or_quiet m now) is

pub ended_is : (m : MergeState) → m.closed ≡ true → m.ended ≡ true → next_left m ≡ None
ended_is m shut ended = rw (shut, ended)

pub left_mark_is : (m : MergeState) (o : Option Anchor) → m.closed ≡ true → m.ended ≡ false → anchor_after_close m ≡ o → next_left m ≡ Some (slot_or_end m o)
left_mark_is m o shut unended is = by_tests m.closed m.ended shut unended ∙ ap (λ a. Some (slot_or_end m a)) is
  where
    by_tests : (closed ended : Bool) → closed ≡ true → ended ≡ false → (if closed then (if ended then None else Some (slot_or_end m (anchor_after_close m))) else None) ≡ Some (slot_or_end m (anchor_after_close m))
    by_tests true false c e = refl
    by_tests true true c e = cc
    by_tests false ended c e = cc

-- a slot less is left
pub fewer_left : (m new : MergeState) (media : ℤ) (a : Anchor) → IsSound m media → m.anchor ≡ Some a → HoldsMore m → IsLeftStep m new → marks_left new < marks_left m
fewer_left m new media a s is_a more step =
    let an = anchored_at m media m.anchor a is_a s.anchored in
    let below : m.base < next_number m.spec a m.time + m.spec.window = omega (arith, more.from_base, an.held_high more.last more.is_held) in
    rw (ap (λ (s : MergeState). s.ended) step.changed, ap (λ (s : MergeState). s.spec) step.changed, ap (λ (s : MergeState). s.anchor) step.changed, ap (λ (s : MergeState). s.time) step.changed, ap (λ (s : MergeState). s.base) step.changed, is_a) (omega (arith, below))

-- the end is left alone
pub drains_end_left : (stream : Stream) (open_at : ℤ) (m : MergeState) (media : ℤ) → IsSound m media → (events : List Event) (k : ℕ) → HasHistory stream open_at m events k → m.closed ≡ true → m.ended ≡ false → anchor_after_close m ≡ None → Drains stream open_at (record m { ended = true }) events k (next_left m)
drains_end_left stream open_at m media s events k at shut unended none =
    subst (λ o. Drains stream open_at (record m { ended = true }) events k o) (sym (left_mark_is m None shut unended none))
    (end_mark_is stream open_at (record m { ended = true }) events k m.spec at.spec (drains_end stream open_at m media s events k at shut unended m.base (omega arith) (left_none m media s none)))

-- the time moves, and a Quiet is produced if it is later than the last one
pub time_passes_quiet : (m : MergeState) (now t' q' : ℤ) → is_quiet_due (no_slot_of m.counts) m.quiet (now -ℤ pos m.spec.latency) ≡ true → t' ≡ now → q' ≡ now -ℤ pos m.spec.latency → IsTimeStep m.spec m (record m { time = t'; quiet = q' }) now (no_slot_of m.counts) (quiet_next m now)
time_passes_quiet m now t' q' tells is_t is_q = record { changed = (time_step_gives m now t' q' (now -ℤ pos m.spec.latency) (no_slot_of m.counts) tells is_t is_q refl).changed; mark = refl }

pub time_passes : (m : MergeState) (now t' : ℤ) → is_quiet_due (no_slot_of m.counts) m.quiet (now -ℤ pos m.spec.latency) ≡ false → t' ≡ now → IsTimeStep m.spec m (record m { time = t' }) now (no_slot_of m.counts) (quiet_next m now)
time_passes m now t' tells is_t = record { changed = (time_step_none m now t' (no_slot_of m.counts) tells is_t).changed; mark = refl }

pub quiet_is : (m : MergeState) (now : ℤ) (mark : MarkView) (u : ℤ) → is_quiet_due (no_slot_of m.counts) m.quiet (now -ℤ pos m.spec.latency) ≡ true → mark ≡ quiet_mark m.spec u → u ≡ now -ℤ pos m.spec.latency → Some mark ≡ quiet_next m now
quiet_is m now mark u tells is_mark is_u = rw (tells, is_mark, is_u)

pub no_quiet_is : (m : MergeState) (now : ℤ) → is_quiet_due (no_slot_of m.counts) m.quiet (now -ℤ pos m.spec.latency) ≡ false → None ≡ quiet_next m now
no_quiet_is m now tells = rw tells
