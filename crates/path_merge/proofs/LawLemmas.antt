-- The laws of the definitions.
use Rattle.rtp_stream.specs.Grid.{first_with}
use Rattle.std.proofs.Common.{◌≡◌, ℕ, zero, suc, ◌+◌, ◌-◌, ◌<◌, ◌≤◌, Bool, true, false, List, [], ◌∷◌, ◌++◌, length, take, ℤ, refl, sym, ap, ◌∙◌, arith, append-nil, append_assoc, ⊎_elim}
use Rattle.std.proofs.lemmas.Int.{ints, by_lt_z}
use Rattle.std.proofs.lemmas.Bool.{cases_lt}
use Rattle.std.proofs.lemmas.List.{take-append-le}
use Rattle.path_merge.proofs.ArrivalLemmas.{marks_of-arrive}
use Rattle.path_merge.proofs.CloseLemmas.{marks_of-close}
use Rattle.path_merge.proofs.HistoryLemmas.{anchor_of-tick, by_last_event, copies_of-tick, events_until_close-open, fates_of-tick, is_closed-append, marks_in, marks_in-push, marks_of-in, time_of-append}
use Rattle.path_merge.proofs.JoinLemmas.{has_slot-append, slots_or_quiet-slotted}
use Rattle.path_merge.proofs.EpochLemmas.{deaf_copies_all, heard_of-tick, standings_of-tick}
use Rattle.path_merge.proofs.MarkGrowthLemmas.{IsTickAt, tick_well_timed, well_timed_before, well_timed_tick}
use Rattle.path_merge.proofs.DueLemmas.{before_next_number, due_before_next, next_number-at_deadline, next_number-rises}
use Rattle.path_merge.proofs.StepLemmas.{marks_of-tick, take_all}
use Rattle.rtp_stream.specs.Anchor.{deadline_of, next_number}
use Rattle.rtp_stream.specs.Copies.{copies_of, copies_of_all}
use Rattle.rtp_stream.specs.History.{is_closed, is_counting, is_well_timed, time_of}
use Rattle.rtp_stream.specs.Laws.{IsDeadlineOnTheWay, IsLeastDue, IsOpen}
use Rattle.rtp_stream.specs.MarkFacts.{MarkView}
use Rattle.rtp_stream.specs.Marks.{body_of, has_slot, marks_of, slot_mark, slots_from}
use Rattle.path_merge.specs.Steps.{IsAlike}
use Rattle.rtp_stream.specs.declared.stream_spec.Stream.{Stream}
use Rattle.rtp_stream.specs.declared.anchor.Anchor.{Anchor}
use Rattle.rtp_stream.specs.declared.event.Event.{Event}
use Rattle.rtp_stream.specs.declared.event.Event.TheVariants.{Arrive, Close, Tick}
use Rattle.rtp_stream.specs.declared.packet.Packet.{Packet}

pub least_due : (stream : Stream) (anchor : Anchor) (time : ℤ) → 0 < stream.frames → IsLeastDue stream anchor time
least_due stream anchor time some = record {
  from_anchor = omega arith;
  to_come = by_lt_z time (deadline_of stream anchor (next_number stream anchor time)) (λ lt. lt) (λ ge. absurd (omega (arith, due_before_next stream anchor time (next_number stream anchor time) some (omega arith) ge)));
  before = λ n le lt. before_next_number stream anchor time n some le lt;
}

slots_from-split : (stream : Stream) (a : Anchor) (copies : List (ℕ × Packet)) (n i j : ℕ) → slots_from stream a copies n (i + j) ≡ slots_from stream a copies n i ++ slots_from stream a copies (n + i) j
slots_from-split stream a copies n zero j =
    let same : n ≡ n + 0 = omega arith in
    let all : 0 + j ≡ j = omega arith in
    ap (slots_from stream a copies n) all ∙ ap (λ b. slots_from stream a copies b j) same
slots_from-split stream a copies n (suc i) j =
    let up : suc i + j ≡ suc (i + j) = omega arith in
    let next : suc n + i ≡ n + suc i = omega arith in
    ap (slots_from stream a copies n) up ∙ ap (λ l. slot_mark stream a n (body_of (first_with n copies)) ∷ l) (slots_from-split stream a copies (suc n) i j ∙ ap (λ b. slots_from stream a copies (suc n) i ++ slots_from stream a copies b j) next)

-- a reading at a deadline on the way
module _ (stream : Stream) (open_at : ℤ) (some : 0 < stream.frames) (events : List Event) (still : IsOpen open_at events) (a : Anchor) (n : ℕ) (v : ℤ) (way : IsDeadlineOnTheWay stream open_at events a n v) where
  u : ℤ
  u = deadline_of stream a n

  first : ℕ
  first = next_number stream a (time_of open_at events)

  not_past : next_number stream a (time_of open_at events) ≤ n
  not_past = ⊎_elim (λ lt. absurd (omega (arith, ints, before_next_number stream a (time_of open_at events) n some way.from_anchor lt, way.after))) (λ ge. ge) (cases_lt n (next_number stream a (time_of open_at events)))

  there : next_number stream a (deadline_of stream a n) ≡ suc n
  there = next_number-at_deadline stream a n some way.from_anchor

  tick : IsTickAt open_at events (deadline_of stream a n)
  tick = record { before = still.well_timed; open_yet = still.open_yet; not_back = omega (arith, ints, way.after); not_far = omega (arith, ints, way.not_after, way.in_range) }

  open_u : is_closed (events ++ Tick (deadline_of stream a n) ∷ []) ≡ false
  open_u = is_closed-append events (Tick (deadline_of stream a n) ∷ []) ∙ rw still.open_yet

  before_u : List MarkView
  before_u = slots_from stream a (copies_of stream open_at events) (next_number stream a (time_of open_at events)) (suc (n - next_number stream a (time_of open_at events)))

  at_deadline : marks_of stream open_at (events ++ Tick (deadline_of stream a n) ∷ []) ≡ marks_of stream open_at events ++ slots_from stream a (copies_of stream open_at events) (next_number stream a (time_of open_at events)) (suc (n - next_number stream a (time_of open_at events)))
  at_deadline =
      let count : next_number stream a (deadline_of stream a n) - next_number stream a (time_of open_at events) ≡ suc (n - next_number stream a (time_of open_at events)) = omega (arith, there, not_past) in
      marks_of-tick stream open_at events (deadline_of stream a n) still.open_yet ∙ rw (way.anchored, count)

  split_marks : marks_of stream open_at ((events ++ Tick (deadline_of stream a n) ∷ []) ++ Tick v ∷ []) ≡ marks_of stream open_at (events ++ Tick v ∷ [])
  split_marks =
      let rises = next_number-rises stream a (deadline_of stream a n) v some way.not_after in
      let total : next_number stream a v - next_number stream a (time_of open_at events) ≡ suc ((n - next_number stream a (time_of open_at events)) + (next_number stream a v - suc n)) = omega (arith, there, not_past, rises) in
      let from : next_number stream a (time_of open_at events) + suc (n - next_number stream a (time_of open_at events)) ≡ suc n = omega (arith, not_past) in
      let up : suc (n - next_number stream a (time_of open_at events)) + (next_number stream a v - suc n) ≡ suc ((n - next_number stream a (time_of open_at events)) + (next_number stream a v - suc n)) = omega arith in
      let one_way : marks_of stream open_at ((events ++ Tick (deadline_of stream a n) ∷ []) ++ Tick v ∷ []) ≡ marks_of stream open_at events ++ (slots_from stream a (copies_of stream open_at events) (next_number stream a (time_of open_at events)) (suc (n - next_number stream a (time_of open_at events))) ++ slots_from stream a (copies_of stream open_at events) (suc n) (next_number stream a v - suc n)) =
      marks_of-tick stream open_at (events ++ Tick (deadline_of stream a n) ∷ []) v open_u
      ∙ ap (λ l. marks_of stream open_at (events ++ Tick (deadline_of stream a n) ∷ []) ++ l) (slots_or_quiet-slotted stream open_at (marks_of stream open_at (events ++ Tick (deadline_of stream a n) ∷ [])) v _ (ap has_slot at_deadline ∙ has_slot-append (marks_of stream open_at events) (slot_mark stream a (next_number stream a (time_of open_at events)) (body_of (first_with (next_number stream a (time_of open_at events)) (copies_of stream open_at events)))) _ refl))
      ∙ rw (copies_of-tick stream open_at events (deadline_of stream a n), anchor_of-tick stream open_at events (deadline_of stream a n), way.anchored, time_of-append open_at events (Tick (deadline_of stream a n) ∷ []), there)
      (ap (λ l. l ++ slots_from stream a (copies_of stream open_at events) (suc n) (next_number stream a v - suc n)) at_deadline
      ∙ append_assoc (marks_of stream open_at events) _ _) in
      let other_way : marks_of stream open_at (events ++ Tick v ∷ []) ≡ marks_of stream open_at events ++ slots_from stream a (copies_of stream open_at events) (next_number stream a (time_of open_at events)) (suc ((n - next_number stream a (time_of open_at events)) + (next_number stream a v - suc n))) =
      marks_of-tick stream open_at events v still.open_yet ∙ rw (way.anchored, total) in
      one_way
      ∙ ap (λ b. marks_of stream open_at events ++ (slots_from stream a (copies_of stream open_at events) (next_number stream a (time_of open_at events)) (suc (n - next_number stream a (time_of open_at events))) ++ slots_from stream a (copies_of stream open_at events) b (next_number stream a v - suc n))) (sym from)
      ∙ ap (λ l. marks_of stream open_at events ++ l) (sym (slots_from-split stream a (copies_of stream open_at events) (next_number stream a (time_of open_at events)) (suc (n - next_number stream a (time_of open_at events))) (next_number stream a v - suc n)))
      ∙ ap (λ c. marks_of stream open_at events ++ slots_from stream a (copies_of stream open_at events) (next_number stream a (time_of open_at events)) c) up
      ∙ sym other_way

  pub tick_split : IsAlike stream open_at ((events ++ Tick (deadline_of stream a n) ∷ []) ++ Tick v ∷ []) (events ++ Tick v ∷ [])
  tick_split = record {
    well_timed = λ _. tick_well_timed open_at events v (record { before = still.well_timed; open_yet = still.open_yet; not_back = omega (arith, ints, tick.not_back, way.not_after); not_far = way.in_range });
    time = time_of-append open_at (events ++ Tick (deadline_of stream a n) ∷ []) (Tick v ∷ []) ∙ sym (time_of-append open_at events (Tick v ∷ []));
    closed = is_closed-append (events ++ Tick (deadline_of stream a n) ∷ []) (Tick v ∷ []) ∙ (rw open_u (sym (is_closed-append events (Tick v ∷ []) ∙ rw still.open_yet)));
    fates = fates_of-tick stream open_at (events ++ Tick (deadline_of stream a n) ∷ []) v ∙ fates_of-tick stream open_at events (deadline_of stream a n) ∙ sym (fates_of-tick stream open_at events v);
    anchor = anchor_of-tick stream open_at (events ++ Tick (deadline_of stream a n) ∷ []) v ∙ anchor_of-tick stream open_at events (deadline_of stream a n) ∙ sym (anchor_of-tick stream open_at events v);
    heard = λ path. heard_of-tick stream open_at (events ++ Tick (deadline_of stream a n) ∷ []) v path ∙ heard_of-tick stream open_at events (deadline_of stream a n) path ∙ sym (heard_of-tick stream open_at events v path);
    standings = standings_of-tick stream open_at (events ++ Tick (deadline_of stream a n) ∷ []) v ∙ standings_of-tick stream open_at events (deadline_of stream a n) ∙ sym (standings_of-tick stream open_at events v);
    copies = copies_of-tick stream open_at (events ++ Tick (deadline_of stream a n) ∷ []) v ∙ copies_of-tick stream open_at events (deadline_of stream a n) ∙ sym (copies_of-tick stream open_at events v);
    marks = split_marks;
    before_close = rw (events_until_close-open ((events ++ Tick (deadline_of stream a n) ∷ []) ++ Tick v ∷ []) (is_closed-append (events ++ Tick (deadline_of stream a n) ∷ []) (Tick v ∷ []) ∙ rw open_u), events_until_close-open (events ++ Tick v ∷ []) (is_closed-append events (Tick v ∷ []) ∙ rw still.open_yet)) split_marks;
  }

-- an arrival that doesn't count
pub marks_of-unheard : (stream : Stream) (open_at : ℤ) (events : List Event) (path : ℕ) (packet : Packet) → is_counting events ≡ false → marks_of stream open_at (events ++ Arrive path packet ∷ []) ≡ marks_of stream open_at events
marks_of-unheard stream open_at events path packet deaf =
    let no_copy : copies_of_all stream open_at (events ++ Arrive path packet ∷ []) ≡ copies_of_all stream open_at events = deaf_copies_all stream open_at events deaf path packet in
    marks_of-in stream open_at (events ++ Arrive path packet ∷ []) ∙ ap (λ c. marks_in stream open_at c (events ++ Arrive path packet ∷ [])) no_copy ∙ marks_in-push stream open_at (copies_of_all stream open_at events) events (Arrive path packet) ∙ append-nil _ ∙ sym (marks_of-in stream open_at events)

-- an arrival adds no mark and changes none
pub arrival_keeps : (stream : Stream) (open_at : ℤ) (events : List Event) (path : ℕ) (packet : Packet) → 0 < stream.frames → is_well_timed open_at events ≡ true → marks_of stream open_at (events ++ Arrive path packet ∷ []) ≡ marks_of stream open_at events
arrival_keeps stream open_at events path packet some well_timed = by_test (is_closed events) refl
  where
    by_test : (b : Bool) → is_closed events ≡ b → marks_of stream open_at (events ++ Arrive path packet ∷ []) ≡ marks_of stream open_at events
    by_test true is = marks_of-unheard stream open_at events path packet (rw is refl)
    by_test false is = marks_of-arrive stream open_at some events well_timed is path packet

-- one more event adds marks at the end
marks_gained : (stream : Stream) (open_at : ℤ) → 0 < stream.frames → (events : List Event) (event : Event) → is_well_timed open_at (events ++ event ∷ []) ≡ true → (gained : List MarkView) × (marks_of stream open_at (events ++ event ∷ []) ≡ marks_of stream open_at events ++ gained)
marks_gained stream open_at some events (Arrive path packet) well_timed = ([], arrival_keeps stream open_at events path packet some (well_timed_before open_at events (Arrive path packet) well_timed) ∙ sym (append-nil (marks_of stream open_at events)))
marks_gained stream open_at some events (Tick u) well_timed = (_, marks_of-tick stream open_at events u (well_timed_tick open_at events u well_timed).open_yet)
marks_gained stream open_at some events Close well_timed = (_, marks_of-close stream open_at events)

-- marks that were produced do not change
pub marks_stay : (stream : Stream) (open_at : ℤ) → 0 < stream.frames → (events more : List Event) → is_well_timed open_at (events ++ more) ≡ true → take (length (marks_of stream open_at events)) (marks_of stream open_at (events ++ more)) ≡ marks_of stream open_at events
marks_stay stream open_at some events = by_last_event (λ more. is_well_timed open_at (events ++ more) ≡ true → take (length (marks_of stream open_at events)) (marks_of stream open_at (events ++ more)) ≡ marks_of stream open_at events)
    (λ well_timed. ap (λ l. take (length (marks_of stream open_at events)) (marks_of stream open_at l)) (append-nil events) ∙ take_all (marks_of stream open_at events) _ refl)
    (λ more event before well_timed.
    let joined = append_assoc events more (event ∷ []) in
    let first = well_timed_before open_at (events ++ more) event (ap (is_well_timed open_at) joined ∙ well_timed) in
    let old = before first in
    let gained = marks_gained stream open_at some (events ++ more) event (ap (is_well_timed open_at) joined ∙ well_timed) in
    ap (λ l. take (length (marks_of stream open_at events)) (marks_of stream open_at l)) (sym joined)
    ∙ ap (take (length (marks_of stream open_at events))) gained.1
    ∙ take-append-le (length (marks_of stream open_at events)) (marks_of stream open_at (events ++ more)) gained.0 (shorter _ _ old)
    ∙ old)
  where
    shorter : (xs ys : List MarkView) → take (length xs) ys ≡ xs → length xs ≤ length ys
    shorter [] ys e = omega arith
    shorter (x ∷ xs) [] e = cc
    shorter (x ∷ xs) (y ∷ ys) e = let rest : take (length xs) ys ≡ xs = cc in omega (arith, shorter xs ys rest)
