-- The slots of every history are the spans of its epochs, one after the other.
use Rattle.std.proofs.Common.{◌≡◌, ℕ, zero, suc, ◌+◌, ◌-◌, ◌<◌, ◌≤◌, max, Bool, true, false, List, [], ◌∷◌, ◌++◌, length, take, Option, Some, None, ℤ, pos, ◌-ℤ◌, ◌≤ℤ◌, refl, sym, ap, subst, ◌∙◌, arith, append-nil, append_assoc, if◌then◌else◌}
use Rattle.std.proofs.lemmas.List.{take-append-le}
use Rattle.std.proofs.Math.Seq.{take-append_seam}
use Rattle.path_merge.proofs.AnchorLemmas.{AllWithin, IsMade, IsOwn, all_within, anchor_with-append, by_anchor_made, has_epochs}
use Rattle.path_merge.proofs.AfterCloseLemmas.{closed_before, closed_stays, marks_of-closed}
use Rattle.path_merge.proofs.CloseLemmas.{marks_of-close}
use Rattle.path_merge.proofs.EpochLemmas.{anchor_is, deaf_anchors, deaf_copies, deaf_copies_all, no_anchors}
use Rattle.path_merge.proofs.HistoryLemmas.{anchors_of-push, by_last_event, copies_of-close, copies_of-with, copies_of_all-close, is_closed-append, marks_in, marks_in-none, marks_in-push, marks_of-in, or_else, time_of-append}
use Rattle.path_merge.proofs.MarkGrowthLemmas.{by_open_event, well_timed_before, well_timed_tick}
use Rattle.path_merge.proofs.DueLemmas.{next_number-rises}
use Rattle.path_merge.proofs.AnewLemmas.{next_number-fresh}
use Rattle.rtp_stream.specs.Anchor.{next_number}
use Rattle.rtp_stream.specs.Copies.{copies_in, copies_of, copies_of_all, copies_with}
use Rattle.rtp_stream.specs.EpochLaws.{AllSlotsAmong, HasSpans, IsSlotAmong, IsSlotUnder, anchor_with, spans_of}
use Rattle.rtp_stream.specs.Epochs.{anchor_in, anchor_of, anchors_at, anchors_of, last_of}
use Rattle.rtp_stream.specs.Grid.{end_of_copies}
use Rattle.rtp_stream.specs.History.{is_closed, is_counting, is_well_timed, time_of}
use Rattle.rtp_stream.specs.Laws.{names_from, names_in, slot_names}
use Rattle.rtp_stream.specs.MarkFacts.{MarkView}
use Rattle.rtp_stream.specs.Marks.{end_mark, is_quiet_new, marks_of, quiet_mark, slots_at_close, slots_between, slots_from, slots_or_quiet, span_end}
use Rattle.rtp_stream.specs.declared.stream_spec.Stream.{Stream}
use Rattle.rtp_stream.specs.declared.anchor.Anchor.{Anchor}
use Rattle.rtp_stream.specs.declared.event.Event.{Event}
use Rattle.rtp_stream.specs.declared.event.Event.TheVariants.{Arrive, Close, Tick}
use Rattle.rtp_stream.specs.declared.mark.Body.{Body}
use Rattle.rtp_stream.specs.declared.mark.MarkKind.{MarkKind}
use Rattle.rtp_stream.specs.declared.mark.MarkKind.TheVariants.{End, Quiet, Slot}
use Rattle.rtp_stream.specs.declared.packet.Packet.{Packet}

pub slot_names-append : (xs ys : List MarkView) → slot_names (xs ++ ys) ≡ slot_names xs ++ slot_names ys
slot_names-append [] ys = refl
slot_names-append (mark ∷ xs) ys = ap (λ l. names_in mark.kind ++ l) (slot_names-append xs ys) ∙ sym (append_assoc (names_in mark.kind) (slot_names xs) (slot_names ys))

-- a run of numbers goes on
names_from-append : (epoch n i j : ℕ) → names_from epoch n i ++ names_from epoch (n + i) j ≡ names_from epoch n (i + j)
names_from-append epoch n zero j =
    let same : n + 0 ≡ n = omega arith in
    let all : j ≡ 0 + j = omega arith in
    ap (λ b. names_from epoch b j) same ∙ ap (names_from epoch n) all
names_from-append epoch n (suc i) j =
    let next : n + suc i ≡ suc n + i = omega arith in
    let up : suc (i + j) ≡ suc i + j = omega arith in
    ap (λ l. (epoch, n) ∷ l) (ap (λ b. names_from epoch (suc n) i ++ names_from epoch b j) next ∙ names_from-append epoch (suc n) i j) ∙ ap (names_from epoch n) up

-- up to one end, and from there to a later one
names_from-on : (epoch n low high : ℕ) → n ≤ low → low ≤ high → names_from epoch n (high - n) ≡ names_from epoch n (low - n) ++ names_from epoch low (high - low)
names_from-on epoch n low high le more =
    let seam : n + (low - n) ≡ low = omega (arith, le) in
    let total : (low - n) + (high - low) ≡ high - n = omega (arith, le, more) in
    sym (ap (λ b. names_from epoch n (low - n) ++ names_from epoch b (high - low)) (sym seam) ∙ names_from-append epoch n (low - n) (high - low) ∙ ap (names_from epoch n) total)

module _ (stream : Stream) (a : Anchor) (copies : List (ℕ × Packet)) where
  pub run_names : (n count : ℕ) → slot_names (slots_from stream a copies n count) ≡ names_from a.epoch n count
  run_names n zero = refl
  run_names n (suc count) = ap (λ l. (a.epoch, n) ∷ l) (run_names (suc n) count)

-- the slots among the anchors
AllSlotsAmong-append : (stream : Stream) (anchors : List (ℕ × Anchor)) (copies : List (ℕ × (ℕ × Packet))) (xs ys : List MarkView) → AllSlotsAmong stream anchors copies xs → AllSlotsAmong stream anchors copies ys → AllSlotsAmong stream anchors copies (xs ++ ys)
AllSlotsAmong-append stream anchors copies [] ys p q = q
AllSlotsAmong-append stream anchors copies (mark ∷ xs) ys p q = (p.0, AllSlotsAmong-append stream anchors copies xs ys p.1 q)

-- later anchors change none of them
AllSlotsAmong-more : (stream : Stream) (anchors more : List (ℕ × Anchor)) (copies : List (ℕ × (ℕ × Packet))) (marks : List MarkView) → AllSlotsAmong stream anchors copies marks → AllSlotsAmong stream (anchors ++ more) copies marks
AllSlotsAmong-more stream anchors more copies [] all = tt
AllSlotsAmong-more stream anchors more copies (mark ∷ marks) all = (by_kind mark.kind all.0, AllSlotsAmong-more stream anchors more copies marks all.1)
  where
    by_anchor : (epoch n : ℕ) (m : ℤ) (body : Body) (o other : Option Anchor) → IsSlotUnder stream o (copies_in epoch copies) n m body → IsSlotUnder stream (or_else o other) (copies_in epoch copies) n m body
    by_anchor epoch n m body None other slot = absurd slot
    by_anchor epoch n m body (Some a) other slot = slot

    by_kind : (kind : MarkKind) → IsSlotAmong stream anchors copies kind → IsSlotAmong stream (anchors ++ more) copies kind
    by_kind (Slot e n m b) slot = rw (anchor_with-append e anchors more) (by_anchor e n m b (anchor_with e anchors) (anchor_with e more) slot)
    by_kind (Quiet u) slot = tt
    by_kind End slot = tt

-- a run of slots under the anchor in force
run_among : (stream : Stream) (anchors : List (ℕ × Anchor)) (copies : List (ℕ × (ℕ × Packet))) (a : Anchor) → anchor_with a.epoch anchors ≡ Some a → (n count : ℕ) → AllSlotsAmong stream anchors copies (slots_from stream a (copies_in a.epoch copies) n count)
run_among stream anchors copies a own n zero = tt
run_among stream anchors copies a own n (suc count) = (rw own (refl, refl), run_among stream anchors copies a own (suc n) count)

module _ (stream : Stream) (open_at : ℤ) where
  end_low : (events : List Event) (a : Anchor) → a.number ≤ span_end stream open_at events a
  end_low events a = by_test (is_closed events)
    where
      by_test : (b : Bool) → a.number ≤ (if b then max (next_number stream a (time_of open_at events)) (end_of_copies (copies_of stream open_at events)) else next_number stream a (time_of open_at events))
      by_test true = omega arith
      by_test false = omega arith

  -- the numbers that one more event adds to the last span
  abbrev added_span : List Event → Event → Option (ℕ × Anchor) → List (ℕ × ℕ)
  added_span events event None = []
  added_span events event (Some (place, a)) = names_from a.epoch (span_end stream open_at events a) (span_end stream open_at (events ++ event ∷ []) a - span_end stream open_at events a)

  earlier_time : (events : List Event) (event : Event) (place : ℕ) → place ≤ length events → time_of open_at (take place (events ++ event ∷ [])) ≡ time_of open_at (take place events)
  earlier_time events event place le = ap (time_of open_at) (take-append-le place events (event ∷ []) le)

  spans_grow : (events : List Event) (event : Event) → ((a : Anchor) → span_end stream open_at events a ≤ span_end stream open_at (events ++ event ∷ []) a) → (anchors : List (ℕ × Anchor)) → AllWithin (length events) anchors → spans_of stream open_at (events ++ event ∷ []) anchors ≡ spans_of stream open_at events anchors ++ added_span events event (last_of anchors)
  spans_grow events event rises [] within = refl
  spans_grow events event rises ((place, a) ∷ []) within = names_from-on a.epoch a.number (span_end stream open_at events a) (span_end stream open_at (events ++ event ∷ []) a) (end_low events a) (rises a)
  spans_grow events event rises ((place, a) ∷ (place', a') ∷ rest) within =
      ap (λ t. names_from a.epoch a.number (next_number stream a t - a.number) ++ spans_of stream open_at (events ++ event ∷ []) ((place', a') ∷ rest)) (earlier_time events event place' within.1.0)
      ∙ ap (λ l. names_from a.epoch a.number (next_number stream a (time_of open_at (take place' events)) - a.number) ++ l) (spans_grow events event rises ((place', a') ∷ rest) within.1)
      ∙ sym (append_assoc (names_from a.epoch a.number (next_number stream a (time_of open_at (take place' events)) - a.number)) (spans_of stream open_at events ((place', a') ∷ rest)) (added_span events event (last_of ((place', a') ∷ rest))))

  -- an event that moves no end
  spans_stay : (events : List Event) (event : Event) → ((a : Anchor) → span_end stream open_at (events ++ event ∷ []) a ≡ span_end stream open_at events a) → (anchors : List (ℕ × Anchor)) → AllWithin (length events) anchors → spans_of stream open_at (events ++ event ∷ []) anchors ≡ spans_of stream open_at events anchors
  spans_stay events event same [] within = refl
  spans_stay events event same ((place, a) ∷ []) within = ap (λ e. names_from a.epoch a.number (e - a.number)) (same a)
  spans_stay events event same ((place, a) ∷ (place', a') ∷ rest) within =
      ap (λ t. names_from a.epoch a.number (next_number stream a t - a.number) ++ spans_of stream open_at (events ++ event ∷ []) ((place', a') ∷ rest)) (earlier_time events event place' within.1.0)
      ∙ ap (λ l. names_from a.epoch a.number (next_number stream a (time_of open_at (take place' events)) - a.number) ++ l) (spans_stay events event same ((place', a') ∷ rest) within.1)

  -- a new anchor has no slot yet, and the span before it ends at the number due next
  spans_open : (events : List Event) (event : Event) (b : Anchor) → is_closed events ≡ false → span_end stream open_at (events ++ event ∷ []) b ≡ b.number → (anchors : List (ℕ × Anchor)) → AllWithin (length events) anchors → spans_of stream open_at (events ++ event ∷ []) (anchors ++ (length events, b) ∷ []) ≡ spans_of stream open_at events anchors
  spans_open events event b still fresh [] within =
      let none : span_end stream open_at (events ++ event ∷ []) b - b.number ≡ 0 = omega (arith, fresh) in
      ap (names_from b.epoch b.number) none
  spans_open events event b still fresh ((place, a) ∷ []) within =
      let none : span_end stream open_at (events ++ event ∷ []) b - b.number ≡ 0 = omega (arith, fresh) in
      ap (λ l. names_from a.epoch a.number (next_number stream a (time_of open_at l) - a.number) ++ names_from b.epoch b.number (span_end stream open_at (events ++ event ∷ []) b - b.number)) (take-append_seam events (event ∷ []))
      ∙ ap (λ c. names_from a.epoch a.number (next_number stream a (time_of open_at events) - a.number) ++ names_from b.epoch b.number c) none
      ∙ append-nil (names_from a.epoch a.number (next_number stream a (time_of open_at events) - a.number))
      ∙ sym (rw still refl)
  spans_open events event b still fresh ((place, a) ∷ (place', a') ∷ rest) within =
      ap (λ t. names_from a.epoch a.number (next_number stream a t - a.number) ++ spans_of stream open_at (events ++ event ∷ []) (((place', a') ∷ rest) ++ (length events, b) ∷ [])) (earlier_time events event place' within.1.0)
      ∙ ap (λ l. names_from a.epoch a.number (next_number stream a (time_of open_at (take place' events)) - a.number) ++ l) (spans_open events event b still fresh ((place', a') ∷ rest) within.1)

  -- the slots so far, with these copies
  pub record HasRun (copies : List (ℕ × (ℕ × Packet))) (events : List Event) (marks : List MarkView) : Type 0 where
    pub names : slot_names marks ≡ spans_of stream open_at events (anchors_of stream open_at events)
    pub slots : AllSlotsAmong stream (anchors_of stream open_at events) copies marks

  -- the end of the span in force, of an open history
  open_end : (events : List Event) (a : Anchor) → is_closed events ≡ false → span_end stream open_at events a ≡ next_number stream a (time_of open_at events)
  open_end events a still = rw still refl

  pub quiet_names : (given : List MarkView) (u : ℤ) (slots : List MarkView) → slot_names (slots_or_quiet stream open_at given u slots) ≡ slot_names slots
  quiet_names given u (mark ∷ slots) = refl
  quiet_names given u [] = by_test (is_quiet_new stream open_at given (u -ℤ pos stream.latency))
    where
      by_test : (c : Bool) → slot_names (if c then quiet_mark stream (u -ℤ pos stream.latency) ∷ [] else []) ≡ []
      by_test true = refl
      by_test false = refl

  quiet_among : (anchors : List (ℕ × Anchor)) (copies : List (ℕ × (ℕ × Packet))) (given : List MarkView) (u : ℤ) (slots : List MarkView) → AllSlotsAmong stream anchors copies slots → AllSlotsAmong stream anchors copies (slots_or_quiet stream open_at given u slots)
  quiet_among anchors copies given u (mark ∷ slots) all = all
  quiet_among anchors copies given u [] all = by_test (is_quiet_new stream open_at given (u -ℤ pos stream.latency))
    where
      by_test : (c : Bool) → AllSlotsAmong stream anchors copies (if c then quiet_mark stream (u -ℤ pos stream.latency) ∷ [] else [])
      by_test true = (tt, tt)
      by_test false = tt

module _ (stream : Stream) (open_at : ℤ) (some : 0 < stream.frames) where
  -- the end of a span after one more arrival
  arrived_end : (events : List Event) (path : ℕ) (packet : Packet) → is_closed events ≡ false → (a : Anchor) → span_end stream open_at (events ++ Arrive path packet ∷ []) a ≡ next_number stream a (time_of open_at events)
  arrived_end events path packet still a =
      open_end stream open_at (events ++ Arrive path packet ∷ []) a (is_closed-append events (Arrive path packet ∷ []) ∙ rw still refl)
      ∙ ap (next_number stream a) (time_of-append open_at events (Arrive path packet ∷ []))

  arrived_run : (copies : List (ℕ × (ℕ × Packet))) (events : List Event) (path : ℕ) (packet : Packet) (marks : List MarkView) → is_closed events ≡ false → HasRun stream open_at copies events marks → HasRun stream open_at copies (events ++ Arrive path packet ∷ []) marks
  arrived_run copies events path packet marks still run = record {
    names = run.names ∙ sym (ap (spans_of stream open_at (events ++ Arrive path packet ∷ [])) (anchors_of-push stream open_at events (Arrive path packet)) ∙ by_anchor_made stream open_at some events path packet (λ made. spans_of stream open_at (events ++ Arrive path packet ∷ []) (anchors_of stream open_at events ++ made) ≡ spans_of stream open_at events (anchors_of stream open_at events)) none one);
    slots = rw (anchors_of-push stream open_at events (Arrive path packet)) (AllSlotsAmong-more stream (anchors_of stream open_at events) (anchors_at stream open_at (anchors_of stream open_at events) events (Arrive path packet)) copies marks run.slots);
  }
    where
      none : spans_of stream open_at (events ++ Arrive path packet ∷ []) (anchors_of stream open_at events ++ []) ≡ spans_of stream open_at events (anchors_of stream open_at events)
      none =
          ap (spans_of stream open_at (events ++ Arrive path packet ∷ [])) (append-nil (anchors_of stream open_at events))
          ∙ spans_stay stream open_at events (Arrive path packet) (λ a. arrived_end events path packet still a ∙ sym (open_end stream open_at events a still)) (anchors_of stream open_at events) (all_within stream open_at some events)

      one : (b : Anchor) → IsMade stream open_at events path packet (last_of (anchors_of stream open_at events)) b → spans_of stream open_at (events ++ Arrive path packet ∷ []) (anchors_of stream open_at events ++ (length events, b) ∷ []) ≡ spans_of stream open_at events (anchors_of stream open_at events)
      one b made = spans_open stream open_at events (Arrive path packet) b still (arrived_end events path packet still b ∙ next_number-fresh stream b (time_of open_at events) some made.early) (anchors_of stream open_at events) (all_within stream open_at some events)

  -- slots that are added up to another end of the last span
  more_run : (copies : List (ℕ × (ℕ × Packet))) (events : List Event) (event : Event) (marks more : List MarkView) → anchors_of stream open_at (events ++ event ∷ []) ≡ anchors_of stream open_at events → ((a : Anchor) → span_end stream open_at events a ≤ span_end stream open_at (events ++ event ∷ []) a) → slot_names more ≡ added_span stream open_at events event (last_of (anchors_of stream open_at events)) → AllSlotsAmong stream (anchors_of stream open_at events) copies more → HasRun stream open_at copies events marks → HasRun stream open_at copies (events ++ event ∷ []) (marks ++ more)
  more_run copies events event marks more same rises names slots run = record {
    names =
        slot_names-append marks more
        ∙ ap (λ l. l ++ slot_names more) run.names
        ∙ ap (λ l. spans_of stream open_at events (anchors_of stream open_at events) ++ l) names
        ∙ sym (spans_grow stream open_at events event rises (anchors_of stream open_at events) (all_within stream open_at some events))
        ∙ sym (ap (spans_of stream open_at (events ++ event ∷ [])) same);
    slots = rw same (AllSlotsAmong-append stream (anchors_of stream open_at events) copies marks more run.slots slots);
  }

  ticked_run : (copies : List (ℕ × (ℕ × Packet))) (events : List Event) (u : ℤ) (marks : List MarkView) → is_closed events ≡ false → time_of open_at events ≤ℤ u → HasRun stream open_at copies events marks → HasRun stream open_at copies (events ++ Tick u ∷ []) (marks ++ slots_or_quiet stream open_at marks u (slots_between stream (copies_with (anchor_of stream open_at events) copies) (anchor_of stream open_at events) (time_of open_at events) u))
  ticked_run copies events u marks still le run =
      more_run copies events (Tick u) marks (slots_or_quiet stream open_at marks u (slots_between stream (copies_with (anchor_of stream open_at events) copies) (anchor_of stream open_at events) (time_of open_at events) u))
      (anchors_of-push stream open_at events (Tick u) ∙ append-nil _)
      (λ a. omega (arith, open_end stream open_at events a still, ticked_end a, next_number-rises stream a (time_of open_at events) u some le))
      (quiet_names stream open_at marks u (slots_between stream (copies_with (anchor_of stream open_at events) copies) (anchor_of stream open_at events) (time_of open_at events) u)
      ∙ ap (λ o. slot_names (slots_between stream (copies_with o copies) o (time_of open_at events) u)) (anchor_is stream open_at events)
      ∙ between_names (last_of (anchors_of stream open_at events)))
      (quiet_among stream open_at (anchors_of stream open_at events) copies marks u (slots_between stream (copies_with (anchor_of stream open_at events) copies) (anchor_of stream open_at events) (time_of open_at events) u)
      (subst (λ o. AllSlotsAmong stream (anchors_of stream open_at events) copies (slots_between stream (copies_with o copies) o (time_of open_at events) u)) (sym (anchor_is stream open_at events)) (between_among (anchor_in (last_of (anchors_of stream open_at events))) (has_epochs stream open_at some events).own)))
      run
    where
      ticked_end : (a : Anchor) → span_end stream open_at (events ++ Tick u ∷ []) a ≡ next_number stream a u
      ticked_end a =
          open_end stream open_at (events ++ Tick u ∷ []) a (is_closed-append events (Tick u ∷ []) ∙ rw still refl)
          ∙ ap (next_number stream a) (time_of-append open_at events (Tick u ∷ []))

      between_names : (o : Option (ℕ × Anchor)) → slot_names (slots_between stream (copies_with (anchor_in o) copies) (anchor_in o) (time_of open_at events) u) ≡ added_span stream open_at events (Tick u) o
      between_names None = refl
      between_names (Some (place, a)) = rw (ticked_end a, open_end stream open_at events a still) (run_names stream a (copies_in a.epoch copies) (next_number stream a (time_of open_at events)) (next_number stream a u - next_number stream a (time_of open_at events)))

      between_among : (o : Option Anchor) → IsOwn o (anchors_of stream open_at events) → AllSlotsAmong stream (anchors_of stream open_at events) copies (slots_between stream (copies_with o copies) o (time_of open_at events) u)
      between_among None own = tt
      between_among (Some a) own = run_among stream (anchors_of stream open_at events) copies a own (next_number stream a (time_of open_at events)) (next_number stream a u - next_number stream a (time_of open_at events))

  -- the slots of an open history are its spans
  run_open : (copies : List (ℕ × (ℕ × Packet))) (events : List Event) → is_well_timed open_at events ≡ true → is_closed events ≡ false → HasRun stream open_at copies events (marks_in stream open_at copies events)
  run_open copies = by_open_event stream open_at some (λ events. HasRun stream open_at copies events (marks_in stream open_at copies events))
      (rw (marks_in-none stream open_at copies) (record { names = sym (ap (spans_of stream open_at []) (no_anchors stream open_at)); slots = tt }))
      (λ events path packet _ _ still run.
      rw (marks_in-push stream open_at copies events (Arrive path packet), append-nil)
      (arrived_run copies events path packet (marks_in stream open_at copies events) still run))
      (λ events u t run.
      rw (marks_in-push stream open_at copies events (Tick u), t.open_yet)
      (ticked_run copies events u (marks_in stream open_at copies events) t.open_yet t.not_back run))

  -- a close adds the slots that are left
  closed_end : (events : List Event) (event : Event) → is_closed (events ++ event ∷ []) ≡ true → (a : Anchor) → time_of open_at (events ++ event ∷ []) ≡ time_of open_at events → copies_of stream open_at (events ++ event ∷ []) ≡ copies_of stream open_at events → span_end stream open_at (events ++ event ∷ []) a ≡ max (next_number stream a (time_of open_at events)) (end_of_copies (copies_of stream open_at events))
  closed_end events event shut a time copies = rw (shut, time, copies) refl

  close_end : (events : List Event) → is_closed events ≡ false → (a : Anchor) → span_end stream open_at (events ++ Close ∷ []) a ≡ max (next_number stream a (time_of open_at events)) (end_of_copies (copies_of stream open_at events))
  close_end events still a = closed_end events Close (is_closed-append events (Close ∷ []) ∙ rw still refl) a (time_of-append open_at events (Close ∷ [])) (copies_of-close stream open_at events)

  closed_run : (copies : List (ℕ × (ℕ × Packet))) (events : List Event) (marks : List MarkView) → copies_with (anchor_of stream open_at events) copies ≡ copies_of stream open_at events → is_closed events ≡ false → HasRun stream open_at copies events marks → HasRun stream open_at copies (events ++ Close ∷ []) (marks ++ (slots_at_close stream (copies_with (anchor_of stream open_at events) copies) (anchor_of stream open_at events) (time_of open_at events) ++ end_mark stream ∷ []))
  closed_run copies events marks own still run =
      more_run copies events Close marks (slots_at_close stream (copies_with (anchor_of stream open_at events) copies) (anchor_of stream open_at events) (time_of open_at events) ++ end_mark stream ∷ [])
      (anchors_of-push stream open_at events Close ∙ append-nil _)
      (λ a. omega (arith, open_end stream open_at events a still, close_end events still a))
      (slot_names-append (slots_at_close stream (copies_with (anchor_of stream open_at events) copies) (anchor_of stream open_at events) (time_of open_at events)) (end_mark stream ∷ []) ∙ append-nil _
      ∙ ap (λ o. slot_names (slots_at_close stream (copies_with o copies) o (time_of open_at events))) (anchor_is stream open_at events)
      ∙ left_names (last_of (anchors_of stream open_at events)) (ap (λ o. copies_with o copies) (sym (anchor_is stream open_at events)) ∙ own))
      (AllSlotsAmong-append stream (anchors_of stream open_at events) copies (slots_at_close stream (copies_with (anchor_of stream open_at events) copies) (anchor_of stream open_at events) (time_of open_at events)) (end_mark stream ∷ [])
      (subst (λ o. AllSlotsAmong stream (anchors_of stream open_at events) copies (slots_at_close stream (copies_with o copies) o (time_of open_at events))) (sym (anchor_is stream open_at events)) (left_among (anchor_in (last_of (anchors_of stream open_at events))) (has_epochs stream open_at some events).own))
      (tt, tt))
      run
    where
      left_names : (o : Option (ℕ × Anchor)) → copies_with (anchor_in o) copies ≡ copies_of stream open_at events → slot_names (slots_at_close stream (copies_with (anchor_in o) copies) (anchor_in o) (time_of open_at events)) ≡ added_span stream open_at events Close o
      left_names None is = refl
      left_names (Some (place, a)) is =
          let count : max (next_number stream a (time_of open_at events)) (end_of_copies (copies_of stream open_at events)) - next_number stream a (time_of open_at events) ≡ end_of_copies (copies_of stream open_at events) - next_number stream a (time_of open_at events) = omega arith in
          rw (is, close_end events still a, open_end stream open_at events a still, count) (run_names stream a (copies_of stream open_at events) (next_number stream a (time_of open_at events)) (end_of_copies (copies_of stream open_at events) - next_number stream a (time_of open_at events)))

      left_among : (o : Option Anchor) → IsOwn o (anchors_of stream open_at events) → AllSlotsAmong stream (anchors_of stream open_at events) copies (slots_at_close stream (copies_with o copies) o (time_of open_at events))
      left_among None own = tt
      left_among (Some a) own = run_among stream (anchors_of stream open_at events) copies a own (next_number stream a (time_of open_at events)) (end_of_copies (copies_in a.epoch copies) - next_number stream a (time_of open_at events))

  run_at : (events : List Event) → is_well_timed open_at events ≡ true → is_closed events ≡ false → HasRun stream open_at (copies_of_all stream open_at events) events (marks_of stream open_at events)
  run_at events well_timed still = rw (marks_of-in stream open_at events) (run_open (copies_of_all stream open_at events) events well_timed still)

  -- one more event after a close
  spans_kept : (events : List Event) (event : Event) → is_closed events ≡ true → time_of open_at (events ++ event ∷ []) ≡ time_of open_at events → anchors_of stream open_at (events ++ event ∷ []) ≡ anchors_of stream open_at events → copies_of_all stream open_at (events ++ event ∷ []) ≡ copies_of_all stream open_at events → copies_of stream open_at (events ++ event ∷ []) ≡ copies_of stream open_at events → HasSpans stream open_at events → HasSpans stream open_at (events ++ event ∷ [])
  spans_kept events event shut time anchors all copies has = record {
    epochs = (has_epochs stream open_at some (events ++ event ∷ [])).epochs;
    names =
        ap slot_names (marks_of-closed stream open_at events event shut)
        ∙ has.names
        ∙ sym (ap (spans_of stream open_at (events ++ event ∷ [])) anchors ∙ spans_stay stream open_at events event (λ a. closed_end events event (closed_stays events (event ∷ []) shut) a time copies ∙ sym (rw shut refl)) (anchors_of stream open_at events) (all_within stream open_at some events));
    slots = rw (anchors, all, marks_of-closed stream open_at events event shut) has.slots;
  }

  spans_closed : (events : List Event) → is_well_timed open_at events ≡ true → is_closed events ≡ true → HasSpans stream open_at events
  spans_closed = by_last_event (λ events. is_well_timed open_at events ≡ true → is_closed events ≡ true → HasSpans stream open_at events) (λ _ shut. cc) step
    where
      step : (events : List Event) (event : Event) → (is_well_timed open_at events ≡ true → is_closed events ≡ true → HasSpans stream open_at events) → is_well_timed open_at (events ++ event ∷ []) ≡ true → is_closed (events ++ event ∷ []) ≡ true → HasSpans stream open_at (events ++ event ∷ [])
      step events (Tick u) before well_timed shut = absurd (let still = (well_timed_tick open_at events u well_timed).open_yet in let was = closed_before events (Tick u) refl shut in cc)
      step events (Arrive path packet) before well_timed shut =
          let was = closed_before events (Arrive path packet) refl shut in
          let deaf : is_counting events ≡ false = rw was refl in
          spans_kept events (Arrive path packet) was (time_of-append open_at events (Arrive path packet ∷ [])) (deaf_anchors stream open_at events deaf path packet) (deaf_copies_all stream open_at events deaf path packet) (deaf_copies stream open_at events deaf path packet) (before (well_timed_before open_at events (Arrive path packet) well_timed) was)
      step events Close before well_timed shut = by_test (is_closed events) refl
        where
          timed : is_well_timed open_at events ≡ true
          timed = well_timed_before open_at events Close well_timed

          by_test : (b : Bool) → is_closed events ≡ b → HasSpans stream open_at (events ++ Close ∷ [])
          by_test true was = spans_kept events Close was (time_of-append open_at events (Close ∷ [])) (anchors_of-push stream open_at events Close ∙ append-nil _) (copies_of_all-close stream open_at events) (copies_of-close stream open_at events) (before timed was)
          by_test false still =
              let run = closed_run (copies_of_all stream open_at events) events (marks_of stream open_at events) (copies_of-with stream open_at events) still (run_at events timed still) in
              let marks : marks_of stream open_at (events ++ Close ∷ []) ≡ marks_of stream open_at events ++ (slots_at_close stream (copies_with (anchor_of stream open_at events) (copies_of_all stream open_at events)) (anchor_of stream open_at events) (time_of open_at events) ++ end_mark stream ∷ []) = marks_of-close stream open_at events ∙ rw still refl in
              record { epochs = (has_epochs stream open_at some (events ++ Close ∷ [])).epochs; names = ap slot_names marks ∙ run.names; slots = rw (marks, copies_of_all-close stream open_at events) run.slots }

  -- the slots of every history are its spans
  pub spanned : (events : List Event) → is_well_timed open_at events ≡ true → HasSpans stream open_at events
  spanned events well_timed = by_test (is_closed events) refl
    where
      by_test : (b : Bool) → is_closed events ≡ b → HasSpans stream open_at events
      by_test false still = let run = run_at events well_timed still in record { epochs = (has_epochs stream open_at some events).epochs; names = run.names; slots = run.slots }
      by_test true shut = spans_closed events well_timed shut
