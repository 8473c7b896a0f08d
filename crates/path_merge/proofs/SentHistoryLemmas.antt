-- The received part of a sent history: its copies and marks are those of the full numbers.
use Rattle.std.proofs.Common.{◌≡◌, ℕ, ◌+◌, ◌<◌, ◌≤◌, Bool, true, false, ◌&&◌, List, [], ◌∷◌, ◌++◌, length, Option, Some, None, IfSome, ℤ, pos, ◌≤ℤ◌, unsigned_abs, refl, sym, ap, subst, ◌∙◌, arith, append-nil, append_assoc, length-append, if◌then◌else◌}
use Rattle.std.specs.Prelude.{int_le, int_lt, nat_eq}
use Rattle.std.proofs.lemmas.Bool.Decides.{nat_tests}
use Rattle.std.proofs.lemmas.Int.{ints}
use Rattle.path_merge.proofs.AliasLemmas.{size_is}
use Rattle.path_merge.proofs.AfterCloseLemmas.{closed_stays}
use Rattle.path_merge.proofs.EpochLemmas.{anchor_is, deaf_anchors, last-push, no_anchors, width_plain}
use Rattle.rtp_stream.specs.Follow.{is_following}
use Rattle.path_merge.proofs.HistoryLemmas.{anchors_of-push, arrival_count-append, at_places-append, by_last_event, is_closed-append, or_else, time_of-append}
use Rattle.path_merge.proofs.CopiesLemmas.{first_with-append}
use Rattle.path_merge.proofs.FullNumberLemmas.{CountsAsSent, far_counts, near_counts, one_copy}
use Rattle.rtp_stream.specs.Anchor.{anchor_from, can_anchor, next_number, restart_from}
use Rattle.rtp_stream.specs.Copies.{copies_at, copies_in, copies_of, copies_of_all, copies_under_with, copies_with, first_copy, with_epoch}
use Rattle.rtp_stream.specs.Epochs.{anchor_in, anchor_of, anchors_after, anchors_at, anchors_of, can_restart, last_of, placed, width_in_force}
use Rattle.rtp_stream.specs.Grid.{copies_under, extended_number, first_with, of_width, is_in_time}
use Rattle.rtp_stream.specs.History.{arrival_count, at_places, is_closed, is_counting, time_of}
use Rattle.rtp_stream.specs.Marks.{marks_at, marks_from, marks_of, marks_under}
use Rattle.rtp_stream.specs.MarkFacts.{MarkView}
use Rattle.path_merge.proofs.AnewLemmas.{itself_eq}
use Rattle.rtp_stream.specs.Sent.{Arrives, BeginsWith, Closes, HasEqualCopies, IsNear, IsOneEpoch, IsWithinReach, OpensNoEpoch, SentEvent, SentPacket, Ticks, anchor_after, marks_by_number, sent_copies, sent_copies_after, sent_copies_at, sent_marks_after, wire_event, wire_history, wire_packet}
use Rattle.rtp_stream.specs.declared.stream_spec.Stream.{Stream}
use Rattle.rtp_stream.specs.StreamSpecFacts.{IsStream}
use Rattle.rtp_stream.specs.declared.anchor.Anchor.{Anchor}
use Rattle.rtp_stream.specs.declared.event.Event.{Event}
use Rattle.rtp_stream.specs.declared.event.Event.TheVariants.{Arrive, Close, Tick}
use Rattle.rtp_stream.specs.declared.packet.Packet.{Packet}

-- copies with their epoch
with_epoch-append : (a : Anchor) (xs ys : List (ℕ × Packet)) → with_epoch (Some a) (xs ++ ys) ≡ with_epoch (Some a) xs ++ with_epoch (Some a) ys
with_epoch-append a [] ys = refl
with_epoch-append a (x ∷ xs) ys = ap (λ l. (a.epoch, x) ∷ l) (with_epoch-append a xs ys)

-- the copies of an epoch are all of these, or none
copies_in-tags : (epoch : ℕ) (a : Anchor) (copies : List (ℕ × Packet)) → copies_in epoch (with_epoch (Some a) copies) ≡ (if nat_eq a.epoch epoch then copies else [])
copies_in-tags epoch a [] = none (nat_eq a.epoch epoch)
  where
    none : (b : Bool) → ◌≡◌ {A = List (ℕ × Packet)} [] (if b then [] else [])
    none true = refl
    none false = refl
copies_in-tags epoch a (x ∷ xs) = by_test (nat_eq a.epoch epoch) (copies_in-tags epoch a xs)
  where
    by_test : (b : Bool) → copies_in epoch (with_epoch (Some a) xs) ≡ (if b then xs else []) → (if b then x ∷ copies_in epoch (with_epoch (Some a) xs) else copies_in epoch (with_epoch (Some a) xs)) ≡ (if b then x ∷ xs else [])
    by_test true rest = ap (λ l. x ∷ l) rest
    by_test false rest = rest

nil_of_length : {A : Type 0} (xs : List A) → length xs ≤ 0 → xs ≡ []
nil_of_length [] le = refl
nil_of_length (x ∷ xs) le = absurd (omega (arith, le))

module _ (stream : Stream) (open_at : ℤ) where
  -- anchors stay
  anchors_grow : (events more : List Event) → length (anchors_of stream open_at events) ≤ length (anchors_of stream open_at (events ++ more))
  anchors_grow events = by_last_event (λ more. length (anchors_of stream open_at events) ≤ length (anchors_of stream open_at (events ++ more)))
      (rw append-nil (omega arith))
      (λ more event before.
      let joined : anchors_of stream open_at (events ++ (more ++ event ∷ [])) ≡ anchors_of stream open_at (events ++ more) ++ anchors_at stream open_at (anchors_of stream open_at (events ++ more)) (events ++ more) event = ap (anchors_of stream open_at) (sym (append_assoc events more (event ∷ []))) ∙ anchors_of-push stream open_at (events ++ more) event in
      omega (arith, before, ap length joined, length-append (anchors_of stream open_at (events ++ more)) (anchors_at stream open_at (anchors_of stream open_at (events ++ more)) (events ++ more) event)))

  -- after a close there are no more anchors
  pub anchors_closed : (events more : List Event) → is_closed events ≡ true → anchors_of stream open_at (events ++ more) ≡ anchors_of stream open_at events
  anchors_closed events more shut = by_last_event (λ more. anchors_of stream open_at (events ++ more) ≡ anchors_of stream open_at events) (ap (anchors_of stream open_at) (append-nil events)) (λ more event before. ap (anchors_of stream open_at) (sym (append_assoc events more (event ∷ []))) ∙ one (events ++ more) event (closed_stays events more shut) ∙ before) more
    where
      one : (events : List Event) (event : Event) → is_closed events ≡ true → anchors_of stream open_at (events ++ event ∷ []) ≡ anchors_of stream open_at events
      one events (Tick u) shut = anchors_of-push stream open_at events (Tick u) ∙ append-nil _
      one events Close shut = anchors_of-push stream open_at events Close ∙ append-nil _
      one events (Arrive path packet) shut = deaf_anchors stream open_at events (rw shut refl) path packet

  anchor_alone : (events : List Event) (place : ℕ) (a : Anchor) → anchors_of stream open_at events ≡ (place, a) ∷ [] → anchor_of stream open_at events ≡ Some a
  anchor_alone events place a is = anchor_is stream open_at events ∙ ap (λ l. anchor_in (last_of l)) is

  -- a history with its next event, and the rest
  pub next_of : (before : List Event) (event : Event) (after : List Event) → (P : List Event → Type 0) → P (before ++ event ∷ after) → P ((before ++ event ∷ []) ++ after)
  next_of before event after P p = subst P (sym (append_assoc before (event ∷ []) after)) p

  pub open_next : (before : List Event) (event : Event) → is_closed before ≡ false → is_closed (event ∷ []) ≡ false → is_closed (before ++ event ∷ []) ≡ false
  open_next before event still kept = is_closed-append before (event ∷ []) ∙ rw (still, kept) refl

  pub close_shuts : (before : List Event) → is_closed (before ++ Close ∷ []) ≡ true
  close_shuts before = is_closed-append before (Close ∷ []) ∙ either (is_closed before)
    where
      either : (b : Bool) → (if b then true else true) ≡ true
      either true = refl
      either false = refl

-- an anchor's number is 65,536 at least
abbrev IsHigh : Option (ℕ × Anchor) → Type 0
IsHigh None = Unit {0}
IsHigh (Some made) = 65536 ≤ made.1.number

module _ (stream : Stream) (open_at : ℤ) where
  made_high : (given : List (ℕ × Anchor)) (events : List Event) (event : Event) → IsHigh (last_of (anchors_at stream open_at given events event))
  made_high given events (Tick u) = tt
  made_high given events Close = tt
  made_high given events (Arrive path packet) = by_counting (is_counting events) (last_of given)
    where
      by_test : (a : Anchor) (b : Bool) → 65536 ≤ a.number → IsHigh (last_of (placed (length events) (if b then a ∷ [] else [])))
      by_test a true high = high
      by_test a false high = tt

      by_counting : (b : Bool) (o : Option (ℕ × Anchor)) → IsHigh (last_of (if b then placed (length events) (anchors_after stream open_at o events path packet) else []))
      by_counting false o = tt
      by_counting true None = by_test (anchor_from stream (time_of open_at events) packet) (can_anchor stream (time_of open_at events) packet) (omega arith)
      by_counting true (Some (place, a)) = by_test (restart_from stream (time_of open_at events) a (next_number stream a (time_of open_at events)) packet) (can_restart stream open_at place a events path packet) (omega arith)

  last_high : (events : List Event) → IsHigh (last_of (anchors_of stream open_at events))
  last_high = by_last_event (λ events. IsHigh (last_of (anchors_of stream open_at events))) (rw (no_anchors stream open_at) tt) (λ events event before.
      rw (last-push stream open_at events event) (either (last_of (anchors_of stream open_at events)) (last_of (anchors_at stream open_at (anchors_of stream open_at events) events event)) (made_high (anchors_of stream open_at events) events event) before))
    where
      either : (old made : Option (ℕ × Anchor)) → IsHigh made → IsHigh old → IsHigh (or_else made old)
      either old None high before = before
      either old (Some a) high before = high

  -- every number that is due under the anchor is at least 65,536
  next_high : (events : List Event) (anchor : Anchor) → anchor_of stream open_at events ≡ Some anchor → (at : ℤ) → 65536 ≤ next_number stream anchor at
  next_high events anchor is at = let high = by_last (last_of (anchors_of stream open_at events)) (last_high events) (sym (anchor_is stream open_at events) ∙ is) in omega (arith, high)
    where
      by_last : (o : Option (ℕ × Anchor)) → IsHigh o → anchor_in o ≡ Some anchor → 65536 ≤ anchor.number
      by_last None high e = cc
      by_last (Some (place, a)) high e = subst (λ found. IfSome found (λ b. 65536 ≤ b.number)) e high

  -- if an event and those after it open no epoch, the event leaves the anchors as they are
  anchors_stay : (before : List Event) (event : Event) (rest : List Event) → OpensNoEpoch stream open_at before (event ∷ rest) → anchors_of stream open_at (before ++ event ∷ []) ≡ anchors_of stream open_at before
  anchors_stay before event rest none =
      let push = anchors_of-push stream open_at before event in
      let made = anchors_at stream open_at (anchors_of stream open_at before) before event in
      let whole = ap (λ l. length (anchors_of stream open_at l)) (append_assoc before (event ∷ []) rest) in
      push ∙ ap (λ l. anchors_of stream open_at before ++ l) (nil_of_length made (omega (arith, ap length push, length-append (anchors_of stream open_at before) made, anchors_grow stream open_at (before ++ event ∷ []) rest, whole, none))) ∙ append-nil (anchors_of stream open_at before)

  anchor_stays : (before : List Event) (event : Event) (rest : List Event) → OpensNoEpoch stream open_at before (event ∷ rest) → anchor_of stream open_at (before ++ event ∷ []) ≡ anchor_of stream open_at before
  anchor_stays before event rest none = anchor_is stream open_at (before ++ event ∷ []) ∙ ap (λ l. anchor_in (last_of l)) (anchors_stay before event rest none) ∙ sym (anchor_is stream open_at before)

  none_after : (before : List Event) (event : Event) (rest : List Event) → OpensNoEpoch stream open_at before (event ∷ rest) → OpensNoEpoch stream open_at (before ++ event ∷ []) rest
  none_after before event rest none =
      let whole = ap (λ l. length (anchors_of stream open_at l)) (append_assoc before (event ∷ []) rest) in
      omega (arith, whole, ap length (anchors_stay before event rest none), none)

module _ (stream : Stream) (anchor : Anchor) (open_at : ℤ) where
  -- after these events, the copies of the rest are those that were sent
  abbrev IsRecovered : List Event → List SentEvent → Type 0
  IsRecovered before after = at_places (copies_at stream open_at) before (wire_history stream anchor after) ≡ with_epoch (Some anchor) (sent_copies_after stream anchor open_at before after)

  none_left : (before : List Event) → IsRecovered before []
  unfolding at_places sent_copies_after
  none_left before = refl

  recovered_next : (before : List Event) (event : SentEvent) (after : List SentEvent) → copies_at stream open_at before (wire_event stream anchor event) ≡ with_epoch (Some anchor) (sent_copies_at stream anchor open_at before event) → IsRecovered (before ++ wire_event stream anchor event ∷ []) after → IsRecovered before (event ∷ after)
  unfolding at_places sent_copies_after
  recovered_next before event after first rest =
      ap (λ l. l ++ at_places (copies_at stream open_at) (before ++ wire_event stream anchor event ∷ []) (wire_history stream anchor after)) first
      ∙ ap (λ l. with_epoch (Some anchor) (sent_copies_at stream anchor open_at before event) ++ l) rest
      ∙ sym (with_epoch-append anchor (sent_copies_at stream anchor open_at before event) (sent_copies_after stream anchor open_at (before ++ wire_event stream anchor event ∷ []) after))

  -- an arrival after a close is no copy
  closed_first : (before : List Event) (event : SentEvent) → is_closed before ≡ true → copies_at stream open_at before (wire_event stream anchor event) ≡ with_epoch (Some anchor) (sent_copies_at stream anchor open_at before event)
  closed_first before (Ticks u) shut = refl
  closed_first before Closes shut = refl
  closed_first before (Arrives path packet) shut =
      let deaf : is_counting before ≡ false = rw shut refl in
      rw deaf (by_anchor (width_in_force stream open_at (last_of (anchors_of stream open_at (before ++ Arrive path (wire_packet stream anchor packet) ∷ []))) before) (anchor_of stream open_at (before ++ Arrive path (wire_packet stream anchor packet) ∷ [])))
    where
      by_anchor : (width : ℕ) (o : Option Anchor) → with_epoch o (copies_under (of_width stream width) (time_of open_at before) false o (wire_packet stream anchor packet)) ≡ []
      by_anchor width None = refl
      by_anchor width (Some a) = refl

  after_close : (before : List Event) (after : List SentEvent) → is_closed before ≡ true → IsRecovered before after
  after_close before [] shut = none_left before
  after_close before (event ∷ after) shut = recovered_next before event after (closed_first before event shut) (after_close (before ++ wire_event stream anchor event ∷ []) after (closed_stays before (wire_event stream anchor event ∷ []) shut))

  -- the anchor's own packet is the first
  pub base_first : (before : List Event) (path : ℕ) (packet : SentPacket) (after : List SentEvent) → anchors_of stream open_at before ≡ [] → is_closed before ≡ false → arrival_count before ≡ 0 → BeginsWith stream anchor (time_of open_at before) (Arrives path packet ∷ after) → anchors_of stream open_at (before ++ Arrive path (wire_packet stream anchor packet) ∷ []) ≡ (length before, anchor) ∷ []
  base_first before path packet after is still none begins =
      let counting : is_counting before ≡ true = rw (still, none) refl in
      anchors_of-push stream open_at before (Arrive path (wire_packet stream anchor packet))
      ∙ rw (is, counting, begins.2) (ap (λ a. (length before, a) ∷ []) (sym begins.1))

  pub base_high : (time : ℤ) (packet : Packet) → anchor ≡ anchor_from stream time packet → (at : ℤ) → 65536 ≤ next_number stream anchor at
  base_high time packet is at = let own = ap (λ (a : Anchor). a.number) is in omega (arith, own)

  -- the anchor stays in force if the received history has one epoch
  base_stays : (before : List Event) (event : Event) (rest : List Event) (place : ℕ) → anchors_of stream open_at before ≡ (place, anchor) ∷ [] → IsOneEpoch stream open_at ((before ++ event ∷ []) ++ rest) → anchors_of stream open_at (before ++ event ∷ []) ≡ (place, anchor) ∷ []
  base_stays before event rest place is one =
      let push : anchors_of stream open_at (before ++ event ∷ []) ≡ (place, anchor) ∷ anchors_at stream open_at (anchors_of stream open_at before) before event = anchors_of-push stream open_at before event ∙ ap (λ l. l ++ anchors_at stream open_at (anchors_of stream open_at before) before event) is in
      push ∙ ap (λ l. (place, anchor) ∷ l) (nil_of_length (anchors_at stream open_at (anchors_of stream open_at before) before event) (omega (arith, ap length push, anchors_grow stream open_at (before ++ event ∷ []) rest, one)))

  -- the marks of the rest, after these events and their marks, if these are the copies of all that was sent
  module _ (copies : List (ℕ × Packet)) where
    abbrev IsMarked : List MarkView → List Event → List SentEvent → Type 0
    IsMarked given before after = marks_from stream open_at (with_epoch (Some anchor) copies) given before (wire_history stream anchor after) ≡ sent_marks_after stream anchor open_at copies given before after

    abbrev IsMarkedAt : List MarkView → List Event → Event → Type 0
    IsMarkedAt given before event = marks_at stream open_at (with_epoch (Some anchor) copies) given before event ≡ marks_under stream open_at (anchor_after anchor before) copies given before event

    marked_none : (given : List MarkView) (before : List Event) → IsMarked given before []
    unfolding marks_from sent_marks_after
    marked_none given before = refl

    marked_next : (given : List MarkView) (before : List Event) (event : SentEvent) (after : List SentEvent) → IsMarkedAt given before (wire_event stream anchor event) → ((more : List MarkView) → IsMarked more (before ++ wire_event stream anchor event ∷ []) after) → IsMarked given before (event ∷ after)
    unfolding marks_from sent_marks_after
    marked_next given before event after first rest =
        ap (λ l. marks_from stream open_at (with_epoch (Some anchor) copies) (given ++ l) (before ++ wire_event stream anchor event ∷ []) (wire_history stream anchor after)) first
        ∙ rest (given ++ marks_under stream open_at (anchor_after anchor before) copies given before (wire_event stream anchor event))

    -- the marks of an event before the anchor, under it, and after a close
    marked_unanchored : (given : List MarkView) (before : List Event) (event : Event) → anchors_of stream open_at before ≡ [] → arrival_count before ≡ 0 → IsMarkedAt given before event
    marked_unanchored given before event is none =
        let no_anchor : anchor_of stream open_at before ≡ None = anchor_is stream open_at before ∙ ap (λ l. anchor_in (last_of l)) is in
        rw (no_anchor, none) (by_event event)
      where
        by_event : (e : Event) → marks_under stream open_at None [] given before e ≡ marks_under stream open_at None copies given before e
        by_event (Arrive path packet) = refl
        by_event (Tick u) = refl
        by_event Close = refl

    marked_anchored : (given : List MarkView) (before : List Event) (event : Event) (place : ℕ) → anchors_of stream open_at before ≡ (place, anchor) ∷ [] → 0 < arrival_count before → IsMarkedAt given before event
    marked_anchored given before event place is some =
        let in_force : anchor_after anchor before ≡ Some anchor = by_count (arrival_count before) some in
        rw (anchor_alone stream open_at before place anchor is, in_force) (ap (λ c. marks_under stream open_at (Some anchor) c given before event) (copies_in-tags anchor.epoch anchor copies ∙ ap (λ b. if b then copies else []) (itself_eq anchor.epoch)))
      where
        by_count : (n : ℕ) → 0 < n → (if nat_eq n 0 then None else Some anchor) ≡ Some anchor
        by_count n some = let more : nat_eq n 0 ≡ false = grind (arith, nat_tests, some) in rw more refl

    marked_closed : (given : List MarkView) (before : List Event) (event : Event) → is_closed before ≡ true → IsMarkedAt given before event
    marked_closed given before (Arrive path packet) shut = refl
    marked_closed given before (Tick u) shut = rw shut refl
    marked_closed given before Close shut = rw shut refl

    marks_after_close : (given : List MarkView) (before : List Event) (after : List SentEvent) → is_closed before ≡ true → IsMarked given before after
    marks_after_close given before [] shut = marked_none given before
    marks_after_close given before (event ∷ after) shut = marked_next given before event after (marked_closed given before (wire_event stream anchor event) shut) (λ more. marks_after_close more (before ++ wire_event stream anchor event ∷ []) after (closed_stays before (wire_event stream anchor event ∷ []) shut))

    marks_after_base : (given : List MarkView) (before : List Event) (after : List SentEvent) (place : ℕ) → anchors_of stream open_at before ≡ (place, anchor) ∷ [] → 0 < arrival_count before → is_closed before ≡ false → IsOneEpoch stream open_at (before ++ wire_history stream anchor after) → IsMarked given before after
    marks_after_base given before [] place is some still one = marked_none given before
    marks_after_base given before (Arrives path packet ∷ after) place is some still one =
        let one' = next_of stream open_at before (Arrive path (wire_packet stream anchor packet)) (wire_history stream anchor after) (IsOneEpoch stream open_at) one in
        let more_yet : 0 < arrival_count (before ++ Arrive path (wire_packet stream anchor packet) ∷ []) = omega (arith, arrival_count-append before (Arrive path (wire_packet stream anchor packet) ∷ []), some) in
        marked_next given before (Arrives path packet) after (marked_anchored given before (Arrive path (wire_packet stream anchor packet)) place is some)
        (λ more. marks_after_base more (before ++ Arrive path (wire_packet stream anchor packet) ∷ []) after place (base_stays before (Arrive path (wire_packet stream anchor packet)) (wire_history stream anchor after) place is one') more_yet (open_next stream open_at before (Arrive path (wire_packet stream anchor packet)) still refl) one')
    marks_after_base given before (Ticks u ∷ after) place is some still one =
        let one' = next_of stream open_at before (Tick u) (wire_history stream anchor after) (IsOneEpoch stream open_at) one in
        let more_yet : 0 < arrival_count (before ++ Tick u ∷ []) = omega (arith, arrival_count-append before (Tick u ∷ []), some) in
        marked_next given before (Ticks u) after (marked_anchored given before (Tick u) place is some)
        (λ more. marks_after_base more (before ++ Tick u ∷ []) after place (base_stays before (Tick u) (wire_history stream anchor after) place is one') more_yet (open_next stream open_at before (Tick u) still refl) one')
    marks_after_base given before (Closes ∷ after) place is some still one = marked_next given before Closes after (marked_anchored given before Close place is some) (λ more. marks_after_close more (before ++ Close ∷ []) after (close_shuts stream open_at before))

    marks_before_base : (given : List MarkView) (before : List Event) (after : List SentEvent) → anchors_of stream open_at before ≡ [] → is_closed before ≡ false → arrival_count before ≡ 0 → BeginsWith stream anchor (time_of open_at before) after → IsOneEpoch stream open_at (before ++ wire_history stream anchor after) → IsMarked given before after
    marks_before_base given before [] is still none begins one = marked_none given before
    marks_before_base given before (Arrives path packet ∷ after) is still none begins one =
        let one' = next_of stream open_at before (Arrive path (wire_packet stream anchor packet)) (wire_history stream anchor after) (IsOneEpoch stream open_at) one in
        let some : 0 < arrival_count (before ++ Arrive path (wire_packet stream anchor packet) ∷ []) = omega (arith, arrival_count-append before (Arrive path (wire_packet stream anchor packet) ∷ [])) in
        marked_next given before (Arrives path packet) after (marked_unanchored given before (Arrive path (wire_packet stream anchor packet)) is none)
        (λ more. marks_after_base more (before ++ Arrive path (wire_packet stream anchor packet) ∷ []) after (length before) (base_first before path packet after is still none begins) some (open_next stream open_at before (Arrive path (wire_packet stream anchor packet)) still refl) one')
    marks_before_base given before (Ticks u ∷ after) is still none begins one =
        let one' = next_of stream open_at before (Tick u) (wire_history stream anchor after) (IsOneEpoch stream open_at) one in
        let none_yet : arrival_count (before ++ Tick u ∷ []) ≡ 0 = omega (arith, arrival_count-append before (Tick u ∷ []), none) in
        marked_next given before (Ticks u) after (marked_unanchored given before (Tick u) is none)
        (λ more. marks_before_base more (before ++ Tick u ∷ []) after (anchors_of-push stream open_at before (Tick u) ∙ append-nil _ ∙ is) (open_next stream open_at before (Tick u) still refl) none_yet (subst (λ t. BeginsWith stream anchor t after) (sym (time_of-append open_at before (Tick u ∷ []))) begins) one')
    marks_before_base given before (Closes ∷ after) is still none begins one = marked_next given before Closes after (marked_unanchored given before Close is none) (λ more. marks_after_close more (before ++ Close ∷ []) after (close_shuts stream open_at before))

  -- within a reach at which arrivals count as they were sent, by another clock than `Follow`
  module _ (plain : is_following stream.clock ≡ false) (reach : ℕ) (counts : (next : ℕ) (packet : SentPacket) → 65536 ≤ next → IsNear reach next packet.number → CountsAsSent stream anchor next packet) where
    arrived : (before : List Event) (path : ℕ) (packet : SentPacket) → ((at : ℤ) → 65536 ≤ next_number stream anchor at) → anchor_of stream open_at (before ++ Arrive path (wire_packet stream anchor packet) ∷ []) ≡ Some anchor → IsNear reach (next_number stream anchor (time_of open_at before)) packet.number → copies_at stream open_at before (Arrive path (wire_packet stream anchor packet)) ≡ with_epoch (Some anchor) (sent_copies_at stream anchor open_at before (Arrives path packet))
    arrived before path packet high is near =
        ap (λ width. copies_under_with (of_width stream width) (time_of open_at before) (is_counting before) (anchor_of stream open_at (before ++ Arrive path (wire_packet stream anchor packet) ∷ [])) (wire_packet stream anchor packet)) (width_plain stream open_at plain (last_of (anchors_of stream open_at (before ++ Arrive path (wire_packet stream anchor packet) ∷ []))) before)
        ∙ rw is (ap (with_epoch (Some anchor)) (by_counting (is_counting before)))
      where
        by_counting : (b : Bool) → one_copy (b && is_in_time stream anchor (next_number stream anchor (time_of open_at before)) (wire_packet stream anchor packet)) (extended_number (wire_packet stream anchor packet) (next_number stream anchor (time_of open_at before))) (wire_packet stream anchor packet) ≡ one_copy (b && (int_le (pos (next_number stream anchor (time_of open_at before))) packet.number && int_lt packet.number (pos (next_number stream anchor (time_of open_at before) + stream.window)))) (unsigned_abs packet.number) (wire_packet stream anchor packet)
        by_counting false = refl
        by_counting true = counts (next_number stream anchor (time_of open_at before)) packet (high (time_of open_at before)) near

    -- under the anchor, until another epoch opens
    after_base : (before : List Event) (after : List SentEvent) → ((at : ℤ) → 65536 ≤ next_number stream anchor at) → anchor_of stream open_at before ≡ Some anchor → is_closed before ≡ false → IsWithinReach stream anchor reach (time_of open_at before) after → OpensNoEpoch stream open_at before (wire_history stream anchor after) → IsRecovered before after
    after_base before [] high is still within none = none_left before
    after_base before (Arrives path packet ∷ after) high is still within none =
        let stays = anchor_stays stream open_at before (Arrive path (wire_packet stream anchor packet)) (wire_history stream anchor after) none ∙ is in
        recovered_next before (Arrives path packet) after (arrived before path packet high stays within.0)
        (after_base (before ++ Arrive path (wire_packet stream anchor packet) ∷ []) after high stays (open_next stream open_at before (Arrive path (wire_packet stream anchor packet)) still refl) (subst (λ t. IsWithinReach stream anchor reach t after) (sym (time_of-append open_at before (Arrive path (wire_packet stream anchor packet) ∷ []))) within.1) (none_after stream open_at before (Arrive path (wire_packet stream anchor packet)) (wire_history stream anchor after) none))
    after_base before (Ticks u ∷ after) high is still within none =
        recovered_next before (Ticks u) after refl
        (after_base (before ++ Tick u ∷ []) after high (anchor_stays stream open_at before (Tick u) (wire_history stream anchor after) none ∙ is) (open_next stream open_at before (Tick u) still refl) (subst (λ t. IsWithinReach stream anchor reach t after) (sym (time_of-append open_at before (Tick u ∷ []))) within) (none_after stream open_at before (Tick u) (wire_history stream anchor after) none))
    after_base before (Closes ∷ after) high is still within none = recovered_next before Closes after refl (after_close (before ++ Close ∷ []) after (close_shuts stream open_at before))

    -- up to the anchor, and from there
    before_base : (before : List Event) (after : List SentEvent) → anchors_of stream open_at before ≡ [] → is_closed before ≡ false → arrival_count before ≡ 0 → BeginsWith stream anchor (time_of open_at before) after → IsWithinReach stream anchor reach (time_of open_at before) after → IsOneEpoch stream open_at (before ++ wire_history stream anchor after) → IsRecovered before after
    before_base before [] is still none begins within one = none_left before
    before_base before (Arrives path packet ∷ after) is still none begins within one =
        let one' = next_of stream open_at before (Arrive path (wire_packet stream anchor packet)) (wire_history stream anchor after) (IsOneEpoch stream open_at) one in
        let is' = base_first before path packet after is still none begins in
        let high = base_high (time_of open_at before) (wire_packet stream anchor packet) begins.1 in
        let in_force = anchor_alone stream open_at (before ++ Arrive path (wire_packet stream anchor packet) ∷ []) (length before) anchor is' in
        recovered_next before (Arrives path packet) after (arrived before path packet high in_force within.0)
        (after_base (before ++ Arrive path (wire_packet stream anchor packet) ∷ []) after high in_force (open_next stream open_at before (Arrive path (wire_packet stream anchor packet)) still refl) (subst (λ t. IsWithinReach stream anchor reach t after) (sym (time_of-append open_at before (Arrive path (wire_packet stream anchor packet) ∷ []))) within.1) (omega (arith, one', ap length is')))
    before_base before (Ticks u ∷ after) is still none begins within one =
        let one' = next_of stream open_at before (Tick u) (wire_history stream anchor after) (IsOneEpoch stream open_at) one in
        let time = sym (time_of-append open_at before (Tick u ∷ [])) in
        let none_yet : arrival_count (before ++ Tick u ∷ []) ≡ 0 = omega (arith, arrival_count-append before (Tick u ∷ []), none) in
        recovered_next before (Ticks u) after refl
        (before_base (before ++ Tick u ∷ []) after (anchors_of-push stream open_at before (Tick u) ∙ append-nil _ ∙ is) (open_next stream open_at before (Tick u) still refl) none_yet (subst (λ t. BeginsWith stream anchor t after) time begins) (subst (λ t. IsWithinReach stream anchor reach t after) time within) one')
    before_base before (Closes ∷ after) is still none begins within one = recovered_next before Closes after refl (after_close (before ++ Close ∷ []) after (close_shuts stream open_at before))

    -- so all copies and marks are those that were sent
    copies_within : (sent : List SentEvent) → BeginsWith stream anchor open_at sent → IsWithinReach stream anchor reach open_at sent → IsOneEpoch stream open_at (wire_history stream anchor sent) → copies_of_all stream open_at (wire_history stream anchor sent) ≡ with_epoch (Some anchor) (sent_copies stream anchor open_at sent)
    unfolding copies_of_all
    copies_within sent begins within one = before_base [] sent (no_anchors stream open_at) refl refl begins within one

    marks_within : (sent : List SentEvent) → BeginsWith stream anchor open_at sent → IsWithinReach stream anchor reach open_at sent → IsOneEpoch stream open_at (wire_history stream anchor sent) → marks_of stream open_at (wire_history stream anchor sent) ≡ marks_by_number stream anchor open_at sent
    unfolding marks_of
    marks_within sent begins within one = ap (λ copies. marks_from stream open_at copies [] [] (wire_history stream anchor sent)) (copies_within sent begins within one) ∙ marks_before_base (sent_copies stream anchor open_at sent) [] [] sent (no_anchors stream open_at) refl refl begins one

  pub marks_near : is_following stream.clock ≡ false → (sent : List SentEvent) → BeginsWith stream anchor open_at sent → IsWithinReach stream anchor 32768 open_at sent → IsOneEpoch stream open_at (wire_history stream anchor sent) → marks_of stream open_at (wire_history stream anchor sent) ≡ marks_by_number stream anchor open_at sent
  marks_near plain = marks_within plain 32768 (near_counts stream anchor)

  pub marks_recovered : IsStream stream → is_following stream.clock ≡ false → (sent : List SentEvent) → BeginsWith stream anchor open_at sent → IsWithinReach stream anchor 33554432 open_at sent → IsOneEpoch stream open_at (wire_history stream anchor sent) → marks_of stream open_at (wire_history stream anchor sent) ≡ marks_by_number stream anchor open_at sent
  marks_recovered ok plain = marks_within plain 33554432 (far_counts stream anchor ok.packet_time ok.narrow)

  -- in every epoch, packets under its anchor count with the numbers that they were sent with
  pub epoch_recovered : IsStream stream → is_following stream.clock ≡ false → (before : List Event) (sent : List SentEvent) → anchor_of stream open_at before ≡ Some anchor → is_closed before ≡ false → IsWithinReach stream anchor 33554432 (time_of open_at before) sent → OpensNoEpoch stream open_at before (wire_history stream anchor sent) → copies_of_all stream open_at (before ++ wire_history stream anchor sent) ≡ copies_of_all stream open_at before ++ with_epoch (Some anchor) (sent_copies_after stream anchor open_at before sent)
  unfolding copies_of_all
  epoch_recovered ok plain before sent is still within none =
      at_places-append (copies_at stream open_at) [] before (wire_history stream anchor sent)
      ∙ ap (λ l. at_places (copies_at stream open_at) [] before ++ l) (after_base plain 33554432 (far_counts stream anchor ok.packet_time ok.narrow) before sent (next_high stream open_at before anchor is) is still within none)

  -- the payload of a number whose packets all have one
  sent_payload : (number : ℕ) (payload : List ℕ) (before : List Event) (after : List SentEvent) → HasEqualCopies number payload after → IfSome (first_with number (sent_copies_after stream anchor open_at before after)) (λ packet. packet.payload.items ≡ payload)
  unfolding sent_copies_after
  sent_payload number payload before [] equal = tt
  sent_payload number payload before (Arrives path packet ∷ after) equal =
      subst (λ o. IfSome o (λ packet. packet.payload.items ≡ payload)) (sym (first_with-append number (sent_copies_at stream anchor open_at before (Arrives path packet)) (sent_copies_after stream anchor open_at (before ++ Arrive path (wire_packet stream anchor packet) ∷ []) after)))
      (by_copy (is_counting before) (int_le (pos (next_number stream anchor (time_of open_at before))) packet.number) (int_lt packet.number (pos (next_number stream anchor (time_of open_at before) + stream.window))) refl (first_with number (sent_copies_after stream anchor open_at (before ++ Arrive path (wire_packet stream anchor packet) ∷ []) after)) (sent_payload number payload (before ++ Arrive path (wire_packet stream anchor packet) ∷ []) after equal.1))
    where
      by_number : (b : Bool) → nat_eq (unsigned_abs packet.number) number ≡ b → pos (unsigned_abs packet.number) ≡ packet.number → (o : Option Packet) → IfSome o (λ packet. packet.payload.items ≡ payload) → IfSome (or_else (if b then Some (wire_packet stream anchor packet) else None) o) (λ packet. packet.payload.items ≡ payload)
      by_number true is size o rest = let same : unsigned_abs packet.number ≡ number = grind (arith, nat_tests, is) in equal.0 (sym size ∙ ap pos same)
      by_number false is size o rest = rest

      by_copy : (c l h : Bool) → int_le (pos (next_number stream anchor (time_of open_at before))) packet.number ≡ l → (o : Option Packet) → IfSome o (λ packet. packet.payload.items ≡ payload) → IfSome (or_else (first_with number (if c && (l && h) then (unsigned_abs packet.number, wire_packet stream anchor packet) ∷ [] else [])) o) (λ packet. packet.payload.items ≡ payload)
      by_copy true true true low o rest =
          let above : pos (next_number stream anchor (time_of open_at before)) ≤ℤ packet.number = grind (arith, ints, low) in
          by_number (nat_eq (unsigned_abs packet.number) number) refl (size_is packet.number (omega (arith, ints, above))) o rest
      by_copy true true false low o rest = rest
      by_copy true false h low o rest = rest
      by_copy false l h low o rest = rest
  sent_payload number payload before (Ticks u ∷ after) equal = sent_payload number payload (before ++ Tick u ∷ []) after equal
  sent_payload number payload before (Closes ∷ after) equal = sent_payload number payload (before ++ Close ∷ []) after equal

  pub payload_recovered : IsStream stream → is_following stream.clock ≡ false → (sent : List SentEvent) (number : ℕ) (payload : List ℕ) → BeginsWith stream anchor open_at sent → IsWithinReach stream anchor 33554432 open_at sent → IsOneEpoch stream open_at (wire_history stream anchor sent) → HasEqualCopies number payload sent → IfSome (first_copy stream open_at (wire_history stream anchor sent) number) (λ packet. packet.payload.items ≡ payload)
  unfolding copies_of
  payload_recovered ok plain sent number payload begins within one equal = by_anchor (anchor_of stream open_at (wire_history stream anchor sent))
    where
      all : IfSome (first_with number (sent_copies stream anchor open_at sent)) (λ packet. packet.payload.items ≡ payload)
      all = sent_payload number payload [] sent equal

      by_epoch : (b : Bool) → IfSome (first_with number (if b then sent_copies stream anchor open_at sent else [])) (λ packet. packet.payload.items ≡ payload)
      by_epoch true = all
      by_epoch false = tt

      by_anchor : (o : Option Anchor) → IfSome (first_with number (copies_with o (copies_of_all stream open_at (wire_history stream anchor sent)))) (λ packet. packet.payload.items ≡ payload)
      by_anchor None = tt
      by_anchor (Some a) = rw (copies_within plain 33554432 (far_counts stream anchor ok.packet_time ok.narrow) sent begins within one, copies_in-tags a.epoch anchor (sent_copies stream anchor open_at sent)) (by_epoch (nat_eq anchor.epoch a.epoch))
