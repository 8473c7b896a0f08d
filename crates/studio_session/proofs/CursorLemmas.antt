-- A stream of a run, event by event.
use Rattle.std.proofs.Common.{◌≡◌, ◌≢◌, ◌<◌, ◌+◌, ℕ, zero, suc, Bool, true, false, nat_eq, if◌then◌else◌, List, [], ◌∷◌, ◌++◌, length, take, drop, ℤ, Option, Some, None, slice_get, refl, sym, ap, subst, ◌∙◌, arith}
use Rattle.std.specs.Option.{option_to_list}
use Rattle.std.proofs.lemmas.Grind.{flat_map-append}
use Rattle.std.proofs.lemmas.List.{drop_all, take_more, append-nil, take-append-drop}
use Rattle.std.proofs.lemmas.Option.{slice_get_within, get_or_from_slice_get}
use Rattle.rtp_stream.specs.declared.stream_spec.Stream.{Stream}
use Rattle.rtp_stream.specs.declared.event.Event.{Event}
use Rattle.rtp_stream.specs.Marks.{marks_of}
use Rattle.rtp_stream.specs.MarkFacts.{MarkView}
use Rattle.path_merge.proofs.LawLemmas.{marks_stay}
use Rattle.path_merge.proofs.JoinLemmas.{alike-refl}
use Rattle.lane_align.proofs.MarkListLemmas.{both_left}
use Rattle.path_merge.specs.Steps.{Drains, is_slot_mark}
use Rattle.path_merge.specs.Goal.{CanReach, Gives, HasGivenAll, MovesTo}
use Rattle.studio_session.proofs.ReadingStepsLemmas.{in_time, next_in_whole, went_on}
use Rattle.path_merge.proofs.HistoryLemmas.{is_well_timed_from-append}
use Rattle.rtp_stream.specs.declared.event.Event.TheVariants.{Tick as StreamTick}
use Rattle.path_merge.specs.MergeState.{MergeState}
use Rattle.path_merge.specs.Merge.{HasHistory}
use Rattle.studio_session.specs.ReadingSteps.{IsOnWay, WentOn, on_way_after}
use Rattle.studio_session.specs.Cursor.{IsRunnable, CursorState, HasPulled, IsOnTheWay, goal_of, next_of}
use Rattle.std.proofs.lemmas.Bool.Decides.{nat_tests}
use Rattle.rtp_stream.specs.History.{is_well_timed}
use Rattle.studio_session.specs.Event.{TraceEvent, Arrival, Tick, Closing, outline_of}
use Rattle.studio_session.specs.declared.event.EventHeader.{EventHeader}
use Rattle.studio_session.specs.declared.event.EventHeader.TheVariants.{Arrive as ArriveOf, Tick as TickOf, Close as CloseOf}
use Rattle.rtp_stream.specs.Reception.{reception_of}
use Rattle.studio_session.specs.Session.{Other, Datagram, step_of, event_in, stream_history}
use Rattle.studio_session.specs.Counts.{AreTallies, HasCounted}
use Rattle.studio_session.proofs.CountsLemmas.{counted_more}

-- a stream's history after one more event
pub history_more : (stream : Stream) (number : ℕ) (events : List TraceEvent) (i : ℕ) (event : TraceEvent) → slice_get events i ≡ Some event
    → stream_history stream number (take (i + 1) events) ≡ stream_history stream number (take i events) ++ event_in (step_of stream number event)
history_more stream number events i event at =
    let one = λ (e : TraceEvent). event_in (step_of stream number e) in
    ap (stream_history stream number) (take_more events i event (slice_get_within events i event at) ∙ ap (λ e. take i events ++ e ∷ []) (get_or_from_slice_get events i event event at))
    ∙ flat_map-append one (take i events) (event ∷ [])
    ∙ ap (λ l. stream_history stream number (take i events) ++ l) (append-nil (one event))

pub event_here : (events : List TraceEvent) (i : ℕ) → i < length events → (event : TraceEvent) × (slice_get events i ≡ Some event)
event_here [] i h = absurd (omega arith)
event_here (event ∷ events) zero h = (event, refl)
event_here (event ∷ events) (suc i) h = event_here events i (omega arith)

pub mark_of_whole : (stream : Stream) (number : ℕ) (open_at : ℤ) (events : List TraceEvent) (i k : ℕ) (m : MarkView) → IsRunnable stream number open_at events
    → m ∷ [] ≡ take 1 (drop k (marks_of stream open_at (stream_history stream number (take i events))))
    → m ∷ [] ≡ take 1 (drop k (marks_of stream open_at (stream_history stream number events)))
mark_of_whole stream number open_at events i k m run is =
    let one = λ (e : TraceEvent). event_in (step_of stream number e) in
    let first = stream_history stream number (take i events) in
    let rest = stream_history stream number (drop i events) in
    let whole : first ++ rest ≡ stream_history stream number events = sym (flat_map-append one (take i events) (drop i events)) ∙ ap (stream_history stream number) (take-append-drop i events) in
    let timed : is_well_timed open_at (first ++ rest) ≡ true = ap (is_well_timed open_at) whole ∙ run.well_timed in
    next_in_whole (marks_of stream open_at first) (marks_of stream open_at (stream_history stream number events)) k m
    (ap (λ l. take (length (marks_of stream open_at first)) (marks_of stream open_at l)) (sym whole) ∙ marks_stay stream open_at run.some_frames first rest timed) is

-- the cursor took one more event
pub pulled_more : (stream : Stream) (number : ℕ) (open_at : ℤ) (events : List TraceEvent) (event : TraceEvent) (k : ℕ) (old new : CursorState)
    → HasPulled stream number open_at events old k → slice_get events old.place ≡ Some event
    → new.spec ≡ old.spec → new.number ≡ old.number → new.place ≡ old.place + 1
    → HasCounted (step_of stream number event) old.tallies new.tallies
    → IsOnWay stream open_at new.merge new.reading (stream_history stream number (take old.place events) ++ event_in (step_of stream number event)) k
    → HasPulled stream number open_at events new k
pulled_more stream number open_at events event k old new pulled at spec same place counts stands = record {
  spec = spec ∙ pulled.spec;
  stream_number = same ∙ pulled.stream_number;
  within = let h : old.place < length events = slice_get_within events old.place event at in omega (arith, h, place);
  counted = subst (λ p. AreTallies stream number (take p events) new.tallies) (sym place) (counted_more stream number events old.place event old.tallies new.tallies at pulled.counted counts);
  stands = subst (λ h. IsOnWay stream open_at new.merge new.reading h k) (sym (ap (λ p. stream_history stream number (take p events)) place ∙ history_more stream number events old.place event at)) stands;
}

-- a merge without a reading that it still has to reach has the history
pub settled : (stream : Stream) (open_at : ℤ) (merge : MergeState) (reading : Option ℤ) (events : List Event) (k : ℕ) → reading ≡ None → IsOnWay stream open_at merge reading events k → HasHistory stream open_at merge events k
settled stream open_at merge None events k e way = way
settled stream open_at merge (Some u) events k e way = absurd (let f : Some u ≡ None = e in cc)

-- a merge can begin to move to a reading that is in order
pub set_out : (stream : Stream) (number : ℕ) (open_at : ℤ) (events : List TraceEvent) (i k : ℕ) (u : ℤ) (merge : MergeState) → IsRunnable stream number open_at events
    → slice_get events i ≡ Some (Tick u) → HasHistory stream open_at merge (stream_history stream number (take i events)) k
    → IsOnWay stream open_at merge (Some u) (stream_history stream number (take i events) ++ StreamTick u ∷ []) k
set_out stream number open_at events i k u merge run at stands =
    let one = λ (e : TraceEvent). event_in (step_of stream number e) in
    let first = stream_history stream number (take i events) in
    let more = stream_history stream number (take (i + 1) events) in
    let rest = stream_history stream number (drop (i + 1) events) in
    let is : more ≡ first ++ StreamTick u ∷ [] = history_more stream number events i (Tick u) at in
    let whole : more ++ rest ≡ stream_history stream number events = sym (flat_map-append one (take (i + 1) events) (drop (i + 1) events)) ∙ ap (stream_history stream number) (take-append-drop (i + 1) events) in
    let timed : is_well_timed open_at ((first ++ StreamTick u ∷ []) ++ rest) ≡ true = ap (λ l. is_well_timed open_at (l ++ rest)) (sym is) ∙ ap (is_well_timed open_at) whole ∙ run.well_timed in
    (first, stands, in_time open_at merge first u stands.time stands.closed (both_left (is_well_timed open_at (first ++ StreamTick u ∷ [])) _ (sym (is_well_timed_from-append open_at false (first ++ StreamTick u ∷ []) rest) ∙ timed)), alike-refl stream open_at (first ++ StreamTick u ∷ []))

way_of : (stream : Stream) (open_at : ℤ) (merge : MergeState) (reading : Option ℤ) (events : List Event) (k : ℕ) → reading ≡ None → HasHistory stream open_at merge events k → IsOnWay stream open_at merge reading events k
way_of stream open_at merge reading events k e stands = subst (λ r. IsOnWay stream open_at merge r events k) (sym e) stands

pub way_settled : (stream : Stream) (open_at : ℤ) (merge : MergeState) (reading : Option ℤ) (events : List Event) (k : ℕ) → reading ≡ None → HasHistory stream open_at merge events k → IsOnWay stream open_at merge reading events k
way_settled = way_of

-- a mark on the way to a reading is the next mark of the events that were taken
pub due_on_way : (stream : Stream) (number : ℕ) (open_at : ℤ) (events : List TraceEvent) (k : ℕ) (x : CursorState) (new : MergeState) (u : ℤ) (mark : Option MarkView) (reading : Option ℤ)
    → HasPulled stream number open_at events x k → reading ≡ on_way_after mark u
    → WentOn stream open_at new u (stream_history stream number (take x.place events)) k mark
    → HasPulled stream number open_at events (record x { merge = new; reading = reading }) (k + length (option_to_list mark))
due_on_way stream number open_at events k x new u mark reading pulled after went = record {
  spec = pulled.spec;
  stream_number = pulled.stream_number;
  within = pulled.within;
  counted = pulled.counted;
  stands = subst (λ r. IsOnWay stream open_at new r (stream_history stream number (take x.place events)) (k + length (option_to_list mark))) (sym after) went.stands;
}

-- a mark that a drain of the merge returned is the next mark of the events that were taken
pub due_left : (stream : Stream) (number : ℕ) (open_at : ℤ) (events : List TraceEvent) (k : ℕ) (x : CursorState) (new : MergeState) (mark : Option MarkView) (reading : Option ℤ)
    → HasPulled stream number open_at events x k → x.reading ≡ None → reading ≡ None
    → ((h : List Event) → HasHistory stream open_at x.merge h k → Drains stream open_at new h k mark)
    → IsOnTheWay stream number open_at events (record x { merge = new; reading = reading }) k mark
due_left stream number open_at events k x new mark reading pulled none none_new drains =
    let h = stream_history stream number (take x.place events) in
    let left = drains h (settled stream open_at x.merge x.reading h k none pulled.stands) in
    record {
      mark = λ m e. sym (ap option_to_list e) ∙ left.given;
      stands = record {
        spec = pulled.spec;
        stream_number = pulled.stream_number;
        within = pulled.within;
        counted = pulled.counted;
        stands = way_settled stream open_at new reading h (k + length (option_to_list mark)) none_new left.stands;
      };
    }

-- the reading that is still to be reached, computed from whether the mark is a slot
still_on_way : (mark : Option MarkView) (u : ℤ) → (if is_slot_mark mark then Some u else None) ≡ on_way_after mark u
still_on_way None u = refl
still_on_way (Some mark) u = refl

-- a merge without a reading that it still has to reach can always move to the end
pub can_settled : (merge : MergeState) (reading : Option ℤ) → reading ≡ None → CanReach merge (goal_of reading)
can_settled merge reading none = subst (λ r. CanReach merge (goal_of r)) (sym none) tt

-- the cursor returned the next mark
pub passed : (stream : Stream) (number : ℕ) (open_at : ℤ) (events : List TraceEvent) (k : ℕ) (x : CursorState) (new : MergeState) (more : Bool) (reading : Option ℤ)
    → IsRunnable stream number open_at events → HasPulled stream number open_at events x k
    → ((h : List Event) (j : ℕ) → HasHistory stream open_at x.merge h j → Gives stream open_at x.merge new h j (goal_of x.reading) (next_of x))
    → MovesTo x.merge new (goal_of x.reading) (next_of x)
    → more ≡ is_slot_mark (next_of x) → reading ≡ (if more then x.reading else None)
    → IsOnTheWay stream number open_at events (record x { merge = new; reading = reading }) k (next_of x)
passed stream number open_at events k x new more reading run pulled gives moves slot is = by_reading x.reading refl
  where
    h : List Event
    h = stream_history stream number (take x.place events)

    neither : (o : Option ℤ) (b : Bool) → o ≡ None → (if b then o else None) ≡ None
    neither o true e = e
    neither o false e = refl

    by_reading : (o : Option ℤ) → x.reading ≡ o → IsOnTheWay stream number open_at events (record x { merge = new; reading = reading }) k (next_of x)
    by_reading None none =
        due_left stream number open_at events k x new (next_of x) reading pulled none (is ∙ neither x.reading more none)
        (λ e at. subst (λ r. Gives stream open_at x.merge new e k (goal_of r) (next_of x)) none (gives e k at))
    by_reading (Some u) some =
        let way : IsOnWay stream open_at x.merge (Some u) h k = subst (λ r. IsOnWay stream open_at x.merge r h k) some pulled.stands in
        let went = went_on stream open_at x.merge new h k u (next_of x) run.some_frames way
        (λ e at. subst (λ r. Gives stream open_at x.merge new e k (goal_of r) (next_of x)) some (gives e k at))
        (subst (λ r. MovesTo x.merge new (goal_of r) (next_of x)) some moves) in
        record {
          mark = went.given;
          stands = due_on_way stream number open_at events k x new u (next_of x) reading pulled (is ∙ ap (λ r. if more then r else None) some ∙ ap (λ b. if b then Some u else None) slot ∙ still_on_way (next_of x) u) went;
        }

-- once a merge has returned all its marks, no mark is left of the events that were taken
pub none_due : (stream : Stream) (number : ℕ) (open_at : ℤ) (events : List TraceEvent) (cursor : CursorState) (k : ℕ) → IsRunnable stream number open_at events
    → HasPulled stream number open_at events cursor k → cursor.reading ≡ None → HasGivenAll cursor.merge
    → [] ≡ take 1 (drop k (marks_of stream open_at (stream_history stream number (take cursor.place events))))
none_due stream number open_at events cursor k run pulled none all =
    let h = stream_history stream number (take cursor.place events) in
    let whole : k ≡ length (marks_of stream open_at h) = all stream open_at h k run.some_frames (settled stream open_at cursor.merge cursor.reading h k none pulled.stands) in
    sym (ap (take 1) (drop_all k (marks_of stream open_at h) (omega (arith, whole))))

-- an event is determined by its header, but for an arrival's octets
abbrev stream_in : EventHeader → ℕ
stream_in (ArriveOf s p) = s
stream_in (TickOf u) = 0
stream_in CloseOf = 0

abbrev path_in : EventHeader → ℕ
path_in (ArriveOf s p) = p
path_in (TickOf u) = 0
path_in CloseOf = 0

abbrev reading_in : EventHeader → ℤ → ℤ
reading_in (ArriveOf s p) d = d
reading_in (TickOf u) d = u
reading_in CloseOf d = d

pub arrival_of : (event : TraceEvent) (s p : ℕ) → ArriveOf s p ≡ outline_of event → (octets : List ℕ) × (event ≡ Arrival s p octets)
arrival_of (Arrival s' p' octets) s p e = (octets, ap (λ n. Arrival n p' octets) (sym (ap stream_in e)) ∙ ap (λ n. Arrival s n octets) (sym (ap path_in e)))
arrival_of (Tick u) s p e = absurd (let f : ArriveOf s p ≡ TickOf u = e in cc)
arrival_of Closing s p e = absurd (let f : ArriveOf s p ≡ CloseOf = e in cc)

pub reading_of : (event : TraceEvent) (u : ℤ) → TickOf u ≡ outline_of event → event ≡ Tick u
reading_of (Arrival s p octets) u e = absurd (let f : TickOf u ≡ ArriveOf s p = e in cc)
reading_of (Tick t) u e = ap Tick (sym (ap (λ o. reading_in o u) e))
reading_of Closing u e = absurd (let f : TickOf u ≡ CloseOf = e in cc)

pub closing_of : (event : TraceEvent) → CloseOf ≡ outline_of event → event ≡ Closing
closing_of (Arrival s p octets) e = absurd (let f : CloseOf ≡ ArriveOf s p = e in cc)
closing_of (Tick u) e = absurd (let f : CloseOf ≡ TickOf u = e in cc)
closing_of Closing e = refl

-- what an arrival is to its own stream
pub own_arrival : (stream : Stream) (number path : ℕ) (octets : List ℕ) → step_of stream number (Arrival number path octets) ≡ Datagram path (reception_of stream octets)
own_arrival stream number path octets = by_test (nat_eq number number) refl
  where
    by_test : (b : Bool) → nat_eq number number ≡ b → (if b then Datagram path (reception_of stream octets) else Other) ≡ Datagram path (reception_of stream octets)
    by_test true e = refl
    by_test false e = absurd (grind (arith, nat_tests))

-- what an arrival is to another stream
pub others_arrival : (stream : Stream) (s number path : ℕ) (octets : List ℕ) → s ≢ number → step_of stream number (Arrival s path octets) ≡ Other
others_arrival stream s number path octets other = by_test (nat_eq s number) refl
  where
    by_test : (b : Bool) → nat_eq s number ≡ b → (if b then Datagram path (reception_of stream octets) else Other) ≡ Other
    by_test true e = absurd (other (grind (arith, nat_tests)))
    by_test false e = refl
