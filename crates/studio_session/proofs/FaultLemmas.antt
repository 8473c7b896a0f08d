-- A list of events with no fault.
use Rattle.std.proofs.Common.{◌≡◌, inl, inr, get_or, ◌<◌, ◌+◌, ◌^◌, pos, int_le, int_lt, ℕ, zero, suc, Bool, true, false, nat_eq, nat_lt, ◌&&◌, if◌then◌else◌, List, [], ◌∷◌, ◌++◌, drop, ℤ, Option, Some, None, slice_get, refl, sym, ap, subst, ◌∙◌, arith}
use Rattle.std.proofs.lemmas.Bool.{cases_lt}
use Rattle.std.proofs.lemmas.Bool.Decides.{nat_tests}
use Rattle.std.proofs.lemmas.Option.{get_or_from_slice_get}
use Rattle.rtp_stream.specs.declared.stream_spec.Stream.{Stream}
use Rattle.rtp_stream.specs.StreamSpecFacts.{IsStream}
use Rattle.rtp_stream.specs.declared.event.Event.{Event}
use Rattle.rtp_stream.specs.History.{is_tick_in_order, is_well_timed_from}
use Rattle.mix_packets.specs.OutSpec.{IsOutput}
use Rattle.studio_config.specs.Studio.{Studio}
use Rattle.studio_session.specs.Play.{HasPathsBy, IsRunnableBy}
use Rattle.studio_session.specs.Event.{TraceEvent, Arrival, Tick, Closing, outline_of}
use Rattle.studio_session.specs.declared.event.EventHeader.{EventHeader}
use Rattle.studio_session.specs.declared.fault.StudioFault.{StudioFault}
use Rattle.studio_session.specs.declared.fault.StudioFault.TheVariants.{Clock, Memory, Path as NoPath, Stream as NoStream}
use Rattle.rtp_stream.specs.declared.reception.Reception.{Reception}
use Rattle.rtp_stream.specs.declared.reception.Reception.TheVariants.{Sent, Bad, WrongType, WrongLength}
use Rattle.studio_session.specs.Fault.{IsRunFault, clock_fault, closed_past, event_fault, or_later, outline_fault, path_fault, closed_at, time_at, session_fault_from, session_fault_of, time_after, time_past, closed_after}
use Rattle.path_merge.specs.Clock.{clock_fault_of}
use Rattle.path_merge.specs.declared.clock.ClockFault.TheVariants.{WentBack, TooFar, Closed}
use Rattle.std.proofs.lemmas.Int.{ints}
use Rattle.rtp_stream.specs.Reception.{reception_of}
use Rattle.studio_session.specs.Session.{Datagram, Other, event_in, stream_history}

pub first_none : (here later : Option StudioFault) → or_later here later ≡ None → here ≡ None
first_none None later e = refl
first_none (Some fault) later e = absurd (let f : Some fault ≡ None = e in cc)

pub later_none : (here later : Option StudioFault) → or_later here later ≡ None → later ≡ None
later_none None later e = e
later_none (Some fault) later e = absurd (let f : Some fault ≡ None = e in cc)

pub in_order : (place : ℕ) (b : Bool) → clock_fault place b ≡ None → b ≡ true
in_order place true e = refl
in_order place false e = absurd (let f : clock_fault place false ≡ None = e in cc)

-- a datagram does not change the time
same_time : (time : ℤ) (closed : Bool) (path : ℕ) (reception : Reception) (history : List Event) → is_well_timed_from time closed history ≡ true
    → is_well_timed_from time closed (event_in (Datagram path reception) ++ history) ≡ true
same_time time closed path (Sent packet) history e = e
same_time time closed path (Bad fault) history e = e
same_time time closed path WrongType history e = e
same_time time closed path WrongLength history e = e

-- if the events have no fault, the clock readings of each stream are in order
pub timed_from : (streams : List Stream) (stream : Stream) (number place : ℕ) (time : ℤ) (closed : Bool) (events : List TraceEvent)
    → session_fault_from streams place time closed events ≡ None → is_well_timed_from time closed (stream_history stream number events) ≡ true
timed_from streams stream number place time closed [] e = refl
timed_from streams stream number place time closed (Tick u ∷ events) e =
    let rest = timed_from streams stream number (suc place) u closed events (later_none (event_fault streams place time closed (Tick u)) _ e) in
    let here = in_order place (is_tick_in_order time closed u) (first_none (event_fault streams place time closed (Tick u)) _ e) in
    ap (λ b. b && is_well_timed_from u closed (stream_history stream number events)) here ∙ rest
timed_from streams stream number place time closed (Closing ∷ events) e = timed_from streams stream number (suc place) time true events e
timed_from streams stream number place time closed (Arrival s path octets ∷ events) e =
    by_test (nat_eq s number) (timed_from streams stream number (suc place) time closed events (later_none (event_fault streams place time closed (Arrival s path octets)) _ e))
  where
    by_test : (b : Bool) → is_well_timed_from time closed (stream_history stream number events) ≡ true
        → is_well_timed_from time closed (event_in (if b then Datagram path (reception_of stream octets) else Other) ++ stream_history stream number events) ≡ true
    by_test true rest = same_time time closed path (reception_of stream octets) (stream_history stream number events) rest
    by_test false rest = rest

on_path : (place path : ℕ) (found : Option Stream) (stream : Stream) → found ≡ Some stream → path_fault place found path ≡ None → path < stream.paths
on_path place path None stream is e = absurd (let f : None ≡ Some stream = is in cc)
on_path place path (Some s) stream is e = subst (λ (x : Stream). path < x.paths) (ap (λ o. said o s) is) (by_test (nat_lt path s.paths) refl e)
  where
    said : Option Stream → Stream → Stream
    said None d = d
    said (Some x) d = x

    by_test : (b : Bool) → nat_lt path s.paths ≡ b → (if b then None else Some (NoPath place)) ≡ None → path < s.paths
    by_test true less e = grind (arith, nat_tests, less)
    by_test false less e = absurd (let f : Some (NoPath place) ≡ None = e in cc)

-- if the events have no fault, each arrival is on a path of its stream
pub paths_from : (streams : List Stream) (stream : Stream) (number place : ℕ) (time : ℤ) (closed : Bool) (events : List TraceEvent)
    → session_fault_from streams place time closed events ≡ None → slice_get streams number ≡ Some stream
    → (i path : ℕ) (octets : List ℕ) → slice_get events i ≡ Some (Arrival number path octets) → path < stream.paths
paths_from streams stream number place time closed [] e is i path octets at = absurd (let f : None ≡ Some (Arrival number path octets) = at in cc)
paths_from streams stream number place time closed (event ∷ events) e is zero path octets at =
    let same : event ≡ Arrival number path octets = here event (Arrival number path octets) at in
    let none : event_fault streams place time closed event ≡ None = first_none (event_fault streams place time closed event) _ e in
    on_path place path (slice_get streams number) stream is (ap (event_fault streams place time closed) (sym same) ∙ none)
  where
    here : (x y : TraceEvent) → Some x ≡ Some y → x ≡ y
    here x y e = cc
paths_from streams stream number place time closed (event ∷ events) e is (suc i) path octets at =
    paths_from streams stream number (suc place) (time_after time event) (closed_after closed event) events (later_none (event_fault streams place time closed event) _ e) is i path octets at

-- the first fault of the events from a place on, if the event at that place has none
pub fault_later : (streams : List Stream) (place : ℕ) (time : ℤ) (closed : Bool) (event : TraceEvent) (events : List TraceEvent) → event_fault streams place time closed event ≡ None
    → session_fault_from streams place time closed (event ∷ events) ≡ session_fault_from streams (suc place) (time_after time event) (closed_after closed event) events
fault_later streams place time closed event events none = ap (λ o. or_later o (session_fault_from streams (suc place) (time_after time event) (closed_after closed event) events)) none

-- the events from a place on begin with the event at that place
drop_here : (events : List TraceEvent) (place : ℕ) (event : TraceEvent) → slice_get events place ≡ Some event → drop place events ≡ event ∷ drop (suc place) events
drop_here [] place event at = absurd (let f : None ≡ Some event = at in cc)
drop_here (e ∷ events) zero event at = ap (λ x. x ∷ events) (here e event at)
  where
    here : (x y : TraceEvent) → Some x ≡ Some y → x ≡ y
    here x y e = cc
drop_here (e ∷ events) (suc place) event at = drop_here events place event at

-- an event with no fault is passed over
pub fault_past : (streams : List Stream) (place : ℕ) (time : ℤ) (closed : Bool) (events : List TraceEvent) (event : TraceEvent) (outline : EventHeader) → slice_get events place ≡ Some event → outline ≡ outline_of event
    → outline_fault streams place time closed outline ≡ None
    → session_fault_from streams place time closed (drop place events) ≡ session_fault_from streams (place + 1) (time_past time outline) (closed_past closed outline) (drop (place + 1) events)
fault_past streams place time closed events event outline at is none =
    ap (session_fault_from streams place time closed) (drop_here events place event at)
    ∙ fault_later streams place time closed event (drop (suc place) events) (ap (outline_fault streams place time closed) (sym is) ∙ none)
    ∙ ap (λ o. session_fault_from streams (suc place) (time_past time o) (closed_past closed o) (drop (suc place) events)) (sym is)
    ∙ ap (λ n. session_fault_from streams n (time_past time outline) (closed_past closed outline) (drop n events)) (let e : suc place ≡ place + 1 = omega arith in e)

-- the first fault of the events from a place on, if the event at that place has a fault
pub fault_here : (streams : List Stream) (place : ℕ) (time : ℤ) (closed : Bool) (event : TraceEvent) (events : List TraceEvent) (fault : StudioFault) → event_fault streams place time closed event ≡ Some fault
    → session_fault_from streams place time closed (event ∷ events) ≡ Some fault
fault_here streams place time closed event events fault is = ap (λ o. or_later o (session_fault_from streams (suc place) (time_after time event) (closed_after closed event) events)) is

-- the fault of an event is the first fault of the events from its place on
pub fault_found : (streams : List Stream) (place : ℕ) (time : ℤ) (closed : Bool) (events : List TraceEvent) (event : TraceEvent) (outline : EventHeader) (fault : StudioFault) → slice_get events place ≡ Some event → outline ≡ outline_of event
    → outline_fault streams place time closed outline ≡ Some fault → session_fault_from streams place time closed (drop place events) ≡ Some fault
fault_found streams place time closed events event outline fault at is found =
    ap (session_fault_from streams place time closed) (drop_here events place event at)
    ∙ fault_here streams place time closed event (drop (suc place) events) fault (ap (outline_fault streams place time closed) (sym is) ∙ found)

-- what holds of the first streams holds of one more
pub holds_more : (P : Stream → Type 0) (streams : List Stream) (n : ℕ) (stream : Stream) → stream ≡ get_or streams n stream → P stream
    → ((i : ℕ) (s : Stream) → i < n → slice_get streams i ≡ Some s → P s)
    → (i : ℕ) (s : Stream) → i < n + 1 → slice_get streams i ≡ Some s → P s
holds_more P streams n stream is p before i s h at = elim (cases_lt i n) [
  | inl below ↦ before i s below at
  | inr past ↦
      let here : i ≡ n = omega (arith, h, past) in
      let same : stream ≡ s = is ∙ ap (λ j. get_or streams j stream) (sym here) ∙ get_or_from_slice_get streams i s stream at in
      subst P same p
]

-- a list of events with no fault is runnable
pub runnable : (studio : Studio) (events : List TraceEvent) → ((i : ℕ) (stream : Stream) → slice_get studio.streams i ≡ Some stream → IsStream stream) → IsOutput studio.output
    → session_fault_of studio events ≡ None → IsRunnableBy studio events
runnable studio events sound output none = record {
  some_frames = output.some_frames;
  each = λ i stream at. record { some_frames = (sound i stream at).some_frames; well_timed = timed_from studio.streams stream i 0 studio.open_at false events none };
}

pub with_paths : (studio : Studio) (events : List TraceEvent) → session_fault_of studio events ≡ None → HasPathsBy studio events
with_paths studio events none = record {
  each = λ i stream at. record { paths = λ place path octets there. paths_from studio.streams stream i 0 studio.open_at false events none at place path octets there };
}

-- no event's fault is an allocation failure
abbrev IsOfEvent : Option StudioFault → Type 0
IsOfEvent None = Unit {0}
IsOfEvent (Some (Clock place)) = Unit {0}
IsOfEvent (Some (NoStream place)) = Unit {0}
IsOfEvent (Some (NoPath place)) = Unit {0}
IsOfEvent (Some (Memory e)) = ⊥

of_clock : (place : ℕ) (b : Bool) → IsOfEvent (clock_fault place b)
of_clock place true = tt
of_clock place false = tt

of_path : (place : ℕ) (found : Option Stream) (path : ℕ) → IsOfEvent (path_fault place found path)
of_path place None path = tt
of_path place (Some stream) path = by_test (nat_lt path stream.paths)
  where
    by_test : (b : Bool) → IsOfEvent (if b then None else Some (NoPath place))
    by_test true = tt
    by_test false = tt

of_first : (here later : Option StudioFault) → IsOfEvent here → IsOfEvent later → IsOfEvent (or_later here later)
of_first None later h l = l
of_first (Some fault) later h l = h

of_event : (streams : List Stream) (place : ℕ) (time : ℤ) (closed : Bool) (event : TraceEvent) → IsOfEvent (event_fault streams place time closed event)
of_event streams place time closed (Arrival s path octets) = of_path place (slice_get streams s) path
of_event streams place time closed (Tick u) = of_clock place (is_tick_in_order time closed u)
of_event streams place time closed Closing = tt

of_events : (streams : List Stream) (place : ℕ) (time : ℤ) (closed : Bool) (events : List TraceEvent) → IsOfEvent (session_fault_from streams place time closed events)
of_events streams place time closed [] = tt
of_events streams place time closed (event ∷ events) =
    of_first (event_fault streams place time closed event) _ (of_event streams place time closed event) (of_events streams (suc place) (time_after time event) (closed_after closed event) events)

-- the fault that was found first is the reason why there is no report
pub run_fault : (studio : Studio) (events : List TraceEvent) (fault : StudioFault) → session_fault_of studio events ≡ Some fault → IsRunFault studio events fault
run_fault studio events (Clock place) e = e
run_fault studio events (NoStream place) e = e
run_fault studio events (NoPath place) e = e
run_fault studio events (Memory a) e = absurd (subst IsOfEvent e (of_events studio.streams 0 studio.open_at false events))

-- events with no fault, and one more event with no fault
fault_more : (streams : List Stream) (place : ℕ) (time : ℤ) (closed : Bool) (events : List TraceEvent) (event : TraceEvent) → session_fault_from streams place time closed events ≡ None
    → ((p : ℕ) → event_fault streams p (time_at time events) (closed_at closed events) event ≡ None) → session_fault_from streams place time closed (events ++ event ∷ []) ≡ None
fault_more streams place time closed [] event none last = fault_later streams place time closed event [] (last place)
fault_more streams place time closed (e ∷ events) event none last =
    let here = first_none (event_fault streams place time closed e) _ none in
    let rest = later_none (event_fault streams place time closed e) _ none in
    fault_later streams place time closed e (events ++ event ∷ []) here
    ∙ fault_more streams (suc place) (time_after time e) (closed_after closed e) events event rest last

pub lawful_more : (studio : Studio) (events : List TraceEvent) (event : TraceEvent) → session_fault_of studio events ≡ None
    → ((p : ℕ) → event_fault studio.streams p (time_at studio.open_at events) (closed_at false events) event ≡ None) → session_fault_of studio (events ++ event ∷ []) ≡ None
lawful_more studio events event none last = fault_more studio.streams 0 studio.open_at false events event none last

pub time_more : (time : ℤ) (events : List TraceEvent) (event : TraceEvent) → time_at time (events ++ event ∷ []) ≡ time_after (time_at time events) event
time_more time [] event = refl
time_more time (e ∷ events) event = time_more (time_after time e) events event

pub closed_more : (closed : Bool) (events : List TraceEvent) (event : TraceEvent) → closed_at closed (events ++ event ∷ []) ≡ closed_after (closed_at closed events) event
closed_more closed [] event = refl
closed_more closed (e ∷ events) event = closed_more (closed_after closed e) events event

-- the clock readings stay in order after one more event with no fault
pub runnable_more : (studio : Studio) (events : List TraceEvent) (event : TraceEvent) → IsRunnableBy studio events → session_fault_of studio (events ++ event ∷ []) ≡ None → IsRunnableBy studio (events ++ event ∷ [])
runnable_more studio events event run none = record {
  some_frames = run.some_frames;
  each = λ i stream at. record { some_frames = (run.each i stream at).some_frames; well_timed = timed_from studio.streams stream i 0 studio.open_at false (events ++ event ∷ []) none };
}

-- a reading that no clock refuses has no fault
pub reading_fault : (streams : List Stream) (time : ℤ) (closed : Bool) (u : ℤ) → clock_fault_of time closed u ≡ None → (p : ℕ) → event_fault streams p time closed (Tick u) ≡ None
reading_fault streams time true u none p = absurd (no_reading time u none)
  where
    no_reading : (time u : ℤ) → clock_fault_of time true u ≡ None → ⊥
    no_reading time u none = by_tests (int_lt u time) (int_lt (pos (2 ^ 60)) u) none
      where
        by_tests : (back far : Bool) → (if back then Some WentBack else if far then Some TooFar else Some Closed) ≡ None → ⊥
        by_tests true far e = (let f : Some WentBack ≡ None = e in cc)
        by_tests false true e = (let f : Some TooFar ≡ None = e in cc)
        by_tests false false e = (let f : Some Closed ≡ None = e in cc)
reading_fault streams time false u none p = ap (clock_fault p) (in_turn (int_lt u time) (int_lt (pos (2 ^ 60)) u) refl refl none)
  where
    in_turn : (back far : Bool) → int_lt u time ≡ back → int_lt (pos (2 ^ 60)) u ≡ far → (if back then Some WentBack else if far then Some TooFar else None) ≡ None → (int_le time u && int_le u (pos (2 ^ 60))) ≡ true
    in_turn true far b f e = absurd (let g : Some WentBack ≡ None = e in cc)
    in_turn false true b f e = absurd (let g : Some TooFar ≡ None = e in cc)
    in_turn false false b f e = grind (arith, ints, nat_tests, b, f)

-- a datagram on a path that its stream has has no fault
pub arrival_fault : (streams : List Stream) (time : ℤ) (closed : Bool) (number path : ℕ) (octets : List ℕ) (stream : Stream) → slice_get streams number ≡ Some stream → path < stream.paths
    → (p : ℕ) → event_fault streams p time closed (Arrival number path octets) ≡ None
arrival_fault streams time closed number path octets stream at less p =
    let test : nat_lt path stream.paths ≡ true = grind (arith, nat_tests, less) in
    ap (λ o. path_fault p o path) at ∙ ap (λ b. if b then None else Some (NoPath p)) test
