-- The first fault of events, and the number of those before it.
use Rattle.std.proofs.Common.{◌≡◌, ◌⊎◌, inl, inr, ◌<◌, ◌≤◌, ◌+◌, ◌^◌, ℕ, zero, suc, Bool, true, false, not, ◌&&◌, nat_lt, int_le, int_lt, List, [], ◌∷◌, ◌++◌, length, min, ℤ, pos, ◌+ℤ◌, ◌≤ℤ◌, ◌<ℤ◌, ◌-◌, Option, Some, None, is_some, slice_get, if◌then◌else◌, refl, sym, ap, subst, ◌∙◌, arith}
use Rattle.std.proofs.lemmas.Bool.{false≢true}
use Rattle.std.proofs.lemmas.Bool.Decides.{nat_tests}
use Rattle.std.proofs.lemmas.Int.{ints}
use Rattle.std.proofs.lemmas.List.{length-append}
use Rattle.std.proofs.lemmas.Option.{slice_get_within}
use Rattle.std.specs.Ordering.{int_eq}
use Rattle.rtp_stream.specs.declared.stream_spec.Stream.{Stream}
use Rattle.rtp_stream.specs.History.{is_tick_in_order}
use Rattle.path_merge.specs.Clock.{clock_fault_of}
use Rattle.path_merge.specs.declared.clock.ClockFault.TheVariants.{WentBack, TooFar, Closed}
use Rattle.studio_config.specs.Studio.{Studio}
use Rattle.studio_mix.specs.Changed.{with_changes}
use Rattle.studio_session.specs.Cursor.{CursorState}
use Rattle.studio_session.specs.Event.{TraceEvent, Arrival, Tick}
use Rattle.studio_session.specs.Fault.{closed_after, closed_at, clock_fault, event_fault, or_later, path_fault, session_fault_from, session_fault_of, time_after, time_at}
use Rattle.studio_session.specs.declared.fault.StudioFault.{StudioFault}
use Rattle.studio_session.specs.declared.fault.StudioFault.TheVariants.{Clock, Stream as NoStream, Path as NoPath}
use Rattle.studio_session.proofs.FaultLemmas.{fault_here, fault_later, first_none, later_none, time_more}
use Rattle.studio_engine.specs.Engine.{EngineState, arrive_fault_of, stream_fault_of, stream_spec_of}
use Rattle.studio_engine.specs.Session.{HasSession, turned}
use Rattle.studio_engine.specs.declared.fault.ArriveFault.{ArriveFault}
use Rattle.studio_engine.specs.declared.fault.ArriveFault.TheVariants as arrive
use Rattle.studio_engine.proofs.EngineLemmas.{pulled_at}
use Rattle.pcap_replay.specs.declared.fault.ReplayFault.{ReplayFault}
use Rattle.pcap_replay.specs.declared.fault.ReplayFault.TheVariants.{Memory, Capture, Run as RunOf, Change, Jump, TooManyEvents, Write}
use Rattle.pcap_replay.specs.Events.{AreFirst}
use Rattle.pcap_replay.specs.Reasons.{IsCount, IsFirstFault, IsOfChange, IsOfEvent, IsPathFault, refused_at}
use Rattle.pcap_replay.specs.Replay.{IsRun}

-- events with no fault, and behind them one with a fault
fault_behind : (streams : List Stream) (place : ℕ) (time : ℤ) (closed : Bool) (events : List TraceEvent) (event : TraceEvent) (fault : StudioFault) → session_fault_from streams place time closed events ≡ None
    → event_fault streams (place + length events) (time_at time events) (closed_at closed events) event ≡ Some fault
    → session_fault_from streams place time closed (events ++ event ∷ []) ≡ Some fault
fault_behind streams place time closed [] event fault none is =
    fault_here streams place time closed event [] fault (ap (λ n. event_fault streams n time closed event) (let e : place ≡ place + 0 = omega arith in e) ∙ is)
fault_behind streams place time closed (e ∷ events) event fault none is =
    fault_later streams place time closed e (events ++ event ∷ []) (first_none (event_fault streams place time closed e) _ none)
    ∙ fault_behind streams (suc place) (time_after time e) (closed_after closed e) events event fault (later_none (event_fault streams place time closed e) _ none)
    (ap (λ n. event_fault streams n (time_at (time_after time e) events) (closed_at (closed_after closed e) events) event) (let f : suc place + length events ≡ place + suc (length events) = omega arith in f) ∙ is)

pub first_behind : (studio : Studio) (events : List TraceEvent) (event : TraceEvent) (count : ℕ) (fault : StudioFault) → session_fault_of studio events ≡ None → count ≡ length events
    → event_fault studio.streams count (time_at studio.open_at events) (closed_at false events) event ≡ Some fault
    → session_fault_of studio (events ++ event ∷ []) ≡ Some fault
first_behind studio events event count fault none whole is =
    fault_behind studio.streams 0 studio.open_at false events event fault none
    (ap (λ n. event_fault studio.streams n (time_at studio.open_at events) (closed_at false events) event) (let e : 0 + length events ≡ count = omega (arith, whole) in e) ∙ is)

-- the first fault of events is that of more events
fault_longer : (streams : List Stream) (place : ℕ) (time : ℤ) (closed : Bool) (events more : List TraceEvent) (fault : StudioFault) → session_fault_from streams place time closed events ≡ Some fault
    → session_fault_from streams place time closed (events ++ more) ≡ Some fault
fault_longer streams place time closed [] more fault is = absurd (let f : None ≡ Some fault = is in cc)
fault_longer streams place time closed (e ∷ events) more fault is =
    by_here (event_fault streams place time closed e) (fault_longer streams (suc place) (time_after time e) (closed_after closed e) events more fault) is
  where
    by_here : (here : Option StudioFault) → (session_fault_from streams (suc place) (time_after time e) (closed_after closed e) events ≡ Some fault → session_fault_from streams (suc place) (time_after time e) (closed_after closed e) (events ++ more) ≡ Some fault)
        → or_later here (session_fault_from streams (suc place) (time_after time e) (closed_after closed e) events) ≡ Some fault
        → or_later here (session_fault_from streams (suc place) (time_after time e) (closed_after closed e) (events ++ more)) ≡ Some fault
    by_here (Some f) rest is = is
    by_here None rest is = rest is

pub first_fault_longer : (studio : Studio) (events longer : List TraceEvent) (fault : ReplayFault) → AreFirst events longer → IsFirstFault studio events fault → IsFirstFault studio longer fault
first_fault_longer studio events longer Memory first is = tt
first_fault_longer studio events longer (Capture fault) first is = tt
first_fault_longer studio events longer (RunOf fault) first is =
    subst (λ l. session_fault_of studio l ≡ Some fault) first.whole (fault_longer studio.streams 0 studio.open_at false events first.later fault is)
first_fault_longer studio events longer (Change number kind) first is = tt
first_fault_longer studio events longer (Jump place seconds) first is = tt
first_fault_longer studio events longer TooManyEvents first is =
    let more = length-append events first.later in
    let same = ap length first.whole in
    omega (arith, is, more, same)
first_fault_longer studio events longer Write first is = tt

-- changes of gains change no fault of an event
pub first_fault_changed : (studio : Studio) (changes : List (ℤ × List ℤ)) (events : List TraceEvent) (fault : ReplayFault) → IsFirstFault (with_changes studio changes) events fault → IsFirstFault studio events fault
first_fault_changed studio changes events Memory is = tt
first_fault_changed studio changes events (Capture fault) is = tt
first_fault_changed studio changes events (RunOf fault) is = is
first_fault_changed studio changes events (Change number kind) is = tt
first_fault_changed studio changes events (Jump place seconds) is = tt
first_fault_changed studio changes events TooManyEvents is = is
first_fault_changed studio changes events Write is = tt

-- the fault of a change is that of no event
pub change_run : (fault : ReplayFault) → IsOfChange fault → IsRun fault
change_run Memory kind = absurd kind
change_run (Capture fault) kind = absurd kind
change_run (RunOf fault) kind = absurd kind
change_run (Change number why) kind = tt
change_run (Jump place seconds) kind = absurd kind
change_run TooManyEvents kind = absurd kind
change_run Write kind = absurd kind

pub change_reason : (studio : Studio) (events : List TraceEvent) (fault : ReplayFault) → IsOfChange fault → IsFirstFault studio events fault
change_reason studio events Memory kind = absurd kind
change_reason studio events (Capture fault) kind = absurd kind
change_reason studio events (RunOf fault) kind = absurd kind
change_reason studio events (Change number why) kind = tt
change_reason studio events (Jump place seconds) kind = absurd kind
change_reason studio events TooManyEvents kind = absurd kind
change_reason studio events Write kind = absurd kind

-- the specification of a stream by an engine is the studio's
pub spec_at : (studio : Studio) (engine : EngineState) (events : List TraceEvent) (datagrams : List (List ℕ)) (stream : ℕ) → length studio.streams ≡ length engine.cursors → HasSession studio engine events datagrams
    → stream_spec_of (slice_get engine.cursors stream) ≡ slice_get studio.streams stream
spec_at studio engine events datagrams stream same s = by_stream (slice_get studio.streams stream) (slice_get engine.cursors stream) refl refl
  where
    past : {X : Type 0} (xs : List X) (i : ℕ) → slice_get xs i ≡ None → length xs ≤ i
    past [] i at = omega arith
    past (x ∷ xs) zero at = absurd (let f : Some x ≡ None = at in cc)
    past (x ∷ xs) (suc i) at = let rest = past xs i at in omega (arith, rest)

    by_stream : (o : Option Stream) (c : Option CursorState) → slice_get studio.streams stream ≡ o → slice_get engine.cursors stream ≡ c → stream_spec_of (slice_get engine.cursors stream) ≡ slice_get studio.streams stream
    by_stream (Some spec) c at cursor =
        let pulled = pulled_at studio engine events datagrams stream spec s at in
        ap stream_spec_of pulled.2 ∙ ap Some pulled.3.spec ∙ sym at
    by_stream None None at cursor = ap stream_spec_of cursor ∙ sym at
    by_stream None (Some c) at cursor =
        let behind = past studio.streams stream at in
        let within = slice_get_within engine.cursors stream c cursor in
        absurd (omega (arith, behind, within, same))

-- the fault of a datagram that an engine refuses after `count` events, by the specification of its stream
abbrev IsRefusal : ℕ → ℕ → ℕ → Option Stream → ArriveFault → Type 0
IsRefusal place count path stream arrive.Unfinished = ⊥
IsRefusal place count path stream arrive.Stream = path_fault place stream path ≡ Some (NoStream place)
IsRefusal place count path stream arrive.Path = path_fault place stream path ≡ Some (NoPath place)
IsRefusal place count path stream arrive.Full = 2 ^ 62 ≤ count

refusal_is : (place count path : ℕ) (c : Option CursorState) (fault : ArriveFault) → stream_fault_of count path c ≡ Some fault → IsRefusal place count path (stream_spec_of c) fault
refusal_is place count path None fault is = subst (IsRefusal place count path None) (same is) refl
  where
    same : Some arrive.Stream ≡ Some fault → arrive.Stream ≡ fault
    same e = cc
refusal_is place count path (Some cursor) fault is = by_path (nat_lt path cursor.spec.paths) refl is
  where
    same : (x y : ArriveFault) → Some x ≡ Some y → x ≡ y
    same x y e = cc

    by_count : (b : Bool) → nat_lt count (2 ^ 62) ≡ b → (if b then None else Some arrive.Full) ≡ Some fault → IsRefusal place count path (Some cursor.spec) fault
    by_count true less e = absurd (let f : None ≡ Some fault = e in cc)
    by_count false less e = subst (IsRefusal place count path (Some cursor.spec)) (same arrive.Full fault e) (let many : 2 ^ 62 ≤ count = grind (arith, nat_tests, less) in many)

    by_path : (b : Bool) → nat_lt path cursor.spec.paths ≡ b → (if b then (if nat_lt count (2 ^ 62) then None else Some arrive.Full) else Some arrive.Path) ≡ Some fault → IsRefusal place count path (Some cursor.spec) fault
    by_path true less e = by_count (nat_lt count (2 ^ 62)) refl e
    by_path false less e = subst (IsRefusal place count path (Some cursor.spec)) (same arrive.Path fault e) (ap (λ b. if b then None else Some (NoPath place)) less)

-- an engine that is idle refuses a datagram for its stream, its path or the number of events
idle_refusal : (engine : EngineState) (stream path : ℕ) (fault : Option ArriveFault) → engine.turning ≡ false → arrive_fault_of engine stream path ≡ fault → stream_fault_of engine.count path (slice_get engine.cursors stream) ≡ fault
idle_refusal engine stream path fault idle is = ap (λ b. if b then Some arrive.Unfinished else stream_fault_of engine.count path (slice_get engine.cursors stream)) (sym idle) ∙ is

-- the fault of a datagram that the engine refused is the first, or there are too many events
pub refused_first : (studio : Studio) (engine : EngineState) (events : List TraceEvent) (datagrams : List (List ℕ)) (stream path count : ℕ) (octets : List ℕ) (fault : ArriveFault) → length studio.streams ≡ length engine.cursors
    → HasSession studio engine events datagrams → engine.turning ≡ false → count ≡ length events → arrive_fault_of engine stream path ≡ Some fault
    → IsFirstFault studio (events ++ Arrival stream path octets ∷ []) (refused_at count fault)
refused_first studio engine events datagrams stream path count octets fault same s idle whole is =
    by_fault fault (subst (λ o. IsRefusal count engine.count path o fault) (spec_at studio engine events datagrams stream same s)
    (refusal_is count engine.count path (slice_get engine.cursors stream) fault (idle_refusal engine stream path (Some fault) idle is)))
  where
    by_fault : (fault : ArriveFault) → IsRefusal count engine.count path (slice_get studio.streams stream) fault → IsFirstFault studio (events ++ Arrival stream path octets ∷ []) (refused_at count fault)
    by_fault arrive.Unfinished e = absurd e
    by_fault arrive.Stream e = first_behind studio events (Arrival stream path octets) count (NoStream count) s.lawful whole e
    by_fault arrive.Path e = first_behind studio events (Arrival stream path octets) count (NoPath count) s.lawful whole e
    by_fault arrive.Full e =
        let long : length (events ++ Arrival stream path octets ∷ []) ≡ length events + 1 = length-append events (Arrival stream path octets ∷ []) in
        let taken = s.count in
        omega (arith, e, long, taken)

pub refused_run : (place : ℕ) (fault : ArriveFault) → IsRun (refused_at place fault)
refused_run place arrive.Unfinished = tt
refused_run place arrive.Stream = tt
refused_run place arrive.Path = tt
refused_run place arrive.Full = tt

pub refused_event : (place : ℕ) (fault : ArriveFault) → IsOfEvent (refused_at place fault)
refused_event place arrive.Unfinished = tt
refused_event place arrive.Stream = tt
refused_event place arrive.Path = tt
refused_event place arrive.Full = tt

-- so is the fault of a path that no stream has
pub path_first : (studio : Studio) (engine : EngineState) (events : List TraceEvent) (datagrams : List (List ℕ)) (stream path count : ℕ) (octets : List ℕ) (fault : ReplayFault) → length studio.streams ≡ length engine.cursors
    → HasSession studio engine events datagrams → count ≡ length events → IsPathFault count path (stream_spec_of (slice_get engine.cursors stream)) fault
    → IsFirstFault studio (events ++ Arrival stream path octets ∷ []) fault
path_first studio engine events datagrams stream path count octets fault same s whole found =
    subst (IsFirstFault studio (events ++ Arrival stream path octets ∷ [])) (sym found.1)
    (first_behind studio events (Arrival stream path octets) count found.0 s.lawful whole (ap (λ o. path_fault count o path) (sym (spec_at studio engine events datagrams stream same s)) ∙ found.2))

pub path_run : (place path : ℕ) (stream : Option Stream) (fault : ReplayFault) → IsPathFault place path stream fault → IsRun fault
path_run place path stream fault found = subst IsRun (sym found.1) tt

pub path_event : (place path : ℕ) (stream : Option Stream) (fault : ReplayFault) → IsPathFault place path stream fault → IsOfEvent fault
path_event place path stream fault found = subst IsOfEvent (sym found.1) tt

-- a path past the last of every stream is a fault of the stream
pub path_past : (place path : ℕ) (stream : Stream) → stream.paths ≤ 4 → 4 ≤ path → path_fault place (Some stream) path ≡ Some (NoPath place)
path_past place path stream few past = ap (λ b. if b then None else Some (NoPath place)) (let test : nat_lt path stream.paths ≡ false = grind (arith, nat_tests, few, past) in test)

-- a reading that is refused is out of order
pub refused_order : (time u : ℤ) → is_some (clock_fault_of time false u) ≡ true → is_tick_in_order time false u ≡ false
refused_order time u is = by_tests (int_lt u time) (int_lt (pos (2 ^ 60)) u) refl refl is
  where
    by_tests : (back far : Bool) → int_lt u time ≡ back → int_lt (pos (2 ^ 60)) u ≡ far → is_some (if back then Some WentBack else if far then Some TooFar else None) ≡ true → (int_le time u && int_le u (pos (2 ^ 60))) ≡ false
    by_tests true far b f e = grind (arith, ints, nat_tests, b)
    by_tests false true b f e = grind (arith, ints, nat_tests, f)
    by_tests false false b f e = absurd (false≢true e)

pub far_order : (time u : ℤ) → pos (2 ^ 63) ≤ℤ u → is_tick_in_order time false u ≡ false
far_order time u far = grind (arith, ints, nat_tests, far)

-- the fault of a reading out of order is the first
pub clock_first : (studio : Studio) (events : List TraceEvent) (u : ℤ) (count : ℕ) → session_fault_of studio events ≡ None → closed_at false events ≡ false → count ≡ length events
    → time_at studio.open_at events ≤ℤ pos (2 ^ 60) → is_tick_in_order (time_at studio.open_at events) false u ≡ false
    → session_fault_of studio (turned (time_at studio.open_at events) u events) ≡ Some (Clock count)
clock_first studio events u count none open_yet whole early order = by_test (int_eq (time_at studio.open_at events) u) refl
  where
    late : int_eq (time_at studio.open_at events) u ≡ true → ⊥
    late e =
        let here : (int_le (time_at studio.open_at events) u && int_le u (pos (2 ^ 60))) ≡ true = grind (arith, ints, nat_tests, e, early) in
        false≢true (sym order ∙ here)

    by_test : (b : Bool) → int_eq (time_at studio.open_at events) u ≡ b → session_fault_of studio (if b then events else events ++ Tick u ∷ []) ≡ Some (Clock count)
    by_test true e = absurd (late e)
    by_test false e = first_behind studio events (Tick u) count (Clock count) none whole
        (ap (λ b. clock_fault count (is_tick_in_order (time_at studio.open_at events) b u)) open_yet ∙ ap (clock_fault count) order)

length_more : (events : List TraceEvent) (event : TraceEvent) → length (events ++ event ∷ []) ≡ length events + 1
length_more events event = length-append events (event ∷ [])

-- the number of events after an arrival
pub count_arrival : (open_at : ℤ) (events : List TraceEvent) (stream path count next : ℕ) (octets : List ℕ) → next ≡ min (count + 1) (2 ^ 64 - 1) → count < 2 ^ 62 → IsCount open_at events count → IsCount open_at (events ++ Arrival stream path octets ∷ []) next
count_arrival open_at events stream path count next octets sum few is =
    let more : next ≡ count + 1 = grind (arith, sum, few) in
    let time : time_at open_at (events ++ Arrival stream path octets ∷ []) ≡ time_at open_at events = time_more open_at events (Arrival stream path octets) in
    let early = is.not_early in
    record {
      whole = more ∙ ap (λ n. n + 1) is.whole ∙ sym (length_more events (Arrival stream path octets));
      few = subst (λ t. pos next ≤ℤ (pos (2 ^ 62) +ℤ t)) (sym time) (omega (arith, ints, more, few, early));
      not_early = subst (λ t. pos 0 ≤ℤ t) (sym time) early;
    }

-- an arrival that an engine takes comes before the 2^62nd event
pub arrival_few : (engine : EngineState) (stream path : ℕ) → arrive_fault_of engine stream path ≡ None → engine.count < 2 ^ 62
arrival_few engine stream path fine = by_turn engine.turning fine
  where
    by_count : (b : Bool) → nat_lt engine.count (2 ^ 62) ≡ b → (if b then None else Some arrive.Full) ≡ None → engine.count < 2 ^ 62
    by_count true less e = grind (arith, nat_tests, less)
    by_count false less e = absurd (let f : Some arrive.Full ≡ None = e in cc)

    by_path : (b : Bool) → (if b then (if nat_lt engine.count (2 ^ 62) then None else Some arrive.Full) else Some arrive.Path) ≡ None → engine.count < 2 ^ 62
    by_path true e = by_count (nat_lt engine.count (2 ^ 62)) refl e
    by_path false e = absurd (let f : Some arrive.Path ≡ None = e in cc)

    by_cursor : (c : Option CursorState) → stream_fault_of engine.count path c ≡ None → engine.count < 2 ^ 62
    by_cursor None e = absurd (let f : Some arrive.Stream ≡ None = e in cc)
    by_cursor (Some cursor) e = by_path (nat_lt path cursor.spec.paths) e

    by_turn : (b : Bool) → (if b then Some arrive.Unfinished else stream_fault_of engine.count path (slice_get engine.cursors stream)) ≡ None → engine.count < 2 ^ 62
    by_turn true e = absurd (let f : Some arrive.Unfinished ≡ None = e in cc)
    by_turn false e = by_cursor (slice_get engine.cursors stream) e

-- the number of events after a later reading
pub count_turned : (open_at : ℤ) (events : List TraceEvent) (before now : ℤ) (count next : ℕ) → (before ≡ now → ⊥) → next ≡ min (count + 1) (2 ^ 64 - 1)
    → before ≡ time_at open_at events → before ≤ℤ now → now ≤ℤ pos (2 ^ 60) → IsCount open_at events count → IsCount open_at (turned before now events) next
count_turned open_at events before now count next goes sum was later early is = by_test (int_eq before now) refl
  where
    by_test : (b : Bool) → int_eq before now ≡ b → IsCount open_at (if b then events else events ++ Tick now ∷ []) next
    by_test true e = absurd (goes (grind (arith, ints, nat_tests, e)))
    by_test false e =
        let few = is.few in
        let not_early = is.not_early in
        let small : count < 2 ^ 64 - 1 = omega (arith, ints, was, later, early, few) in
        let more : next ≡ count + 1 = grind (arith, sum, small) in
        let time : time_at open_at (events ++ Tick now ∷ []) ≡ now = time_more open_at events (Tick now) in
        let step : before <ℤ now = grind (arith, ints, nat_tests, e, later) in
        record {
          whole = more ∙ ap (λ n. n + 1) is.whole ∙ sym (length_more events (Tick now));
          few = subst (λ t. pos next ≤ℤ (pos (2 ^ 62) +ℤ t)) (sym time) (omega (arith, ints, more, step, was, few));
          not_early = subst (λ t. pos 0 ≤ℤ t) (sym time) (omega (arith, ints, step, was, not_early));
        }

-- no event was taken yet
pub count_none : (open_at : ℤ) (count : ℕ) → count ≡ 0 → pos 0 ≤ℤ open_at → IsCount open_at [] count
count_none open_at count none early = record { whole = none; few = omega (arith, ints, none, early); not_early = early }

-- a reading that an engine takes is in order
pub taken_order : (before time now : ℤ) (closed : Bool) → before ≡ time → clock_fault_of time closed now ≡ None → (before ≤ℤ now) × (now ≤ℤ pos (2 ^ 60))
taken_order before time now closed same fine = by_tests (int_lt now time) (int_lt (pos (2 ^ 60)) now) refl refl fine
  where
    by_tests : (back far : Bool) → int_lt now time ≡ back → int_lt (pos (2 ^ 60)) now ≡ far → (if back then Some WentBack else if far then Some TooFar else if closed then Some Closed else None) ≡ None → (before ≤ℤ now) × (now ≤ℤ pos (2 ^ 60))
    by_tests true far b f e = absurd (let g : Some WentBack ≡ None = e in cc)
    by_tests false true b f e = absurd (let g : Some TooFar ≡ None = e in cc)
    by_tests false false b f e = (grind (arith, ints, nat_tests, b, same), grind (arith, ints, nat_tests, f))

-- a reading that is no time of an engine is out of order
pub clock_far : (studio : Studio) (events : List TraceEvent) (reading count : ℕ) → session_fault_of studio events ≡ None → closed_at false events ≡ false → count ≡ length events
    → time_at studio.open_at events ≤ℤ pos (2 ^ 60) → 2 ^ 63 ≤ reading → session_fault_of studio (turned (time_at studio.open_at events) (pos reading) events) ≡ Some (Clock count)
clock_far studio events reading count none open_yet whole early far =
    clock_first studio events (pos reading) count none open_yet whole early (far_order (time_at studio.open_at events) (pos reading) (omega (arith, ints, far)))

-- so is a reading that the engine's clock refuses
pub clock_refused : (studio : Studio) (events : List TraceEvent) (time now u : ℤ) (count : ℕ) (some : Bool) → session_fault_of studio events ≡ None → closed_at false events ≡ false → count ≡ length events
    → time ≡ time_at studio.open_at events → now ≡ u → time ≤ℤ pos (2 ^ 60) → some ≡ is_some (clock_fault_of time false now) → some ≡ true
    → session_fault_of studio (turned (time_at studio.open_at events) u events) ≡ Some (Clock count)
clock_refused studio events time now u count some none open_yet whole same is early refused there =
    clock_first studio events u count none open_yet whole (subst (λ t. t ≤ℤ pos (2 ^ 60)) same early)
    (subst (λ t. is_tick_in_order t false u ≡ false) same (subst (λ n. is_tick_in_order time false n ≡ false) is (refused_order time now (sym refused ∙ there))))
