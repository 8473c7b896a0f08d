-- An engine after one more event, and after one more datagram.
use Rattle.std.proofs.Common.{◌≡◌, ◌<◌, ◌+◌, ℕ, zero, suc, Bool, true, false, not, nat_lt, ◌^◌, get_or, List, [], ◌∷◌, ◌++◌, length, ℤ, pos, ◌+ℤ◌, ◌≤ℤ◌, ◌<ℤ◌, if◌then◌else◌, Option, Some, None, IfSome, slice_get, refl, sym, ap, subst, ◌∙◌, arith}
use Rattle.std.specs.Ordering.{int_eq}
use Rattle.std.proofs.lemmas.Bool.{false≢true}
use Rattle.std.proofs.lemmas.Bool.Decides.{nat_tests}
use Rattle.std.proofs.lemmas.Int.{ints}
use Rattle.std.proofs.lemmas.List.{length_push, length-map}
use Rattle.std.proofs.lemmas.Option.{slice_get_within, slice_get-get_or}
use Rattle.rtp_stream.specs.declared.stream_spec.Stream.{Stream}
use Rattle.studio_config.specs.Studio.{IsStudio, Studio}
use Rattle.studio_mix.specs.Feed.{unfed}
use Rattle.studio_mix.specs.Mixer.{MixerState, HasFeeds}
use Rattle.studio_mix.specs.LaneCapacity.{capacities_of}
use Rattle.studio_session.specs.Event.{TraceEvent, Arrival, Tick}
use Rattle.studio_session.specs.Fault.{closed_after, closed_at, event_fault, session_fault_of, time_after}
use Rattle.studio_session.specs.Cursor.{CursorState, HasPulled}
use Rattle.studio_session.specs.PushedEvents.{AreHanded, HaveTaken}
use Rattle.studio_session.specs.Play.{AreNew, HasPlayed, IsRunnableBy, SessionState}
use Rattle.studio_session.specs.Run.{HasGivenBlocks}
use Rattle.studio_session.proofs.FaultLemmas.{arrival_fault, closed_more, lawful_more, runnable_more, time_more}
use Rattle.studio_session.proofs.HandedLemmas.{blocks_handed, given_handed}
use Rattle.studio_session.proofs.NewLemmas.{played_none}
use Rattle.studio_session.proofs.ReportLemmas.{pulled_of}
use Rattle.studio_engine.specs.Cursors.{CursorsState}
use Rattle.studio_engine.specs.Engine.{AreIdle, EngineState, HaveCome, IsEngine, arrive_fault_of, session_of, stream_fault_of}
use Rattle.studio_engine.specs.declared.fault.ArriveFault.{ArriveFault}
use Rattle.studio_engine.specs.declared.fault.ArriveFault.TheVariants.{Unfinished, Stream as NoStream, Path as NoPath, Full}
use Rattle.studio_engine.specs.Give.{GivesBlock, HasNoBlock}
use Rattle.studio_engine.specs.Near.{HasCapacities, IsAwaited}
use Rattle.studio_engine.specs.Session.{Gives, HasGivenReady, HasSession, turned}

-- a new engine has the session of no events
pub session_new : (studio : Studio) (mixer : MixerState) (made : CursorsState) (time : ℤ) → IsRunnableBy studio [] → HasFeeds studio mixer (unfed studio.streams) 0 → HasCapacities studio mixer
    → AreNew studio.streams studio.open_at made.cursors (length studio.streams) → made.count ≡ 0 → time ≡ studio.open_at
    → HasSession studio (record { mixer = mixer; cursors = made.cursors; time = time; turning = false; closed = false; settled = false; count = made.count }) [] []
session_new studio mixer made time run fed sized new none is = record {
  lawful = refl;
  runnable = run;
  time = is;
  closed = refl;
  count = none;
  capacities = sized;
  given = record {
    played = played_none studio [] mixer made.cursors fed new;
    first = record {
      ready = λ n h. let below : n < 0 = grind (arith, nat_tests, h) in absurd (omega (arith, below));
      each = λ n datagram at. let below : n < 0 = slice_get_within [] n datagram at in absurd (omega (arith, below));
    };
  };
  settled = λ e. absurd (false≢true e);
}

-- a new engine is an engine
pub engine_new : (studio : Studio) (mixer : MixerState) (made : CursorsState) (time : ℤ) → IsStudio studio → HasFeeds studio mixer (unfed studio.streams) 0
    → AreNew studio.streams studio.open_at made.cursors (length studio.streams) → made.count ≡ 0 → time ≡ studio.open_at
    → IsEngine (record { mixer = mixer; cursors = made.cursors; time = time; turning = false; closed = false; settled = false; count = made.count })
engine_new studio mixer made time sound fed new none is =
    let low = sound.open_low in
    let high = sound.open_high in
    let long : length (unfed studio.streams) ≡ length studio.streams = length-map studio.streams (λ stream. record { stream = stream; marks = [] }) in
    record {
      streams = new.count_is ∙ sym long ∙ sym fed.lanes.count;
      taken = λ i d within.
          let count = new.count_is in
          let here : i < length studio.streams = omega (arith, within, count) in
          let some = stream_at studio.streams i here in
          (new.each i (get_or made.cursors i d) some.0 (slice_get-get_or made.cursors i d within) some.1).0 ∙ sym none;
      idle = λ e. new.settled;
      not_early = omega (arith, ints, is, low);
      not_late = omega (arith, ints, is, high);
      few = omega (arith, ints, is, low, none);
      few_open = λ e. omega (arith, ints, is, low, none);
      open_yet = λ e. refl;
      shut = λ e. absurd (false≢true e);
    }
  where
    stream_at : (streams : List Stream) (i : ℕ) → i < length streams → (stream : Stream) × (slice_get streams i ≡ Some stream)
    stream_at [] i h = absurd (omega (arith, h))
    stream_at (stream ∷ streams) zero h = (stream, refl)
    stream_at (stream ∷ streams) (suc i) h = stream_at streams i (omega (arith, h))

-- an engine stays an engine when its mixer and cursors change and no event comes
pub engine_kept : (old : EngineState) (mixer : MixerState) (kept : CursorsState) (turning settled : Bool) → kept.count ≡ old.count → IsEngine old
    → length mixer.lanes ≡ length old.mixer.lanes → length kept.cursors ≡ length old.cursors → HaveCome kept.count kept.cursors
    → (turning ≡ false → AreIdle kept.cursors) → (turning ≡ true → old.closed ≡ false) → (settled ≡ true → old.closed ≡ true)
    → IsEngine (record { mixer = mixer; cursors = kept.cursors; time = old.time; turning = turning; closed = old.closed; settled = settled; count = kept.count })
engine_kept old mixer kept turning settled same is lanes count come idle open_yet shut = record {
  streams = count ∙ is.streams ∙ sym lanes;
  taken = come;
  idle = idle;
  not_early = is.not_early;
  not_late = is.not_late;
  few = subst (λ n. pos n ≤ℤ ((pos (2 ^ 62) +ℤ old.time) +ℤ pos 1)) (sym same) is.few;
  few_open = λ e. subst (λ n. pos n ≤ℤ (pos (2 ^ 62) +ℤ old.time)) (sym same) (is.few_open e);
  open_yet = open_yet;
  shut = shut;
}

-- every cursor took the events that the engine took
pub taken_of : (events : List TraceEvent) (cursors : List CursorState) (count : ℕ) → count ≡ length events → HaveCome count cursors → HaveTaken events cursors
taken_of events cursors count is come = subst (λ n. HaveCome n cursors) is come

-- an engine after one more event
pub session_handed : (studio : Studio) (old : EngineState) (kept : List CursorState) (event : TraceEvent) (time : ℤ) (turning closed : Bool) (count : ℕ) (events : List TraceEvent) (datagrams : List (List ℕ))
    → AreHanded event old.cursors kept (length old.cursors) → HaveCome old.count old.cursors → count ≡ old.count + 1
    → time ≡ time_after old.time event → closed ≡ closed_after old.closed event
    → ((p : ℕ) → event_fault studio.streams p old.time old.closed event ≡ None)
    → HasSession studio old events datagrams
    → HasSession studio (record { mixer = old.mixer; cursors = kept; time = time; turning = turning; closed = closed; settled = old.settled; count = count }) (events ++ event ∷ []) datagrams
session_handed studio old kept event time turning closed count events datagrams handed come count_is time_is closed_is fine s =
    let lawful : session_fault_of studio (events ++ event ∷ []) ≡ None = lawful_more studio events event s.lawful
    (λ p. ap (λ t. event_fault studio.streams p t (closed_at false events) event) (sym s.time) ∙ ap (λ b. event_fault studio.streams p old.time b event) (sym s.closed) ∙ fine p) in
    let run : IsRunnableBy studio (events ++ event ∷ []) = runnable_more studio events event s.runnable lawful in
    let taken = taken_of events old.cursors old.count s.count come in
    let played = s.given.played in
    let first = blocks_handed studio events (event ∷ []) datagrams run s.given.first in
    record {
      lawful = lawful;
      runnable = run;
      time = time_is ∙ ap (λ t. time_after t event) s.time ∙ sym (time_more studio.open_at events event);
      closed = closed_is ∙ ap (λ b. closed_after b event) s.closed ∙ sym (closed_more false events event);
      count = count_is ∙ ap (λ n. n + 1) s.count ∙ sym (length_push events event);
      capacities = s.capacities;
      given = record {
        played = record {
          feeds = played.feeds;
          fed = played.fed;
          count = handed.length_is ∙ played.count;
          given = given_handed studio events event old.mixer old.cursors kept (length datagrams) run taken handed played;
        };
        first = first;
      };
      settled = s.settled;
    }

-- each stream's cursor returned some marks of the events
pub pulled_at : (studio : Studio) (engine : EngineState) (events : List TraceEvent) (datagrams : List (List ℕ)) (i : ℕ) (spec : Stream) → HasSession studio engine events datagrams → slice_get studio.streams i ≡ Some spec
    → (cursor : CursorState) × (k : ℕ) × (slice_get engine.cursors i ≡ Some cursor) × HasPulled spec i studio.open_at events cursor k
pulled_at studio engine events datagrams i spec s at =
    let pulled = pulled_of studio events (session_of engine) (length datagrams) s.given.played in
    let within : i < length studio.streams = slice_get_within studio.streams i spec at in
    let count = pulled.count in
    let found = cursor_at engine.cursors i (omega (arith, within, count)) in
    let some = pulled.each i spec found.0 at found.1 in
    (found.0, some.given, found.1, some.pulled)
  where
    cursor_at : (cursors : List CursorState) (i : ℕ) → i < length cursors → (cursor : CursorState) × (slice_get cursors i ≡ Some cursor)
    cursor_at [] i h = absurd (omega (arith, h))
    cursor_at (cursor ∷ cursors) zero h = (cursor, refl)
    cursor_at (cursor ∷ cursors) (suc i) h = cursor_at cursors i (omega (arith, h))

-- an arrival that is taken has no fault
pub taken_arrival : (studio : Studio) (engine : EngineState) (events : List TraceEvent) (datagrams : List (List ℕ)) (stream path : ℕ) (octets : List ℕ) → HasSession studio engine events datagrams
    → arrive_fault_of engine stream path ≡ None → (p : ℕ) → event_fault studio.streams p engine.time engine.closed (Arrival stream path octets) ≡ None
taken_arrival studio engine events datagrams stream path octets s fine =
    let rest = not_turning engine.turning (stream_fault_of engine.count path (slice_get engine.cursors stream)) fine in
    let found = on_path (slice_get engine.cursors stream) refl rest in
    let pulled = pulled_of studio events (session_of engine) (length datagrams) s.given.played in
    let within : stream < length engine.cursors = slice_get_within engine.cursors stream found.0 found.1 in
    let count = pulled.count in
    let spec = stream_at studio.streams stream (omega (arith, within, count)) in
    let is : found.0.spec ≡ spec.0 = (pulled.each stream spec.0 found.0 spec.1 found.1).pulled.spec in
    arrival_fault studio.streams engine.time engine.closed stream path octets spec.0 spec.1 (subst (λ (x : Stream). path < x.paths) is found.2)
  where
    not_turning : (b : Bool) (o : Option ArriveFault) → (if b then Some Unfinished else o) ≡ None → o ≡ None
    not_turning true o e = absurd (let f : Some Unfinished ≡ None = e in cc)
    not_turning false o e = e

    less : (paths : ℕ) (b : Bool) → nat_lt path paths ≡ b → (if b then (if nat_lt engine.count (2 ^ 62) then None else Some Full) else Some NoPath) ≡ None → path < paths
    less paths true is e = grind (arith, nat_tests, is)
    less paths false is e = absurd (let f : Some NoPath ≡ None = e in cc)

    on_path : (o : Option CursorState) → slice_get engine.cursors stream ≡ o → stream_fault_of engine.count path o ≡ None
        → (cursor : CursorState) × (slice_get engine.cursors stream ≡ Some cursor) × (path < cursor.spec.paths)
    on_path None at e = absurd (let f : Some NoStream ≡ None = e in cc)
    on_path (Some cursor) at e = (cursor, at, less cursor.spec.paths (nat_lt path cursor.spec.paths) refl e)

    stream_at : (streams : List Stream) (i : ℕ) → i < length streams → (stream : Stream) × (slice_get streams i ≡ Some stream)
    stream_at [] i h = absurd (omega (arith, h))
    stream_at (stream ∷ streams) zero h = (stream, refl)
    stream_at (stream ∷ streams) (suc i) h = stream_at streams i (omega (arith, h))

-- lanes with the same capacity as before have the capacity that their streams need
still_sized : (studio : Studio) (old new : MixerState) → capacities_of new.lanes ≡ capacities_of old.lanes → HasCapacities studio old → HasCapacities studio new
still_sized studio old new same sized = record { capacities = same ∙ sized.capacities }

-- an engine after the same events, with other datagrams
session_same : (studio : Studio) (old new : EngineState) (events : List TraceEvent) (datagrams more : List (List ℕ)) → new.time ≡ old.time → new.closed ≡ old.closed → new.count ≡ old.count → new.settled ≡ false
    → capacities_of new.mixer.lanes ≡ capacities_of old.mixer.lanes
    → HasSession studio old events datagrams → HasGivenBlocks studio events (session_of new) more → HasSession studio new events more
session_same studio old new events datagrams more time closed count open_yet capacities s given = record {
  lawful = s.lawful;
  runnable = s.runnable;
  time = time ∙ s.time;
  closed = closed ∙ s.closed;
  count = count ∙ s.count;
  capacities = still_sized studio old.mixer new.mixer capacities s.capacities;
  given = given;
  settled = λ e. absurd (false≢true (sym open_yet ∙ e));
}

-- an engine after one more datagram
pub session_gives : (studio : Studio) (old new : EngineState) (events : List TraceEvent) (datagrams : List (List ℕ)) (before after : List ℕ) (len : ℕ)
    → new.time ≡ old.time → new.closed ≡ old.closed → new.count ≡ old.count → new.settled ≡ false → capacities_of new.mixer.lanes ≡ capacities_of old.mixer.lanes
    → HasSession studio old events datagrams → GivesBlock studio events (session_of new) datagrams before after len → Gives studio new events datagrams before after len
session_gives studio old new events datagrams before after len time closed count open_yet capacities s block = record {
  datagram = block.datagram;
  len_is = block.len_is;
  written = block.written;
  stands = session_same studio old new events datagrams (datagrams ++ block.datagram ∷ []) time closed count open_yet capacities s block.given;
}

-- an engine that returned the datagrams of all blocks that are ready
pub session_stops : (studio : Studio) (old new : EngineState) (events : List TraceEvent) (datagrams : List (List ℕ))
    → new.time ≡ old.time → new.closed ≡ old.closed → new.count ≡ old.count → new.settled ≡ false → capacities_of new.mixer.lanes ≡ capacities_of old.mixer.lanes
    → HasSession studio old events datagrams → HasNoBlock studio events (session_of new) datagrams → HasGivenReady studio new events datagrams
session_stops studio old new events datagrams time closed count open_yet capacities s stop = record {
  stands = session_same studio old new events datagrams datagrams time closed count open_yet capacities s stop.given;
  none = stop.none;
}

-- an engine that was closed and returned all datagrams
pub session_settles : (studio : Studio) (old new : EngineState) (events : List TraceEvent) (datagrams : List (List ℕ))
    → new.time ≡ old.time → new.closed ≡ old.closed → new.count ≡ old.count → old.closed ≡ true → capacities_of new.mixer.lanes ≡ capacities_of old.mixer.lanes
    → HasSession studio old events datagrams → HasNoBlock studio events (session_of new) datagrams → HasSession studio new events datagrams
session_settles studio old new events datagrams time closed count shut capacities s stop = record {
  lawful = s.lawful;
  runnable = s.runnable;
  time = time ∙ s.time;
  closed = closed ∙ s.closed;
  count = count ∙ s.count;
  capacities = still_sized studio old.mixer new.mixer capacities s.capacities;
  given = stop.given;
  settled = λ e. stop.left (sym s.closed ∙ shut);
}

-- keeping more marks changes nothing about the datagrams that were returned
pub stops_kept : (studio : Studio) (events : List TraceEvent) (old new : SessionState) (datagrams : List (List ℕ))
    → HasNoBlock studio events old datagrams → HasPlayed studio events new (length datagrams) → closed_at false events ≡ false → HasNoBlock studio events new datagrams
stops_kept studio events old new datagrams stop played open_yet = record {
  given = record { played = played; first = stop.given.first };
  none = stop.none;
  left = λ shut. absurd (false≢true (sym open_yet ∙ shut));
}

-- if no block is ready before a close, all marks so far are kept, and no stream has a reading that it still has to
-- reach
pub becomes_idle : (studio : Studio) (old : EngineState) (mixer : MixerState) (cursors : List CursorState) (events : List TraceEvent) (datagrams : List (List ℕ)) (there : Bool) → HasSession studio old events datagrams
    → old.closed ≡ false → capacities_of mixer.lanes ≡ capacities_of old.mixer.lanes → HaveCome old.count cursors → HasNoBlock studio events (record { mixer = mixer; cursors = cursors }) datagrams
    → ((next : ℕ) → IsAwaited studio events next → HasCapacities studio mixer → HaveTaken events cursors → HasPlayed studio events (record { mixer = mixer; cursors = cursors }) next → there ≡ true)
    → not there ≡ false
becomes_idle studio old mixer cursors events datagrams there s open_yet capacities come stop keeps =
    ap not (keeps (length datagrams) (record { runs = s.runnable; open_yet = sym s.closed ∙ open_yet; unready = stop.none }) (still_sized studio old.mixer mixer capacities s.capacities)
    (taken_of events cursors old.count s.count come) stop.given.played)

-- a turn that does not change the time adds no event
pub turned_same : (old new : ℤ) (events : List TraceEvent) → new ≡ old → events ≡ turned old new events
turned_same old new events e = by_test (int_eq old new) (grind (arith, ints, nat_tests, e))
  where
    by_test : (b : Bool) → b ≡ true → events ≡ (if b then events else events ++ Tick new ∷ [])
    by_test true e = refl
    by_test false e = absurd (false≢true e)

-- a turn to a later time adds a reading
pub turned_on : (old new : ℤ) (events : List TraceEvent) → old <ℤ new → events ++ Tick new ∷ [] ≡ turned old new events
turned_on old new events h = by_test (int_eq old new) (grind (arith, ints, nat_tests, h))
  where
    by_test : (b : Bool) → b ≡ false → events ++ Tick new ∷ [] ≡ (if b then events else events ++ Tick new ∷ [])
    by_test true e = absurd (false≢true (sym e))
    by_test false e = refl

-- a datagram of a turn after a reading
pub gives_after : (first mid after : EngineState) (before between out : List ℕ) (o : Option ℕ) (now : ℤ) → between ≡ before → first.time <ℤ after.time → after.time ≡ now
    → ((studio : Studio) (events : List TraceEvent) (datagrams : List (List ℕ)) → HasSession studio first events datagrams → HasSession studio mid (events ++ Tick now ∷ []) datagrams)
    → IfSome o (λ len. (studio : Studio) (events : List TraceEvent) (datagrams : List (List ℕ)) → HasSession studio mid events datagrams → Gives studio after events datagrams between out len)
    → IfSome o (λ len. (studio : Studio) (events : List TraceEvent) (datagrams : List (List ℕ)) → HasSession studio first events datagrams → Gives studio after (turned first.time after.time events) datagrams before out len)
gives_after first mid after before between out None now same later time sets gives = tt
gives_after first mid after before between out (Some len) now same later time sets gives = λ studio events datagrams s.
    subst (λ l. Gives studio after l datagrams before out len) (turned_on first.time after.time events later)
    (subst (λ t. Gives studio after (events ++ Tick t ∷ []) datagrams before out len) (sym time)
    (subst (λ b. Gives studio after (events ++ Tick now ∷ []) datagrams b out len) same (gives studio (events ++ Tick now ∷ []) datagrams (sets studio events datagrams s))))

-- a turn after a reading, which returned no datagram
pub ready_after : (first mid after : EngineState) (now : ℤ) → first.time <ℤ after.time → after.time ≡ now
    → ((studio : Studio) (events : List TraceEvent) (datagrams : List (List ℕ)) → HasSession studio first events datagrams → HasSession studio mid (events ++ Tick now ∷ []) datagrams)
    → ((studio : Studio) (events : List TraceEvent) (datagrams : List (List ℕ)) → HasSession studio mid events datagrams → HasGivenReady studio after events datagrams)
    → (studio : Studio) (events : List TraceEvent) (datagrams : List (List ℕ)) → HasSession studio first events datagrams → HasGivenReady studio after (turned first.time after.time events) datagrams
ready_after first mid after now later time sets ready studio events datagrams s =
    subst (λ l. HasGivenReady studio after l datagrams) (turned_on first.time after.time events later)
    (subst (λ t. HasGivenReady studio after (events ++ Tick t ∷ []) datagrams) (sym time) (ready studio (events ++ Tick now ∷ []) datagrams (sets studio events datagrams s)))
