-- The counts of a report.
use Rattle.std.proofs.Common.{◌≡◌, ℕ, ◌≤◌, ◌<◌, List, length, Some, slice_get, arith}
use Rattle.std.proofs.lemmas.Option.{slice_get_within}
use Rattle.rtp_stream.specs.declared.stream_spec.Stream.{Stream}
use Rattle.studio_config.specs.Studio.{Studio}
use Rattle.studio_session.specs.Event.{TraceEvent}
use Rattle.studio_engine.specs.Engine.{EngineState}
use Rattle.studio_engine.specs.Session.{HasSession}
use Rattle.studio_engine.proofs.EngineLemmas.{pulled_at}

-- two values that were read from the same place are equal
pub one : {X : Type 0} (x y : X) → Some x ≡ Some y → x ≡ y
one x y e = cc

-- an engine has each stream of its studio
pub has-stream : (studio : Studio) (engine : EngineState) (events : List TraceEvent) (datagrams : List (List ℕ)) (stream : ℕ) (spec : Stream) → HasSession studio engine events datagrams
    → slice_get studio.streams stream ≡ Some spec → length engine.cursors ≤ stream → ⊥
has-stream studio engine events datagrams stream spec s at past =
    let found = pulled_at studio engine events datagrams stream spec s at in
    let within : stream < length engine.cursors = slice_get_within engine.cursors stream found.0 found.2 in
    omega (arith, within, past)
