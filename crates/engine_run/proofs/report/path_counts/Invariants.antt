use Rattle.std.proofs.Common.{◌≡◌, ℕ, List, Some, slice_get}
use Rattle.rtp_stream.specs.declared.stream_spec.Stream.{Stream}
use Rattle.rtp_stream.specs.PathCounts.{tallies_of}
use Rattle.studio_config.specs.Studio.{Studio}
use Rattle.studio_session.specs.Counts.{path_tallies}
use Rattle.studio_session.specs.Event.{TraceEvent}
use Rattle.studio_engine.specs.Session.{HasSession}
use Rattle.engine_run.proofs.report.path_counts.Given as goal

-- the counts of the paths so far were copied
abbrev pub invariant-loop-number : goal.invariant-loop-number
invariant-loop-number l = (studio : Studio) (events : List TraceEvent) (datagrams : List (List ℕ)) (spec : Stream) → HasSession studio l.engine events datagrams → slice_get studio.streams l.stream ≡ Some spec
    → tallies_of l.counts.items ≡ path_tallies spec l.stream events l.number
