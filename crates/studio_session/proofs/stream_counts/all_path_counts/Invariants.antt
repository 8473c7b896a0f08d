use Rattle.std.proofs.Common.{◌≡◌, ℕ, List}
use Rattle.rtp_stream.specs.declared.stream_spec.Stream.{Stream}
use Rattle.studio_session.specs.Event.{TraceEvent}
use Rattle.rtp_stream.specs.PathCounts.{tallies_of}
use Rattle.studio_session.specs.Counts.{AreTallies, path_tallies}
use Rattle.studio_session.proofs.stream_counts.all_path_counts.Given as goal

-- the counts of the paths so far were copied
abbrev pub invariant-loop-place : goal.invariant-loop-place
invariant-loop-place l = (stream : Stream) (number : ℕ) (events : List TraceEvent) → AreTallies stream number events l.cursor.tallies
    → tallies_of l.counts.items ≡ path_tallies stream number events l.place
