use Rattle.std.proofs.Common.{ℕ, ℤ, List, Option}
use Rattle.rtp_stream.specs.declared.stream_spec.Stream.{Stream}
use Rattle.studio_session.specs.Event.{TraceEvent}
use Rattle.studio_session.specs.Cursor.{IsRunnable, IsSameCursor, way_left}
use Rattle.studio_run.specs.StudioListing.{HasListed}
use Rattle.studio_run.proofs.outputs.listing.write_taken.Given as goal

-- the lines of the marks so far were written
abbrev pub invariant-marks : goal.invariant-marks
invariant-marks g l = record {
  stands : (stream : Stream) (number : ℕ) (open_at : ℤ) (events : List TraceEvent) (written : Option (List ℕ)) (held : List ℕ)
      → IsRunnable stream number open_at events → HasListed stream number open_at events written held l.fn.cursor (g.W.Write.contents l.fn.writer) l.fn.text
      → HasListed stream number open_at events written held l.cursor (g.W.Write.contents l.writer) l.text;
  kept : IsSameCursor l.fn.cursor l.cursor;
}

abbrev pub decreases-marks : goal.decreases-marks
decreases-marks g l = way_left l.cursor
