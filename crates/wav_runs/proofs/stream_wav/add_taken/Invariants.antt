use Rattle.std.proofs.Common.{ℕ, ℤ, List, Option}
use Rattle.rtp_stream.specs.declared.stream_spec.Stream.{Stream}
use Rattle.studio_session.specs.Event.{TraceEvent}
use Rattle.studio_session.specs.Cursor.{IsRunnable, IsSameCursor, way_left}
use Rattle.wav_runs.specs.StreamTrack.{HasTaken}
use Rattle.wav_runs.specs.declared.stream_track.StreamTrack.{StreamTrack}
use Rattle.wav_runs.proofs.stream_wav.add_taken.Given as goal

-- the samples of the marks so far were added
abbrev pub invariant-marks : goal.invariant-marks
invariant-marks g l = record {
  stands : (stream : Stream) (number : ℕ) (open_at : ℤ) (events : List TraceEvent) (made : Option (List ℕ)) (first : StreamTrack)
      → IsRunnable stream number open_at events → HasTaken stream number open_at events made first l.fn.cursor (g.F.Write.contents l.fn.file) l.fn.track
      → HasTaken stream number open_at events made first l.cursor (g.F.Write.contents l.file) l.track;
  kept : IsSameCursor l.fn.cursor l.cursor;
}

abbrev pub decreases-marks : goal.decreases-marks
decreases-marks g l = way_left l.cursor
