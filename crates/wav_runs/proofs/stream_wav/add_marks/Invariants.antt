use Rattle.std.proofs.Common.{ℕ, ℤ}
use Rattle.rtp_stream.specs.declared.stream_spec.Stream.{Stream}
use Rattle.studio_session.specs.Cursor.{HasPulled, IsReadyFor, IsRunnable, events_left}
use Rattle.wav_runs.specs.StreamTrack.{HasTaken}
use Rattle.wav_runs.proofs.stream_wav.add_marks.Given as goal

-- the samples of the marks so far were added
abbrev pub invariant-events : goal.invariant-events
invariant-events g l = record {
  ready : IsReadyFor (g.E.EventSource.events l.source) l.cursor;
  stands : (stream : Stream) (number : ℕ) (open_at : ℤ)
      → IsRunnable stream number open_at (g.E.EventSource.events l.source) → HasPulled stream number open_at (g.E.EventSource.events l.source) l.fn.cursor 0
      → HasTaken stream number open_at (g.E.EventSource.events l.source) (g.F.Write.contents l.fn.file) l.fn.track l.cursor (g.F.Write.contents l.file) l.track;
}

abbrev pub decreases-events : goal.decreases-events
decreases-events g l = events_left (g.E.EventSource.events l.source) l.cursor
