use Rattle.std.proofs.Common.{ℕ, ℤ}
use Rattle.rtp_stream.specs.declared.stream_spec.Stream.{Stream}
use Rattle.studio_session.specs.Cursor.{IsReadyFor, IsRunnable, events_left}
use Rattle.studio_session.specs.Report.{HasPulledSome}
use Rattle.studio_session.proofs.finish.finish_stream.Given as goal

-- some marks were returned
abbrev pub invariant-events : goal.invariant-events
invariant-events g l = record {
  ready : IsReadyFor (g.E.EventSource.events l.source) l.cursor;
  stands : (stream : Stream) (number : ℕ) (open_at : ℤ) → IsRunnable stream number open_at (g.E.EventSource.events l.source)
      → HasPulledSome stream number open_at (g.E.EventSource.events l.source) l.fn.cursor → HasPulledSome stream number open_at (g.E.EventSource.events l.source) l.cursor;
}

abbrev pub decreases-events : goal.decreases-events
decreases-events g l = events_left (g.E.EventSource.events l.source) l.cursor
