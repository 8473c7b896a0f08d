use Rattle.std.proofs.Common.{ℕ, ℤ}
use Rattle.rtp_stream.specs.declared.stream_spec.Stream.{Stream}
use Rattle.studio_session.specs.Cursor.{HasPulled, IsReadyFor, IsRunnable, events_left}
use Rattle.studio_run.specs.StudioListing.{HasListed}
use Rattle.studio_run.proofs.outputs.listing.write_marks.Given as goal

-- the lines of the marks so far were written
abbrev pub invariant-events : goal.invariant-events
invariant-events g l = record {
  ready : IsReadyFor (g.E.EventSource.events l.source) l.cursor;
  stands : (stream : Stream) (number : ℕ) (open_at : ℤ)
      → IsRunnable stream number open_at (g.E.EventSource.events l.source) → HasPulled stream number open_at (g.E.EventSource.events l.source) l.fn.cursor 0
      → HasListed stream number open_at (g.E.EventSource.events l.source) (g.W.Write.contents l.fn.writer) l.fn.text l.cursor (g.W.Write.contents l.writer) l.text;
}

abbrev pub decreases-events : goal.decreases-events
decreases-events g l = events_left (g.E.EventSource.events l.source) l.cursor
