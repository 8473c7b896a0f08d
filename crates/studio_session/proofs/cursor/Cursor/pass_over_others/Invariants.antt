use Rattle.std.proofs.Common.{◌≡◌, ◌≤◌, ℕ, ℤ}
use Rattle.rtp_stream.specs.declared.stream_spec.Stream.{Stream}
use Rattle.studio_session.specs.Cursor.{HasPulled, IsReadyFor, events_left}
use Rattle.studio_session.proofs.cursor.Cursor.pass_over_others.Given as goal

-- only events of other streams were passed over
abbrev pub invariant-others : goal.invariant-others
invariant-others g l = record {
  ready : IsReadyFor (g.E.EventSource.events l.source) l.self;
  reading : l.self.reading ≡ l.fn.self.reading;
  onward : l.fn.self.place ≤ l.self.place;
  stands : (stream : Stream) (number : ℕ) (open_at : ℤ) (k : ℕ)
      → HasPulled stream number open_at (g.E.EventSource.events l.source) l.fn.self k → HasPulled stream number open_at (g.E.EventSource.events l.source) l.self k;
}

abbrev pub decreases-others : goal.decreases-others
decreases-others g l = events_left (g.E.EventSource.events l.source) l.self
