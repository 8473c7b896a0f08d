use Rattle.std.proofs.Common.{◌≡◌, ℕ, ◌<◌, List, length}
use Rattle.studio_config.specs.Studio.{Studio}
use Rattle.studio_mix.specs.Feed.{Feed}
use Rattle.studio_session.specs.Cursor.{IsReadyFor, events_left}
use Rattle.studio_session.specs.Play.{IsRunnableBy, Plays}
use Rattle.studio_session.proofs.feed_mixer.pull.Given as goal

-- the mixer was fed the marks of the events so far
abbrev pub invariant-events : goal.invariant-events
invariant-events g l = record {
  ready : IsReadyFor (g.E.EventSource.events l.source) l.cursor;
  stands : (studio : Studio) (feeds : List Feed) (next : ℕ) → IsRunnableBy studio (g.E.EventSource.events l.source) → l.stream < length feeds
      → Plays studio (g.E.EventSource.events l.source) feeds next l.stream l.fn.mixer l.fn.cursor → Plays studio (g.E.EventSource.events l.source) feeds next l.stream l.mixer l.cursor;
  packer : l.mixer.packer ≡ l.fn.mixer.packer;
  streams : length l.mixer.lanes ≡ length l.fn.mixer.lanes;
}

abbrev pub decreases-events : goal.decreases-events
decreases-events g l = events_left (g.E.EventSource.events l.source) l.cursor
