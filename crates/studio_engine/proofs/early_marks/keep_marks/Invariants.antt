use Rattle.std.proofs.Common.{◌≡◌, ℕ, ◌<◌, List, length, None}
use Rattle.studio_config.specs.Studio.{Studio}
use Rattle.studio_mix.specs.Feed.{Feed}
use Rattle.studio_mix.specs.LaneCapacity.{capacities_of}
use Rattle.studio_session.specs.Event.{TraceEvent}
use Rattle.studio_session.specs.Cursor.{IsSameCursor, way_left}
use Rattle.studio_session.specs.Play.{IsRunnableBy, Plays}
use Rattle.studio_engine.proofs.early_marks.keep_marks.Given as goal

-- the marks so far were kept
abbrev pub invariant-marks : goal.invariant-marks
invariant-marks l = record {
  stands : (studio : Studio) (events : List TraceEvent) (feeds : List Feed) (next : ℕ) → IsRunnableBy studio events → l.stream < length feeds
      → Plays studio events feeds next l.stream l.fn.mixer l.fn.cursor → Plays studio events feeds next l.stream l.mixer l.cursor;
  kept : IsSameCursor l.fn.cursor l.cursor;
  stays_idle : l.fn.cursor.reading ≡ None → l.cursor.reading ≡ None;
  packer : l.mixer.packer ≡ l.fn.mixer.packer;
  streams : length l.mixer.lanes ≡ length l.fn.mixer.lanes;
  capacities : capacities_of l.mixer.lanes ≡ capacities_of l.fn.mixer.lanes;
}

abbrev pub decreases-marks : goal.decreases-marks
decreases-marks l = way_left l.cursor
