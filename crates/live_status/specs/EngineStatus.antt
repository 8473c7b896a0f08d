-- The snapshots that are published of an engine.
use Rattle.std.specs.Prelude.{◌≡◌, ◌≤◌, ◌<◌, ℕ, Bool, List, Option, length, replicate, slice_get, IfSome}
use Rattle.rtp_stats.specs.declared.copy_tracker.CopyTracker.{CopyTracker}
use Rattle.studio_engine.specs.Engine.{EngineState}
use Rattle.status_page.specs.Blank.{blank_path}
use Rattle.status_page.specs.declared.snapshot.ChannelState.{ChannelState}
use Rattle.status_page.specs.declared.snapshot.Snapshot.{Snapshot}
use Rattle.status_page.specs.declared.snapshot.StreamState.{StreamState}
use Rattle.live_status.specs.Each.{AreEach}
use Rattle.live_status.specs.Engine.{HasEngineCounts, IsEnginePath}
use Rattle.live_status.specs.Health.{HasHealth, Said}
use Rattle.live_status.specs.Outputs.{blank_output}
use Rattle.live_status.specs.Publisher.{Shows}
use Rattle.live_status.specs.declared.publisher.StatusPublisher.{StatusPublisher}
use Rattle.live_status.specs.declared.stream_status.StreamStatus.{StreamStatus}

-- a stream of a snapshot: its name and latency, and the counts of its merge and of each path by the engine
pub record IsEngineStream (engine : EngineState) (trackers : List CopyTracker) (number : ℕ) (status : StreamStatus) (stream : StreamState) : Type 0 where
  pub name_is : stream.name ≡ status.name
  pub latency_is : stream.latency ≡ status.latency
  pub counts : number < length engine.cursors → HasEngineCounts engine number stream.counts
  pub paths : number < length engine.cursors → AreEach (IsEnginePath engine (slice_get trackers number) number stream.counts) (replicate status.paths blank_path) stream.paths.items

-- a stream that was filled in: its counts and its paths are the engine's, and the rest did not change
pub record FillsEngineStream (engine : EngineState) (tracker : Option CopyTracker) (number : ℕ) (old new : StreamState) : Type 0 where
  pub name_is : new.name ≡ old.name
  pub condition_is : new.condition ≡ old.condition
  pub latency_is : new.latency ≡ old.latency
  pub counts : number < length engine.cursors → HasEngineCounts engine number new.counts
  pub paths : number < length engine.cursors → AreEach (IsEnginePath engine tracker number new.counts) old.paths.items new.paths.items

-- the stream was filled in with the tracker at its place
abbrev pub FillsEngineStreamAt : EngineState → List CopyTracker → ℕ → StreamState → StreamState → Type 0
FillsEngineStreamAt engine trackers number old new = FillsEngineStream engine (slice_get trackers number) number old new

-- the channel has the engine's count of its saturated samples, if there is one
abbrev pub IsEngineOutput : EngineState → ℕ → ChannelState → ChannelState → Type 0
IsEngineOutput engine channel blank output = IfSome (slice_get engine.mixer.saturated channel) (λ count. output.saturated ≡ count)

-- the streams and the output channels of an engine
pub record IsOfEngine (engine : EngineState) (trackers : List CopyTracker) (statuses : List StreamStatus) (channels : ℕ) (snapshot : Snapshot) : Type 0 where
  pub streams : length statuses ≤ 16 → AreEach (IsEngineStream engine trackers) statuses snapshot.streams.items
  pub outputs : AreEach (IsEngineOutput engine) (replicate channels blank_output) snapshot.outputs.items

module _ {E : Type 0} where
  -- a publisher shows a snapshot of an engine, at the engine's time, with the health that its source says
  abbrev pub ShowsEngine : EngineState → List CopyTracker → (Said → Type 0) → Bool → StatusPublisher E → StatusPublisher E → Type 0
  ShowsEngine engine trackers Says has_ended old new = (snapshot : Snapshot) × IsOfEngine engine trackers old.streams.items old.channels snapshot × HasHealth Says snapshot
      × Shows old.watches.items old.streams.items engine.time has_ended snapshot old.page new.page
