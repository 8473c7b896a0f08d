-- The lanes of a studio's streams, side by side.
use Rattle.std.specs.Prelude.{◌≡◌, ℕ, ◌*◌, ◌^◌, ◌<◌, ◌≤◌, Bool, true, not, ◌||◌, int_lt, ◌<ℤ◌, ℤ, pos, ◌+ℤ◌, List, length, take, drop, sum_by, slice_get, Some, All}
use Rattle.rtp_stream.specs.StreamSpecFacts.{format_of}
use Rattle.lane_align.specs.Cover.{covers}
use Rattle.lane_align.specs.Presence.{presence_from}
use Rattle.lane_align.specs.Lane.{LaneState, HasFeed, cover_at, end_at}
use Rattle.gain_mix.specs.Mix.{Is24Bits}
use Rattle.studio_mix.specs.Feed.{Feed, studio_values}
use Rattle.studio_mix.specs.LaneCapacity.{capacities_of}

-- each lane was fed its stream's marks, and has come to this time
pub record AreFed (from : ℤ) (size : ℕ) (lanes : List LaneState) (feeds : List Feed) (t : ℤ) : Type 0 where
  pub count : length lanes ≡ length feeds
  pub each : (i : ℕ) (lane : LaneState) (feed : Feed) → slice_get lanes i ≡ Some lane → slice_get feeds i ≡ Some feed
      → HasFeed feed.stream from size lane feed.marks t

-- a lane of blocks of this size, at this time
pub record IsLaneAt (size : ℕ) (time : ℤ) (lane : LaneState) : Type 0 where
  pub block : lane.block ≡ size
  pub position : lane.position ≡ time
  pub some_channels : 0 < lane.format.channels
  pub few_channels : lane.format.channels ≤ 64

-- the lane's next block can be read
pub record IsReadyLane (size : ℕ) (lane : LaneState) : Type 0 where
  pub block : lane.block ≡ size
  pub covered : covers (cover_at lane) (lane.position +ℤ pos lane.block) ≡ true
  pub early : lane.position <ℤ pos (2 ^ 62)
  pub some_channels : 0 < lane.format.channels
  pub few_channels : lane.format.channels ≤ 64

-- the lane has not ended, or its end is after this time
abbrev pub reaches_past : ℤ → LaneState → Bool
reaches_past time lane = not lane.ended || int_lt time (end_at lane)

-- the number of channels of all lanes
abbrev pub lane_channels : List LaneState → ℕ
lane_channels lanes = sum_by (λ (lane : LaneState). lane.format.channels) lanes

-- each lane has the presence of its stream in the block from this time on
pub record ArePresent (frames : ℕ) (lanes : List LaneState) (feeds : List Feed) (t : ℤ) : Type 0 where
  pub count : length lanes ≡ length feeds
  pub each : (i : ℕ) (lane : LaneState) (feed : Feed) → slice_get lanes i ≡ Some lane → slice_get feeds i ≡ Some feed
      → lane.present ≡ presence_from (format_of feed.stream) feed.marks t frames

-- a block was read from every lane; in each frame the values of all lanes are next to one another, lane after lane
pub record AreRead (old new : List LaneState) (ins : List ℤ) (frames width : ℕ) : Type 0 where
  pub values : (from : ℤ) (feeds : List Feed) (t : ℤ) → AreFed from frames old feeds t
      → (f : ℕ) → f < frames → take width (drop (f * width) ins) ≡ studio_values feeds (t +ℤ pos f)
  pub stands : (from : ℤ) (feeds : List Feed) (t : ℤ) → AreFed from frames old feeds t → AreFed from frames new feeds (t +ℤ pos frames)
  pub moved : (time : ℤ) → All (IsLaneAt frames time) old → All (IsLaneAt frames (time +ℤ pos frames)) new
  pub channels : lane_channels new ≡ lane_channels old
  pub capacities : capacities_of new ≡ capacities_of old
  pub in_24_bits : All Is24Bits ins
  pub present : (from : ℤ) (feeds : List Feed) (t : ℤ) → AreFed from frames old feeds t → ArePresent frames new feeds t
