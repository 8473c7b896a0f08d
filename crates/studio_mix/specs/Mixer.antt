-- The state of a mixer, and what holds after its lanes were fed marks and it has come to a block.
use Rattle.std.specs.Prelude.{◌≡◌, ℕ, ◌+◌, ◌*◌, ◌^◌, ◌≤◌, Bool, false, ℤ, pos, ◌+ℤ◌, ◌≤ℤ◌, List, length, map, slice_get, Option, Some, None, All}
use Rattle.rtp_stream.specs.MarkFacts.{MarkView}
use Rattle.lane_align.specs.Lane.{LaneState, has_space_for, is_next, is_wanting}
use Rattle.gain_mix.specs.Gain.{ins_of}
use Rattle.gain_mix.specs.Mix.{Is24Bits}
use Rattle.gain_mix.specs.Changes.{Changes, rest_at}
use Rattle.mix_packets.specs.declared.out_spec.Output.{Output}
use Rattle.mix_packets.specs.OutSpec.{IsOutput, sample_total}
use Rattle.mix_packets.specs.Block.{block_start}
use Rattle.mix_packets.specs.Packer.{PackerState}
use Rattle.studio_config.specs.Studio.{Studio, channel_total}
use Rattle.studio_mix.specs.Feed.{Feed}
use Rattle.studio_mix.specs.Lanes.{AreFed, IsLaneAt, lane_channels}
use Rattle.studio_mix.specs.Saturated.{AreSaturated}
use Rattle.studio_mix.specs.Last.{AreLast}
use Rattle.studio_io.specs.declared.mixed_block.Missing.{Missing}

-- a mixer as contracts see it; `saturated` has the number of saturated samples of each channel, `inputs` the values of
-- all streams in the last block, and `missing` what was missing in it
pub record MixerState : Type 0 where
  pub lanes : List LaneState
  pub schedule : Changes
  pub packer : PackerState
  pub saturated : List ℕ
  pub inputs : List ℤ
  pub missing : Missing

-- the time at which the mixer's next block begins
abbrev pub next_start_of : MixerState → ℤ
next_start_of mixer = block_start mixer.packer.spec mixer.packer.number

-- the mixer of this studio was fed these marks, returned the blocks before `next`, counted their saturated samples, and
-- keeps what the last one was made of; it keeps the schedule from this block on
pub record HasFeeds (studio : Studio) (mixer : MixerState) (feeds : List Feed) (next : ℕ) : Type 0 where
  pub output : mixer.packer.spec ≡ studio.output
  pub schedule : mixer.schedule ≡ rest_at studio.schedule (block_start studio.output next)
  pub width : ins_of mixer.schedule.first ≡ channel_total studio.streams
  pub number : mixer.packer.number ≡ next
  pub streams : map (λ (feed : Feed). feed.stream) feeds ≡ studio.streams
  pub lanes : AreFed studio.output.start studio.output.frames mixer.lanes feeds (block_start studio.output next)
  pub saturated : AreSaturated studio feeds next mixer.saturated
  pub last : AreLast studio feeds next mixer.inputs mixer.missing

-- whether the test holds for the lane; false if there is no lane
abbrev pub holds_of : (LaneState → Bool) → Option LaneState → Bool
holds_of test None = false
holds_of test (Some lane) = test lane

-- the next block needs more marks of the stream
abbrev pub is_wanted_by : MixerState → ℕ → Bool
is_wanted_by mixer stream = holds_of (λ lane. is_wanting lane (lane.position +ℤ pos lane.block)) (slice_get mixer.lanes stream)

-- the mark may follow those of its stream
abbrev pub is_next_of : MixerState → ℕ → MarkView → Bool
is_next_of mixer stream mark = holds_of (λ lane. is_next lane mark) (slice_get mixer.lanes stream)

-- there is space for the mark, even if the next block needs no more marks of the stream
abbrev pub has_space_of : MixerState → ℕ → MarkView → Bool
has_space_of mixer stream mark = holds_of (λ lane. has_space_for lane mark) (slice_get mixer.lanes stream)

-- what holds for every mixer
pub record IsMixer (mixer : MixerState) (out : Output) (time : ℤ) (one ins outs : List ℤ) : Type 0 where
  pub out_is : out ≡ mixer.packer.spec
  pub out_ok : IsOutput out
  pub time_is : time ≡ block_start out mixer.packer.number
  pub not_late : time ≤ℤ pos (2 ^ 61 + 384)
  pub each_lane : All (IsLaneAt out.frames time) mixer.lanes
  pub some_lanes : 1 ≤ length mixer.lanes
  pub width : ins_of mixer.schedule.first ≡ lane_channels mixer.lanes
  pub height : length mixer.schedule.first ≡ out.channels
  pub one_length : length one ≡ out.frames * 64
  pub ins_length : length ins ≡ out.frames * ins_of mixer.schedule.first
  pub outs_length : length outs ≡ sample_total out
  pub in_24_bits : All Is24Bits ins
  pub counts : length mixer.saturated ≡ out.channels
