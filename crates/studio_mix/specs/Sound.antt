-- The sounds of the streams, and blocks of two studios at one media time.
use Rattle.std.specs.Prelude.{◌≡◌, ℕ, suc, ◌<◌, true, ℤ, pos, ◌+ℤ◌, List, [], ◌∷◌, ◌++◌, map, flat_map, take, slice_get, Some}
use Rattle.std.specs.List.{range_with_len}
use Rattle.rtp_stream.specs.MarkFacts.{MarkView}
use Rattle.rtp_stream.specs.declared.mark.PacketFormat.{PacketFormat}
use Rattle.rtp_stream.specs.declared.mark.Body.{Body}
use Rattle.rtp_stream.specs.declared.mark.MarkKind.TheVariants.{Slot}
use Rattle.rtp_stream.specs.declared.stream_spec.Stream.{Stream}
use Rattle.rtp_stream.specs.StreamSpecFacts.{format_of}
use Rattle.lane_align.specs.Value.{sample_of, value_at, frame_at}
use Rattle.lane_align.specs.Presence.{is_present}
use Rattle.gain_mix.specs.Changes.{matrix_at}
use Rattle.gain_mix.specs.Mix.{mixed_frame}
use Rattle.mix_packets.specs.OutSpec.{shift_of}
use Rattle.mix_packets.specs.Block.{block_start, block_head, block_datagram}
use Rattle.studio_config.specs.Studio.{Studio, channel_total}
use Rattle.studio_mix.specs.Feed.{Feed}
use Rattle.studio_mix.specs.Missing.{is_used}

-- the sounds that the senders made: the value of each stream, by its place, at each media time in each channel
abbrev pub Sounds : Type 0
Sounds = ℕ → ℤ → ℕ → ℤ

-- the values of each stream are its sound's at each time at which it is present
pub record HasSound (sound : Sounds) (feeds : List Feed) : Type 0 where
  pub each : (i : ℕ) (feed : Feed) (t : ℤ) (k : ℕ) → slice_get feeds i ≡ Some feed → k < feed.stream.channels
      → is_present (format_of feed.stream) feed.marks t ≡ true → value_at (format_of feed.stream) feed.marks t k ≡ sound i t k

-- each sample of each packet that came is the sound's at the sample's time
pub record AreOfSound (sound : Sounds) (feeds : List Feed) : Type 0 where
  pub each : (i j : ℕ) (feed : Feed) (mark : MarkView) (epoch number : ℕ) (media : ℤ) (body : Body) (f k : ℕ) (sample : ℤ)
      → slice_get feeds i ≡ Some feed → slice_get feed.marks j ≡ Some mark → mark.kind ≡ Slot epoch number media body
      → f < feed.stream.frames → k < feed.stream.channels → sample_of (format_of feed.stream) body f k ≡ Some sample
      → sample ≡ sound i (media +ℤ pos f) k

-- the sounds of streams of these formats at a time in all channels, stream after stream
abbrev pub sound_values : Sounds → List PacketFormat → ℤ → List ℤ
sound_values sound [] t = []
sound_values sound (format ∷ formats) t = map (sound 0 t) (range_with_len 0 format.channels) ++ sound_values (λ i. sound (suc i)) formats t

-- the senders' mix: the samples that a studio makes of the sounds themselves
abbrev pub sound_samples : Studio → Sounds → ℤ → List ℤ
sound_samples studio sound t =
    mixed_frame (matrix_at studio.schedule t) (sound_values sound (map format_of studio.streams) t) (shift_of studio.output.enc)

-- the datagram of a block of the senders' mix
abbrev pub sound_datagram : Studio → Sounds → ℕ → List ℕ
sound_datagram studio sound number =
    block_datagram studio.output number (flat_map (λ frame. sound_samples studio sound (block_start studio.output number +ℤ pos frame)) (range_with_len 0 studio.output.frames))

-- two studios with streams of the same formats have blocks of one header at one media time, with the same matrices in
-- force in them
pub record AreTwins (studio other : Studio) (number its : ℕ) : Type 0 where
  pub formats : map format_of other.streams ≡ map format_of studio.streams
  pub enc : other.output.enc ≡ studio.output.enc
  pub frames : other.output.frames ≡ studio.output.frames
  pub head : block_head other.output its ≡ block_head studio.output number
  pub start : block_start other.output its ≡ block_start studio.output number
  pub matrices : (f : ℕ) → f < studio.output.frames
      → matrix_at other.schedule (block_start studio.output number +ℤ pos f) ≡ matrix_at studio.schedule (block_start studio.output number +ℤ pos f)

-- the first channel of the stream at this place
abbrev pub channel_at : List Stream → ℕ → ℕ
channel_at streams i = channel_total (take i streams)

-- each stream that is used at the time has the same values then in both lists
pub record HaveSameUsed (studio : Studio) (feeds others : List Feed) (t : ℤ) : Type 0 where
  pub each : (i : ℕ) (feed other : Feed) → slice_get feeds i ≡ Some feed → slice_get others i ≡ Some other
      → is_used studio (channel_at studio.streams i) feed t ≡ true
      → frame_at (format_of other.stream) other.marks t ≡ frame_at (format_of feed.stream) feed.marks t

-- the same streams, each present at least where it is in the first list, as in a union of what two receivers have
pub record HasAllOf (feeds union : List Feed) : Type 0 where
  pub streams : map (λ (feed : Feed). feed.stream) union ≡ map (λ (feed : Feed). feed.stream) feeds
  pub present : (i : ℕ) (feed one : Feed) (t : ℤ) → slice_get feeds i ≡ Some feed → slice_get union i ≡ Some one
      → is_present (format_of feed.stream) feed.marks t ≡ true → is_present (format_of one.stream) one.marks t ≡ true
