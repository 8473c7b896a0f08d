-- The marks of each stream, and its values.
use Rattle.std.specs.Prelude.{◌≡◌, ℕ, true, ℤ, List, [], ◌++◌, length, map, flat_map, slice_get, Some}
use Rattle.rtp_stream.specs.declared.stream_spec.Stream.{Stream}
use Rattle.rtp_stream.specs.StreamSpecFacts.{format_of}
use Rattle.rtp_stream.specs.MarkFacts.{MarkView}
use Rattle.rtp_stream.specs.MarkList.{is_mark_list}
use Rattle.lane_align.specs.Value.{frame_at}

-- a stream, and the marks that it has produced so far
pub record Feed : Type 0 where
  pub stream : Stream
  pub marks : List MarkView

-- the values of all channels at a time, stream after stream
abbrev pub studio_values : List Feed → ℤ → List ℤ
studio_values feeds t = flat_map (λ (feed : Feed). frame_at (format_of feed.stream) feed.marks t) feeds

-- the feeds of streams that have produced no mark
abbrev pub unfed : List Stream → List Feed
unfed streams = map (λ stream. record { stream = stream; marks = [] }) streams

-- the same stream with these marks, and perhaps more, in a mark list
pub record IsLonger (feed longer : Feed) : Type 0 where
  pub more : List MarkView
  pub stream : longer.stream ≡ feed.stream
  pub marks : longer.marks ≡ feed.marks ++ more
  pub listed : is_mark_list (format_of longer.stream) longer.marks ≡ true

-- the same streams, each with its marks and perhaps more
pub record AreLonger (feeds longer : List Feed) : Type 0 where
  pub count : length longer ≡ length feeds
  pub each : (i : ℕ) (feed long : Feed) → slice_get feeds i ≡ Some feed → slice_get longer i ≡ Some long → IsLonger feed long
