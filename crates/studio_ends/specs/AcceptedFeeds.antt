-- The marks that were accepted of those that each stream's ring delivered.
use Rattle.std.specs.Prelude.{ℕ, List, [], ◌∷◌, length, sum_by}
use Rattle.rtp_stream.specs.declared.stream_spec.Stream.{Stream}
use Rattle.rtp_stream.specs.StreamSpecFacts.{format_of}
use Rattle.rtp_stream.specs.MarkFacts.{MarkView}
use Rattle.rtrb.specs.Ring.{received}
use Rattle.lane_align.specs.AcceptedMarks.{accepted_marks}
use Rattle.studio_mix.specs.Feed.{Feed}
use Rattle.studio_ends.specs.declared.rings.TokenConsumer.{TokenConsumer}

-- each stream, with the marks that were accepted of those that its ring delivered
abbrev pub accepted_feeds : List Stream → List (TokenConsumer MarkView) → List Feed
accepted_feeds [] sides = []
accepted_feeds (stream ∷ streams) [] = []
accepted_feeds (stream ∷ streams) (side ∷ sides) = record { stream = stream; marks = accepted_marks (format_of stream) (received side.ring) } ∷ accepted_feeds streams sides

-- the number of marks that were received from all streams
abbrev pub received_total : List (TokenConsumer MarkView) → ℕ
received_total sides = sum_by (λ (side : TokenConsumer MarkView). length (received side.ring)) sides

-- the number of marks that were accepted
abbrev pub accepted_total : List Feed → ℕ
accepted_total feeds = sum_by (λ (feed : Feed). length feed.marks) feeds
