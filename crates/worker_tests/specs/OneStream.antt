-- The ends of one stream on two paths.
use Rattle.std.specs.Prelude.{◌≡◌, List, length, slice_get, Some}
use Rattle.rtrb.specs.Ring.{IsPair, SameProducer}
use Rattle.rtp_stream.specs.MarkFacts.{MarkView}
use Rattle.rtp_stream.specs.declared.packet.Packet.{Packet}
use Rattle.studio_ends.specs.declared.rings.TokenConsumer.{TokenConsumer}
use Rattle.studio_ends.specs.declared.path_end.PathEnd.{PathEnd}
use Rattle.studio_ends.specs.declared.stream_end.StreamEnd.{StreamEnd}
use Rattle.studio_ends.specs.declared.mix_end.MixEnd.{MixEnd}
use Rattle.studio_rings.specs.Turns.{AreSameRings}

-- the stream's end is the producer of the mixer's only ring
pub record FeedsMixer (stream : StreamEnd) (sides : List (TokenConsumer MarkView)) : Type 0 where
  pub one : length sides ≡ 1
  pub marks : (side : TokenConsumer MarkView) → slice_get sides 0 ≡ Some side → IsPair stream.marks side.ring

-- the two paths' ends are the producers of the stream's two rings, in order, and the stream's end is the producer of
-- the mixer's only ring
pub record AreOfOneStream (first second : PathEnd) (stream : StreamEnd) (mix : MixEnd) : Type 0 where
  pub two : length stream.sides.items ≡ 2
  pub first_is : (side : TokenConsumer Packet) → slice_get stream.sides.items 0 ≡ Some side → IsPair first.ring side.ring
  pub second_is : (side : TokenConsumer Packet) → slice_get stream.sides.items 1 ≡ Some side → IsPair second.ring side.ring
  pub feeds : FeedsMixer stream mix.sides.items

-- a stream's end has the same rings as before, of its paths and of its marks
pub record HasSameRings (old new : StreamEnd) : Type 0 where
  pub marks : SameProducer old.marks new.marks
  pub sides : AreSameRings old.sides.items new.sides.items
