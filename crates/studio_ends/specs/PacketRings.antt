-- The ends of a path's ring, whatever the size of its cells.
use Rattle.std.specs.declared.alloc.Global.{Global}
use Rattle.rtrb.specs.declared.AnyItems.{AnyItems}
use Rattle.rtrb.specs.declared.finished.Finished.{Finished}
use Rattle.rtrb.specs.declared.producer.Producer.{Producer}
use Rattle.rtp_stream.specs.declared.packet.Packet.{Packet}
use Rattle.studio_ends.specs.CellSizes.{finished_with, producer_with, side_with}
use Rattle.studio_ends.specs.declared.rings.packets.ProducerBySize.{ProducerBySize}
use Rattle.studio_ends.specs.declared.rings.packets.ProducerBySize.TheVariants as sender
use Rattle.studio_ends.specs.declared.rings.packets.ConsumerBySize.{ConsumerBySize}
use Rattle.studio_ends.specs.declared.rings.packets.ConsumerBySize.TheVariants as side
use Rattle.studio_ends.specs.declared.rings.packets.TokenBySize.{TokenBySize}
use Rattle.studio_ends.specs.declared.rings.packets.TokenBySize.TheVariants as token
use Rattle.studio_ends.specs.declared.rings.TokenConsumer.{TokenConsumer}

abbrev pub sender_in : ProducerBySize → Producer Packet Global AnyItems
sender_in (sender.Short end) = producer_with 0 end
sender_in (sender.Middle end) = producer_with 1 end
sender_in (sender.Long end) = producer_with 2 end

abbrev pub side_in : ConsumerBySize → TokenConsumer Packet
side_in (side.Short end) = side_with 0 end
side_in (side.Middle end) = side_with 1 end
side_in (side.Long end) = side_with 2 end

abbrev pub token_in : TokenBySize → Finished Packet Global AnyItems
token_in (token.Short done) = finished_with 0 done
token_in (token.Middle done) = finished_with 1 done
token_in (token.Long done) = finished_with 2 done
