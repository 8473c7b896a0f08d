-- A record or a block of a capture.
use Rattle.std.specs.Prelude.{ℕ, Option, option_map}
use Rattle.pcap_file.specs.declared.block_parser.CaptureBlock.{CaptureBlock}
use Rattle.pcap_file.specs.declared.decode.record_mark.RecordMark.{RecordMark}
use Rattle.pcap_file.specs.Packet.{PacketView, packet_view}

-- a record or a block: its length in octets, its UDP packet, if it has one, and its mark of a record, if it is one
pub record PartView : Type 0 where
  pub len : ℕ
  pub packet : Option PacketView
  pub mark : Option RecordMark

-- the view of the value in the code
abbrev pub part_view : CaptureBlock → PartView
part_view p = record { len = p.len; packet = option_map packet_view p.packet; mark = p.mark }
