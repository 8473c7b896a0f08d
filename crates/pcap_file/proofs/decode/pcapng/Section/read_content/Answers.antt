use Rattle.std.proofs.Common.{sym, ap, ◌∙◌}
use Rattle.pcap_file.specs.Octets.{number_at}
use Rattle.pcap_file.specs.Section.{section_view, kind_of}
use Rattle.pcap_file.proofs.SectionLemmas.{GivesContent-header, GivesContent-interface, GivesContent-simple, GivesContent-enhanced, content_as-other}
use Rattle.pcap_file.proofs.decode.pcapng.Section.read_content.Goals as goal

pub returns-in-SectionHeader : goal.returns-in-SectionHeader
returns-in-SectionHeader c =
    GivesContent-header (section_view c.args.self.now) (section_view c.begin.new.self) c.args.block.now (kind_of (number_at c.args.self.now.order 4 0 c.args.block.now)) c.begin.result
    (ap kind_of (sym c.read_u32.ensures) ∙ sym c.in-SectionHeader.ensures) c.begin.ensures

pub returns-in-Interface : goal.returns-in-Interface
returns-in-Interface c =
    GivesContent-interface (section_view c.args.self.now) (section_view c.add_interface.new.self) c.args.block.now (kind_of (number_at c.args.self.now.order 4 0 c.args.block.now)) c.add_interface.result
    (ap kind_of (sym c.read_u32.ensures) ∙ sym c.in-Interface.ensures) c.add_interface.ensures

pub returns-in-SimplePacket : goal.returns-in-SimplePacket
returns-in-SimplePacket c =
    GivesContent-simple (section_view c.args.self.now) c.args.block.now (kind_of (number_at c.args.self.now.order 4 0 c.args.block.now)) c.read_simple.result
    (ap kind_of (sym c.read_u32.ensures) ∙ sym c.in-SimplePacket.ensures) c.read_simple.ensures

pub returns-in-EnhancedPacket : goal.returns-in-EnhancedPacket
returns-in-EnhancedPacket c =
    GivesContent-enhanced (section_view c.args.self.now) c.args.block.now (kind_of (number_at c.args.self.now.order 4 0 c.args.block.now)) c.read_enhanced.result
    (ap kind_of (sym c.read_u32.ensures) ∙ sym c.in-EnhancedPacket.ensures) c.read_enhanced.ensures

pub returns-in-Other : goal.returns-in-Other
returns-in-Other c =
    content_as-other (section_view c.args.self.now) c.args.block.now (kind_of (number_at c.args.self.now.order 4 0 c.args.block.now))
    (ap kind_of (sym c.read_u32.ensures) ∙ sym c.in-Other.ensures)
