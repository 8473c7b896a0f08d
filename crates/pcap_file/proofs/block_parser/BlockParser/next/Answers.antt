use Rattle.std.proofs.Common.{option_map}
use Rattle.pcap_file.specs.Packet.{packet_view}
use Rattle.pcap_file.specs.BlockParser.{state_at}
use Rattle.pcap_file.proofs.DescribedLemmas.{no_text_behind, passed_texts}
use Rattle.pcap_file.proofs.EntryLemmas.{passed_entries, no_entry_behind}
use Rattle.pcap_file.proofs.BlockParserLemmas.{passed_fault, passed_part}
use Rattle.pcap_file.proofs.block_parser.BlockParser.next.Goals as goal

pub returns-in-Ok-clause-part : goal.returns-in-Ok-clause-part
returns-in-Ok-clause-part c = λ rest whole.
    passed_part (state_at c.args.self.now) (state_at c.read.new.self) c.args.self.now.place c.read.new.self.place c.in-Ok.part.len c.args.front.now rest
    (option_map packet_view c.in-Ok.part.packet) c.in-Ok.part.mark c.requires.some c.in-Ok.ensures.bounds.0 c.in-Ok.ensures.bounds.1 c.in-Ok.ensures.part c.read.ensures.place whole

pub returns-in-Ok-clause-entries : goal.returns-in-Ok-clause-entries
returns-in-Ok-clause-entries c = λ rest whole.
    passed_entries (state_at c.args.self.now) (state_at c.read.new.self) c.in-Ok.part.len c.args.front.now rest
    (option_map packet_view c.in-Ok.part.packet) c.in-Ok.part.mark c.requires.some c.in-Ok.ensures.bounds.0 c.in-Ok.ensures.bounds.1 c.in-Ok.ensures.part whole

pub returns-in-Err-clause-no_entry : goal.returns-in-Err-clause-no_entry
returns-in-Err-clause-no_entry c = λ rest whole.
    no_entry_behind (state_at c.args.self.now) c.args.front.now rest c.in-Err.kind c.requires.some c.in-Err.ensures.part whole

pub returns-in-Err-clause-fault : goal.returns-in-Err-clause-fault
returns-in-Err-clause-fault c = λ rest whole.
    passed_fault (state_at c.args.self.now) c.args.self.now.place c.read.new.self.place c.args.front.now rest c.in-Err.kind c.requires.some
    c.in-Err.ensures.part c.read.ensures.place whole

pub returns-in-Ok-clause-texts : goal.returns-in-Ok-clause-texts
returns-in-Ok-clause-texts c = λ rest whole.
    passed_texts (state_at c.args.self.now) (state_at c.read.new.self) c.in-Ok.part.len c.args.front.now rest
    (option_map packet_view c.in-Ok.part.packet) c.in-Ok.part.mark c.requires.some c.in-Ok.ensures.bounds.0 c.in-Ok.ensures.bounds.1 c.in-Ok.ensures.part whole

pub returns-in-Err-clause-no_text : goal.returns-in-Err-clause-no_text
returns-in-Err-clause-no_text c = λ rest whole.
    no_text_behind (state_at c.args.self.now) c.args.front.now rest c.in-Err.kind c.requires.some c.in-Err.ensures.part whole
