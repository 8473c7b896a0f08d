use Rattle.std.proofs.Common.{ap, arith}
use Rattle.pcap_file.specs.Capture.{state_of}
use Rattle.pcap_file.proofs.CaptureLemmas.{packets_from-told, packets_from-passed, packets_from-ended}
use Rattle.pcap_file.proofs.cursor.Capture.advance.Goals as goal

pub returns-in-Some-clause-returned : goal.returns-in-Some-clause-returned
returns-in-Some-clause-returned c =
    packets_from-told (state_of c.args.self.now) (state_of c.read_part.new.self) c.args.self.now.place c.read_part.new.self.place c.in-Ok.part.len
    c.args.self.now.octets.now c.read_part.new.self.octets.now c.in-Ok.part.packet c.in-Ok.part.mark c.in-Some.packet
    c.in-Some.is (omega arith) c.in-Ok.ensures.bounds.0 c.in-Ok.ensures.part c.read_part.ensures.place (ap (λ b. b.now) c.read_part.ensures.octets)

pub returns-in-None-clause-returned : goal.returns-in-None-clause-returned
returns-in-None-clause-returned c =
    packets_from-passed (state_of c.args.self.now) (state_of c.read_part.new.self) c.args.self.now.place c.read_part.new.self.place c.in-Ok.part.len
    c.args.self.now.octets.now c.read_part.new.self.octets.now c.in-Ok.part.packet c.in-Ok.part.mark
    c.in-None.is (omega arith) c.in-Ok.ensures.bounds.0 c.in-Ok.ensures.part c.read_part.ensures.place (ap (λ b. b.now) c.read_part.ensures.octets)

pub returns-in-Err-clause-returned : goal.returns-in-Err-clause-returned
returns-in-Err-clause-returned c =
    packets_from-ended (state_of c.args.self.now) (state_of c.read_part.new.self) c.args.self.now.place c.read_part.new.self.place
    c.args.self.now.octets.now c.in-Err.kind (omega arith) c.in-Err.ensures.part c.read_part.ensures.place
