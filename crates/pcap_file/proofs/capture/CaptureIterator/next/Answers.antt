use Rattle.std.proofs.Common.{sym, ap, ◌∙◌, rules}
use Rattle.std.proofs.lemmas.List.{nil_from_length}
use Rattle.pcap_file.specs.Capture.{state_of, packets_from}
use Rattle.pcap_file.proofs.CaptureLemmas.{packets_from-none}
use Rattle.pcap_file.proofs.capture.CaptureIterator.next.Goals as goal

pub returns-clause-steps : goal.returns-clause-steps
returns-clause-steps c =
    let ended = nil_from_length c.loop-self.self.octets.now (search rules) in
    let none = ap (packets_from (state_of c.loop-self.self) c.loop-self.self.place) ended ∙ packets_from-none (state_of c.loop-self.self) c.loop-self.self.place in
    (sym c.loop-self.invariant ∙ none, none)
