use Rattle.std.proofs.Common.{◌≡◌, length}
use Rattle.pcap_file.specs.Capture.{packets_left}
use Rattle.pcap_file.proofs.capture.CaptureIterator.next.Given as goal

abbrev pub invariant-loop-self : goal.invariant-loop-self
invariant-loop-self l = packets_left l.self ≡ packets_left l.fn.self

abbrev pub decreases-loop-self : goal.decreases-loop-self
decreases-loop-self l = length l.self.octets.now
