use Rattle.pcap_flows.specs.ReceivedNumbers.{no_numbers}
use Rattle.pcap_flows.proofs.sequence.no_numbers.Goals as goal

pub returns-clause-items : goal.returns-clause-items
unfolding no_numbers
returns-clause-items c = c.in_ok-last_seen.ensures.items_if_clones_equal (λ y h. h)
