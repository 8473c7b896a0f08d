use Rattle.std.proofs.Common.{map}
use Rattle.pcap_flows.specs.PairTimes.{pair_view}
use Rattle.pcap_flows.proofs.CaptureSkewLemmas.{seen_fault}
use Rattle.pcap_flows.proofs.capture_skews.add_next.Goals as goal

pub returns-in-Err-clause-fault : goal.returns-in-Err-clause-fault
returns-in-Err-clause-fault c = λ _ file begun entries left told seen.
    seen_fault file begun (map pair_view c.args.times.now.items) entries c.in-Err._fault seen (c.in-Err.ensures.fault file entries left told)
