use Rattle.pcap_flows.proofs.CaptureSkewLemmas.{AddsUpTo}
use Rattle.pcap_flows.proofs.capture_skews.add_to_pairs.Given as goal

-- the pairs before the place have the packet
abbrev pub invariant-loop-place : goal.invariant-loop-place
invariant-loop-place l = AddsUpTo l.fn.times.items l.times.items l.next l.place
