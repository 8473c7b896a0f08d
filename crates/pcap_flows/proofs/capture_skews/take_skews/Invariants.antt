use Rattle.pcap_flows.proofs.CaptureSkewLemmas.{TakesUpTo}
use Rattle.pcap_flows.proofs.capture_skews.take_skews.Given as goal

-- the skews of the pairs before the place were appended
abbrev pub invariant-loop-place : goal.invariant-loop-place
invariant-loop-place l = TakesUpTo l.fn.times.items l.times.items l.fn.skews.items l.skews.items l.place
