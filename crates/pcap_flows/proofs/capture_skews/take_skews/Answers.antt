use Rattle.std.proofs.Common.{rules}
use Rattle.pcap_flows.proofs.CaptureSkewLemmas.{takes_all, takes_more, takes_none}
use Rattle.pcap_flows.proofs.capture_skews.take_skews.Goals as goal

pub loop-place-init : goal.loop-place-init
loop-place-init c = takes_none _ _

pub loop-place-preserved : goal.loop-place-preserved
loop-place-preserved c =
    takes_more _ _ _ _ _ _ c.index_mut.result.now c.skew-skew.new.self c.skew-skew.result (search rules) c.index_mut.ensures.value c.skew-skew.ensures (search rules) c.loop-place.invariant

pub returns : goal.returns
returns c = takes_all _ _ _ _ _ (search rules) c.loop-place.invariant
