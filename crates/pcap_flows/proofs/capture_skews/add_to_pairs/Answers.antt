use Rattle.std.proofs.Common.{rules}
use Rattle.pcap_flows.proofs.CaptureSkewLemmas.{adds_all, adds_more, adds_none}
use Rattle.pcap_flows.proofs.capture_skews.add_to_pairs.Goals as goal

pub loop-place-init : goal.loop-place-init
loop-place-init c = adds_none _ _

pub loop-place-preserved : goal.loop-place-preserved
loop-place-preserved c =
    adds_more _ _ _ _ c.index_mut.result.now c.add.new.self (search rules) c.index_mut.ensures.value c.in_ok-add.ensures c.loop-place.invariant

pub returns : goal.returns
returns c = adds_all _ _ _ _ (search rules) c.loop-place.invariant
