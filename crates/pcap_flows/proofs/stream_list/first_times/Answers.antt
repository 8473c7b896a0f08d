use Rattle.std.proofs.Common.{rules}
use Rattle.pcap_flows.proofs.CaptureSkewLemmas.{begun_all, begun_more}
use Rattle.pcap_flows.proofs.stream_list.first_times.Goals as goal

pub loop-place-preserved : goal.loop-place-preserved
loop-place-preserved c =
    begun_more c.args.pairs.now c.loop-place.times.items c.push.new.self.items c.loop-place.place c.pair_at-pair.result c.in_ok-one.one (search rules) c.pair_at-pair.ensures (search rules) (search rules) c.loop-place.invariant

pub returns : goal.returns
returns c = begun_all c.args.pairs.now _ _ (search rules) c.loop-place.invariant
