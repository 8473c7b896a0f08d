use Rattle.std.proofs.Common.{map, rules}
use Rattle.pcap_flows.specs.PairTimes.{pair_view}
use Rattle.pcap_flows.proofs.CaptureSkewLemmas.{measured, some_maps}
use Rattle.pcap_flows.proofs.stream_list.StreamList.measure.Goals as goal

pub returns : goal.returns
returns g c =
    some_maps (g.R.Read.remaining c.args.reader.now) _ _ (λ file is. record {
      pairs = search rules;
      skews = measured file (map pair_view c.in_ok-times.times.items) _ _ _ _ (search rules) is c.in_ok-take_skews.ensures;
    }) c.in_ok-add_reader.ensures
