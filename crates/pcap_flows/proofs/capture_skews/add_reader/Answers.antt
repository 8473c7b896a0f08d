use Rattle.std.proofs.Common.{[], map}
use Rattle.pcap_flows.specs.PairTimes.{pair_view}
use Rattle.pcap_flows.proofs.CaptureSkewLemmas.{ok_then, seen_header, seen_none, some_maps}
use Rattle.pcap_flows.proofs.capture_skews.add_reader.Goals as goal

pub returns-in-Ok : goal.returns-in-Ok
returns-in-Ok g c =
    let begun = map pair_view c.args.times.now.items in
    ok_then c.add_all.result _ _ (λ adds. some_maps (g.R.Read.remaining c.args.reader.now) _ _ (λ file told. adds file begun [] told (seen_none begun)) c.in-Ok.ensures.returned) c.add_all.ensures

pub returns-in-Err-Capture : goal.returns-in-Err-Capture
returns-in-Err-Capture g c =
    some_maps (g.R.Read.remaining c.args.reader.now) _ _ (λ file behind. seen_header file (map pair_view c.args.times.now.items) _ behind)
    (rw c.in-Err-Capture.field-0-is at c.in-Err-Capture.ensures.fault)
