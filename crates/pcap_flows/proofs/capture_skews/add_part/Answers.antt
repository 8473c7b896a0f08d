use Rattle.std.proofs.Common.{◌≡◌, ◌++◌, Ok, map, option_map, sym, subst}
use Rattle.pcap_file.specs.Entries.{entries_in}
use Rattle.pcap_file.specs.Packet.{packet_view}
use Rattle.pcap_file.specs.Reader.{packets_among}
use Rattle.pcap_flows.specs.PairTimes.{pair_view}
use Rattle.pcap_flows.specs.CaptureSkews.{pairs_after}
use Rattle.pcap_flows.proofs.CaptureSkewLemmas.{ok_then, seen_part, seen_same}
use Rattle.pcap_flows.proofs.capture_skews.add_part.Goals as goal

pub returns-in-Some : goal.returns-in-Some
returns-in-Some c =
    let new = map pair_view c.add_packet.new.times.items in
    ok_then c.add_packet.result _ _ (λ is begun entries seen.
    subst (λ o. new ≡ pairs_after begun (map Ok (packets_among (entries ++ entries_in (option_map packet_view o) c.args.part.now.mark)))) (sym c.in-Some.is)
    (seen_part begun (map pair_view c.args.times.now.items) new entries (packet_view c.in-Some.packet) c.args.part.now.mark is seen)) c.add_packet.ensures

pub returns-in-None : goal.returns-in-None
returns-in-None c = λ begun entries seen.
    let pairs = map pair_view c.args.times.now.items in
    subst (λ o. pairs ≡ pairs_after begun (map Ok (packets_among (entries ++ entries_in (option_map packet_view o) c.args.part.now.mark)))) (sym c.in-None.is)
    (seen_same begun pairs entries c.args.part.now.mark seen)
