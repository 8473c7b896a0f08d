use Rattle.std.proofs.Common.{◌-◌, arith, ap, ◌∙◌}
use Rattle.std.specs.Net.Addr.{ipv4_octets}
use Rattle.pcap_file.specs.IpHeader.{carried, header_with}
use Rattle.pcap_file.proofs.PacketLemmas.{words_sum-header}
use Rattle.pcap_file.proofs.encode.ip_header.checksum.Goals as goal

pub returns : goal.returns
unfolding header_with
returns c =
    let header = words_sum-header c.args.total _ (ipv4_octets c.args.arrival.now.source) (ipv4_octets c.args.arrival.now.destination) (omega arith) c.requires.total c.words_sum.ensures.four in
    ap (λ n. 65535 - n) (c.carried-2.ensures ∙ ap carried (c.carried.ensures ∙ ap carried (omega (arith, header, c.from.ensures, c.words_sum.ensures.value, c.words_sum-2.ensures.value))))
