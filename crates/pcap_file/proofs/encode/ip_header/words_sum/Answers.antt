use Rattle.std.proofs.Common.{arith, ap}
use Rattle.pcap_file.specs.IpHeader.{words_sum}
use Rattle.pcap_file.proofs.PacketLemmas.{words_sum-four}
use Rattle.pcap_file.proofs.encode.ip_header.words_sum.Goals as goal

pub returns-clause-value : goal.returns-clause-value
returns-clause-value c =
    let four = words_sum-four c.octets-octets.result (omega arith) in
    omega (arith, c.from.ensures, c.from-2.ensures, c.from-3.ensures, c.from-4.ensures, four, ap words_sum c.octets-octets.ensures)
