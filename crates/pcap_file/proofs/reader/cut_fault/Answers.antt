use Rattle.std.proofs.Common.{arith}
use Rattle.pcap_file.specs.ReadBuffer.{octets_of}
use Rattle.pcap_file.proofs.ReaderLemmas.{no_cut, one_cut}
use Rattle.pcap_file.proofs.reader.cut_fault.Goals as goal

pub returns-in-empty : goal.returns-in-empty
returns-in-empty c =
    let few = c.in-empty.len_below in
    no_cut c.args.parts.now (octets_of c.args.window.now) c.front.result.now c.front.ensures (omega (arith, few))

pub returns-in_default : goal.returns-in_default
returns-in_default c =
    let some = c.in_default.len_at_least in
    one_cut c.args.parts.now (octets_of c.args.window.now) c.front.result.now c.place.result c.front.ensures (omega (arith, some)) c.place.ensures
