use Rattle.std.proofs.Common.{arith}
use Rattle.pcap_file.proofs.InterfaceLemmas.{units_positive}
use Rattle.pcap_file.proofs.decode.interface.nanoseconds.Goals as goal

pub nonzero_div-result : goal.nonzero_div-result
nonzero_div-result c = let some = units_positive c.args.resolution in omega (arith, c.in-Some.ensures)
