use Rattle.std.proofs.lemmas.Grind.{elements}
use Rattle.std.proofs.Common.{arith}
use Rattle.studio_ends.proofs.stream_end.packets_in.offer_packet.Goals as goal

pub offer_ref-fate-requires-clause-fits : goal.offer_ref-fate-requires-clause-fits
offer_ref-fate-requires-clause-fits c = grind (arith, elements)
