use Rattle.std.proofs.Common.{refl}
use Rattle.std.proofs.lemmas.List.{take_rest}
use Rattle.pcap_file.proofs.WholeBlocksLemmas.{counts_none, counts_one, passed_turn}
use Rattle.pcap_file.proofs.record_blocks.whole_blocks.Goals as goal

pub loop-is_datagram-preserved-then-is_datagram : goal.loop-is_datagram-preserved-then-is_datagram
loop-is_datagram-preserved-then-is_datagram c =
    passed_turn c.args.paths c.args.octets.now _ _ _ c.in-Some.len c.in-Some.is_datagram (take_rest c.args.octets.now _) c.loop-is_datagram.invariant c.in-Some.ensures.block
    c.in-Some.ensures.within.1 refl c.in-Some.ensures.datagram (counts_one c.in-Some.is_datagram _ c.if-is_datagram.true)

pub loop-is_datagram-preserved : goal.loop-is_datagram-preserved
loop-is_datagram-preserved c =
    passed_turn c.args.paths c.args.octets.now _ _ _ c.in-Some.len c.in-Some.is_datagram (take_rest c.args.octets.now _) c.loop-is_datagram.invariant c.in-Some.ensures.block
    c.in-Some.ensures.within.1 refl c.in-Some.ensures.datagram (counts_none c.in-Some.is_datagram _ c.if-is_datagram.false)
