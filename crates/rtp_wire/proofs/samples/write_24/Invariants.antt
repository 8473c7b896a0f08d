use Rattle.std.proofs.Common.{◌≡◌, ◌*◌, ◌++◌, drop, take}
use Rattle.rtp_wire.specs.declared.encoding.Enc.TheVariants.{L24}
use Rattle.rtp_wire.specs.Sample.{block_octets}
use Rattle.rtp_wire.proofs.samples.write_24.Given as goal

abbrev pub invariant-loop-i : goal.invariant-loop-i
invariant-loop-i l = l.out ≡ block_octets L24 (take l.i l.samples) ++ drop (3 * l.i) l.fn.out
