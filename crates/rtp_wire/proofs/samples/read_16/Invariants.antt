use Rattle.std.proofs.Common.{◌≡◌, ◌++◌, drop, map}
use Rattle.std.specs.List.{range_with_len}
use Rattle.rtp_wire.specs.declared.encoding.Enc.TheVariants.{L16}
use Rattle.rtp_wire.specs.Sample.{sample_at}
use Rattle.rtp_wire.proofs.samples.read_16.Given as goal

abbrev pub invariant-loop-i : goal.invariant-loop-i
invariant-loop-i l = l.out ≡ map (sample_at L16 l.octets) (range_with_len 0 l.i) ++ drop l.i l.fn.out
