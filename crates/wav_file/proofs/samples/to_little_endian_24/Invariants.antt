use Rattle.std.proofs.Common.{◌≡◌, ◌*◌, take}
use Rattle.wav_file.specs.Samples.{little_24}
use Rattle.arrayvec.specs.ArrayVec.{array_vec_len}
use Rattle.wav_file.proofs.samples.to_little_endian_24.Given as goal

abbrev pub invariant-loop-i : goal.invariant-loop-i
invariant-loop-i l = record {
  items : l.out.items ≡ little_24 (take (3 * l.i) l.octets);
  len : array_vec_len l.out ≡ 3 * l.i;
}
