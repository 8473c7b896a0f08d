-- An output that begins at another of its blocks: the blocks, and the number of each, stay as they are.
use Rattle.std.specs.Prelude.{ℤ, pos, ◌+ℤ◌, ◌-ℤ◌, ◌*ℤ◌, neg_ℤ, ◌^◌, unsigned_abs}
use Rattle.std.specs.Int.{int_div_euclid, int_rem_euclid}
use Rattle.mix_packets.specs.declared.out_spec.Output.{Output}

-- the first block that begins at or after this time, counted from the block at the start: below 0 if it comes earlier
abbrev pub first_from : ℤ → Output → ℤ
first_from time out = neg_ℤ (int_div_euclid (out.start -ℤ time) (pos out.frames))

-- the output from this block on, counted from the block at the start
abbrev pub from_block : ℤ → Output → Output
from_block block out = record out {
  start = out.start +ℤ block *ℤ pos out.frames;
  seq0 = unsigned_abs (int_rem_euclid (pos out.seq0 +ℤ block) (pos (2 ^ 16)));
}

-- the output from the first block on that begins at or after this time
abbrev pub aligned : ℤ → Output → Output
aligned time out = from_block (first_from time out) out
