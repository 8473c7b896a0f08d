use Rattle.std.proofs.Common.{All}
use Rattle.gain_mix.specs.Mix.{Is24Bits}
use Rattle.studio_mix.proofs.LayLemmas.{IsLaid}
use Rattle.studio_mix.proofs.interleave.lay_frames.Given as goal

-- the values of the frames so far are in place, and the other frames are as they were
abbrev pub invariant-loop-frame : goal.invariant-loop-frame
invariant-loop-frame l = record {
  laid : IsLaid l.width l.at l.channels l.values l.fn.wide l.wide l.frame;
  in_24_bits : All Is24Bits l.wide;
}
