use Rattle.std.proofs.Common.{◌≡◌, take}
use Rattle.rtp_stats.specs.Drift.{IsSmall, sums_of}
use Rattle.rtp_stats.proofs.drift.sums_of.Given as goal

abbrev pub invariant-loop-margin : goal.invariant-loop-margin
invariant-loop-margin l = record {
  sums_are : l.sums ≡ sums_of l.now (take l.margin-index l.margins);
  small : IsSmall l.margin-index l.sums;
}
