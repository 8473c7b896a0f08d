use Rattle.std.proofs.Common.{◌≡◌, ◌*◌, ◌<◌, take, sum}
use Rattle.rtp_stats.proofs.tally.margins.middle_of.Given as goal

abbrev pub invariant-loop-bin : goal.invariant-loop-bin
invariant-loop-bin l = record {
  sum_is : l.seen ≡ sum (take l.bin l.bins);
  below : 2 * l.seen < l.count;
}
