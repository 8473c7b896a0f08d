use Rattle.std.proofs.Common.{◌≡◌, take, sum, arith, ap}
use Rattle.rtp_stats.proofs.tally.margins.middle_of.Goals as goal

pub returns : goal.returns
returns c =
    let last : c.loop-bin.bin ≡ 1023 = omega arith in
    let below = c.loop-bin.invariant.below in
    let sums = c.loop-bin.invariant.sum_is in
    let same = ap (λ n. sum (take n c.args.bins.now)) last in
    record {
      in_range = omega arith;
      below = omega (arith, below, sums, same);
      within = λ less. absurd (omega (arith, less));
    }
