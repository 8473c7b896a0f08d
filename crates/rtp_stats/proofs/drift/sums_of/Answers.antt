use Rattle.std.proofs.Common.{◌≡◌, ◌+◌, take, arith}
use Rattle.std.proofs.lemmas.Grind.{common_steps}
use Rattle.rtp_stats.specs.Drift.{sums_of}
use Rattle.rtp_stats.proofs.drift.sums_of.Goals as goal

pub loop-margin-preserved : goal.loop-margin-preserved
loop-margin-preserved c =
    let sums : c.with_second-sums.result ≡ sums_of c.args.now (take (c.loop-margin.margin-index + 1) c.args.margins.now) = grind (arith, common_steps) in
    record { sums_are = sums; small = c.with_second-sums.ensures.small c.loop-margin.margin-index c.loop-margin.invariant.small }
