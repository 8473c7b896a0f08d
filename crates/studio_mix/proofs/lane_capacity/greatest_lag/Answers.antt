use Rattle.std.proofs.Common.{◌∙◌, arith}
use Rattle.studio_mix.proofs.CapacityLemmas.{greatest_more, greatest_all}
use Rattle.studio_mix.proofs.lane_capacity.greatest_lag.Goals as goal

pub loop-stream-preserved : goal.loop-stream-preserved
loop-stream-preserved c =
    let inv = c.loop-stream.invariant in (
      greatest_more c.args.streams.now c.loop-stream.stream-index c.stream-item.result c.loop-stream.greatest c.lag_of.result c.max-greatest.result c.loop-stream-test.true c.stream-item.is inv.0 c.lag_of.ensures.value c.max-greatest.ensures,
      omega (arith, inv.1, c.lag_of.ensures.short, c.max-greatest.ensures),
    )

pub returns-clause-value : goal.returns-clause-value
returns-clause-value c =
    c.loop-stream.invariant.0 ∙ greatest_all c.args.streams.now c.loop-stream.stream-index (omega (arith, c.loop-stream-test.false))
