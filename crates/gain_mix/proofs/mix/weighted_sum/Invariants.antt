use Rattle.gain_mix.specs.Four.{IsSumTo}
use Rattle.gain_mix.proofs.mix.weighted_sum.Given as goal

abbrev pub invariant-loop-input : goal.invariant-loop-input
invariant-loop-input l = IsSumTo l.gains l.values l.input l.sum
