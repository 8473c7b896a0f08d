use Rattle.gain_mix.specs.Four.{AreSumsTo}
use Rattle.gain_mix.proofs.mix.weigh_eight.Given as goal

abbrev pub invariant-loop-input : goal.invariant-loop-input
invariant-loop-input l = AreSumsTo l.low l.values l.input l.low_sums × AreSumsTo l.high l.values l.input l.high_sums
