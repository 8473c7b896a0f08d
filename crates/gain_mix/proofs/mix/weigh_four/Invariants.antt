use Rattle.gain_mix.specs.Four.{AreSumsTo}
use Rattle.gain_mix.proofs.mix.weigh_four.Given as goal

abbrev pub invariant-loop-input : goal.invariant-loop-input
invariant-loop-input l = AreSumsTo l.rows l.values l.input l.sums
