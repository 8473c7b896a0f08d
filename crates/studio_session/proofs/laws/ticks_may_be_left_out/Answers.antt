use Rattle.studio_session.proofs.PrunedLemmas.{pruned_same, tick_left_out}
use Rattle.studio_session.proofs.laws.ticks_may_be_left_out.Goals as goal

pub returns-clause-one : goal.returns-clause-one
returns-clause-one c = λ studio first rest a b runs none. tick_left_out studio runs first rest a b none

pub returns-clause-all : goal.returns-clause-all
returns-clause-all c = λ studio events runs none. pruned_same studio runs events none
