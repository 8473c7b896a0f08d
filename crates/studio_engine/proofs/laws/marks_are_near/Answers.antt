use Rattle.studio_engine.proofs.NearLemmas.{lent_has_space, near}
use Rattle.studio_engine.proofs.laws.marks_are_near.Goals as goal

pub returns-clause-all : goal.returns-clause-all
returns-clause-all c studio events mixer feeds next awaited fed sized = near studio events mixer feeds next awaited fed sized

pub returns-clause-next : goal.returns-clause-next
returns-clause-next c studio events mixer feeds next number cursor mark awaited sized within plays taken is = lent_has_space studio events mixer feeds next number cursor mark awaited sized within plays taken is
