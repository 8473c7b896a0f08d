use Rattle.studio_mix.proofs.WholeLemmas.{same_twins, whole_twins, own_twins, aligned_twins}
use Rattle.studio_mix.proofs.whole_laws.twins_are_copies.Goals as goal

pub returns-clause-values : goal.returns-clause-values
returns-clause-values c = same_twins

pub returns-clause-whole : goal.returns-clause-whole
returns-clause-whole c = whole_twins

pub returns-clause-own : goal.returns-clause-own
returns-clause-own c = own_twins

pub returns-clause-aligned : goal.returns-clause-aligned
returns-clause-aligned c = aligned_twins
