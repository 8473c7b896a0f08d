use Rattle.path_merge.proofs.AgainLemmas.{tick_again}
use Rattle.path_merge.proofs.LawLemmas.{tick_split}
use Rattle.path_merge.proofs.laws.ticks_may_be_split.Goals as goal

pub returns-clause-split : goal.returns-clause-split
returns-clause-split c stream open_at events anchor n u some still way = tick_split stream open_at some events still anchor n u way

pub returns-clause-repeated : goal.returns-clause-repeated
returns-clause-repeated c stream open_at events some still = tick_again stream open_at some events still
