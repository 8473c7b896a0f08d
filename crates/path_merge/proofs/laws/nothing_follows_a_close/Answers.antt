use Rattle.path_merge.proofs.AfterCloseLemmas.{ends, nothing_more}
use Rattle.path_merge.proofs.laws.nothing_follows_a_close.Goals as goal

pub returns-clause-same : goal.returns-clause-same
returns-clause-same c stream open_at events more shut = nothing_more stream open_at events more shut

pub returns-clause-end : goal.returns-clause-end
returns-clause-end c stream open_at events shut = ends stream open_at events shut
