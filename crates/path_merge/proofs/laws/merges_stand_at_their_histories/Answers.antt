use Rattle.path_merge.proofs.JoinLemmas.{stands_alike}
use Rattle.path_merge.proofs.laws.merges_stand_at_their_histories.Goals as goal

pub returns-clause-all_given : goal.returns-clause-all_given
returns-clause-all_given c stream open_at merge events k has open_yet = has.all_given open_yet

pub returns-clause-alike : goal.returns-clause-alike
returns-clause-alike c stream open_at merge events others k alike has = stands_alike stream open_at merge events others k alike has
