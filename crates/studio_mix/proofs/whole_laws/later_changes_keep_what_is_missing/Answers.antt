use Rattle.studio_mix.proofs.LastLemmas.{missing_in_unchanged}
use Rattle.studio_mix.proofs.whole_laws.later_changes_keep_what_is_missing.Goals as goal

pub returns : goal.returns
returns c = record { missing = λ studio feeds number at gains early. missing_in_unchanged studio feeds number at _ early }
