use Rattle.std.proofs.Common.{◌∙◌, reverse}
use Rattle.rtp_stats.proofs.GivenUpLemmas.{missed_is_left, none_is_left}
use Rattle.rtp_stats.proofs.laws.a_path_misses_what_it_gives_up.Goals as goal

pub returns-clause-missed : goal.returns-clause-missed
returns-clause-missed c window path offers = missed_is_left window path offers

pub returns-clause-none : goal.returns-clause-none
returns-clause-none c window path offers each = missed_is_left window path offers ∙ none_is_left window path (reverse offers) each
