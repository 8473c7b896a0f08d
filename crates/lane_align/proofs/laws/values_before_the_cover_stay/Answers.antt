use Rattle.lane_align.proofs.LawLemmas.{values_stay, presence_stays, accepted_values_stay, cover_stays, end_stays}
use Rattle.lane_align.proofs.laws.values_before_the_cover_stay.Goals as goal

pub returns-clause-values : goal.returns-clause-values
returns-clause-values c = accepted_values_stay

pub returns-clause-list_values : goal.returns-clause-list_values
returns-clause-list_values c = values_stay

pub returns-clause-cover : goal.returns-clause-cover
returns-clause-cover c = cover_stays

pub returns-clause-ended : goal.returns-clause-ended
returns-clause-ended c = end_stays

pub returns-clause-presence : goal.returns-clause-presence
returns-clause-presence c = presence_stays
