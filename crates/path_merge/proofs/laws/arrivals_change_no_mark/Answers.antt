use Rattle.path_merge.proofs.LawLemmas.{arrival_keeps, marks_stay}
use Rattle.path_merge.proofs.laws.arrivals_change_no_mark.Goals as goal

pub returns-clause-arrival : goal.returns-clause-arrival
returns-clause-arrival c stream open_at events path packet some well_timed = arrival_keeps stream open_at events path packet some well_timed

pub returns-clause-later : goal.returns-clause-later
returns-clause-later c stream open_at events more some well_timed = marks_stay stream open_at some events more well_timed
