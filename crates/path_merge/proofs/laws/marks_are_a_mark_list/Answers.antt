use Rattle.path_merge.proofs.MarkListLemmas.{listed, parts_listed, times_in_order}
use Rattle.path_merge.proofs.laws.marks_are_a_mark_list.Goals as goal

pub returns-clause-whole : goal.returns-clause-whole
returns-clause-whole c stream open_at events some well_timed = listed stream open_at events some well_timed

pub returns-clause-parts : goal.returns-clause-parts
returns-clause-parts c stream open_at events k some well_timed = parts_listed stream open_at events some well_timed k

pub returns-clause-times : goal.returns-clause-times
returns-clause-times c stream open_at events some well_timed = times_in_order stream open_at events some well_timed
