use Rattle.lane_align.proofs.LawLemmas.{accepted_listed, accepted_all, accepted_next}
use Rattle.lane_align.proofs.laws.accepted_marks_are_a_mark_list.Goals as goal

pub returns-clause-listed : goal.returns-clause-listed
returns-clause-listed c = accepted_listed

pub returns-clause-all : goal.returns-clause-all
returns-clause-all c = accepted_all

pub returns-clause-next : goal.returns-clause-next
returns-clause-next c = accepted_next
