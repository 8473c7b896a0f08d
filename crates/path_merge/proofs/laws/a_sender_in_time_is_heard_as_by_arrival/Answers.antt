use Rattle.path_merge.proofs.SameClockLemmas.{fates_as_by_arrival, marks_as_by_arrival}
use Rattle.path_merge.proofs.laws.a_sender_in_time_is_heard_as_by_arrival.Goals as goal

pub returns-clause-fates : goal.returns-clause-fates
returns-clause-fates c = λ stream open_at events never. fates_as_by_arrival stream open_at events never

pub returns-clause-marks : goal.returns-clause-marks
returns-clause-marks c = λ stream open_at events never. marks_as_by_arrival stream open_at events never
