use Rattle.path_merge.proofs.NearLemmas.{near_is_one_epoch, near_marks}
use Rattle.path_merge.proofs.laws.near_numbers_open_one_epoch.Goals as goal

pub returns-clause-one : goal.returns-clause-one
returns-clause-one c = λ stream anchor open_at sent plain begins within. near_is_one_epoch stream anchor open_at plain sent begins within

pub returns-clause-marks : goal.returns-clause-marks
returns-clause-marks c = λ stream anchor open_at sent plain begins within. near_marks stream anchor open_at plain sent begins within
