use Rattle.path_merge.proofs.SentHistoryLemmas.{marks_recovered, payload_recovered}
use Rattle.path_merge.proofs.laws.sent_numbers_are_recovered.Goals as goal

pub returns-clause-marks : goal.returns-clause-marks
returns-clause-marks c = λ stream anchor open_at sent ok plain begins within one. marks_recovered stream anchor open_at ok plain sent begins within one

pub returns-clause-payload : goal.returns-clause-payload
returns-clause-payload c = λ stream anchor open_at sent number payload ok plain begins within one equal. payload_recovered stream anchor open_at ok plain sent number payload begins within one equal
