use Rattle.path_merge.proofs.SentHistoryLemmas.{epoch_recovered}
use Rattle.path_merge.proofs.laws.each_epoch_recovers_its_numbers.Goals as goal

pub returns : goal.returns
returns c stream anchor open_at before sent ok plain is still within none = epoch_recovered stream anchor open_at ok plain before sent is still within none
