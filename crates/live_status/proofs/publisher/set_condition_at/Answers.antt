use Rattle.std.proofs.lemmas.Grind.{elements}
use Rattle.std.proofs.Common.{arith}
use Rattle.live_status.proofs.publisher.set_condition_at.Goals as goal

pub returns-else-number-statuses-clause-statuses : goal.returns-else-number-statuses-clause-statuses
returns-else-number-statuses-clause-statuses c = grind (arith, elements)

pub returns-then-number-statuses-clause-stream : goal.returns-then-number-statuses-clause-stream
returns-then-number-statuses-clause-stream c = grind (arith, elements)
