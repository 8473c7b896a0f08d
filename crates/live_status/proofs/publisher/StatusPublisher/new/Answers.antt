use Rattle.std.proofs.lemmas.Grind.{elements}
use Rattle.std.proofs.Common.{arith}
use Rattle.live_status.proofs.publisher.StatusPublisher.new.Goals as goal

pub returns-clause-next : goal.returns-clause-next
returns-clause-next c = grind (arith, elements)
