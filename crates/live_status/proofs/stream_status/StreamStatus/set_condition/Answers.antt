use Rattle.std.proofs.lemmas.Grind.{elements}
use Rattle.std.proofs.Common.{arith}
use Rattle.live_status.proofs.stream_status.StreamStatus.set_condition.Goals as goal

pub returns-clause-stream : goal.returns-clause-stream
returns-clause-stream c = grind (arith, elements)
