use Rattle.std.proofs.lemmas.Grind.{elements}
use Rattle.std.proofs.Common.{arith}
use Rattle.live_status.proofs.reception_watch.stream_watch.StreamWatch.show.Goals as goal

pub returns : goal.returns
returns c = grind (arith, elements)
