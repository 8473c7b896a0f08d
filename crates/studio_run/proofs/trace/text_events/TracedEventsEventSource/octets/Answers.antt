use Rattle.std.proofs.lemmas.Grind.{elements}
use Rattle.std.proofs.Common.{arith}
use Rattle.studio_run.proofs.trace.text_events.TracedEventsEventSource.octets.Goals as goal

pub returns : goal.returns
returns c = grind (arith, elements)
