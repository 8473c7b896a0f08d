use Rattle.std.proofs.lemmas.Grind.{elements}
use Rattle.std.proofs.Common.{arith}
use Rattle.studio_session.proofs.source.EventListEventSource.octets.Goals as goal

pub bounds-self-place : goal.bounds-self-place
bounds-self-place c = grind (arith, elements)

pub offset_bounds-self-place : goal.offset_bounds-self-place
offset_bounds-self-place c = grind (arith, elements)
