use Rattle.std.proofs.lemmas.Grind.{elements}
use Rattle.std.proofs.Common.{arith}
use Rattle.studio_ends.proofs.stream_end.StreamEnd.drain_turn.Goals as goal

pub returns-clause-all : goal.returns-clause-all
returns-clause-all c = grind (arith, elements)

pub returns-then-not-closed-clause-some : goal.returns-then-not-closed-clause-some
returns-then-not-closed-clause-some c = grind (arith, elements)

pub returns-clause-open_yet : goal.returns-clause-open_yet
returns-clause-open_yet c = grind (arith, elements)

pub returns-clause-stands : goal.returns-clause-stands
returns-clause-stands c = grind (arith, elements)
