use Rattle.std.proofs.lemmas.Grind.{elements}
use Rattle.std.proofs.Common.{arith}
use Rattle.studio_session.proofs.cursor.Cursor.take_event.Goals as goal

pub returns-then-self-count-clause-all : goal.returns-then-self-count-clause-all
returns-then-self-count-clause-all c = grind (arith, elements)
