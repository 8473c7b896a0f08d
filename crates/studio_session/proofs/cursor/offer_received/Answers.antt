use Rattle.std.proofs.lemmas.Grind.{elements, common_steps}
use Rattle.std.proofs.Common.{arith}
use Rattle.studio_session.proofs.cursor.offer_received.Goals as goal

pub returns-in-Sent-clause-stands : goal.returns-in-Sent-clause-stands
returns-in-Sent-clause-stands c = grind (arith, elements)

pub returns-in-Bad-clause-stands : goal.returns-in-Bad-clause-stands
returns-in-Bad-clause-stands c = grind (arith, common_steps)
