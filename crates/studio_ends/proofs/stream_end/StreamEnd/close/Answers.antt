use Rattle.std.proofs.lemmas.Grind.{elements}
use Rattle.std.proofs.Common.{refl, arith}
use Rattle.studio_ends.proofs.CloseLemmas.{closed_stands}
use Rattle.studio_ends.proofs.stream_end.StreamEnd.close.Goals as goal

pub returns-clause-stands : goal.returns-clause-stands
returns-clause-stands c = closed_stands _ _ c.any_path_open.ensures.looked refl c.close.ensures.stands

pub returns-then-any_path_open-clause-rings : goal.returns-then-any_path_open-clause-rings
returns-then-any_path_open-clause-rings c = grind (arith, elements)

pub returns-then-any_path_open-clause-still_open : goal.returns-then-any_path_open-clause-still_open
returns-then-any_path_open-clause-still_open c = grind (arith, elements)

pub returns-then-closed-clause-stands : goal.returns-then-closed-clause-stands
returns-then-closed-clause-stands c = grind (arith, elements)

pub returns-clause-rings : goal.returns-clause-rings
returns-clause-rings c = grind (arith, elements)

pub returns-then-closed-clause-ok : goal.returns-then-closed-clause-ok
returns-then-closed-clause-ok c = grind (arith, elements)

pub returns-then-any_path_open-clause-again : goal.returns-then-any_path_open-clause-again
returns-then-any_path_open-clause-again c = grind (arith, elements)

pub returns-clause-again : goal.returns-clause-again
returns-clause-again c = grind (arith, elements)

pub returns-clause-ok : goal.returns-clause-ok
returns-clause-ok c = grind (arith, elements)

pub returns-then-closed-clause-rings : goal.returns-then-closed-clause-rings
returns-then-closed-clause-rings c = grind (arith, elements)

pub returns-then-closed-clause-closed : goal.returns-then-closed-clause-closed
returns-then-closed-clause-closed c = grind (arith, elements)
