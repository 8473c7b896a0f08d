use Rattle.std.proofs.lemmas.Grind.{elements}
use Rattle.std.proofs.Common.{arith}
use Rattle.studio_session.proofs.NewLemmas.{played_none}
use Rattle.studio_session.proofs.session.Session.new.Goals as goal

pub returns-clause-stands : goal.returns-clause-stands
returns-clause-stands c = λ events. played_none c.args.spec.now events c.in_ok-mixer.mixer c.in_ok-cursors.cursors.items c.in_ok-mixer.ensures c.in_ok-cursors.ensures.new

pub invariant_of-result : goal.invariant_of-result
invariant_of-result c = grind (arith, elements)
