-- The time that was passed on is the time of the call.
use Rattle.std.proofs.Common.{ℤ, subst, w64}
use Rattle.std.proofs.lemmas.Int.{to_z-of_z}
use Rattle.studio_mix.specs.Changed.{with_gains}
use Rattle.studio_engine.specs.Session.{HasGivenReady, HasSession}
use Rattle.darbexum_c.proofs.calls.change_gains.Goals as goal

pub returns-in-Ok-clause-stands : goal.returns-in-Ok-clause-stands
returns-in-Ok-clause-stands c is studio events datagrams s =
    subst (λ (at : ℤ). HasSession (with_gains studio at c.args.gains.now) c.change_gains.new.self events datagrams) (to_z-of_z w64 c.args.at c.ranges.at)
    (c.in-Ok.ensures.stands studio events datagrams s)

pub returns-in-Ok-clause-ready : goal.returns-in-Ok-clause-ready
returns-in-Ok-clause-ready c is studio events datagrams s =
    subst (λ (at : ℤ). HasGivenReady (with_gains studio at c.args.gains.now) c.change_gains.new.self events datagrams) (to_z-of_z w64 c.args.at c.ranges.at)
    (c.in-Ok.ensures.ready studio events datagrams s)
