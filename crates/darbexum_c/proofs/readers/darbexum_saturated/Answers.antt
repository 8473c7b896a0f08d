-- The handle's engine is the one that was read.
use Rattle.std.proofs.Common.{ℕ, List, length, subst}
use Rattle.studio_config.specs.Studio.{Studio}
use Rattle.studio_mix.specs.Saturated.{AreSaturated}
use Rattle.studio_session.specs.Event.{TraceEvent}
use Rattle.studio_session.specs.Play.{feeds_of}
use Rattle.studio_engine.specs.Engine.{EngineState}
use Rattle.studio_engine.specs.Session.{HasSession}
use Rattle.darbexum_c.proofs.Moved.{of_handle}
use Rattle.darbexum_c.proofs.readers.darbexum_saturated.Goals as goal

abbrev Stands : EngineState → Type 0
Stands e = (studio : Studio) (events : List TraceEvent) (datagrams : List (List ℕ)) → HasSession studio e events datagrams → AreSaturated studio (feeds_of studio events) (length datagrams) e.mixer.saturated

pub returns-in-Some-found-clause-stands : goal.returns-in-Some-found-clause-stands
returns-in-Some-found-clause-stands c engine is =
    of_handle Stands c.args.handle.now.engine c.in-Some.engine.value c.deref.result.now engine c.in-Some.ensures.value c.deref.ensures is
    (λ studio events datagrams s. subst (AreSaturated studio (feeds_of studio events) (length datagrams)) c.saturated.ensures.value (c.saturated.ensures.stands studio events datagrams s))

pub returns-in-None-clause-stands : goal.returns-in-None-clause-stands
returns-in-None-clause-stands c engine is =
    of_handle Stands c.args.handle.now.engine c.in-Some.engine.value c.deref.result.now engine c.in-Some.ensures.value c.deref.ensures is
    (λ studio events datagrams s. subst (AreSaturated studio (feeds_of studio events) (length datagrams)) c.saturated.ensures.value (c.saturated.ensures.stands studio events datagrams s))
