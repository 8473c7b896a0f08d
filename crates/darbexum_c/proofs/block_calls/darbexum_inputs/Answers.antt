-- The handle's engine is the one that was read.
use Rattle.std.proofs.Common.{◌≡◌, ◌+◌, ℕ, List, length, sym, ◌∙◌}
use Rattle.studio_config.specs.Studio.{Studio}
use Rattle.studio_mix.specs.Missing.{missing_in}
use Rattle.studio_mix.specs.Output.{block_inputs}
use Rattle.studio_session.specs.Event.{TraceEvent}
use Rattle.studio_session.specs.Play.{feeds_of}
use Rattle.studio_engine.specs.Engine.{EngineState}
use Rattle.studio_engine.specs.Session.{HasSession}
use Rattle.darbexum_c.proofs.Moved.{of_handle}
use Rattle.darbexum_c.proofs.block_calls.darbexum_inputs.Goals as goal

abbrev Stands : EngineState → Type 0
Stands e = (studio : Studio) (events : List TraceEvent) (datagrams : List (List ℕ)) (number : ℕ) → HasSession studio e events datagrams → length datagrams ≡ number + 1
    → e.mixer.inputs ≡ block_inputs studio (feeds_of studio events) number

pub returns-clause-stands : goal.returns-clause-stands
returns-clause-stands c engine is =
    of_handle Stands c.args.handle.now.engine c.in-Some.engine.value c.deref.result.now engine c.in-Some.ensures.value c.deref.ensures is
    (λ studio events datagrams number s one. sym c.inputs.ensures.value ∙ c.inputs.ensures.stands studio events datagrams number s one)
