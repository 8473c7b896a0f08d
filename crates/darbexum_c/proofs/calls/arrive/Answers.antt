-- The path that was made is the path of the number.
use Rattle.std.proofs.Common.{◌≡◌, ◌∷◌, ◌++◌, [], subst, pos, w32, ◌∙◌, ap}
use Rattle.std.proofs.lemmas.Int.{to_z-of_z}
use Rattle.studio_session.specs.Event.{Arrival}
use Rattle.studio_session.specs.ArriveOutcome.{outcome_of}
use Rattle.studio_engine.specs.Session.{HasSession}
use Rattle.darbexum_c.specs.Codes as code
use Rattle.darbexum_c.proofs.calls.arrive.Goals as goal

pub returns-in-Ok-clause-stands : goal.returns-in-Ok-clause-stands
returns-in-Ok-clause-stands c low studio events datagrams s =
    subst (λ p. HasSession studio c.arrive.new.self (events ++ Arrival c.args.stream p c.args.octets.now ∷ []) datagrams) c.in-Some.ensures.value
    (c.in-Ok.ensures.stands studio events datagrams s)

pub returns-in-Ok-clause-outcome : goal.returns-in-Ok-clause-outcome
returns-in-Ok-clause-outcome c low studio events datagrams spec s at =
    to_z-of_z w32 c.outcome_code.result (record { sfits = c.outcome_code.type_inv }) ∙ c.outcome_code.ensures.value ∙
    subst (λ p. pos (code.outcome_code c.in-Ok.outcome) ≡ pos (code.outcome_code (outcome_of spec c.args.stream studio.open_at events p c.args.octets.now))) c.in-Some.ensures.value
    (ap (λ r. pos (code.outcome_code r)) (c.in-Ok.ensures.outcome studio events datagrams spec s at))
