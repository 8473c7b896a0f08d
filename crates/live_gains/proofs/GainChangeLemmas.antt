-- The changes that outcomes take, with one more outcome.
use Rattle.std.proofs.Common.{◌≡◌, ℤ, List, [], ◌∷◌, ◌++◌, ap, ◌∙◌}
use Rattle.std.proofs.lemmas.Grind.{flat_map-append}
use Rattle.std.proofs.lemmas.List.{append-nil}
use Rattle.studio_io.specs.Gains.{changes_in}
use Rattle.studio_io.specs.declared.gain_source.GainAnswer.{GainAnswer}
use Rattle.live_gains.specs.GainChannel.{changes_of, changes_sent}
use Rattle.status_page.specs.declared.control.RequestOutcome.TheVariants.{Answered}
use Rattle.live_gains.specs.declared.messages.OutcomeMessage.{OutcomeMessage}

-- the change of an answer is the one that it takes
pub taken_more : (answer : GainAnswer) (next : ℤ) (gains : List ℤ) (before after : List OutcomeMessage) (outcome : OutcomeMessage) → after ≡ before ++ outcome ∷ []
    → outcome.outcome ≡ Answered answer next → outcome.gains.items ≡ gains → changes_sent after ≡ changes_sent before ++ changes_in answer gains
taken_more answer next gains before after outcome more is shown =
    ap changes_sent more
    ∙ (flat_map-append (λ (message : OutcomeMessage). changes_of message.outcome message.gains.items) before (outcome ∷ [])
    ∙ ap (λ l. changes_sent before ++ l) (append-nil (changes_of outcome.outcome outcome.gains.items)
    ∙ (ap (λ o. changes_of o outcome.gains.items) is ∙ ap (changes_in answer) shown)))

-- a request that was not taken adds no change
pub taken_none : (before after : List OutcomeMessage) (outcome : OutcomeMessage) → after ≡ before ++ outcome ∷ [] → changes_of outcome.outcome outcome.gains.items ≡ []
    → changes_sent after ≡ changes_sent before
taken_none before after outcome more none =
    ap changes_sent more
    ∙ (flat_map-append (λ (message : OutcomeMessage). changes_of message.outcome message.gains.items) before (outcome ∷ [])
    ∙ (ap (λ l. changes_sent before ++ l) (append-nil (changes_of outcome.outcome outcome.gains.items) ∙ none) ∙ append-nil (changes_sent before)))
