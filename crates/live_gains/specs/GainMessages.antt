-- The messages between a page that asks for gains and a run.
use Rattle.std.specs.Prelude.{◌≡◌, ℕ, ℤ, Bool, true, false, List, Option, Some, None}
use Rattle.status_page.specs.declared.control.RequestOutcome.TheVariants.{NoAnswer}
use Rattle.live_gains.specs.declared.messages.RequestMessage.{RequestMessage}
use Rattle.live_gains.specs.declared.messages.OutcomeMessage.{OutcomeMessage}
use Rattle.studio_io.specs.declared.gain_source.GainAction.{GainAction}
use Rattle.studio_io.specs.declared.gain_source.GainAction.TheVariants.{SetAll, SetOne, Show}

-- the number of requests that wait for an answer
abbrev pub count_of : Option RequestMessage → ℕ
count_of None = 0
count_of (Some message) = 1

-- a request waits for an answer
abbrev pub has_one : Option RequestMessage → Bool
has_one None = false
has_one (Some message) = true

-- the gains in a buffer after a request was taken: those of the request if it sets all, or else those before
abbrev pub HasGains : GainAction → List ℤ → List ℤ → List ℤ → Type 0
HasGains SetAll wanted before after = after ≡ wanted
HasGains (SetOne output input gain) wanted before after = after ≡ before
HasGains Show wanted before after = after ≡ before

-- the outcome of a request that was not taken
abbrev pub IsReturned : RequestMessage → OutcomeMessage → Type 0
IsReturned message outcome = (outcome.number ≡ message.number) × (outcome.outcome ≡ NoAnswer)
