-- The steps of both ends of a channel for gains, and the changes that went through it.
use Rattle.std.specs.Prelude.{◌≡◌, ◌⊎◌, ℤ, List, [], ◌∷◌, ◌++◌, flat_map, Some}
use Rattle.rtrb.specs.Ring.{received, sent}
use Rattle.studio_io.specs.Gains.{changes_in}
use Rattle.studio_io.specs.declared.gain_source.GainAnswer.{GainAnswer}
use Rattle.studio_io.specs.declared.gain_source.GainRequest.{GainRequest}
use Rattle.live_gains.specs.GainMessages.{HasGains, IsReturned}
use Rattle.live_gains.specs.Planned.{AreKept, planned_at}
use Rattle.studio_config.specs.Studio.{Studio}
use Rattle.status_page.specs.declared.control.RequestOutcome.{RequestOutcome}
use Rattle.status_page.specs.declared.control.RequestOutcome.TheVariants.{Answered, NoAnswer}
use Rattle.live_gains.specs.declared.messages.RequestMessage.{RequestMessage}
use Rattle.live_gains.specs.declared.messages.OutcomeMessage.{OutcomeMessage}
use Rattle.live_gains.specs.declared.run_gains.RunGains.{RunGains}

-- the change of gains in the outcome of a request: one, or none
abbrev pub changes_of : RequestOutcome → List ℤ → List (ℤ × List ℤ)
changes_of (Answered answer next) gains = changes_in answer gains
changes_of NoAnswer gains = []

-- the changes of gains in the outcomes that were sent, in order
abbrev pub changes_sent : List OutcomeMessage → List (ℤ × List ℤ)
changes_sent outcomes = flat_map (λ (message : OutcomeMessage). changes_of message.outcome message.gains.items) outcomes

module _ {R : Type 0} where
  -- the changes that a run's end has taken
  abbrev pub changes_by : RunGains R → List (ℤ × List ℤ)
  changes_by end = changes_sent (sent end.answers)

  -- the times that a run's end keeps are those of the changes still to come, at each time from this one on, in the
  -- studio with the changes that the end has taken
  abbrev pub PlansFrom : Studio → ℤ → RunGains R → Type 0
  PlansFrom studio from end = AreKept studio (changes_by end) from end.planned.items

  -- the times that a run's end keeps are exactly those of the changes behind this time
  abbrev pub HasPlanned : Studio → ℤ → RunGains R → Type 0
  HasPlanned studio next end = end.planned.items ≡ planned_at studio (changes_by end) next

  -- the run's end took the next request from the ring, and has to answer it
  pub record Opens (request : GainRequest) (before after : List ℤ) (old new : RunGains R) : Type 0 where
    pub message : RequestMessage
    pub came : received new.requests ≡ received old.requests ++ message ∷ []
    pub taken : new.taken ≡ Some message
    pub asked : message.request ≡ request
    pub gains : HasGains request.action message.gains.items before after
    pub sent_are : sent new.answers ≡ sent old.answers

  -- the run's end took no request, or took one and sent it back at once
  abbrev pub Rests : RunGains R → RunGains R → Type 0
  Rests old new = (received new.requests ≡ received old.requests) × (new.taken ≡ old.taken) × (sent new.answers ≡ sent old.answers)

  pub record Returns (old new : RunGains R) : Type 0 where
    pub message : RequestMessage
    pub outcome : OutcomeMessage
    pub came : received new.requests ≡ received old.requests ++ message ∷ []
    pub is : IsReturned message outcome
    pub taken : new.taken ≡ old.taken
    pub sent_are : sent new.answers ≡ sent old.answers ++ outcome ∷ []

  abbrev pub PassesBack : RunGains R → RunGains R → Type 0
  PassesBack old new = Rests old new ⊎ Returns old new

  -- the run's end sent this answer to the request of a message, with the gains that it shows and the times of the
  -- planned changes
  pub record Answers (message : RequestMessage) (answer : GainAnswer) (next : ℤ) (gains : List ℤ) (old new : RunGains R) : Type 0 where
    pub outcome : OutcomeMessage
    pub own : outcome.number ≡ message.number
    pub is : outcome.outcome ≡ Answered answer next
    pub shown : outcome.gains.items ≡ gains
    pub planned : outcome.planned.items ≡ new.planned.items
    pub sent_are : sent new.answers ≡ sent old.answers ++ outcome ∷ []
    pub received_are : received new.requests ≡ received old.requests
