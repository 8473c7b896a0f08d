-- The steps of the page's end of a channel for gains.
use Rattle.std.specs.Prelude.{◌≡◌, ◌⊎◌, ℤ, Bool, true, false, List, [], ◌∷◌, ◌++◌, length, Option, Some, None}
use Rattle.rtrb.specs.Ring.{received, sent}
use Rattle.studio_io.specs.declared.gain_source.GainAnswer.{GainAnswer}
use Rattle.studio_io.specs.declared.gain_source.GainRequest.{GainRequest}
use Rattle.live_gains.specs.GainMemory.{CopiesIfFit, planned_in}
use Rattle.status_page.specs.declared.control.RequestOutcome.{RequestOutcome}
use Rattle.status_page.specs.declared.control.RequestOutcome.TheVariants.{Answered, NoAnswer}
use Rattle.live_gains.specs.declared.messages.RequestMessage.{RequestMessage}
use Rattle.live_gains.specs.declared.messages.OutcomeMessage.{OutcomeMessage}
use Rattle.live_gains.specs.declared.page_requester.MessageMemory.{MessageMemory}
use Rattle.live_gains.specs.declared.page_requester.PageRequester.{PageRequester}

-- the gains in a buffer after an outcome: the gains that an answer shows, or those before
abbrev pub Shows : RequestOutcome → Option MessageMemory → List ℤ → List ℤ → Type 0
Shows (Answered answer next) memory before after = CopiesIfFit memory before after
Shows NoAnswer memory before after = after ≡ before

module _ {R : Type 0} where
  -- a request was sent with these gains, and its message carries the memory
  pub record Sends (request : GainRequest) (gains : List ℤ) (old new : PageRequester R) : Type 0 where
    pub message : RequestMessage
    pub sent_are : sent new.requests ≡ sent old.requests ++ message ∷ []
    pub asked : message.request ≡ request
    pub carried : message.gains.items ≡ gains
    pub own : message.number ≡ length (sent old.requests)
    pub received_are : received new.outcomes ≡ received old.outcomes
    pub away : new.memory ≡ None

  -- a request was sent, or, if not, nothing was sent
  abbrev pub SendsIf : Bool → GainRequest → List ℤ → PageRequester R → PageRequester R → Type 0
  SendsIf true request gains old new = Sends request gains old new
  SendsIf false request gains old new = sent new.requests ≡ sent old.requests

  -- the outcome of the request that was sent came back, with its memory
  pub record CollectsOne (outcome : RequestOutcome) (old new : PageRequester R) : Type 0 where
    pub message : OutcomeMessage
    pub received_are : received new.outcomes ≡ received old.outcomes ++ message ∷ []
    pub own : message.number ≡ length (received old.outcomes)
    pub is : message.outcome ≡ outcome
    pub kept : new.memory ≡ Some (record { gains = message.gains; planned = message.planned })
    pub sent_are : sent new.requests ≡ sent old.requests

  -- no outcome has come back, and a message still carries the memory
  pub record CollectsNone (old new : PageRequester R) : Type 0 where
    pub received_are : received new.outcomes ≡ received old.outcomes
    pub away : new.memory ≡ None
    pub sent_are : sent new.requests ≡ sent old.requests

  abbrev pub Collects : PageRequester R → Option RequestOutcome → PageRequester R → Type 0
  Collects old None new = CollectsNone old new
  Collects old (Some outcome) new = CollectsOne outcome old new

  -- a request was sent, and its own outcome came back: the run's answer, with the gains that it shows and the times of
  -- the planned changes
  pub record IsAnswered (request : GainRequest) (before : List ℤ) (answer : GainAnswer) (next : ℤ) (after : List ℤ) (old new : PageRequester R) : Type 0 where
    pub asked : RequestMessage
    pub sent_are : sent new.requests ≡ sent old.requests ++ asked ∷ []
    pub request_is : asked.request ≡ request
    pub gains_are : asked.gains.items ≡ before
    pub reply : OutcomeMessage
    pub earlier : List OutcomeMessage
    pub received_are : received new.outcomes ≡ earlier ++ reply ∷ []
    pub own : reply.number ≡ asked.number
    pub answer_is : reply.outcome ≡ Answered answer next
    pub shown : length reply.gains.items ≡ length before → after ≡ reply.gains.items
    pub planned : planned_in new.memory ≡ reply.planned.items

  -- a request was sent and not answered, or was not sent
  abbrev pub IsNotAnswered : GainRequest → List ℤ → List ℤ → PageRequester R → PageRequester R → Type 0
  IsNotAnswered request before after old new =
      (after ≡ before) × ((sent new.requests ≡ sent old.requests)
      ⊎ ((asked : RequestMessage) × (sent new.requests ≡ sent old.requests ++ asked ∷ []) × (asked.request ≡ request) × (asked.gains.items ≡ before)))

  -- the page sent this request with these gains from the buffer, if it could, and this is the outcome
  abbrev pub Asks : PageRequester R → GainRequest → List ℤ → RequestOutcome → List ℤ → PageRequester R → Type 0
  Asks old request before (Answered answer next) after new = IsAnswered request before answer next after old new
  Asks old request before NoAnswer after new = IsNotAnswered request before after old new
