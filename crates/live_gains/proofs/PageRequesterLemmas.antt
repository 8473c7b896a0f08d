-- The steps of the page's end of a channel, one after another.
use Rattle.std.proofs.Common.{◌≡◌, inr, ℤ, ◌+◌, List, [], ◌∷◌, ◌++◌, length, Option, Some, None, refl, ap, subst, ◌∙◌, arith, length-append}
use Rattle.rtrb.specs.Ring.{received, sent}
use Rattle.studio_io.specs.declared.gain_source.GainRequest.{GainRequest}
use Rattle.live_gains.specs.PageRequester.{Asks, Collects, CollectsNone, CollectsOne, IsNotAnswered, Sends, Shows}
use Rattle.live_gains.specs.GainMemory.{CopiesIfFit, missing, planned_in}
use Rattle.status_page.specs.declared.control.RequestOutcome.{RequestOutcome}
use Rattle.status_page.specs.declared.control.RequestOutcome.TheVariants.{Answered, NoAnswer}
use Rattle.live_gains.specs.declared.page_requester.PageRequester.{PageRequester}

module _ {R : Type 0} where
  -- an outcome that came back after a while in which nothing did
  pub one_later : (outcome : RequestOutcome) (old mid new : PageRequester R) → received mid.outcomes ≡ received old.outcomes → sent mid.requests ≡ sent old.requests
      → CollectsOne outcome mid new → CollectsOne outcome old new
  one_later outcome old mid new none same c = record {
    message = c.message;
    received_are = c.received_are ∙ ap (λ l. l ++ c.message ∷ []) none;
    own = c.own ∙ ap length none;
    is = c.is;
    kept = c.kept;
    sent_are = c.sent_are ∙ same;
  }

  pub collects_later : (outcome : Option RequestOutcome) (old mid new : PageRequester R) → CollectsNone old mid → Collects mid outcome new → Collects old outcome new
  collects_later None old mid new n c = record { received_are = c.received_are ∙ n.received_are; away = c.away; sent_are = c.sent_are ∙ n.sent_are }
  collects_later (Some outcome) old mid new n c = one_later outcome old mid new n.received_are n.sent_are c

  -- the outcome is that of the request that was sent
  own_outcome : (request : GainRequest) (before : List ℤ) (outcome : RequestOutcome) (mid requester new : PageRequester R) → (s : Sends request before mid requester) → (c : CollectsOne outcome requester new)
      → c.message.number ≡ s.message.number
  own_outcome request before outcome mid requester new s c =
      let count : requester.count ≡ length (sent mid.requests) + 1 = requester.counted ∙ (ap length s.sent_are ∙ length-append (sent mid.requests) (s.message ∷ [])) in
      let one : requester.count ≡ length (received requester.outcomes) + 1 = requester.one ∙ ap (λ m. length (received requester.outcomes) + missing m) s.away in
      omega (arith, count, one, c.own, s.own)

  copied : (outcome : RequestOutcome) (before after : List ℤ) (requester new : PageRequester R) → (c : CollectsOne outcome requester new) → CopiesIfFit new.memory before after
      → length c.message.gains.items ≡ length before → after ≡ c.message.gains.items
  copied outcome before after requester new c copies = subst (λ m. CopiesIfFit m before after) c.kept copies

  -- a request that was sent, and its outcome
  pub asked : (request : GainRequest) (before after : List ℤ) (outcome : RequestOutcome) (old mid requester new : PageRequester R) → sent mid.requests ≡ sent old.requests
      → Sends request before mid requester → CollectsOne outcome requester new → Shows outcome new.memory before after → Asks old request before outcome after new
  asked request before after (Answered answer next) old mid requester new same s c shows = record {
    asked = s.message;
    sent_are = c.sent_are ∙ (s.sent_are ∙ ap (λ l. l ++ s.message ∷ []) same);
    request_is = s.asked;
    gains_are = s.carried;
    reply = c.message;
    earlier = received requester.outcomes;
    received_are = c.received_are;
    own = own_outcome request before (Answered answer next) mid requester new s c;
    answer_is = c.is;
    shown = copied (Answered answer next) before after requester new c shows;
    planned = ap planned_in c.kept;
  }
  asked request before after NoAnswer old mid requester new same s c shows = (shows, inr (s.message, c.sent_are ∙ (s.sent_are ∙ ap (λ l. l ++ s.message ∷ []) same), s.asked, s.carried))

  -- a request that was sent, and has no outcome
  pub not_answered : (request : GainRequest) (before : List ℤ) (old mid requester new : PageRequester R) → sent mid.requests ≡ sent old.requests
      → Sends request before mid requester → CollectsNone requester new → IsNotAnswered request before before old new
  not_answered request before old mid requester new same s c = (refl, inr (s.message, c.sent_are ∙ (s.sent_are ∙ ap (λ l. l ++ s.message ∷ []) same), s.asked, s.carried))
