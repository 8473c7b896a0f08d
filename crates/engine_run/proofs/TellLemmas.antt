-- The contents of a sink and of an observer, one call further.
use Rattle.std.proofs.Common.{◌≡◌, ℕ, Bool, true, false, List, [], ◌∷◌, ◌++◌, ℤ, Option, Some, None, slice_get, if◌then◌else◌, refl, sym, ap, subst, ◌∙◌, append_assoc, append-nil}
use Rattle.std.specs.Prelude.{IfSome, IsSomeAnd}
use Rattle.std.specs.Ordering.{int_eq}
use Rattle.rtp_stream.specs.declared.stream_spec.Stream.{Stream}
use Rattle.studio_session.specs.Event.{TraceEvent, Arrival, Tick, Closing}
use Rattle.studio_session.specs.Fault.{path_fault, time_after, time_at}
use Rattle.studio_session.specs.ArriveOutcome.{outcome_of}
use Rattle.studio_session.specs.declared.arrive_outcome.ArriveOutcome.{ArriveOutcome}
use Rattle.studio_engine.specs.Session.{turned}
use Rattle.engine_run.specs.Observers.{Came, Closed, HasNotedTaken, Heard, Hears, came_of, heard_by, heard_of}

module _ {X : Type 0} where
  -- if a list is known afterwards, it was known before, and exactly these elements were added in between
  abbrev pub Adds : Option (List X) → List X → Option (List X) → Type 0
  Adds before more after = IfSome after (λ all. IsSomeAnd before (λ earlier. all ≡ earlier ++ more))

  pub adds_none : (o : Option (List X)) → Adds o [] o
  adds_none None = tt
  adds_none (Some before) = sym (append-nil before)

  pub adds_more : (o p q : Option (List X)) (xs ys : List X) → Adds o xs p → Adds p ys q → Adds o (xs ++ ys) q
  adds_more o p None xs ys h k = tt
  adds_more o None (Some all) xs ys h k = absurd k
  adds_more None (Some mid) (Some all) xs ys h k = absurd h
  adds_more (Some before) (Some mid) (Some all) xs ys h k = k ∙ (ap (λ l. l ++ ys) h ∙ append_assoc before xs ys)

-- no changes were noted; and changes that were noted after others
pub noted_none : (a : List (ℤ × List ℤ)) (o : Option (List (ℤ × List ℤ))) → HasNotedTaken a a o o
noted_none a o = record { changes = []; taken = sym (append-nil a); noted = adds_none o }

pub noted_more : (a b c : List (ℤ × List ℤ)) (o p q : Option (List (ℤ × List ℤ))) → HasNotedTaken a b o p → HasNotedTaken b c p q → HasNotedTaken a c o q
noted_more a b c o p q h k = record {
  changes = h.changes ++ k.changes;
  taken = k.taken ∙ (ap (λ l. l ++ k.changes) h.taken ∙ append_assoc a h.changes k.changes);
  noted = adds_more o p q h.changes k.changes h.noted k.noted;
}

-- changes that were noted, and then none
pub noted_same : (a b : List (ℤ × List ℤ)) (o p q : Option (List (ℤ × List ℤ))) → HasNotedTaken a b o p → q ≡ p → HasNotedTaken a b o q
noted_same a b o p q h same = record { changes = h.changes; taken = h.taken; noted = subst (λ r. Adds o h.changes r) (sym same) h.noted }

-- the time after the events of two lists
time-append : (time : ℤ) (xs ys : List TraceEvent) → time_at time (xs ++ ys) ≡ time_at (time_at time xs) ys
time-append time [] ys = refl
time-append time (x ∷ xs) ys = time-append (time_after time x) xs ys

-- the notifications of the events of two lists
heard-append : (streams : List Stream) (open_at : ℤ) (before xs ys : List TraceEvent) → heard_by streams open_at before (xs ++ ys) ≡ heard_by streams open_at before xs ++ heard_by streams open_at (before ++ xs) ys
heard-append streams open_at before [] ys = ap (λ l. heard_by streams open_at l ys) (sym (append-nil before))
heard-append streams open_at before (x ∷ xs) ys =
    let later = before ++ x ∷ [] in
    let one = heard_of streams open_at before x in
    let some = heard_by streams open_at later xs in
    ap (λ l. one ++ l) (heard-append streams open_at later xs ys)
    ∙ (sym (append_assoc one some (heard_by streams open_at (later ++ xs) ys)) ∙ ap (λ l. (one ++ some) ++ heard_by streams open_at l ys) (append_assoc before (x ∷ []) xs))

-- a clock reading has no notification
pub heard_turned : (streams : List Stream) (open_at old new : ℤ) (events : List TraceEvent) → heard_by streams open_at [] (turned old new events) ≡ heard_by streams open_at [] events
heard_turned streams open_at old new events = by_test (int_eq old new)
  where
    by_test : (b : Bool) → heard_by streams open_at [] (if b then events else events ++ Tick new ∷ []) ≡ heard_by streams open_at [] events
    by_test true = refl
    by_test false = heard-append streams open_at [] events (Tick new ∷ []) ∙ append-nil (heard_by streams open_at [] events)

-- a datagram that has no fault is one of a stream
pub stream_of : (found : Option Stream) (place path : ℕ) → path_fault place found path ≡ None → (spec : Stream) × (found ≡ Some spec)
stream_of None place path fine = absurd (cc)
stream_of (Some spec) place path fine = (spec, refl)

-- the notification of an arrival has the time after the arrival, and its outcome
pub hears_one : (streams : List Stream) (open_at : ℤ) (events : List TraceEvent) (o p : Option (List Heard)) (stream path : ℕ) (time : ℤ) (octets : List ℕ) (spec : Stream) (outcome : ArriveOutcome)
    → slice_get streams stream ≡ Some spec → outcome ≡ outcome_of spec stream open_at events path octets → time ≡ time_at open_at (events ++ Arrival stream path octets ∷ [])
    → Hears o (Came stream path time octets outcome ∷ []) p → Hears o (heard_by streams open_at events (Arrival stream path octets ∷ [])) p
hears_one streams open_at events o p stream path time octets spec outcome at outcome_is is h =
    subst (λ found. Hears o (came_of found open_at events stream path octets ++ []) p) (sym at)
    (subst (λ x. Hears o (Came stream path (time_at open_at events) octets x ∷ []) p) outcome_is
    (subst (λ t. Hears o (Came stream path t octets outcome ∷ []) p) (is ∙ time-append open_at events (Arrival stream path octets ∷ [])) h))

module _ (streams : List Stream) (open_at : ℤ) (events : List TraceEvent) (o p q : Option (List Heard)) where
  -- an observer that was notified of all events, and then of more
  pub hears_on : (more : List TraceEvent) → Hears o (heard_by streams open_at [] events) p → Hears p (heard_by streams open_at events more) q → Hears o (heard_by streams open_at [] (events ++ more)) q
  hears_on more h k = subst (λ l. Hears o l q) (sym (heard-append streams open_at [] events more)) (adds_more o p q (heard_by streams open_at [] events) (heard_by streams open_at events more) h k)

  -- an observer that was notified of the events `xs` after all others, and then of more
  pub hears_more : (xs ys : List TraceEvent) → Hears o (heard_by streams open_at events xs) p → Hears p (heard_by streams open_at (events ++ xs) ys) q → Hears o (heard_by streams open_at events (xs ++ ys)) q
  hears_more xs ys h k =
      subst (λ l. Hears o l q) (sym (heard-append streams open_at events xs ys))
      (adds_more o p q (heard_by streams open_at events xs) (heard_by streams open_at (events ++ xs) ys) h k)

  -- an observer that was notified of all events, and then of the close
  pub hears_close : (time : ℤ) → time ≡ time_at open_at (events ++ Closing ∷ []) → Hears o (heard_by streams open_at [] events) p → Hears p (Closed time ∷ []) q → Hears o (heard_by streams open_at [] (events ++ Closing ∷ [])) q
  hears_close time is h k = hears_on (Closing ∷ []) h (subst (λ t. Hears p (Closed t ∷ []) q) (is ∙ time-append open_at events (Closing ∷ [])) k)
