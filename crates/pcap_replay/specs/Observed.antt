-- The events that an observer received, if there is an observer.
use Rattle.std.specs.Prelude.{ℕ, List, Option, Some, None, ⊤}
use Rattle.studio_session.specs.Event.{TraceEvent}

-- an observer, if there is one, received these events and datagrams; if there was none before, there is none now
abbrev pub HasHeardIf : {X : Type 0} → (X → X → List TraceEvent → List (List ℕ) → Type 0) → Option X → Option X → List TraceEvent → List (List ℕ) → Type 0
HasHeardIf heard None None events datagrams = ⊤
HasHeardIf heard None (Some now) events datagrams = ⊥
HasHeardIf heard (Some begun) None events datagrams = ⊥
HasHeardIf heard (Some begun) (Some now) events datagrams = heard begun now events datagrams
