-- The datagrams that a sink was passed, and its results.
use Rattle.std.specs.Prelude.{◌≡◌, ℕ, List, ◌++◌, Option, IfSome, IsSomeAnd}
use Rattle.studio_io.specs.declared.sink.SendAnswer.{SendAnswer}

-- if the contents of a sink are known afterwards, they were known before, and the sink was passed exactly these
-- datagrams in between
abbrev pub Hands : Option (List (List ℕ)) → List (List ℕ) → Option (List (List ℕ)) → Type 0
Hands before datagrams after = IfSome after (λ all. IsSomeAnd before (λ earlier. all ≡ earlier ++ datagrams))

-- if the results of a sink are known afterwards, they were known before, and it returned exactly these in between
abbrev pub Returns : Option (List SendAnswer) → List SendAnswer → Option (List SendAnswer) → Type 0
Returns before answers after = IfSome after (λ all. IsSomeAnd before (λ earlier. all ≡ earlier ++ answers))
