-- The contents of a feed and a sink in memory.
use Rattle.std.specs.Prelude.{ℕ, true, List, [], ◌∷◌, ◌++◌, map, take, Option, None, Some}
use Rattle.std.specs.declared.vec.Vec.{Vec}
use Rattle.std.specs.declared.alloc.Global.{Global}
use Rattle.studio_io.specs.Answers.{Answer, Gives, Stops}
use Rattle.studio_io.specs.declared.sink.SendAnswer.{SendAnswer}

-- the results of a feed in memory: each of its datagrams, cut to 2,048 octets, and then the end
abbrev pub told_of : List (Vec ℕ Global) → List Answer
told_of datagrams = map (λ (datagram : Vec ℕ Global). Gives (take 2048 datagram.items)) datagrams ++ Stops ∷ []

-- the datagrams of a sink
abbrev pub octets_of : List (Vec ℕ Global) → List (List ℕ)
octets_of datagrams = map (λ (datagram : Vec ℕ Global). datagram.items) datagrams

-- the results of a sink that both addresses took these datagrams from, if they are known
abbrev pub taken_by_both : Option (List (List ℕ)) → Option (List SendAnswer)
taken_by_both None = None
taken_by_both (Some datagrams) = Some (map (λ datagram. record { a = true; b = true }) datagrams)
