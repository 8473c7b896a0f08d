-- Octets that are written over others.
use Rattle.std.specs.Prelude.{ℕ, ◌+◌, List, ◌++◌, length, take, drop}

-- a list of octets in which these octets replace the ones from a place on
abbrev pub written_at : ℕ → List ℕ → List ℕ → List ℕ
written_at place octets all = take place all ++ octets ++ drop (place + length octets) all
