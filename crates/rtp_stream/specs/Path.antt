-- The names of a stream's paths.
use Rattle.std.specs.Prelude.{ℕ, ◌+◌, ◌∷◌, [], List}

-- the letter of a path: 97, which is `a`, for path 0
abbrev pub path_letter : ℕ → List ℕ
path_letter path = (97 + path) ∷ []
