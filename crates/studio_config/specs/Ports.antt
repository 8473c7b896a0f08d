-- The ports of streams, path by path.
use Rattle.std.specs.Prelude.{ℕ, zero, suc, List, [], ◌∷◌, Option, None, slice_get, unwrap_or}

-- a row of four paths with nothing known
abbrev pub absent_row : {A : Type 0} → List (Option A)
absent_row = None ∷ None ∷ None ∷ None ∷ []

-- rows of streams with nothing known
abbrev pub absent_rows : {A : Type 0} → ℕ → List (List (Option A))
absent_rows zero = []
absent_rows (suc streams) = absent_row ∷ absent_rows streams

-- the port of this stream's path
abbrev pub port_at : List (List (Option ℕ)) → ℕ → ℕ → Option ℕ
port_at rows stream path = unwrap_or (slice_get (unwrap_or (slice_get rows stream) []) path) None
