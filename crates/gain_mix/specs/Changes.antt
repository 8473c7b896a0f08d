-- A matrix of gains, and its changes.
use Rattle.std.specs.Prelude.{ℤ, List, [], ◌∷◌, ◌++◌, int_le, int_lt, if◌then◌else◌}

-- the rows before any change, and the rows from each time on
pub record Changes : Type 0 where
  pub first : List (List ℤ)
  pub later : List (ℤ × List (List ℤ))

-- the rows of the last of these changes at or before `t`, or else `rows`
abbrev pub last_change : List (List ℤ) → List (ℤ × List (List ℤ)) → ℤ → List (List ℤ)
last_change rows [] t = rows
last_change rows (change ∷ later) t = last_change (if int_le change.0 t then change.1 else rows) later t

-- the matrix in force at `t`
abbrev pub matrix_at : Changes → ℤ → List (List ℤ)
matrix_at changes t = last_change changes.first changes.later t

-- those of the changes that are before `at`
abbrev pub before : ℤ → List (ℤ × List (List ℤ)) → List (ℤ × List (List ℤ))
before at [] = []
before at (change ∷ later) = if int_lt change.0 at then change ∷ before at later else before at later

-- a schedule with one more change: its matrix is in force from its time on, and it replaces every change planned for
-- that time or later
abbrev pub with_change : Changes → ℤ → List (List ℤ) → Changes
with_change changes at rows = record changes { later = before at changes.later ++ (at, rows) ∷ [] }

-- the changes that are left after `t`; the rows of the last change up to `t` are the first matrix
abbrev pub rest_of : List (List ℤ) → List (ℤ × List (List ℤ)) → ℤ → Changes
rest_of rows [] t = record { first = rows; later = [] }
rest_of rows (change ∷ later) t =
    if int_le change.0 t then rest_of change.1 later t else record { first = rows; later = change ∷ later }

-- a schedule from `t` on: its matrix at `t`, and the changes that are still to come
abbrev pub rest_at : Changes → ℤ → Changes
rest_at changes t = rest_of changes.first changes.later t
