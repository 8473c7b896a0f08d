-- The file of a record.
use Rattle.std.specs.Prelude.{◌≡◌, ℕ, List, take, ⊤, Option, Some, None}

-- if the octets are known, they are these
abbrev pub Holds : Option (List ℕ) → List ℕ → Type 0
Holds None octets = ⊤
Holds (Some held) octets = held ≡ octets

-- if the octets are known, the first `len` of them are left
abbrev pub IsCut : Option (List ℕ) → Option (List ℕ) → ℕ → Type 0
IsCut None new len = ⊤
IsCut (Some held) None len = ⊥
IsCut (Some held) (Some left) len = left ≡ take len held
