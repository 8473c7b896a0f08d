-- The datagrams that a path takes.
use Rattle.std.specs.Prelude.{◌≡◌, ◌≤◌, ℕ, List, ◌++◌, drop, length, Option, Some}

-- the greatest number of octets of a datagram
abbrev pub most_octets : ℕ
most_octets = 2048

-- a datagram of so many octets is taken, if there is so much space
abbrev pub Fits : ℕ → ℕ → Type 0
Fits octets space = (octets ≤ most_octets) × (octets ≤ space)

-- a datagram is at the start of a buffer, and nothing else of the buffer changed
abbrev pub IsCopied : List ℕ → List ℕ → List ℕ → Option ℕ → Type 0
IsCopied datagram old new count = (count ≡ Some (length datagram)) × (new ≡ datagram ++ drop (length datagram) old)
