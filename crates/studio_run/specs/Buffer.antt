-- Text that passes through a buffer to a writer.
use Rattle.std.specs.Prelude.{◌≡◌, ℕ, ◌<◌, List, ◌++◌, length, take, Option}
use Rattle.std.specs.Io.KnownBytes.{Appends}

-- these octets were appended to those that the buffer held; a prefix of all was written, and the buffer holds the rest
pub record PassesOn (written : Option (List ℕ)) (held : List ℕ) (written_then : Option (List ℕ)) (held_then octets : List ℕ) : Type 0 where
  pub front : List ℕ
  pub whole : held ++ octets ≡ front ++ held_then
  pub wrote : Appends written written_then front

-- of the octets that the buffer held and these after them, only a prefix was written, and not all
pub record BreaksOff (written : Option (List ℕ)) (held : List ℕ) (written_then : Option (List ℕ)) (octets : List ℕ) : Type 0 where
  pub count : ℕ
  pub part : count < length (held ++ octets)
  pub wrote : Appends written written_then (take count (held ++ octets))
