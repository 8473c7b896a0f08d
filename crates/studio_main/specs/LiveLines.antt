-- The lines of a live run on standard error.
use Rattle.std.specs.Prelude.{ℕ, Bool, true, false, List, Option, None}

-- what is known of the octets that were written: what is known of standard error, if it is no terminal
abbrev pub written_lines : Bool → Option (List ℕ) → Option (List ℕ)
written_lines true written = None
written_lines false written = written
