-- A packet that was offered to a stream's merge.
use Rattle.std.specs.Prelude.{ℕ, ℤ, Bool, Option}
use Rattle.rtp_stream.specs.declared.fate.Fate.{Fate}

-- a packet that was offered: the path that brought it, its fate, its sequence number, its arrival margin, the clock
-- reading then, and whether its number is that of the last packet that was taken before it, or less
pub record Offer : Type 0 where
  pub path : ℕ
  pub fate : Fate
  pub seq : ℕ
  pub spare : Option ℕ
  pub now : ℤ
  pub again : Bool
