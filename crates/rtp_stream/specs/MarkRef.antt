-- A mark whose payload is borrowed.
use Rattle.std.specs.Prelude.{ℕ, ◌≤◌, List, length, Option, Some, None, option_copied}
use Rattle.rtp_stream.specs.MarkFacts.{IsMark}
use Rattle.rtp_stream.specs.declared.mark.PacketFormat.{PacketFormat}
use Rattle.rtp_stream.specs.declared.mark.Body.{Body}
use Rattle.rtp_stream.specs.declared.mark.Body.TheVariants.{Got, Lost}
use Rattle.rtp_stream.specs.declared.mark.MarkKind.{MarkKind}
use Rattle.rtp_stream.specs.declared.mark.MarkKind.TheVariants.{Slot, Quiet, End}
use Rattle.rtp_stream.specs.declared.mark_ref.MarkKindRef.{MarkKindRef}
use Rattle.rtp_stream.specs.declared.mark_ref.MarkKindRef.TheVariants.{Slot as LentSlot, Quiet as LentQuiet, End as LentEnd}

-- the body with these octets, or lost
abbrev pub body_from : Option (List ℕ) → Body
body_from (Some octets) = Got (record { items = octets })
body_from None = Lost

-- the mark with a copy of the borrowed octets
abbrev pub kind_of : MarkKindRef → MarkKind
kind_of (LentSlot epoch number media payload) = Slot epoch number media (body_from (option_copied payload))
kind_of (LentQuiet until) = Quiet until
kind_of LentEnd = End

-- a payload can hold the octets
abbrev pub IsShort : Body → Type 0
IsShort (Got payload) = length payload.items ≤ 1440
IsShort Lost = Unit {0}

abbrev pub HasShortBody : MarkKind → Type 0
HasShortBody (Slot epoch number media body) = IsShort body
HasShortBody (Quiet until) = Unit {0}
HasShortBody End = Unit {0}

-- what is true of every borrowed mark
pub record IsMarkRef (format : PacketFormat) (kind : MarkKind) : Type 0 where
  pub sound : IsMark format kind
  pub short : HasShortBody kind
