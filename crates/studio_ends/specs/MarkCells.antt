-- A mark whose payload is in a cell.
use Rattle.std.proofs.Common.{◌≡◌, ℕ, ◌≤◌, List, [], length, refl}
use Rattle.rtp_stream.specs.declared.mark.PacketFormat.{PacketFormat}
use Rattle.rtp_stream.specs.declared.mark.Body.TheVariants.{Got as GotBody, Lost as LostBody}
use Rattle.rtp_stream.specs.declared.mark.MarkKind.{MarkKind}
use Rattle.rtp_stream.specs.declared.mark.MarkKind.TheVariants.{Slot, Quiet, End}
use Rattle.rtp_stream.specs.MarkFacts.{IsMark}
use Rattle.rtp_stream.specs.MarkRef.{HasShortBody}
use Rattle.studio_ends.specs.declared.rings.mark_cell.MarkHeader.{MarkHeader}
use Rattle.studio_ends.specs.declared.rings.mark_cell.MarkHeader.TheVariants.{Got, Lost, Quiet as SaidQuiet, End as SaidEnd}

-- the mark with this header and this payload
abbrev pub kind_in : MarkHeader → List ℕ → MarkKind
kind_in (Got epoch number media) octets = Slot epoch number media (GotBody (record { items = octets }))
kind_in (Lost epoch number media) octets = Slot epoch number media LostBody
kind_in (SaidQuiet until) octets = Quiet until
kind_in SaidEnd octets = End

-- the header of a mark: the mark without its payload
abbrev pub said_of : MarkKind → MarkHeader
said_of (Slot epoch number media (GotBody payload)) = Got epoch number media
said_of (Slot epoch number media LostBody) = Lost epoch number media
said_of (Quiet until) = SaidQuiet until
said_of End = SaidEnd

-- the payload of a mark, or no octets if it has none
abbrev pub octets_in : MarkKind → List ℕ
octets_in (Slot epoch number media (GotBody payload)) = payload.items
octets_in (Slot epoch number media LostBody) = []
octets_in (Quiet until) = []
octets_in End = []

-- the payload of a mark has at most `size` octets
abbrev pub IsWithin : ℕ → MarkKind → Type 0
IsWithin size kind = length (octets_in kind) ≤ size

-- a cell holds a sound mark, and no octets if the mark has no payload
pub record IsMarkCell (format : PacketFormat) (said : MarkHeader) (octets : List ℕ) : Type 0 where
  pub sound : IsMark format (kind_in said octets)
  pub short : HasShortBody (kind_in said octets)
  pub blank : octets_in (kind_in said octets) ≡ octets

-- so the mark determines the header in the cell
pub said_back : (said : MarkHeader) (octets : List ℕ) → said_of (kind_in said octets) ≡ said
said_back (Got epoch number media) octets = refl
said_back (Lost epoch number media) octets = refl
said_back (SaidQuiet until) octets = refl
said_back SaidEnd octets = refl
