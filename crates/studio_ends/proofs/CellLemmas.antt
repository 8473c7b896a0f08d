-- The octets that are written to a cell.
use Rattle.std.proofs.Common.{arith, ◌≡◌, ◌≤◌, ℕ, List, ◌++◌, length, take, drop, sym, ap, ◌∙◌, length-append}
use Rattle.std.proofs.lemmas.List.{length-drop}
use Rattle.std.proofs.lemmas.Slice.{drop-append-drop}
use Rattle.std.proofs.Math.Seq.{take-append_seam}
use Rattle.rtp_stream.specs.MarkFacts.{IsMark, payload_length}
use Rattle.rtp_stream.specs.declared.mark.PacketFormat.{PacketFormat}
use Rattle.rtp_stream.specs.declared.mark.Body.TheVariants.{Got, Lost}
use Rattle.rtp_stream.specs.declared.mark.MarkKind.{MarkKind}
use Rattle.rtp_stream.specs.declared.mark.MarkKind.TheVariants.{Slot, Quiet, End}
use Rattle.studio_ends.specs.MarkCells.{IsWithin}
use Rattle.studio_ends.specs.PayloadCells.{IsCell, taken_length}

-- the length that is stored with a cell is that of its payload
pub length_is : (size len : ℕ) (before value : List ℕ) → IsCell size len before → take len before ≡ value → len ≡ length value
length_is size len before value h is = sym (taken_length size len before h) ∙ ap length is

-- writing as many octets as the payload has leaves the zeros after them
pub written : (size len k : ℕ) (before front : List ℕ) → IsCell size len before → len ≡ k → length front ≡ k → IsCell size len (front ++ drop k before)
written size len k before front h same e =
    let all = h.size_is in
    let fits = h.fits in
    record {
      size_is = omega (arith, all, fits, same, e, length-drop k before, length-append front (drop k before));
      fits = h.fits;
      blank = drop-append-drop k before front len (omega (arith, same)) e ∙ h.blank;
    }

-- the octets that were written are then the payload
pub written_is : (len k : ℕ) (before front : List ℕ) → len ≡ k → length front ≡ k → take len (front ++ drop k before) ≡ front
written_is len k before front same e = ap (λ n. take n (front ++ drop k before)) (same ∙ sym e) ∙ take-append_seam front (drop k before)

-- if payloads of a format fit, each mark of the format fits
pub mark_within : (size : ℕ) (format : PacketFormat) (kind : MarkKind) → IsMark format kind → payload_length format ≤ size → IsWithin size kind
mark_within size format (Slot epoch number media (Got payload)) sound space = rw sound.3 space
mark_within size format (Slot epoch number media Lost) sound space = omega arith
mark_within size format (Quiet until) sound space = omega arith
mark_within size format End sound space = omega arith
