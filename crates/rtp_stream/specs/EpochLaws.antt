-- The slots of a history as the spans of its epochs, one after the other.
use Rattle.std.specs.Prelude.{◌≡◌, ℕ, ◌-◌, nat_eq, List, [], ◌∷◌, ◌++◌, length, take, ℤ, Option, Some, None, if◌then◌else◌}
use Rattle.rtp_stream.specs.declared.stream_spec.Stream.{Stream}
use Rattle.rtp_stream.specs.MarkFacts.{MarkView}
use Rattle.rtp_stream.specs.declared.anchor.Anchor.{Anchor}
use Rattle.rtp_stream.specs.declared.packet.Packet.{Packet}
use Rattle.rtp_stream.specs.declared.mark.Body.{Body}
use Rattle.rtp_stream.specs.declared.mark.MarkKind.{MarkKind}
use Rattle.rtp_stream.specs.declared.mark.MarkKind.TheVariants.{Slot, Quiet, End}
use Rattle.rtp_stream.specs.declared.event.Event.{Event}
use Rattle.rtp_stream.specs.History.{time_of}
use Rattle.rtp_stream.specs.Anchor.{media_time_of, next_number}
use Rattle.rtp_stream.specs.Grid.{first_with}
use Rattle.rtp_stream.specs.Copies.{copies_in, copies_of_all}
use Rattle.rtp_stream.specs.Epochs.{anchors_of}
use Rattle.rtp_stream.specs.Marks.{body_of, marks_of, span_end}
use Rattle.rtp_stream.specs.Laws.{names_from, numbers_from, slot_names}

-- the spans of these epochs: each up to the number that was due next when the following one opened,
-- the last one up to `span_end` of the history
abbrev pub spans_of : Stream → ℤ → List Event → List (ℕ × Anchor) → List (ℕ × ℕ)
spans_of stream open_at events [] = []
spans_of stream open_at events ((place, a) ∷ []) = names_from a.epoch a.number (span_end stream open_at events a - a.number)
spans_of stream open_at events ((place, a) ∷ (place', a') ∷ rest) =
    names_from a.epoch a.number (next_number stream a (time_of open_at (take place' events)) - a.number) ++ spans_of stream open_at events ((place', a') ∷ rest)

-- the epochs of these anchors
abbrev pub epochs_in : List (ℕ × Anchor) → List ℕ
epochs_in [] = []
epochs_in ((place, a) ∷ anchors) = a.epoch ∷ epochs_in anchors

-- the anchor of an epoch
abbrev pub anchor_with : ℕ → List (ℕ × Anchor) → Option Anchor
anchor_with epoch [] = None
anchor_with epoch ((place, a) ∷ anchors) = if nat_eq a.epoch epoch then Some a else anchor_with epoch anchors

-- a slot of this anchor's epoch: it has the media time of its number, and the payload of its first copy, or none
abbrev pub IsSlotUnder : Stream → Option Anchor → List (ℕ × Packet) → ℕ → ℤ → Body → Type 0
IsSlotUnder stream None copies number media body = ⊥
IsSlotUnder stream (Some a) copies number media body = (media ≡ media_time_of stream a number) × (body ≡ body_of (first_with number copies))

abbrev pub IsSlotAmong : Stream → List (ℕ × Anchor) → List (ℕ × (ℕ × Packet)) → MarkKind → Type 0
IsSlotAmong stream anchors copies (Slot epoch number media body) = IsSlotUnder stream (anchor_with epoch anchors) (copies_in epoch copies) number media body
IsSlotAmong stream anchors copies (Quiet until) = Unit {0}
IsSlotAmong stream anchors copies End = Unit {0}

abbrev pub AllSlotsAmong : Stream → List (ℕ × Anchor) → List (ℕ × (ℕ × Packet)) → List MarkView → Type 0
AllSlotsAmong stream anchors copies [] = Unit {0}
AllSlotsAmong stream anchors copies (mark ∷ marks) = IsSlotAmong stream anchors copies mark.kind × AllSlotsAmong stream anchors copies marks

-- epochs count up from 0; the slots are those of the epochs' spans, each once, epoch by epoch, with rising numbers;
-- each slot has the first copy of its number in its epoch
pub record HasSpans (stream : Stream) (open_at : ℤ) (events : List Event) : Type 0 where
  pub epochs : epochs_in (anchors_of stream open_at events) ≡ numbers_from 0 (length (anchors_of stream open_at events))
  pub names : slot_names (marks_of stream open_at events) ≡ spans_of stream open_at events (anchors_of stream open_at events)
  pub slots : AllSlotsAmong stream (anchors_of stream open_at events) (copies_of_all stream open_at events) (marks_of stream open_at events)
