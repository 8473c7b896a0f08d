-- The lists of marks that a stream can produce.
use Rattle.std.specs.Prelude.{ℕ, ◌+◌, Bool, true, false, ◌&&◌, ◌||◌, nat_eq, List, [], ◌∷◌, ℤ, pos, ◌+ℤ◌, int_lt, int_le, Option, Some, None}
use Rattle.rtp_wire.specs.declared.encoding.Enc.{Enc}
use Rattle.rtp_wire.specs.declared.encoding.Enc.TheVariants.{L16, L24}
use Rattle.rtp_stream.specs.MarkFacts.{MarkView}
use Rattle.rtp_stream.specs.declared.mark.PacketFormat.{PacketFormat}
use Rattle.rtp_stream.specs.declared.mark.MarkKind.{MarkKind}
use Rattle.rtp_stream.specs.declared.mark.MarkKind.TheVariants.{Slot, Quiet, End}

abbrev pub is_same_time : ℤ → ℤ → Bool
is_same_time t u = int_le t u && int_le u t

abbrev pub is_same_encoding : Enc → Enc → Bool
is_same_encoding L16 L16 = true
is_same_encoding L16 L24 = false
is_same_encoding L24 L16 = false
is_same_encoding L24 L24 = true

abbrev pub is_same_format : PacketFormat → PacketFormat → Bool
is_same_format f g = is_same_encoding f.enc g.enc && (nat_eq f.channels g.channels && nat_eq f.frames g.frames)

-- a mark may follow the one before it: Quiets come first and rise; the first slot isn't before the last Quiet;
-- a slot follows with the next number at the end of the last, or in the next epoch from there on; nothing follows End
abbrev pub can_follow : ℕ → Option MarkKind → MarkKind → Bool
can_follow frames None next = true
can_follow frames (Some (Quiet until)) (Slot epoch number media body) = int_le until media
can_follow frames (Some (Quiet until)) (Quiet later) = int_lt until later
can_follow frames (Some (Quiet until)) End = true
can_follow frames (Some (Slot epoch number media body)) (Slot epoch' number' media' body') =
    (nat_eq epoch' epoch && (nat_eq number' (number + 1) && is_same_time media' (media +ℤ pos frames)))
    || (nat_eq epoch' (epoch + 1) && int_le (media +ℤ pos frames) media')
can_follow frames (Some (Slot epoch number media body)) (Quiet until) = false
can_follow frames (Some (Slot epoch number media body)) End = true
can_follow frames (Some End) next = false

-- each mark has the stream's format, and may follow the one before it
abbrev pub is_mark_list_after : PacketFormat → Option MarkKind → List MarkView → Bool
is_mark_list_after format last [] = true
is_mark_list_after format last (mark ∷ marks) =
    (is_same_format mark.format format && can_follow format.frames last mark.kind) && is_mark_list_after format (Some mark.kind) marks

abbrev pub is_mark_list : PacketFormat → List MarkView → Bool
is_mark_list format marks = is_mark_list_after format None marks

abbrev pub is_end : MarkKind → Bool
is_end (Slot epoch number media body) = false
is_end (Quiet until) = false
is_end End = true

-- the end is among the marks
abbrev pub has_end : List MarkView → Bool
has_end [] = false
has_end (mark ∷ marks) = is_end mark.kind || has_end marks
