-- The format of the mark that a merge returns next.
use Rattle.std.proofs.Common.{◌≡◌, ◌∙◌, Bool, true, false, ℤ, Option, Some, None, if◌then◌else◌, refl, sym, ap}
use Rattle.rtp_stream.specs.MarkFacts.{MarkView}
use Rattle.rtp_stream.specs.Marks.{quiet_mark}
use Rattle.rtp_stream.specs.StreamSpecFacts.{format_of}
use Rattle.rtp_stream.specs.declared.anchor.Anchor.{Anchor}
use Rattle.rtp_stream.specs.declared.mark.PacketFormat.{PacketFormat}
use Rattle.path_merge.specs.Goal.{next_to}
use Rattle.path_merge.specs.MergeState.{MergeState}
use Rattle.path_merge.specs.NextMark.{anchor_due, anchor_after_close, slot_or_end, slot_or_quiet}
use Rattle.path_merge.specs.declared.goal.Goal.{Goal}
use Rattle.path_merge.specs.declared.goal.Goal.TheVariants.{End, Tick}

-- the format of a mark, or this one if there is no mark
abbrev format_or : PacketFormat → Option MarkView → PacketFormat
format_or format None = format
format_or format (Some mark) = mark.format

either : (format : PacketFormat) (b : Bool) (some : Option MarkView) → format_or format some ≡ format → format_or format (if b then some else None) ≡ format
either format true some h = h
either format false some h = refl

at_reading : (m : MergeState) (now : ℤ) (anchor : Option Anchor) → format_or (format_of m.spec) (slot_or_quiet m now anchor) ≡ format_of m.spec
at_reading m now (Some anchor) = refl
at_reading m now None = either (format_of m.spec) _ (Some (quiet_mark m.spec _)) refl

at_end : (m : MergeState) (anchor : Option Anchor) → (slot_or_end m anchor).format ≡ format_of m.spec
at_end m (Some anchor) = refl
at_end m None = refl

left : (format : PacketFormat) (closed ended : Bool) (mark : MarkView) → mark.format ≡ format → format_or format (if closed then (if ended then None else Some mark) else None) ≡ format
left format true true mark h = refl
left format true false mark h = h
left format false ended mark h = refl

next_or : (m : MergeState) (goal : Goal) → format_or (format_of m.spec) (next_to m goal) ≡ format_of m.spec
next_or m (Tick now) = at_reading m now (anchor_due m now)
next_or m End = left (format_of m.spec) m.closed m.ended (slot_or_end m (anchor_after_close m)) (at_end m (anchor_after_close m))

-- the format of a merge's next mark is that of its stream
pub next_format : (m : MergeState) (goal : Goal) (mark : MarkView) → next_to m goal ≡ Some mark → mark.format ≡ format_of m.spec
next_format m goal mark is = sym (ap (format_or (format_of m.spec)) is) ∙ next_or m goal
