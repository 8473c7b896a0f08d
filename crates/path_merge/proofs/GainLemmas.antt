-- The slots that each event adds.
use Rattle.std.proofs.Common.{◌≡◌, ℕ, ◌+◌, ◌-◌, false, List, [], ◌∷◌, ◌++◌, length, Option, Some, None, ℤ, refl, ap, ◌∙◌, arith, append-nil}
use Rattle.std.specs.Prelude.{cond, count_by}
use Rattle.path_merge.proofs.CloseLemmas.{marks_of-close}
use Rattle.path_merge.proofs.HistoryLemmas.{copies_of-with}
use Rattle.path_merge.proofs.SpanLemmas.{quiet_names, run_names, slot_names-append}
use Rattle.path_merge.proofs.StepLemmas.{marks_of-tick}
use Rattle.path_merge.proofs.TallyLemmas.{count_by-first}
use Rattle.rtp_stream.specs.Anchor.{next_number}
use Rattle.rtp_stream.specs.Copies.{copies_of}
use Rattle.rtp_stream.specs.Counts.{is_got, is_lost}
use Rattle.rtp_stream.specs.Epochs.{anchor_of}
use Rattle.rtp_stream.specs.Grid.{end_of_copies}
use Rattle.rtp_stream.specs.History.{is_closed, time_of}
use Rattle.rtp_stream.specs.Laws.{names_in, slot_names, slots_left, slots_reached}
use Rattle.rtp_stream.specs.MarkFacts.{MarkView}
use Rattle.rtp_stream.specs.Marks.{end_mark, marks_of, slots_at_close, slots_between}
use Rattle.rtp_stream.specs.declared.stream_spec.Stream.{Stream}
use Rattle.rtp_stream.specs.declared.anchor.Anchor.{Anchor}
use Rattle.rtp_stream.specs.declared.event.Event.{Event}
use Rattle.rtp_stream.specs.declared.event.Event.TheVariants.{Close, Tick}
use Rattle.rtp_stream.specs.declared.mark.Body.TheVariants.{Got, Lost}
use Rattle.rtp_stream.specs.declared.mark.MarkKind.{MarkKind}
use Rattle.rtp_stream.specs.declared.mark.MarkKind.TheVariants.{End, Quiet, Slot}
use Rattle.rtp_stream.specs.declared.packet.Packet.{Packet}

-- the slots of an event, by their epoch and number
between_names : (stream : Stream) (copies : List (ℕ × Packet)) (o : Option Anchor) (from to : ℤ) → slot_names (slots_between stream copies o from to) ≡ slots_reached stream o from to
between_names stream copies None from to = refl
between_names stream copies (Some a) from to = run_names stream a copies (next_number stream a from) (next_number stream a to - next_number stream a from)

pub tick_gives : (stream : Stream) (open_at : ℤ) (events : List Event) (u : ℤ) → is_closed events ≡ false → slot_names (marks_of stream open_at (events ++ Tick u ∷ [])) ≡ slot_names (marks_of stream open_at events) ++ slots_reached stream (anchor_of stream open_at events) (time_of open_at events) u
tick_gives stream open_at events u open_yet =
    ap slot_names (marks_of-tick stream open_at events u open_yet)
    ∙ slot_names-append (marks_of stream open_at events) _
    ∙ ap (λ l. slot_names (marks_of stream open_at events) ++ l) (quiet_names stream open_at (marks_of stream open_at events) u (slots_between stream (copies_of stream open_at events) (anchor_of stream open_at events) (time_of open_at events) u) ∙ between_names stream (copies_of stream open_at events) (anchor_of stream open_at events) (time_of open_at events) u)

left_names : (stream : Stream) (copies : List (ℕ × Packet)) (o : Option Anchor) (time : ℤ) → slot_names (slots_at_close stream copies o time ++ end_mark stream ∷ []) ≡ slots_left stream o time copies
left_names stream copies None time = refl
left_names stream copies (Some a) time = slot_names-append (slots_at_close stream copies (Some a) time) (end_mark stream ∷ []) ∙ append-nil _ ∙ run_names stream a copies (next_number stream a time) (end_of_copies copies - next_number stream a time)

pub close_gives : (stream : Stream) (open_at : ℤ) (events : List Event) → is_closed events ≡ false → slot_names (marks_of stream open_at (events ++ Close ∷ [])) ≡ slot_names (marks_of stream open_at events) ++ slots_left stream (anchor_of stream open_at events) (time_of open_at events) (copies_of stream open_at events)
close_gives stream open_at events open_yet =
    ap slot_names (marks_of-close stream open_at events)
    ∙ slot_names-append (marks_of stream open_at events) _
    ∙ ap (λ l. slot_names (marks_of stream open_at events) ++ l) (rw (open_yet, copies_of-with stream open_at events) (left_names stream (copies_of stream open_at events) (anchor_of stream open_at events) (time_of open_at events)))

-- each slot is counted once, as got or as lost
pub slots_told : (marks : List MarkView) → count_by (λ mark. is_got mark.kind) marks + count_by (λ mark. is_lost mark.kind) marks ≡ length (slot_names marks)
slots_told [] = refl
slots_told (mark ∷ marks) = omega (arith, count_by-first (λ mark. is_got mark.kind) mark marks, count_by-first (λ mark. is_lost mark.kind) mark marks, slots_told marks, by_kind mark.kind)
  where
    by_kind : (kind : MarkKind) → cond (is_got kind) 1 0 + cond (is_lost kind) 1 0 + length (slot_names marks) ≡ length (names_in kind ++ slot_names marks)
    by_kind (Slot e n m (Got p)) = omega arith
    by_kind (Slot e n m Lost) = omega arith
    by_kind (Quiet u) = omega arith
    by_kind End = omega arith
