-- The distance at which the marks of an open history keep up with the clock.
use Rattle.std.specs.Prelude.{ℕ, ◌+◌, ◌*◌, ℤ, pos, ◌+ℤ◌, ◌-ℤ◌, ◌≤ℤ◌, ◌<ℤ◌, List, Option, Some, None, All}
use Rattle.rtp_stream.specs.declared.stream_spec.Stream.{Stream}
use Rattle.rtp_stream.specs.declared.mark.MarkKind.{MarkKind}
use Rattle.rtp_stream.specs.declared.mark.MarkKind.TheVariants.{Slot, Quiet, End}
use Rattle.rtp_stream.specs.Epochs.{last_of}
use Rattle.rtp_stream.specs.MarkFacts.{MarkView}

-- the deadline of this media time is after `from`, and at most `to`
pub record HasCome (stream : Stream) (from to media : ℤ) : Type 0 where
  pub after : from <ℤ (media +ℤ pos stream.latency)
  pub not_after : (media +ℤ pos stream.latency) ≤ℤ to

-- a mark's deadline is after `from`, and at most `to`: a Quiet has the deadline of its time, and an end has none
abbrev pub IsDue : Stream → ℤ → ℤ → MarkKind → Type 0
IsDue stream from to (Slot epoch number media body) = HasCome stream from to media
IsDue stream from to (Quiet until) = HasCome stream from to until
IsDue stream from to End = ⊥

-- the mark reaches this time: its slot ends at the time or later, or its Quiet is at the time or later
abbrev pub Reaches : ℕ → ℤ → MarkKind → Type 0
Reaches frames time (Slot epoch number media body) = time ≤ℤ (media +ℤ pos frames)
Reaches frames time (Quiet until) = time ≤ℤ until
Reaches frames time End = ⊥

-- there is a last mark, and it reaches this time
abbrev pub LastReaches : ℕ → ℤ → Option MarkView → Type 0
LastReaches frames time None = ⊥
LastReaches frames time (Some mark) = Reaches frames time mark.kind

-- every mark is due by the time, and was not due at the opening; once the time is past the opening,
-- the last mark ends at most the latency and a window of packets before the time
pub record KeepUp (stream : Stream) (open_at time : ℤ) (marks : List MarkView) : Type 0 where
  pub due : All (λ mark. IsDue stream open_at time mark.kind) marks
  pub last : open_at <ℤ time → LastReaches stream.frames (time -ℤ pos (stream.latency + stream.window * stream.frames)) (last_of marks)
