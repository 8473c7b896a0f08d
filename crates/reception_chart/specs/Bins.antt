-- The events of a stream, counted by time interval and kind.
use Rattle.std.specs.Prelude.{◌≡◌, ◌<◌, ◌+◌, ◌*◌, ℕ, zero, suc, ℤ, pos, ◌+ℤ◌, Bool, ◌&&◌, nat_eq, nat_lt, List, [], ◌∷◌, get_or, count_by}
use Rattle.reception_chart.specs.Axis.{span_of}
use Rattle.reception_chart.specs.declared.reception.axis.Axis.{Axis}
use Rattle.reception_chart.specs.declared.reception.ReceptionKind.{ReceptionKind}
use Rattle.reception_chart.specs.declared.reception.ReceptionKind.TheVariants.{Taken, Double, Late, Refused, Lost, Restart}

-- the kind of an event, and its time
pub record BinEvent : Type 0 where
  pub time : ℤ
  pub kind : ReceptionKind

-- the view of bins: a count for each row of each interval
pub record BinsState : Type 0 where
  pub axis : Axis
  pub counts : List ℕ

-- the row of a kind; a packet that was taken has the row of its path
abbrev pub row_of : ReceptionKind → ℕ
row_of (Taken path) = path
row_of Double = 4
row_of Late = 5
row_of Lost = 6
row_of Refused = 7
row_of Restart = 8

-- the bin of a time
abbrev pub bin_of : Axis → ℤ → ℕ
bin_of axis time = span_of axis.first axis.span axis.bins time

-- the event is of this row and in this bin
abbrev pub is_in : Axis → ℕ → ℕ → BinEvent → Bool
is_in axis bin row event = nat_eq (bin_of axis event.time) bin && nat_eq (row_of event.kind) row

-- the number of events of this row and in this bin
abbrev pub count_in : Axis → List BinEvent → ℕ → ℕ → ℕ
count_in axis events bin row = count_by (is_in axis bin row) events

-- each count is the number of events of its row and in its bin
pub record HasCounted (bins : BinsState) (events : List BinEvent) : Type 0 where
  pub each : (bin row : ℕ) → bin < bins.axis.bins → row < 9 → get_or bins.counts (9 * bin + row) 0 ≡ count_in bins.axis events bin row

-- the events of `count` lost slots, the first at this time and each a packet after the one before it
abbrev pub lost_events : ℤ → ℕ → ℕ → List BinEvent
lost_events first frames zero = []
lost_events first frames (suc count) = record { time = first; kind = Lost } ∷ lost_events (first +ℤ pos frames) frames count

-- the number of events in the bins before this one
abbrev pub is_before : Axis → ℕ → BinEvent → Bool
is_before axis bin event = nat_lt (bin_of axis event.time) bin

abbrev pub count_before : Axis → List BinEvent → ℕ → ℕ
count_before axis events bin = count_by (is_before axis bin) events
