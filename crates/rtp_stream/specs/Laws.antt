-- The laws of the definitions together, in the subject's own words.
use Rattle.std.specs.Prelude.{◌≡◌, ℕ, zero, suc, ◌-◌, ◌^◌, ◌<◌, ◌≤◌, true, false, List, [], ◌∷◌, ◌++◌, ℤ, pos, ◌+ℤ◌, ◌≤ℤ◌, ◌<ℤ◌, Option, Some, None}
use Rattle.rtp_stream.specs.declared.stream_spec.Stream.{Stream}
use Rattle.rtp_stream.specs.MarkFacts.{MarkView}
use Rattle.rtp_stream.specs.declared.anchor.Anchor.{Anchor}
use Rattle.rtp_stream.specs.declared.packet.Packet.{Packet}
use Rattle.rtp_stream.specs.declared.mark.MarkKind.{MarkKind}
use Rattle.rtp_stream.specs.declared.mark.MarkKind.TheVariants.{Slot, Quiet, End}
use Rattle.rtp_stream.specs.declared.event.Event.{Event}
use Rattle.rtp_stream.specs.History.{time_of, is_closed, is_well_timed}
use Rattle.rtp_stream.specs.Anchor.{deadline_of, next_number}
use Rattle.rtp_stream.specs.Epochs.{anchor_of}
use Rattle.rtp_stream.specs.Grid.{end_of_copies}

-- the number due next is the least number, from the anchor's on, whose deadline is still to come
pub record IsLeastDue (stream : Stream) (anchor : Anchor) (time : ℤ) : Type 0 where
  pub from_anchor : anchor.number ≤ next_number stream anchor time
  pub to_come : time <ℤ deadline_of stream anchor (next_number stream anchor time)
  pub before : (n : ℕ) → anchor.number ≤ n → n < next_number stream anchor time → deadline_of stream anchor n ≤ℤ time

-- the deadline of number `n` is after the time of this history, and at most `u`
pub record IsDeadlineOnTheWay (stream : Stream) (open_at : ℤ) (events : List Event) (anchor : Anchor) (n : ℕ) (u : ℤ) : Type 0 where
  pub anchored : anchor_of stream open_at events ≡ Some anchor
  pub from_anchor : anchor.number ≤ n
  pub after : time_of open_at events <ℤ deadline_of stream anchor n
  pub not_after : deadline_of stream anchor n ≤ℤ u
  pub in_range : u ≤ℤ pos (2 ^ 60)

-- a history that is not closed, and whose clock readings are in order
pub record IsOpen (open_at : ℤ) (events : List Event) : Type 0 where
  pub well_timed : is_well_timed open_at events ≡ true
  pub open_yet : is_closed events ≡ false

-- the epochs and numbers of the slots, in their order
abbrev pub names_in : MarkKind → List (ℕ × ℕ)
names_in (Slot epoch number media body) = (epoch, number) ∷ []
names_in (Quiet until) = []
names_in End = []

abbrev pub slot_names : List MarkView → List (ℕ × ℕ)
slot_names [] = []
slot_names (mark ∷ marks) = names_in mark.kind ++ slot_names marks

-- the media times of the slots, in their order
abbrev pub times_in : MarkKind → List ℤ
times_in (Slot epoch number media body) = media ∷ []
times_in (Quiet until) = []
times_in End = []

abbrev pub slot_times : List MarkView → List ℤ
slot_times [] = []
slot_times (mark ∷ marks) = times_in mark.kind ++ slot_times marks

-- none of these times is before this one
abbrev pub AllTimesFrom : ℤ → List ℤ → Type 0
AllTimesFrom limit [] = Unit {0}
AllTimesFrom limit (time ∷ times) = (limit ≤ℤ time) × AllTimesFrom limit times

-- media time never goes back: a slot of this many sampling instants has ended when any later slot begins
abbrev pub AreInOrder : ℕ → List ℤ → Type 0
AreInOrder frames [] = Unit {0}
AreInOrder frames (time ∷ times) = AllTimesFrom (time +ℤ pos frames) times × AreInOrder frames times

-- `count` numbers from `n` on, rising, each once
abbrev pub numbers_from : ℕ → ℕ → List ℕ
numbers_from n zero = []
numbers_from n (suc count) = n ∷ numbers_from (suc n) count

-- `count` numbers of an epoch from `n` on, each with the epoch
abbrev pub names_from : ℕ → ℕ → ℕ → List (ℕ × ℕ)
names_from epoch n zero = []
names_from epoch n (suc count) = (epoch, n) ∷ names_from epoch (suc n) count

-- the slots that a clock reading produces: of the epoch in force, with deadlines after `time` and at most `u`
abbrev pub slots_reached : Stream → Option Anchor → ℤ → ℤ → List (ℕ × ℕ)
slots_reached stream None time u = []
slots_reached stream (Some anchor) time u = names_from anchor.epoch (next_number stream anchor time) (next_number stream anchor u - next_number stream anchor time)

-- the slots that a close produces: from the number due next to the greatest number with a copy
abbrev pub slots_left : Stream → Option Anchor → ℤ → List (ℕ × Packet) → List (ℕ × ℕ)
slots_left stream None time copies = []
slots_left stream (Some anchor) time copies = names_from anchor.epoch (next_number stream anchor time) (end_of_copies copies - next_number stream anchor time)
