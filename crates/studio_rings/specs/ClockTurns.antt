-- The turns of a stream, by the readings of its clock.
use Rattle.std.specs.Prelude.{◌≡◌, ◌⊎◌, ℕ, ◌+◌, ◌≤◌, List, [], ◌∷◌, ◌++◌, length, ℤ, ◌≤ℤ◌}
use Rattle.rtp_stream.specs.declared.stream_spec.Stream.{Stream}
use Rattle.rtp_stream.specs.Marks.{marks_of}
use Rattle.rtp_stream.specs.declared.packet.Packet.{Packet}
use Rattle.rtp_stream.specs.declared.event.Event.{Event}
use Rattle.rtp_stream.specs.declared.event.Event.TheVariants.{Tick}
use Rattle.studio_ends.specs.StreamTurns.{turn_events}
use Rattle.studio_io.specs.Clocks.{time_with}

abbrev pub events_in : List (List Event) → List Event
events_in [] = []
events_in (turn ∷ turns) = turn ++ events_in turns

-- no event, or one clock reading that is not after this time
abbrev pub IsFirst : ℤ → List Event → Type 0
IsFirst time first = (first ≡ []) ⊎ ((early : ℤ) × (early ≤ℤ time) × (first ≡ Tick early ∷ []))

-- at most 64 packets of each path
abbrev pub AreFew : List (List Packet) → Type 0
AreFew [] = Unit {0}
AreFew (packets ∷ taken) = (length packets ≤ 64) × AreFew taken

-- a turn produced at least 64 marks, or the stream has produced at least as many as its ring has places
abbrev pub StopsEarly : Stream → ℤ → ℕ → List Event → List Event → Type 0
StopsEarly stream open_at places before turn =
    (length (marks_of stream open_at before) + 64 ≤ length (marks_of stream open_at (before ++ turn))) ⊎ (places ≤ length (marks_of stream open_at (before ++ turn)))

-- a turn takes at most 64 packets of each path, and ends in a clock reading of exactly this time, or stops early at a
-- reading that is not after it. There may be one reading before its packets
pub record IsTurnAt (stream : Stream) (open_at : ℤ) (places : ℕ) (time : ℤ) (before turn : List Event) : Type 0 where
  pub first : List Event
  pub early : IsFirst time first
  pub taken : List (List Packet)
  pub few : AreFew taken
  pub reached : ℤ
  pub ends : turn ≡ first ++ turn_events stream taken reached
  pub most : reached ≤ℤ time
  pub caught_up : (reached ≡ time) ⊎ StopsEarly stream open_at places before turn

-- the clock is read once for each turn, and the turn is one at the greatest reading so far. Nothing is claimed about
-- turns whose readings are not known
abbrev pub GoByClock : Stream → ℤ → ℕ → ℤ → List ℤ → List Event → List (List Event) → Type 0
GoByClock stream open_at places time told before [] = Unit {0}
GoByClock stream open_at places time [] before (turn ∷ turns) = Unit {0}
GoByClock stream open_at places time (answer ∷ told) before (turn ∷ turns) =
    IsTurnAt stream open_at places (time_with time answer) before turn
    × GoByClock stream open_at places (time_with time answer) told (before ++ turn) turns
