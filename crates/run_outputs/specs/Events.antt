-- The events that a run passes to its outputs.
use Rattle.std.specs.Prelude.{◌≡◌, ℕ, ℤ, List, Option, Some, None, ⊤}
use Rattle.run_outputs.specs.declared.events.ArrivedDatagram.{ArrivedDatagram}
use Rattle.run_outputs.specs.declared.events.DatagramOrigin.{DatagramOrigin}
use Rattle.run_outputs.specs.declared.events.TakenChange.{TakenChange}

-- a datagram that arrived on this path of a stream, with the reading by which it was judged
pub record Arrived : Type 0 where
  pub stream : ℕ
  pub path : ℕ
  pub origin : DatagramOrigin
  pub time : ℤ
  pub octets : List ℕ

-- a change of gains: the reading before it, the time from which the gains are in force, and the number of the next block
pub record Changed : Type 0 where
  pub time : ℤ
  pub at : ℤ
  pub next_block : ℕ
  pub gains : List ℤ

-- these facts of a datagram, and of a change
abbrev pub arrival : ℕ → ℕ → DatagramOrigin → ℤ → List ℕ → Arrived
arrival stream path origin time octets = record { stream = stream; path = path; origin = origin; time = time; octets = octets }

abbrev pub taken_change : ℤ → ℤ → ℕ → List ℤ → Changed
taken_change time at next_block gains = record { time = time; at = at; next_block = next_block; gains = gains }

abbrev pub arrived_of : ArrivedDatagram → Arrived
arrived_of datagram = arrival datagram.stream datagram.path datagram.origin datagram.time datagram.octets.now

abbrev pub changed_of : TakenChange → Changed
changed_of change = taken_change change.time change.at change.next_block change.gains.now

module _ {O : Type 0} where
  -- an output that there is takes what it is passed; otherwise there is none afterwards either
  abbrev pub TakesIf : (O → O → Type 0) → Option O → Option O → Type 0
  TakesIf takes None None = ⊤
  TakesIf takes None (Some new) = ⊥
  TakesIf takes (Some old) None = ⊥
  TakesIf takes (Some old) (Some new) = takes old new
