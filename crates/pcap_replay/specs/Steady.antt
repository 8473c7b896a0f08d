-- The steps by which the clock of a replay moves on.
use Rattle.std.specs.Prelude.{ℕ, ◌+◌, ◌≤◌, List, [], ◌∷◌, Option}
use Rattle.pcap_file.specs.Packet.{PacketView}
use Rattle.pcap_flows.specs.declared.import.clock.CaptureClock.{CaptureClock}
use Rattle.pcap_flows.specs.Clock.{clock_with}
use Rattle.pcap_replay.specs.Events.{clock_of}
use Rattle.pcap_replay.specs.Routing.{PlanView, clock_before, clock_past, longest_of, role_of}

-- each of these packets moves the clock on by at most the longest step
abbrev pub AreSteady : PlanView → CaptureClock → List PacketView → Type 0
AreSteady plan clock [] = Unit {0}
AreSteady plan clock (packet ∷ packets) =
    ((clock_past clock packet (role_of plan packet)).reading ≤ clock.reading + longest_of plan) × AreSteady plan (clock_past clock packet (role_of plan packet)) packets

-- so does each packet of a capture, and then the close
pub record IsSteady (plan : PlanView) (packets : List PacketView) (closing : Option ℕ) : Type 0 where
  pub each : AreSteady plan (clock_before plan) packets
  pub close : (clock_with (clock_of plan packets) closing).reading ≤ (clock_of plan packets).reading + longest_of plan
