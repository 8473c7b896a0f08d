-- The events of a capture, by the routing of its datagrams.
use Rattle.std.specs.Prelude.{◌≡◌, ℕ, ◌+◌, ◌++◌, nat_lt, List, [], ◌∷◌, ℤ, pos, Option, Some, None, if◌then◌else◌}
use Rattle.pcap_file.specs.Packet.{PacketView}
use Rattle.pcap_file.specs.Entries.{Entry}
use Rattle.pcap_file.specs.Reader.{packets_among}
use Rattle.pcap_flows.specs.declared.import.clock.CaptureClock.{CaptureClock}
use Rattle.pcap_flows.specs.Clock.{clock_with}
use Rattle.pcap_flows.specs.Trace.{octets_of}
use Rattle.studio_config.specs.Studio.{Studio}
use Rattle.studio_session.specs.Event.{TraceEvent, Arrival, Closing}
use Rattle.studio_session.specs.Fault.{time_at}
use Rattle.studio_engine.specs.Session.{turned}
use Rattle.pcap_replay.specs.Routing.{PlanView, clock_before, clock_past, closing_of, opening_of, role_of}
use Rattle.pcap_replay.specs.Record.{closing_in}
use Rattle.pcap_replay.specs.declared.routing.PacketRole.{PacketRole}
use Rattle.pcap_replay.specs.declared.routing.PacketRole.TheVariants as role

-- a clock reading, counted from a time, is an event if it is later than the reading before and does not repeat the
-- opening time
abbrev pub read_at : ℤ → ℕ → List TraceEvent → ℕ → ℕ → List TraceEvent
read_at open_at from events earlier reading = if nat_lt earlier reading then turned (time_at open_at events) (pos (from + reading)) events else events

-- a datagram that goes to a path arrives at the clock reading of its time, and a change of gains has only that reading
abbrev pub events_with : ℤ → ℕ → CaptureClock → List TraceEvent → PacketView → PacketRole → List TraceEvent
events_with open_at from clock events packet role.Passed = events
events_with open_at from clock events packet (role.Arrival target) =
    read_at open_at from events clock.reading (clock_with clock packet.time).reading ++ Arrival target.stream target.path (octets_of packet.ip.body) ∷ []
events_with open_at from clock events packet role.Change =
    read_at open_at from events clock.reading (clock_with clock packet.time).reading

-- the events after these packets, one by one
abbrev pub events_after : ℤ → PlanView → CaptureClock → List TraceEvent → List PacketView → List TraceEvent
events_after open_at plan clock events [] = events
events_after open_at plan clock events (packet ∷ packets) =
    events_after open_at plan (clock_past clock packet (role_of plan packet)) (events_with open_at (opening_of plan) clock events packet (role_of plan packet)) packets

abbrev pub clock_after : PlanView → CaptureClock → List PacketView → CaptureClock
clock_after plan clock [] = clock
clock_after plan clock (packet ∷ packets) = clock_after plan (clock_past clock packet (role_of plan packet)) packets

-- the events of a capture's packets
abbrev pub events_of : Studio → PlanView → List PacketView → List TraceEvent
events_of studio plan packets = events_after studio.open_at plan (clock_before plan) [] packets

-- the clock after a capture's packets
abbrev pub clock_of : PlanView → List PacketView → CaptureClock
clock_of plan packets = clock_after plan (clock_before plan) packets

-- the events of a capture's packets, and a clock reading at the time of the close, if that is known; then with the
-- close
abbrev pub closed_events : Studio → PlanView → List PacketView → Option ℕ → List TraceEvent
closed_events studio plan packets closing =
    read_at studio.open_at (opening_of plan) (events_of studio plan packets) (clock_of plan packets).reading (clock_with (clock_of plan packets) closing).reading

abbrev pub replay_events : Studio → PlanView → List PacketView → Option ℕ → List TraceEvent
replay_events studio plan packets closing = closed_events studio plan packets closing ++ Closing ∷ []

-- the events of a file's entries before the close; then with the close. The marks have its time if the file is replayed
-- as a record
abbrev pub events_told : Studio → PlanView → List Entry → List TraceEvent
events_told studio plan entries = closed_events studio plan (packets_among entries) (closing_of plan (closing_in entries))

abbrev pub file_events : Studio → PlanView → List Entry → List TraceEvent
file_events studio plan entries = replay_events studio plan (packets_among entries) (closing_of plan (closing_in entries))

-- `events` is a prefix of `all`
pub record AreFirst (events all : List TraceEvent) : Type 0 where
  pub later : List TraceEvent
  pub whole : events ++ later ≡ all
