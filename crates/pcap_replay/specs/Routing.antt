-- The path to which each datagram of a capture goes, and the time from which clock readings count.
use Rattle.std.specs.Prelude.{ℕ, ◌+◌, ◌-◌, ◌^◌, nat_lt, ◌==◌, List, [], ◌∷◌, Option, Some, None, if◌then◌else◌}
use Rattle.pcap_file.specs.Packet.{PacketView}
use Rattle.pcap_flows.specs.declared.import.clock.CaptureClock.{CaptureClock}
use Rattle.pcap_flows.specs.declared.routes.Route.{Route}
use Rattle.pcap_flows.specs.Clock.{clock_begun, clock_with}
use Rattle.pcap_flows.specs.Trace.{route_of}
use Rattle.rtp_stream.specs.declared.stream_spec.Stream.{Stream}
use Rattle.lane_align.specs.Lane.{natural}
use Rattle.studio_config.specs.Studio.{Studio}
use Rattle.pcap_replay.specs.declared.routing.Routing as declared
use Rattle.pcap_replay.specs.declared.routing.Routing.TheVariants as plan
use Rattle.pcap_replay.specs.declared.routing.PacketRole.{PacketRole}
use Rattle.pcap_replay.specs.declared.routing.PacketRole.TheVariants as role
use Rattle.pcap_replay.specs.declared.changes.RecordedChanges.{RecordedChanges}
use Rattle.pcap_replay.specs.declared.changes.RecordedChanges.TheVariants.{Taken, Skipped}

-- the routing of a capture: flows have routes, and readings count from the first time; or interfaces are the places of
-- these streams' paths, readings count from an opening time, in sampling instants, changes of gains are taken or
-- skipped, and the clock moves on by at most this many sampling instants at once
pub data PlanView : Type 0 where
  Flows : List Route → PlanView
  Interfaces : List Stream → ℕ → RecordedChanges → ℕ → PlanView

-- the view of the value in the code
abbrev pub plan_view : declared.Routing → PlanView
plan_view (plan.Flows routes) = Flows routes.now
plan_view (plan.Interfaces streams open_at changes longest) = Interfaces streams.now open_at changes longest

-- the path with a letter, which is `a`, 97, for path 0
abbrev pub path_of : ℕ → ℕ
path_of letter = letter - 97

-- the role of a change of gains, which is taken or skipped
abbrev pub role_by : RecordedChanges → PacketRole
role_by Taken = role.Change
role_by Skipped = role.Passed

-- the role of a packet on an interface: a datagram of the path at that place among those of all streams, one stream
-- after another, or, at the place behind them, a change of gains; an interface past that is a path of a stream that
-- does not exist
unfoldable pub role_at : RecordedChanges → ℕ → List Stream → ℕ → PacketRole
role_at changes number [] place = if place == 0 then role_by changes else role.Arrival (record { stream = number; path = 0 })
role_at changes number (stream ∷ streams) place =
    if nat_lt place stream.paths then role.Arrival (record { stream = number; path = place })
    else role_at changes (number + 1) streams (place - stream.paths)

abbrev pub role_of_route : Option Route → PacketRole
role_of_route None = role.Passed
role_of_route (Some route) = role.Arrival (record { stream = route.stream; path = path_of route.letter })

-- the role of a packet: by its flow's route, or by its interface
abbrev pub role_of : PlanView → PacketView → PacketRole
role_of (Flows routes) packet = role_of_route (route_of routes packet)
role_of (Interfaces streams open_at changes longest) packet = role_at changes 0 streams packet.interface

-- the time from which readings count
abbrev pub opening_of : PlanView → ℕ
opening_of (Flows routes) = 0
opening_of (Interfaces streams open_at changes longest) = open_at

-- the longest step of the clock that is no fault, in sampling instants: of a capture that is no record any step, since
-- its times were tested before
abbrev pub longest_of : PlanView → ℕ
longest_of (Flows routes) = 2 ^ 64 - 1
longest_of (Interfaces streams open_at changes longest) = longest

-- the clock before the first packet: it counts from the first time, or from time 0
abbrev pub clock_before : PlanView → CaptureClock
clock_before (Flows routes) = clock_begun
clock_before (Interfaces streams open_at changes longest) = clock_with clock_begun (Some 0)

-- the time of the close by the marks, which counts only in a record
abbrev pub closing_of : PlanView → Option ℕ → Option ℕ
closing_of (Flows routes) told = None
closing_of (Interfaces streams open_at changes longest) told = told

-- the clock after a packet; a packet that goes nowhere does not move it
abbrev pub clock_past : CaptureClock → PacketView → PacketRole → CaptureClock
clock_past clock packet role.Passed = clock
clock_past clock packet (role.Arrival target) = clock_with clock packet.time
clock_past clock packet role.Change = clock_with clock packet.time

-- the routing of a record of this studio's run: interfaces are the places of its paths, and readings count from its
-- opening
abbrev pub places_of : Studio → RecordedChanges → ℕ → PlanView
places_of studio changes longest = Interfaces studio.streams (natural studio.open_at) changes longest
