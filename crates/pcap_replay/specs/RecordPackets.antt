-- The packets in the record of a run, from what the run took.
use Rattle.std.specs.Prelude.{◌≡◌, ℕ, zero, suc, ◌+◌, Bool, true, false, ℤ, pos, ◌+ℤ◌, ◌-ℤ◌, ◌<ℤ◌, List, [], ◌∷◌, Option, Some, if◌then◌else◌}
use Rattle.pcap_file.specs.Packet.{PacketView}
use Rattle.pcap_file.specs.RecordedChange.{change_of}
use Rattle.pcap_flows.specs.Clock.{instants_in}
use Rattle.pcap_flows.specs.Trace.{octets_of}
use Rattle.rtp_stream.specs.declared.stream_spec.Stream.{Stream}
use Rattle.studio_config.specs.Studio.{Studio}
use Rattle.studio_session.specs.Event.{TraceEvent, Arrival, Tick, Closing}

-- a step of a run: an event, or a change to these gains, which are in force from a time on
pub data Step : Type 0 where
  Happens : TraceEvent → Step
  Changes : ℤ → List ℤ → Step

-- the events of a run
abbrev pub events_in : List Step → List TraceEvent
events_in [] = []
events_in (Happens event ∷ steps) = event ∷ events_in steps
events_in (Changes at gains ∷ steps) = events_in steps

-- the changes of gains of a run
abbrev pub changes_in : List Step → List (ℤ × List ℤ)
changes_in [] = []
changes_in (Happens event ∷ steps) = changes_in steps
changes_in (Changes at gains ∷ steps) = (at, gains) ∷ changes_in steps

-- the first step is a clock reading
abbrev pub takes_tick : List Step → Bool
takes_tick [] = false
takes_tick (Happens (Arrival stream path octets) ∷ steps) = false
takes_tick (Happens (Tick time) ∷ steps) = true
takes_tick (Happens Closing ∷ steps) = false
takes_tick (Changes at gains ∷ steps) = false

-- the events of a run without each clock reading that another reading follows directly; a change of gains may be
-- between two readings
abbrev pub kept_events : List Step → List TraceEvent
kept_events [] = []
kept_events (Happens (Arrival stream path octets) ∷ steps) = Arrival stream path octets ∷ kept_events steps
kept_events (Happens (Tick time) ∷ steps) = if takes_tick steps then kept_events steps else Tick time ∷ kept_events steps
kept_events (Happens Closing ∷ steps) = Closing ∷ kept_events steps
kept_events (Changes at gains ∷ steps) = kept_events steps

-- the place of a path among those of all streams, one stream after another
abbrev pub place_of : List Stream → ℕ → ℕ → ℕ
place_of [] stream path = path
place_of (s ∷ streams) zero path = path
place_of (s ∷ streams) (suc stream) path = s.paths + place_of streams stream path

-- the number of all paths, which is the place behind them
abbrev pub path_total : List Stream → ℕ
path_total [] = 0
path_total (s ∷ streams) = s.paths + path_total streams

-- a recorded time has as many whole sampling instants as this time is after the opening
pub record IsAt (open_at time : ℤ) (told : Option ℕ) : Type 0 where
  pub nanoseconds : ℕ
  pub told_is : told ≡ Some nanoseconds
  pub instants : time ≡ open_at +ℤ pos (instants_in nanoseconds)

-- the packet of a datagram that arrived on a path at this clock reading
pub record IsPacketOf (studio : Studio) (time : ℤ) (stream path : ℕ) (octets : List ℕ) (packet : PacketView) : Type 0 where
  pub interface : packet.interface ≡ place_of studio.streams stream path
  pub time_is : IsAt studio.open_at time packet.time
  pub octets_are : octets_of packet.ip.body ≡ octets

-- the packet of a change of gains that was taken at a clock reading: it is on the interface behind those of all paths
pub record IsChangeOf (studio : Studio) (time at : ℤ) (gains : List ℤ) (packet : PacketView) : Type 0 where
  pub interface : packet.interface ≡ path_total studio.streams
  pub time_is : IsAt studio.open_at time packet.time
  pub next_block : ℕ
  pub payload : change_of (octets_of packet.ip.body) ≡ Some (record { at = at -ℤ studio.open_at; next_block = next_block; gains = gains })

-- the packets are those of the arrivals and changes that a run takes after a clock reading, each at the reading before
-- it, and `closing` is the time of the close behind them
abbrev pub AreRecorded : Studio → ℤ → List Step → List PacketView → Option ℕ → Type 0
AreRecorded studio time [] packets closing = ⊥
AreRecorded studio time (Happens (Arrival stream path octets) ∷ steps) [] closing = ⊥
AreRecorded studio time (Happens (Arrival stream path octets) ∷ steps) (packet ∷ packets) closing =
    IsPacketOf studio time stream path octets packet × AreRecorded studio time steps packets closing
AreRecorded studio time (Happens (Tick u) ∷ steps) packets closing = AreRecorded studio u steps packets closing
AreRecorded studio time (Happens Closing ∷ steps) packets closing = (steps ≡ []) × (packets ≡ []) × IsAt studio.open_at time closing
AreRecorded studio time (Changes at gains ∷ steps) [] closing = ⊥
AreRecorded studio time (Changes at gains ∷ steps) (packet ∷ packets) closing =
    IsChangeOf studio time at gains packet × AreRecorded studio time steps packets closing

-- each clock reading is later than the reading before it, and the first is later than this time
abbrev pub AreRising : ℤ → List TraceEvent → Type 0
AreRising time [] = Unit {0}
AreRising time (Arrival stream path octets ∷ events) = AreRising time events
AreRising time (Tick u ∷ events) = (time <ℤ u) × AreRising u events
AreRising time (Closing ∷ events) = AreRising time events
