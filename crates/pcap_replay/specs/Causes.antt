-- Why a replay stops at a time that jumps, or at a change of gains that is not taken.
use Rattle.std.specs.Prelude.{◌≡◌, ◌⊎◌, ◌<◌, ◌+◌, ◌-◌, ◌^◌, ◌++◌, ◌&&◌, ℕ, ℤ, pos, ◌+ℤ◌, nat_lt, int_lt, Bool, List, [], ◌∷◌, length, min, Option, Some, None, option_map, if◌then◌else◌}
use Rattle.std.specs.Int.{div_ceil}
use Rattle.gain_mix.specs.declared.live_schedule.ChangeFault.{ChangeFault}
use Rattle.gain_mix.specs.declared.live_schedule.ChangeFault.TheVariants as live
use Rattle.pcap_file.specs.Packet.{PacketView}
use Rattle.pcap_file.specs.Entries.{Entry}
use Rattle.pcap_file.specs.Reader.{packets_among}
use Rattle.pcap_file.specs.RecordedChange.{ChangeView, change_of}
use Rattle.pcap_flows.specs.declared.import.clock.CaptureClock.{CaptureClock}
use Rattle.pcap_flows.specs.Clock.{clock_with}
use Rattle.pcap_flows.specs.Trace.{octets_of}
use Rattle.studio_config.specs.Studio.{Studio}
use Rattle.studio_mix.specs.Changed.{gains_fault_of}
use Rattle.studio_mix.specs.Mixer.{MixerState}
use Rattle.studio_session.specs.Event.{TraceEvent}
use Rattle.studio_engine.specs.Engine.{EngineState}
use Rattle.studio_engine.specs.Session.{HasSession}
use Rattle.pcap_replay.specs.Events.{clock_of}
use Rattle.pcap_replay.specs.Record.{closing_in}
use Rattle.pcap_replay.specs.RecordChanges.{changed_by, changes_of}
use Rattle.pcap_replay.specs.Routing.{PlanView, clock_past, closing_of, longest_of, opening_of, role_of}
use Rattle.pcap_replay.specs.declared.routing.PacketRole.{PacketRole}
use Rattle.pcap_replay.specs.declared.routing.PacketRole.TheVariants as role
use Rattle.pcap_replay.specs.declared.routing.ReadingRule.{ReadingRule}
use Rattle.pcap_replay.specs.declared.fault.RecordedChangeFault.{RecordedChangeFault}
use Rattle.pcap_replay.specs.declared.fault.RecordedChangeFault.TheVariants as refusal
use Rattle.pcap_replay.specs.declared.fault.ReplayFault.{ReplayFault}
use Rattle.pcap_replay.specs.declared.fault.ReplayFault.TheVariants.{Memory, Capture, Run as RunOf, Change, Jump, TooManyEvents, Write}

-- the clock moves on by more than `longest` sampling instants, in this many seconds of 48,000, rounded up
pub record IsLongStep (longest : ℕ) (earlier later : CaptureClock) (seconds : ℕ) : Type 0 where
  pub long : earlier.reading + longest < later.reading
  pub rounded : seconds ≡ div_ceil (later.reading - earlier.reading) 48000

-- the kind of a refusal of the engine
abbrev pub kind_of : ChangeFault → RecordedChangeFault
kind_of live.Shape = refusal.Shape
kind_of live.Range = refusal.Range
kind_of live.Time = refusal.Time
kind_of live.TooMany = refusal.TooMany

-- the time of a change, which counts from an opening, fits 64 bits
abbrev pub fits_time : ℕ → ℤ → Bool
fits_time from at = nat_lt from (2 ^ 63) && int_lt (pos from +ℤ at) (pos (2 ^ 63))

-- why a change in a packet's octets is not taken: they are that of no change, or of one with more than 8,192 gains; its
-- time does not fit; or the engine refuses it
abbrev pub refusal_of : MixerState → ℕ → Option ChangeView → Option RecordedChangeFault
refusal_of mixer from None = Some refusal.Octets
refusal_of mixer from (Some change) =
    if nat_lt 8192 (length change.gains) then Some refusal.Octets
    else if fits_time from change.at then option_map kind_of (gains_fault_of mixer (pos from +ℤ change.at) change.gains)
    else Some refusal.Time

-- the number of changes, which counts on up to the greatest 64-bit number
abbrev pub count_on : ℕ → List (ℤ × List ℤ) → ℕ
count_on count [] = count
count_on count (change ∷ changes) = count_on (min (count + 1) (2 ^ 64 - 1)) changes

-- the fault of a change after `count` others
abbrev pub IsChangeFault : ℕ → MixerState → ℕ → List ℕ → ReplayFault → Type 0
IsChangeFault count mixer from octets Memory = ⊥
IsChangeFault count mixer from octets (Capture fault) = ⊥
IsChangeFault count mixer from octets (RunOf fault) = ⊥
IsChangeFault count mixer from octets (Change number kind) = (number ≡ min (count + 1) (2 ^ 64 - 1)) × (refusal_of mixer from (change_of octets) ≡ Some kind)
IsChangeFault count mixer from octets (Jump place seconds) = ⊥
IsChangeFault count mixer from octets TooManyEvents = ⊥
IsChangeFault count mixer from octets Write = ⊥

-- the fault of a reading by a rule, which moves the clock on from one time to the other
abbrev pub IsReadingFault : ReadingRule → CaptureClock → CaptureClock → ReplayFault → Type 0
IsReadingFault rule earlier later Memory = ⊥
IsReadingFault rule earlier later (Capture fault) = ⊥
IsReadingFault rule earlier later (RunOf fault) = Unit {0}
IsReadingFault rule earlier later (Change number kind) = ⊥
IsReadingFault rule earlier later (Jump place seconds) = (place ≡ rule.place) × IsLongStep rule.longest earlier later seconds
IsReadingFault rule earlier later TooManyEvents = ⊥
IsReadingFault rule earlier later Write = Unit {0}

-- the packet is a change after `count` others, and it is not taken for this reason
pub record IsRefused (from count : ℕ) (mixer : MixerState) (packet : PacketView) (part : PacketRole) (number : ℕ) (kind : RecordedChangeFault) : Type 0 where
  pub change : part ≡ role.Change
  pub next : number ≡ min (count + 1) (2 ^ 64 - 1)
  pub why : refusal_of mixer from (change_of (octets_of packet.ip.body)) ≡ Some kind

-- a time that jumps is the packet's, and a change that is not taken is the packet's
abbrev pub IsPacketFault : ReadingRule → CaptureClock → ℕ → MixerState → PacketView → PacketRole → ReplayFault → Type 0
IsPacketFault rule clock count mixer packet part Memory = Unit {0}
IsPacketFault rule clock count mixer packet part (Capture fault) = Unit {0}
IsPacketFault rule clock count mixer packet part (RunOf fault) = Unit {0}
IsPacketFault rule clock count mixer packet part (Change number kind) = IsRefused rule.from count mixer packet part number kind
IsPacketFault rule clock count mixer packet part (Jump place seconds) = (place ≡ rule.place) × IsLongStep rule.longest clock (clock_past clock packet part) seconds
IsPacketFault rule clock count mixer packet part TooManyEvents = Unit {0}
IsPacketFault rule clock count mixer packet part Write = Unit {0}

-- the rule for the packets of a plan
abbrev pub rule_at : PlanView → ℕ → ReadingRule
rule_at plan place = record { from = opening_of plan; longest = longest_of plan; place = place }

-- the packet is the last of these, behind `some`
pub record IsLast (some packets : List PacketView) (packet : PacketView) : Type 0 where
  pub behind : packets ≡ some ++ packet ∷ []

-- the clock jumps: at the last of these packets, which is behind `some`; or at the close, which is behind all of them
abbrev pub Jumps : PlanView → List PacketView → List PacketView → Option ℕ → ℕ → Type 0
Jumps plan some packets closing seconds =
    ((packet : PacketView) × IsLast some packets packet × IsLongStep (longest_of plan) (clock_of plan some) (clock_past (clock_of plan some) packet (role_of plan packet)) seconds)
    ⊎ ((packets ≡ some) × IsLongStep (longest_of plan) (clock_of plan packets) (clock_with (clock_of plan packets) closing) seconds)

-- the last of these packets, which is behind `some`, is a change of gains that is not taken
pub record Refuses (plan : PlanView) (some packets : List PacketView) (mixer : MixerState) (number : ℕ) (kind : RecordedChangeFault) : Type 0 where
  pub packet : PacketView
  pub last : IsLast some packets packet
  pub is : IsRefused (opening_of plan) (length (changes_of plan some)) mixer packet (role_of plan packet) number kind

-- a time that jumps is that of the last packet of these entries or of the close, and a change that is not taken is in
-- their last packet; the changes in the packets of `some` were taken before
abbrev pub IsCause : PlanView → List Entry → List PacketView → MixerState → ReplayFault → Type 0
IsCause plan entries some mixer Memory = Unit {0}
IsCause plan entries some mixer (Capture fault) = Unit {0}
IsCause plan entries some mixer (RunOf fault) = Unit {0}
IsCause plan entries some mixer (Change number kind) = Refuses plan some (packets_among entries) mixer number kind
IsCause plan entries some mixer (Jump place seconds) = Jumps plan some (packets_among entries) (closing_of plan (closing_in entries)) seconds
IsCause plan entries some mixer TooManyEvents = Unit {0}
IsCause plan entries some mixer Write = Unit {0}

-- an engine that took these events and the changes in the packets of `some` refuses the change in the last packet
pub record EngineRefuses (studio : Studio) (plan : PlanView) (entries : List Entry) (some : List PacketView) (events : List TraceEvent) (number : ℕ) (kind : RecordedChangeFault) : Type 0 where
  pub engine : EngineState
  pub datagrams : List (List ℕ)
  pub session : HasSession (changed_by studio plan some) engine events datagrams
  pub refuses : Refuses plan some (packets_among entries) engine.mixer number kind

-- why a replay stopped behind these events, at a time that jumps or at a change that is not taken
abbrev pub IsCauseBehind : Studio → PlanView → List Entry → List PacketView → List TraceEvent → ReplayFault → Type 0
IsCauseBehind studio plan entries some events Memory = Unit {0}
IsCauseBehind studio plan entries some events (Capture fault) = Unit {0}
IsCauseBehind studio plan entries some events (RunOf fault) = Unit {0}
IsCauseBehind studio plan entries some events (Change number kind) = EngineRefuses studio plan entries some events number kind
IsCauseBehind studio plan entries some events (Jump place seconds) = Jumps plan some (packets_among entries) (closing_of plan (closing_in entries)) seconds
IsCauseBehind studio plan entries some events TooManyEvents = Unit {0}
IsCauseBehind studio plan entries some events Write = Unit {0}
