-- The parts of a stream's specification, and the facts of every one.
use Rattle.std.specs.Prelude.{◌≡◌, ℕ, ◌+◌, ◌*◌, ◌^◌, ◌<◌, ◌≤◌, Bool, true, not, ◌&&◌, ◌||◌, nat_eq, nat_lt, nat_le, Option, Some, None, if◌then◌else◌}
use Rattle.rtp_wire.specs.PacketTime.{is_packet_time}
use Rattle.rtp_stream.specs.declared.mark.PacketFormat.{PacketFormat}
use Rattle.rtp_stream.specs.declared.stream_spec.Stream.{Stream}
use Rattle.rtp_stream.specs.declared.stream_spec.SpecFault.{SpecFault}
use Rattle.rtp_stream.specs.declared.stream_spec.SpecFault.TheVariants.{Channels, Frames, PayloadType, TooLong, Window, Latency, Paths}
use Rattle.rtp_stream.specs.MarkFacts.{payload_length}

abbrev pub format_of : Stream → PacketFormat
format_of stream = record { enc = stream.enc; channels = stream.channels; frames = stream.frames }

-- a power of two from 8 to 16,384
abbrev pub is_window : ℕ → Bool
is_window size = nat_eq size 8 || (nat_eq size 16 || (nat_eq size 32 || (nat_eq size 64 || (nat_eq size 128 || (nat_eq size 256 || (nat_eq size 512 || (nat_eq size 1024 || (nat_eq size 2048 || (nat_eq size 4096 || (nat_eq size 8192 || nat_eq size 16384))))))))))

-- the first fault of the format and payload type of a stream's packets
abbrev pub packets_fault_of : PacketFormat → ℕ → Option SpecFault
packets_fault_of format pt =
    if not (nat_le 1 format.channels && nat_le format.channels 64) then Some Channels
    else if not (is_packet_time format.frames && (nat_le format.channels 8 || nat_eq format.frames 6)) then Some Frames
    else if not (nat_le 96 pt && nat_le pt 127) then Some PayloadType
    else if nat_lt 1440 (payload_length format) then Some TooLong
    else None

-- the first fault of the window, latency and paths: the window has to span the latency and two packets
abbrev pub times_fault_of : ℕ → ℕ → ℕ → ℕ → Option SpecFault
times_fault_of frames latency window paths =
    if not (is_window window) then Some Window
    else if nat_lt latency 1 || nat_lt (window * frames) (latency + 2 * frames) then Some Latency
    else if not (nat_le 1 paths && nat_le paths 4) then Some Paths
    else None

abbrev pub first_fault : Option SpecFault → Option SpecFault → Option SpecFault
first_fault (Some fault) later = Some fault
first_fault None later = later

-- the first fault of a specification
abbrev pub spec_fault_of : Stream → Option SpecFault
spec_fault_of s = first_fault (packets_fault_of (format_of s) s.pt) (times_fault_of s.frames s.latency s.window s.paths)

-- the bounds that a specification with no fault keeps
pub record IsStream (s : Stream) : Type 0 where
  pub some_channels : 0 < s.channels
  pub few_channels : s.channels ≤ 64
  pub packet_time : is_packet_time s.frames ≡ true
  pub some_frames : 0 < s.frames
  pub few_frames : s.frames ≤ 192
  pub short : payload_length (format_of s) ≤ 1440
  pub some_latency : 0 < s.latency
  pub small_latency : s.latency < 2 ^ 32
  pub wide : s.latency + 2 * s.frames ≤ s.window * s.frames
  pub broad : 8 ≤ s.window
  pub narrow : s.window ≤ 16384
  pub few_paths : s.paths ≤ 4

-- what is true of every specification; the bounds are a record of their own, because most proofs need nothing else
pub record HasNoFault (s : Stream) : Type 0 where
  pub bounds : IsStream s
  pub none : spec_fault_of s ≡ None
