-- The parts of an output's specification, and what holds for every specification without a fault.
use Rattle.std.specs.Prelude.{◌≡◌, ℕ, ◌+◌, ◌*◌, ◌^◌, ◌<◌, ◌≤◌, pos, ◌≤ℤ◌, true, not, ◌&&◌, nat_lt, nat_le, ℤ, int_le, Bool, Option, Some, None, if◌then◌else◌}
use Rattle.rtp_wire.specs.declared.encoding.Enc.{Enc}
use Rattle.rtp_wire.specs.declared.encoding.Enc.TheVariants.{L16, L24}
use Rattle.rtp_wire.specs.PacketTime.{is_packet_time}
use Rattle.rtp_wire.specs.Sample.{octets_per_sample}
use Rattle.mix_packets.specs.declared.out_spec.Output.{Output}
use Rattle.mix_packets.specs.declared.out_spec.OutFault.{OutFault}
use Rattle.mix_packets.specs.declared.out_spec.OutFault.TheVariants.{Channels, Frames, PayloadType, TooLong, Start}

-- the number of samples of a block
abbrev pub sample_total : Output → ℕ
sample_total out = out.frames * out.channels

-- the number of octets of a block's samples
abbrev pub payload_length : Output → ℕ
payload_length out = sample_total out * octets_per_sample out.enc

-- the number of octets of a datagram: twelve of the header, and those of the payload (RFC 3550, 5.1)
abbrev pub datagram_length : Output → ℕ
datagram_length out = 12 + payload_length out

-- the shift from a product of gain and value to a sample: 16 bits, and 8 more if samples have 16 bits
abbrev pub shift_of : Enc → ℕ
shift_of L16 = 24
shift_of L24 = 16

-- an output may start at this time: it is from 0 to 2^60
abbrev pub is_start : ℤ → Bool
is_start start = int_le (pos 0) start && int_le start (pos (2 ^ 60))

-- the first fault of a specification
abbrev pub out_fault_of : Output → Option OutFault
out_fault_of out =
    if not (nat_le 1 out.channels && nat_le out.channels 8) then Some Channels
    else if not (is_packet_time out.frames) then Some Frames
    else if not (nat_le 96 out.pt && nat_le out.pt 127) then Some PayloadType
    else if nat_lt 1440 (payload_length out) then Some TooLong
    else if not (is_start out.start) then Some Start
    else None

-- what follows from a specification without a fault
pub record IsOutput (out : Output) : Type 0 where
  pub some_channels : 0 < out.channels
  pub few_channels : out.channels ≤ 8
  pub packet_time : is_packet_time out.frames ≡ true
  pub some_frames : 0 < out.frames
  pub few_frames : out.frames ≤ 192
  pub pt_low : 96 ≤ out.pt
  pub pt_high : out.pt ≤ 127
  pub short : payload_length out ≤ 1440
  pub start_low : pos 0 ≤ℤ out.start
  pub start_high : out.start ≤ℤ pos (2 ^ 60)
  pub ssrc_fits : out.ssrc < 2 ^ 32
  pub seq0_fits : out.seq0 < 2 ^ 16
  pub offset_fits : out.offset < 2 ^ 32
