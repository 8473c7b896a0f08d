-- The datagram of a block of samples (RFC 3550, 5.1).
use Rattle.std.specs.Prelude.{ℕ, ◌+◌, ◌*◌, ◌%◌, ◌^◌, false, List, ◌++◌, ℤ, pos, ◌+ℤ◌, unsigned_abs}
use Rattle.std.specs.Int.{int_rem_euclid}
use Rattle.rtp_wire.specs.Head.{Head, head_octets}
use Rattle.rtp_wire.specs.Sample.{block_octets}
use Rattle.mix_packets.specs.declared.out_spec.Output.{Output}

-- the media time of a block's first sampling instant
abbrev pub block_start : Output → ℕ → ℤ
block_start out number = out.start +ℤ pos (number * out.frames)

-- the sequence number, which rises by one with each block
abbrev pub sequence_number_of : Output → ℕ → ℕ
sequence_number_of out number = (out.seq0 + number) % 2 ^ 16

-- the timestamp: the media time of the first sampling instant plus the offset (AES67)
abbrev pub timestamp_of : Output → ℕ → ℕ
timestamp_of out number = unsigned_abs (int_rem_euclid (block_start out number +ℤ pos out.offset) (pos (2 ^ 32)))

-- the header of a block, without a marker
abbrev pub block_head : Output → ℕ → Head
block_head out number = record {
  marker = false;
  pt = out.pt;
  seq = sequence_number_of out number;
  ts = timestamp_of out number;
  ssrc = out.ssrc;
}

-- the datagram of a block: the header, without padding, extension or contributing sources, and then the samples, frame
-- by frame
abbrev pub block_datagram : Output → ℕ → List ℤ → List ℕ
block_datagram out number block = head_octets (block_head out number) ++ block_octets out.enc block
