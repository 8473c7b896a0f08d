-- The distance by which a stream's capture time less its timestamp moves, and the clock of the stream in an import.
use Rattle.std.specs.Prelude.{ℕ, ◌^◌, nat_le, nat_lt, ℤ, pos, ◌-ℤ◌, int_lt, if◌then◌else◌, unsigned_abs}
use Rattle.pcap_flows.specs.declared.import.stream_times.StreamTimes.{StreamTimes}
use Rattle.rtp_stream.specs.declared.stream_spec.StreamClock.{StreamClock}
use Rattle.rtp_stream.specs.declared.stream_spec.StreamClock.TheVariants.{Media, Follow}

-- the number nearest to 0 that is this one modulo 2^32
abbrev pub nearest_to_zero : ℕ → ℤ
nearest_to_zero n = if nat_lt n (2 ^ 31) then pos n else pos n -ℤ pos (2 ^ 32)

-- the times after one more packet, which came this much later than its timestamp says
abbrev pub times_with : StreamTimes → ℤ → ℕ → StreamTimes
times_with t late reading = record t {
  last = reading;
  least = if int_lt late t.least then late else t.least;
  greatest = if int_lt t.greatest late then late else t.greatest;
  end = late;
}

-- the time within which the distance stays
abbrev pub moved_by : StreamTimes → ℕ
moved_by t = unsigned_abs (t.greatest -ℤ t.least)

-- the clock of an import: the media clock with the first packet's offset, if all packets stay within the latency; or
-- else the clock that follows its sender
abbrev pub clock_for : StreamTimes → ℕ → StreamClock
clock_for t latency = if nat_le (moved_by t) latency then Media t.offset else Follow
