-- The capacity of the rings of a run's audio.
use Rattle.std.specs.Prelude.{ℕ, ◌+◌, ◌*◌}
use Rattle.wav_file.specs.declared.header.WavFormat.{WavFormat}
use Rattle.wav_file.specs.Header.{frame_length}

-- the octets of this many sampling instants of latency, and of `spare` more
abbrev pub ring_octets_for : ℕ → WavFormat → ℕ → ℕ
ring_octets_for spare format latency = (latency + spare) * frame_length format

-- thirty seconds more, for a WAV file
abbrev pub wav_octets_for : WavFormat → ℕ → ℕ
wav_octets_for format latency = ring_octets_for 1440000 format latency

-- two seconds more, for raw PCM
abbrev pub pcm_octets_for : WavFormat → ℕ → ℕ
pcm_octets_for format latency = ring_octets_for 96000 format latency
