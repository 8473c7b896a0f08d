-- The samples of an output's datagrams, in the form of a WAV file.
use Rattle.std.specs.Prelude.{ℕ, List, drop, flat_map}
use Rattle.rtp_wire.specs.declared.encoding.Enc.{Enc}
use Rattle.mix_packets.specs.declared.out_spec.Output.{Output}
use Rattle.wav_file.specs.declared.header.WavFormat.{WavFormat}
use Rattle.wav_file.specs.Samples.{little_samples}

-- the samples of a datagram, behind the twelve octets of its header
abbrev pub datagram_samples : Enc → List ℕ → List ℕ
datagram_samples enc datagram = little_samples enc (drop 12 datagram)

-- the samples of all datagrams, in order
abbrev pub samples_in : Enc → List (List ℕ) → List ℕ
samples_in enc datagrams = flat_map (datagram_samples enc) datagrams

-- the format of an output's file
abbrev pub output_format : Output → WavFormat
output_format output = record { enc = output.enc; channels = output.channels }
