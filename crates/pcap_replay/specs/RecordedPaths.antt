-- The paths that a record of a studio's configuration describes.
use Rattle.std.specs.Prelude.{◌≡◌, ◌⊎◌, ℕ, zero, suc, ◌+◌, List, [], ◌∷◌, codes}
use Rattle.rtp_wire.specs.declared.encoding.Enc.{Enc}
use Rattle.rtp_wire.specs.declared.encoding.Enc.TheVariants.{L16, L24}
use Rattle.rtp_stream.specs.declared.stream_spec.Stream.{Stream}
use Rattle.pcap_file.specs.Blocks.{interface_text}
use Rattle.pcap_file.specs.InterfaceTexts.{TextsView}
use Rattle.pcap_file.specs.RecordedStream.{description_of}
use Rattle.pcap_file.specs.declared.encode.recorded_stream.RecordedStream.{RecordedStream}
use Rattle.pcap_replay.specs.declared.recording.RecordedPath.{RecordedPath}

abbrev pub bits_of : Enc → ℕ
bits_of L16 = 16
bits_of L24 = 24

-- the texts of a path's interface
abbrev pub texts_of : RecordedPath → TextsView
texts_of path = record { name = path.name.items; description = path.description.items }

-- the configuration of a stream in a record
abbrev pub recorded_of : Stream → RecordedStream
recorded_of stream = record {
  bits = bits_of stream.enc;
  channels = stream.channels;
  frames = stream.frames;
  pt = stream.pt;
  paths = stream.paths;
}

-- the description of a stream's paths; older records have none
abbrev pub HasDescription : Stream → List ℕ → Type 0
HasDescription stream description = (description ≡ []) ⊎ (description ≡ description_of (recorded_of stream))

-- the path with this letter, of the stream with this number, by its name and its description
abbrev pub IsPathOf : ℕ → Stream → ℕ → RecordedPath → Type 0
IsPathOf number stream letter path = (path.name.items ≡ interface_text number letter) × HasDescription stream path.description.items

-- `count` paths of a stream come first, from this letter on, and `rest` behind them
abbrev pub Begins : ℕ → Stream → ℕ → ℕ → List RecordedPath → List RecordedPath → Type 0
Begins number stream letter zero paths rest = paths ≡ rest
Begins number stream letter (suc count) [] rest = ⊥
Begins number stream letter (suc count) (path ∷ paths) rest = IsPathOf number stream letter path × Begins number stream (letter + 1) count paths rest

-- the interface of changes of gains, by its name and its description
abbrev pub IsOfGains : RecordedPath → Type 0
IsOfGains interface = (interface.name.items ≡ codes "gains") × (interface.description.items ≡ codes "gains")

-- behind all paths there is nothing, or the interface of changes of gains
abbrev pub AreBehind : List RecordedPath → Type 0
AreBehind [] = Unit {0}
AreBehind (interface ∷ []) = IsOfGains interface
AreBehind (interface ∷ other ∷ more) = ⊥

-- the paths of streams, with numbers that count up from this one: all paths of each stream, from a on
abbrev pub ArePathsOf : ℕ → List Stream → List RecordedPath → Type 0
ArePathsOf number [] paths = AreBehind paths
ArePathsOf number (stream ∷ streams) paths =
    (rest : List RecordedPath) × Begins number stream 97 stream.paths paths rest × ArePathsOf (number + 1) streams rest
