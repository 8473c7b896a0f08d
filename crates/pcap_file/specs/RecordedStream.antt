-- The configuration of a stream, as a record has it in the descriptions of its paths' interfaces.
use Rattle.std.specs.Prelude.{ℕ, List, ◌++◌, codes, decimal}
use Rattle.pcap_file.specs.declared.encode.recorded_stream.RecordedStream.{RecordedStream}

-- words, followed by a number
abbrev pub counted : List ℕ → ℕ → List ℕ
counted words number = words ++ decimal number

-- a description such as `encoding L24 channels 2 frames 48 pt 96 paths 2`
unfoldable pub description_of : RecordedStream → List ℕ
description_of stream =
    counted (codes "encoding L") stream.bits ++ counted (codes " channels ") stream.channels ++ counted (codes " frames ") stream.frames
    ++ counted (codes " pt ") stream.pt ++ counted (codes " paths ") stream.paths
