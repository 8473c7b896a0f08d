-- The place of a path among the paths of all streams.
use Rattle.std.specs.Prelude.{ℕ, ◌+◌, List, take}
use Rattle.rtp_stream.specs.declared.stream_spec.Stream.{Stream}
use Rattle.live_io.specs.Paths.{path_total}

-- the place of the first path of a stream: the paths of the streams before it come first
abbrev pub first_place : List Stream → ℕ → ℕ
first_place streams stream = path_total (take stream streams)

-- the place of a path: the paths are ordered by stream and then by path
abbrev pub path_place : List Stream → ℕ → ℕ → ℕ
path_place streams stream path = first_place streams stream + path
