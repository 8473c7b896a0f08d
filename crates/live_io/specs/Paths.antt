-- The number of a studio's paths.
use Rattle.std.specs.Prelude.{ℕ, List, sum_by}
use Rattle.rtp_stream.specs.declared.stream_spec.Stream.{Stream}

-- the number of paths of all streams
abbrev pub path_total : List Stream → ℕ
path_total streams = sum_by (λ (stream : Stream). stream.paths) streams
