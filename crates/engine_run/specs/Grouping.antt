-- The feeds of a studio, stream by stream and path by path.
use Rattle.std.specs.Prelude.{ℕ, List, [], ◌∷◌, drop, sum_by, take}
use Rattle.rtp_stream.specs.declared.stream_spec.Stream.{Stream}

-- the number of paths of all streams
abbrev pub path_total : List Stream → ℕ
path_total streams = sum_by (λ (stream : Stream). stream.paths) streams

module _ {X : Type 0} where
  -- the items of all paths, split by stream: each stream gets the next items, one for each of its paths
  abbrev pub grouped : List Stream → List X → List (List X)
  grouped [] xs = []
  grouped (stream ∷ streams) xs = take stream.paths xs ∷ grouped streams (drop stream.paths xs)
