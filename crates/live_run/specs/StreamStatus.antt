-- A snapshot's streams, filled with the latest statistics of the workers.
use Rattle.std.specs.Prelude.{◌≡◌, ℕ, zero, suc, ◌+◌, List, [], ◌∷◌, length, drop, slice_get, Option, MatchOption}
use Rattle.rtp_stream.specs.declared.stream_counts.PathCounts.{PathCounts}
use Rattle.rtp_stats.specs.declared.stats.StreamStats.{StreamStats}
use Rattle.status_page.specs.declared.snapshot.StreamState.{StreamState}
use Rattle.live_status.specs.FilledStreams.{FillsStream}

-- the number of paths of the streams before a place
abbrev pub paths_before : List StreamState → ℕ → ℕ
paths_before streams zero = 0
paths_before [] (suc place) = 0
paths_before (stream ∷ streams) (suc place) = length stream.paths.items + paths_before streams place

-- the stream at a place, if there are statistics at that place; the counts begin with those of its paths
abbrev pub FillsStreamAt : List (Option StreamStats) → ℕ → List (Option PathCounts) → StreamState → StreamState → Type 0
FillsStreamAt stats place counts old new = MatchOption (slice_get stats place) (new ≡ old) (λ numbers. FillsStream numbers counts old new)

-- the same of each of these streams, where the counts of a stream's paths come after those of the streams before it
abbrev pub FillsEachStream : List (Option StreamStats) → List (Option PathCounts) → List StreamState → ℕ → StreamState → StreamState → Type 0
FillsEachStream stats counts streams place old new = FillsStreamAt stats place (drop (paths_before streams place) counts) old new
