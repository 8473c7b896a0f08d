-- A stream of a snapshot that was filled with its statistics.
use Rattle.std.specs.Prelude.{◌≡◌, ℕ, List, slice_get, Option, Some, None, MatchOption}
use Rattle.rtp_stream.specs.declared.stream_counts.PathCounts.{PathCounts}
use Rattle.rtp_stats.specs.declared.stats.StreamStats.{StreamStats}
use Rattle.status_page.specs.declared.snapshot.PathState.{PathState}
use Rattle.status_page.specs.declared.snapshot.StreamState.{StreamState}
use Rattle.live_status.specs.Copies.{IsTold}
use Rattle.live_status.specs.Each.{AreEach}

-- a path with the counts at its place, if they are known there
abbrev pub with_counts : Option (Option PathCounts) → PathState → PathState
with_counts None path = path
with_counts (Some None) path = path
with_counts (Some (Some counts)) path = record path { counts = Some counts; datagrams = counts.offered }

abbrev pub HasCounts : List (Option PathCounts) → ℕ → PathState → PathState → Type 0
HasCounts counts place old new = new ≡ with_counts (slice_get counts place) old

-- a stream with these statistics, if there are any, and its paths with these counts of their datagrams
pub record FillsStream (stats : Option StreamStats) (counts : List (Option PathCounts)) (old new : StreamState) : Type 0 where
  pub filled : List PathState
  pub name_is : new.name ≡ old.name
  pub condition_is : new.condition ≡ old.condition
  pub latency_is : new.latency ≡ old.latency
  pub counts_are : MatchOption stats (new.counts ≡ old.counts) (λ numbers. new.counts ≡ numbers.counts)
  pub numbers : MatchOption stats (filled ≡ old.paths.items) (λ numbers. AreEach (IsTold numbers.counts numbers.paths) old.paths.items filled)
  pub datagrams : AreEach (HasCounts counts) filled new.paths.items
