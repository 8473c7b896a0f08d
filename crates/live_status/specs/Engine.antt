-- The numbers of an engine's streams in a snapshot.
use Rattle.std.specs.Prelude.{◌≡◌, ◌<◌, ℕ, ℤ, List, length, replicate, Option, Some, None, slice_get, slice_index, IsSomeAnd}
use Rattle.rtp_stream.specs.Counts.{tally_of}
use Rattle.rtp_stream.specs.PathCounts.{path_tally_of}
use Rattle.rtp_stream.specs.declared.counts.Counts.{Counts}
use Rattle.rtp_stream.specs.declared.stream_counts.PathCounts.{PathCounts}
use Rattle.rtp_stream.specs.declared.stream_spec.Stream.{Stream}
use Rattle.studio_config.specs.Studio.{Studio}
use Rattle.studio_session.specs.Counts.{path_counts_of}
use Rattle.studio_session.specs.Event.{TraceEvent}
use Rattle.studio_session.specs.Report.{merge_tally_of}
use Rattle.studio_engine.specs.Engine.{EngineState, HasAllMarks}
use Rattle.studio_engine.specs.Session.{HasSession}
use Rattle.rtp_stats.specs.Offer.{Offer}
use Rattle.rtp_stats.specs.Stats.{AreTold, no_stats}
use Rattle.rtp_stats.specs.Tally.{HasTally}
use Rattle.rtp_stats.specs.declared.copy_tracker.CopyTracker.{CopyTracker}
use Rattle.rtp_stats.specs.declared.stats.StreamStats.{StreamStats}
use Rattle.status_page.specs.declared.snapshot.PathState.{PathState}
use Rattle.live_status.specs.Copies.{ShowsCopies}

-- the counts are those of this stream's merge after the events that were passed to the engine, once its marks were
-- taken
abbrev pub HasEngineCounts : EngineState → ℕ → Counts → Type 0
HasEngineCounts engine number counts =
    (studio : Studio) (events : List TraceEvent) (datagrams : List (List ℕ)) (stream : Stream) → HasSession studio engine events datagrams → slice_get studio.streams number ≡ Some stream → HasAllMarks engine
    → tally_of counts ≡ merge_tally_of stream number studio.open_at events

-- the counts are those of this path's datagrams
abbrev pub HasEnginePathCounts : EngineState → ℕ → ℕ → PathCounts → Type 0
HasEnginePathCounts engine number path counts =
    (studio : Studio) (events : List TraceEvent) (datagrams : List (List ℕ)) (stream : Stream) → HasSession studio engine events datagrams → slice_get studio.streams number ≡ Some stream
    → path_tally_of counts ≡ path_counts_of stream number path events

-- the outcomes of a path's datagrams before the merge; the snapshot shows this many datagrams
abbrev pub HasEngineBefore : EngineState → ℕ → ℕ → Option PathCounts → ℕ → Type 0
HasEngineBefore engine number path shown offered = IsSomeAnd shown (λ counts. (offered ≡ counts.offered) × HasEnginePathCounts engine number path counts)

-- each of the four paths has its counts, if the engine has the stream
abbrev pub AreEngineCounts : EngineState → ℕ → List (Option PathCounts) → Type 0
AreEngineCounts engine number all =
    (place : ℕ) → place < 4 → number < length engine.cursors → (counts : PathCounts) × (slice_get all place ≡ Some (Some counts)) × HasEnginePathCounts engine number place counts

-- the statistics are by the stream's tracker at this time; without a tracker they are those of no packet
abbrev pub AreStatsOf : Option CopyTracker → ℤ → StreamStats → Type 0
AreStatsOf None now stats = stats.paths ≡ replicate 4 no_stats
AreStatsOf (Some tracker) now stats =
    (length stats.paths ≡ 4) × ((stream : Stream) (offers : List Offer) → HasTally stream offers tracker.tally → AreTold stream offers stats.counts now stats)

-- the path has its numbers: its first copies by these counts, the outcomes of its datagrams, and its copies by the
-- stream's tracker
pub record IsEnginePath (engine : EngineState) (tracker : Option CopyTracker) (number : ℕ) (counts : Counts) (place : ℕ) (old new : PathState) : Type 0 where
  pub first : place < 4 → new.first ≡ slice_index counts.taken_by place
  pub before : place < 4 → HasEngineBefore engine number place new.counts new.datagrams
  pub copies : place < 4 → ShowsCopies tracker place engine.time counts.lost new
