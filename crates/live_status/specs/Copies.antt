-- The numbers of a path's packets in a snapshot.
use Rattle.std.specs.Prelude.{◌≡◌, ℕ, ℤ, ◌+◌, ◌-◌, ◌^◌, min, List, Option, slice_index, slice_get, Some, None}
use Rattle.rtp_stream.specs.declared.counts.Counts.{Counts}
use Rattle.rtp_stream.specs.declared.stream_spec.Stream.{Stream}
use Rattle.rtp_stats.specs.Offer.{Offer}
use Rattle.rtp_stats.specs.Stats.{AreNumbers, no_stats}
use Rattle.rtp_stats.specs.Tally.{HasTally}
use Rattle.rtp_stats.specs.declared.copy_tracker.CopyTracker.{CopyTracker}
use Rattle.rtp_stats.specs.declared.stats.PathStats.{PathStats}
use Rattle.status_page.specs.declared.snapshot.CopyCounts.{CopyCounts}
use Rattle.status_page.specs.declared.snapshot.PathState.{PathState}

-- the counts of a path's copies: those that it missed, with those that its stream lost, and those of each other fate
abbrev pub copies_of : PathStats → ℕ → CopyCounts
copies_of numbers lost = record {
  lost = min (numbers.tally.missed + lost) (2 ^ 64 - 1);
  double = numbers.tally.double;
  unlike = numbers.tally.unlike;
  late = numbers.tally.late;
  ahead = numbers.tally.ahead;
  repeated = numbers.tally.repeated;
}

-- a path with these numbers, of a stream that lost this many packets
abbrev pub with_numbers : PathStats → ℕ → PathState → PathState
with_numbers numbers lost path = record path { copies = Some (copies_of numbers lost); spare = numbers.spare }

-- the path has the numbers of its packets at this time, by its stream's tracker, if the stream lost this many packets
abbrev pub HasPathStats : CopyTracker → ℕ → ℤ → ℕ → PathState → Type 0
HasPathStats tracker path now lost shown = (stream : Stream) (offers : List Offer) → HasTally stream offers tracker.tally → (numbers : PathStats)
    × AreNumbers stream offers path now numbers × (shown.copies ≡ Some (copies_of numbers lost)) × (shown.spare ≡ numbers.spare)

-- the path has the numbers of its tracker; without a tracker it has those of no packet
abbrev pub ShowsCopies : Option CopyTracker → ℕ → ℤ → ℕ → PathState → Type 0
ShowsCopies None path now lost shown = (shown.copies ≡ Some (copies_of no_stats lost)) × (shown.spare ≡ None)
ShowsCopies (Some tracker) path now lost shown = HasPathStats tracker path now lost shown

-- the path has the numbers at its place: its first copies from these counts, and the fates of the others
abbrev pub IsTold : Counts → List PathStats → ℕ → PathState → PathState → Type 0
IsTold counts numbers place old new =
    (of_path : PathStats) → slice_get numbers place ≡ Some of_path → new ≡ record (with_numbers of_path counts.lost old) { first = slice_index counts.taken_by place }
