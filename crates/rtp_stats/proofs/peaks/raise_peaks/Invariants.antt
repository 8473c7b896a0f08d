use Rattle.std.proofs.Common.{◌≡◌, ℕ, ◌%◌, ◌<◌, max, length}
use Rattle.std.specs.Prelude.{slice_index}
use Rattle.rtp_stats.specs.Peaks.{peak_among}
use Rattle.rtp_stats.proofs.peaks.raise_peaks.Given as goal

abbrev pub invariant-loop-index : goal.invariant-loop-index
invariant-loop-index l = record {
  at : l.channel ≡ l.index % length l.peaks;
  so_far : (c : ℕ) → c < length l.peaks → slice_index l.peaks c ≡ max (slice_index l.initial.peaks c) (peak_among l.enc l.octets (length l.peaks) c l.index);
}
