use Rattle.std.proofs.Common.{◌≡◌, ℕ, ◌<◌, length, slice_index}
use Rattle.rtp_stats.proofs.stats.MixStats.new.Given as goal

abbrev pub invariant-loop-channel : goal.invariant-loop-channel
invariant-loop-channel l = (length l.counts ≡ 8) × ((k : ℕ) → k < l.channel → slice_index l.counts k ≡ slice_index l.saturated k)
