use Rattle.std.proofs.Common.{◌≡◌, ℕ, ◌+◌, ◌<◌, ◌≤◌, length, if◌then◌else◌}
use Rattle.std.specs.Prelude.{slice_index}
use Rattle.rtp_stats.specs.WindowCopies.{misses}
use Rattle.rtp_stats.specs.Offers.{count_in_64_bits}
use Rattle.rtp_stats.proofs.tally.window_copies.add_missed.Given as goal

abbrev pub invariant-loop-path : goal.invariant-loop-path
invariant-loop-path l = record {
  four : length l.missed ≡ 4;
  done : (p : ℕ) → p < l.path → slice_index l.missed p ≡ (if misses l.entry p then count_in_64_bits (slice_index l.initial.missed p + 1) else slice_index l.initial.missed p);
  rest : (p : ℕ) → l.path ≤ p → slice_index l.missed p ≡ slice_index l.initial.missed p;
}
