use Rattle.std.proofs.Common.{◌≡◌, ◌≤◌, replicate, vec_capacity}
use Rattle.rtp_stats.specs.WindowCopies.{empty_entry}
use Rattle.rtp_stats.proofs.tally.new_entries.Given as goal

abbrev pub invariant-loop : goal.invariant-loop
invariant-loop l = record {
  empty : l.entries.items ≡ replicate l.counter empty_entry;
  space : l.window ≤ vec_capacity l.entries;
}
