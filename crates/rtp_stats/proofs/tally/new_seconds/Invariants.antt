use Rattle.std.proofs.Common.{◌≤◌, vec_capacity}
use Rattle.rtp_stats.specs.MarginSecond.{AreNewSeconds}
use Rattle.rtp_stats.proofs.tally.new_seconds.Given as goal

abbrev pub invariant-loop-place : goal.invariant-loop-place
invariant-loop-place l = record {
  new : AreNewSeconds l.place l.seconds.items;
  space : 8 ≤ vec_capacity l.seconds;
}
