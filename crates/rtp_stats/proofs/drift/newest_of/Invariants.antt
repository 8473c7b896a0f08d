use Rattle.std.proofs.Common.{◌≡◌, take}
use Rattle.rtp_stats.specs.Drift.{newest_of}
use Rattle.rtp_stats.proofs.drift.newest_of.Given as goal

abbrev pub invariant-loop-margin : goal.invariant-loop-margin
invariant-loop-margin l = l.newest ≡ newest_of (take l.margin-index l.margins)
