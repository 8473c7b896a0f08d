use Rattle.std.proofs.Common.{◌≡◌, drop}
use Rattle.live_status.proofs.Each.{IsUpTo}
use Rattle.live_run.specs.StreamStatus.{FillsEachStream, paths_before}
use Rattle.live_run.proofs.workers.stream_status.fill_streams.Given as goal

abbrev pub invariant-loop-number : goal.invariant-loop-number
invariant-loop-number l = (l.left ≡ drop (paths_before l.initial.streams l.number) l.counts) × IsUpTo (FillsEachStream l.stats l.counts l.initial.streams) l.number l.initial.streams l.streams
