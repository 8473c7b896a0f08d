use Rattle.std.proofs.Common.{◌≡◌, take}
use Rattle.live_status.specs.Watch.{most_left}
use Rattle.live_status.proofs.reception_watch.stream_watch.most_left.Given as goal

abbrev pub invariant-loop-watch : goal.invariant-loop-watch
invariant-loop-watch l = l.most ≡ most_left (take l.watch-index l.watches)
