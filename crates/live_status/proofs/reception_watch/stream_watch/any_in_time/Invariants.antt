use Rattle.std.proofs.Common.{◌≡◌, take}
use Rattle.live_status.specs.Watch.{any_in_time}
use Rattle.live_status.proofs.reception_watch.stream_watch.any_in_time.Given as goal

abbrev pub invariant-loop-watch : goal.invariant-loop-watch
invariant-loop-watch l = l.found ≡ any_in_time (take l.watch-index l.watches)
