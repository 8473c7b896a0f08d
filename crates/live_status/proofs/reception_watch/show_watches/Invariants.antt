use Rattle.live_status.specs.StreamWatch.{ShowsWatchAt}
use Rattle.live_status.proofs.Each.{IsUpTo}
use Rattle.live_status.proofs.reception_watch.show_watches.Given as goal

abbrev pub invariant-loop-number : goal.invariant-loop-number
invariant-loop-number l = IsUpTo (ShowsWatchAt l.have_ended l.watches) l.number l.initial.streams l.streams
