use Rattle.live_status.specs.StreamWatch.{NotesStreamAt}
use Rattle.live_status.proofs.Each.{IsUpTo}
use Rattle.live_status.proofs.reception_watch.note_streams.Given as goal

abbrev pub invariant-loop-number : goal.invariant-loop-number
invariant-loop-number l = IsUpTo (NotesStreamAt l.now l.streams) l.number l.initial.watches l.watches
