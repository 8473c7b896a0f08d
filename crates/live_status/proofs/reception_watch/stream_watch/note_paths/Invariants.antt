use Rattle.live_status.specs.Watch.{NotesPath}
use Rattle.live_status.proofs.Each.{IsUpTo}
use Rattle.live_status.proofs.reception_watch.stream_watch.note_paths.Given as goal

abbrev pub invariant-loop-place : goal.invariant-loop-place
invariant-loop-place l = IsUpTo (NotesPath l.now l.window_span l.begins l.paths) l.place l.initial.watches l.watches
