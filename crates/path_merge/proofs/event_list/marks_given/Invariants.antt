use Rattle.std.proofs.Common.{take}
use Rattle.path_merge.specs.Run.{HasGiven}
use Rattle.path_merge.proofs.event_list.marks_given.Given as goal

-- the marks so far are those of the events so far
abbrev pub invariant-loop-event : goal.invariant-loop-event
invariant-loop-event l = HasGiven l.fn.spec l.open_at l.merge (take l.event-index l.events) l.marks.items
