use Rattle.studio_session.specs.Play.{AreNew}
use Rattle.studio_session.proofs.session.new_cursors.Given as goal

-- a cursor for each stream so far
abbrev pub invariant-loop-number : goal.invariant-loop-number
invariant-loop-number l = AreNew l.streams l.open_at l.cursors.items l.number
