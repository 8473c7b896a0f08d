use Rattle.studio_ends.proofs.TurnLemmas.{producers}
use Rattle.studio_rings.proofs.worker.stream.drain.Goals as goal

pub returns-then-drain_turn : goal.returns-then-drain_turn
returns-then-drain_turn g c = record {
  marks = producers c.args.end.now.marks c.loop.end.marks c.drain_turn.new.self.marks c.loop.invariant.marks c.drain_turn.ensures.rings;
  stands = λ stream open_at events h. c.drain_turn.ensures.stands stream open_at events (c.loop.invariant.stands stream open_at events h);
  all = c.drain_turn.ensures.all c.if-drain_turn.true;
}

pub loop-preserved : goal.loop-preserved
loop-preserved g c = record {
  marks = producers c.args.end.now.marks c.loop.end.marks c.drain_turn.new.self.marks c.loop.invariant.marks c.drain_turn.ensures.rings;
  stands = λ stream open_at events h. c.drain_turn.ensures.stands stream open_at events (c.loop.invariant.stands stream open_at events h);
}
