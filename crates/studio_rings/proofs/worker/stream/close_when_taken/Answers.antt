use Rattle.studio_rings.proofs.StreamTurnLemmas.{goes-none, goes-trans}
use Rattle.studio_rings.proofs.CloseLemmas.{closes-later}
use Rattle.studio_rings.proofs.worker.stream.close_when_taken.Goals as goal

pub loop-init : goal.loop-init
loop-init g c = record { later = goes-none _ _; tokens = λ lists told. told }

pub returns-in-Ok : goal.returns-in-Ok
returns-in-Ok g c = closes-later _ c.args.stream c.loop.stream c.in-Ok.end c.loop.invariant.later c.loop.invariant.tokens c.in-Ok.ensures.closed

pub loop-preserved : goal.loop-preserved
loop-preserved g c = record {
  later = goes-trans _ c.args.stream c.in-Err.rest _ (goes-trans _ c.args.stream c.loop.stream c.in-Err.rest c.loop.invariant.later c.in-Err.ensures.later) c.turn.ensures.later;
  tokens = λ lists told. c.turn.ensures.tokens lists (c.in-Err.ensures.tokens lists (c.loop.invariant.tokens lists told));
}
