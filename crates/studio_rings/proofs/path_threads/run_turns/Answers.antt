use Rattle.studio_rings.proofs.StreamTurnLemmas.{goes-none, goes-trans}
use Rattle.studio_rings.proofs.path_threads.run_turns.Goals as goal

pub loop-init : goal.loop-init
loop-init g c = goes-none _ _

pub loop-preserved : goal.loop-preserved
loop-preserved g c = goes-trans _ _ c.loop.stream _ c.loop.invariant c.turn.ensures.later
