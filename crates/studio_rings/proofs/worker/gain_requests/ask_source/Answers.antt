use Rattle.std.proofs.Common.{◌∙◌}
use Rattle.studio_rings.proofs.GainRequestLemmas.{takes-more, takes-none}
use Rattle.studio_rings.proofs.worker.gain_requests.ask_source.Goals as goal

pub loop-init : goal.loop-init
loop-init g c = record { space = c.requires.space; takes = takes-none _ _ }

pub loop-preserved : goal.loop-preserved
loop-preserved g c = record {
  space = c.ask_once.auto.buffer ∙ c.loop.invariant.space;
  takes = takes-more _ _ _ _ _ _ c.loop.invariant.takes c.ask_once.ensures;
}

pub returns-then-not-ask_once : goal.returns-then-not-ask_once
returns-then-not-ask_once g c = takes-more _ _ _ _ _ _ c.loop.invariant.takes c.ask_once.ensures
