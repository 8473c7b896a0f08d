use Rattle.std.proofs.Common.{[], refl, ◌∙◌}
use Rattle.studio_mix.specs.Changed.{with_changes}
use Rattle.engine_run.proofs.GainRequestLemmas.{taken-more, taken-none}
use Rattle.engine_run.proofs.TellLemmas.{adds_more, adds_none, noted_more, noted_none}
use Rattle.engine_run.proofs.gain_requests.ask_source.Goals as goal

pub loop-init : goal.loop-init
loop-init g c = record {
  space = c.requires.space;
  stands = λ studio events datagrams s. taken-none studio _ events datagrams _ s;
  time = refl;
  heard = adds_none (g.T.RunObserver.heard c.args.observer.now);
  noted = noted_none (g.G.GainSource.taken c.args.source.now) (g.T.RunObserver.noted c.args.observer.now);
}

pub loop-preserved : goal.loop-preserved
loop-preserved g c = record {
  space = c.ask_once.auto.buffer ∙ c.loop.invariant.space;
  stands = λ studio events datagrams s.
      let first = c.loop.invariant.stands studio events datagrams s in
      taken-more studio c.loop.engine _ events datagrams _ _ _ first (c.ask_once.ensures.stands (with_changes studio first.changes) events datagrams first.stands);
  time = c.ask_once.ensures.time ∙ c.loop.invariant.time;
  heard = adds_more _ _ _ [] [] c.loop.invariant.heard c.ask_once.ensures.heard;
  noted = noted_more _ _ _ _ _ _ c.loop.invariant.noted c.ask_once.ensures.noted;
}

pub returns-then-not-ask_once : goal.returns-then-not-ask_once
returns-then-not-ask_once g c = record {
  stands = λ studio events datagrams s.
      let first = c.loop.invariant.stands studio events datagrams s in
      taken-more studio c.loop.engine _ events datagrams _ _ _ first (c.ask_once.ensures.stands (with_changes studio first.changes) events datagrams first.stands);
  time = c.ask_once.ensures.time ∙ c.loop.invariant.time;
  heard = adds_more _ _ _ [] [] c.loop.invariant.heard c.ask_once.ensures.heard;
  noted = noted_more _ _ _ _ _ _ c.loop.invariant.noted c.ask_once.ensures.noted;
}
