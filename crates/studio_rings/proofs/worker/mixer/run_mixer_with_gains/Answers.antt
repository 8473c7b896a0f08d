use Rattle.std.proofs.Common.{false, refl, sym, subst, ◌∙◌}
use Rattle.studio_io.proofs.SumLemmas.{sums-none}
use Rattle.studio_rings.specs.MixWorker.{MixesWith}
use Rattle.studio_rings.proofs.MixWorkerLemmas.{with-more, with-none, with-on, with-turn}
use Rattle.studio_rings.proofs.worker.mixer.run_mixer_with_gains.Goals as goal

pub loop-init : goal.loop-init
loop-init g c = record {
  space = refl;
  mixes = subst (λ n. MixesWith g.K.Sink.handed c.args.end c.args.sink 0 false c.args.end c.args.sink n (g.G.GainSource.taken c.args.gains) (g.G.GainSource.taken c.args.gains)) (sym c.new-counts.ensures)
      (with-none g.K.Sink.handed c.args.end c.args.sink 0 (g.G.GainSource.taken c.args.gains));
  sums = sums-none c.new-counts.result (g.K.Sink.answered c.args.sink) c.new-counts.ensures;
}

pub loop-preserved-then-not-mix_once : goal.loop-preserved-then-not-mix_once
loop-preserved-then-not-mix_once g c = record {
  space = c.ask_source.auto.buffer ∙ c.loop.invariant.space;
  mixes = with-more g.K.Sink.handed _ _ _ _ _ _ _ _ _ _ _ _ _ _ c.loop.invariant.mixes (with-turn g.K.Sink.handed _ _ _ _ _ _ _ _ _ _ c.ask_source.ensures c.if-not-mix_once.ensures.mixes);
  sums = c.if-not-mix_once.ensures.sums _ c.loop.invariant.sums;
}

pub returns-then-last-clause-sums : goal.returns-then-last-clause-sums
returns-then-last-clause-sums g c = c.if-not-mix_once.ensures.sums _ c.loop.invariant.sums

pub returns-then-last-clause-mixes : goal.returns-then-last-clause-mixes
returns-then-last-clause-mixes g c = with-more g.K.Sink.handed _ _ _ _ _ _ _ _ _ _ _ _ _ _ c.loop.invariant.mixes (with-turn g.K.Sink.handed _ _ _ _ _ _ _ _ _ _ c.ask_source.ensures c.if-not-mix_once.ensures.mixes)

pub loop-preserved : goal.loop-preserved
loop-preserved g c = record {
  space = c.ask_source.auto.buffer ∙ c.loop.invariant.space;
  mixes = with-on g.K.Sink.handed _ _ _ _ _ _ _ _ _ (with-more g.K.Sink.handed _ _ _ _ _ _ _ _ _ _ _ _ _ _ c.loop.invariant.mixes (with-turn g.K.Sink.handed _ _ _ _ _ _ _ _ _ _ c.ask_source.ensures c.if-not-mix_once.ensures.mixes));
  sums = c.if-not-mix_once.ensures.sums _ c.loop.invariant.sums;
}
