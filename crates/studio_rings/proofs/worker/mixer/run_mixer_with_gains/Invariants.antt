use Rattle.std.proofs.Common.{◌≡◌, false, length}
use Rattle.studio_io.specs.SendSums.{CountsAnswers}
use Rattle.studio_rings.specs.MixWorker.{MixesWith}
use Rattle.studio_rings.proofs.worker.mixer.run_mixer_with_gains.Given as goal

abbrev pub invariant-loop : goal.invariant-loop
invariant-loop g l = record {
  space : length l.buffer ≡ 8192;
  mixes : MixesWith g.K.Sink.handed l.initial.end l.initial.sink 0 false l.end l.sink l.counts.blocks (g.G.GainSource.taken l.initial.gains) (g.G.GainSource.taken l.gains);
  sums : CountsAnswers (g.K.Sink.answered l.initial.sink) l.counts (g.K.Sink.answered l.sink);
}
