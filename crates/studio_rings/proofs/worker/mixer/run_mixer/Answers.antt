use Rattle.studio_rings.proofs.MixWorkerLemmas.{mixes-unchanged}
use Rattle.studio_rings.proofs.worker.mixer.run_mixer.Goals as goal

pub returns-clause-mixes : goal.returns-clause-mixes
returns-clause-mixes g c = mixes-unchanged g.K.Sink.handed _ _ _ _ _ _ _ _ c.run_mixer_with_gains-mixed.ensures.mixes
