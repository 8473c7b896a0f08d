use Rattle.studio_rings.proofs.NestLemmas.{ready-rest, ready-own}
use Rattle.studio_rings.proofs.stream_threads.last_job.Goals as goal

pub returns-clause-ready : goal.returns-clause-ready
returns-clause-ready g c = ready-rest _ _ c.pop.result c.pop.ensures.items c.requires

pub returns-clause-own : goal.returns-clause-own
returns-clause-own g c = ready-own _ _ c.pop.result c.pop.ensures.items c.requires
