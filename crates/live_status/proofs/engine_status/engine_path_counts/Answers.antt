use Rattle.live_status.proofs.EngineStatusLemmas.{four-counts}
use Rattle.live_status.proofs.engine_status.engine_path_counts.Goals as goal

pub returns : goal.returns
returns c =
    four-counts c.args.engine.now c.args.number c.engine_counts_at.result c.engine_counts_at-2.result c.engine_counts_at-3.result c.engine_counts_at-4.result
    c.engine_counts_at.ensures.value c.engine_counts_at-2.ensures.value c.engine_counts_at-3.ensures.value c.engine_counts_at-4.ensures.value
    c.engine_counts_at.ensures.none c.engine_counts_at-2.ensures.none c.engine_counts_at-3.ensures.none c.engine_counts_at-4.ensures.none
