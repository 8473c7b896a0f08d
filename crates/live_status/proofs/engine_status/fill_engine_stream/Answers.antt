use Rattle.std.proofs.Common.{option_copied}
use Rattle.live_status.proofs.EngineStatusLemmas.{stream-filled}
use Rattle.live_status.proofs.engine_status.fill_engine_stream.Goals as goal

pub returns : goal.returns
returns c =
    stream-filled c.args.engine.now (option_copied c.args.tracker) c.args.number c.engine_stats-stats.result c.engine_path_counts-counts.result c.args.stream.now c.fill_stream.new.stream
    c.engine_stats-stats.ensures.whole c.engine_stats-stats.ensures.paths c.engine_stats-stats.ensures.none c.engine_path_counts-counts.ensures c.fill_stream.ensures
