use Rattle.std.proofs.Common.{vec_len}
use Rattle.studio_rings.proofs.stream_threads.+fn-run_streams-scope+run_streams.Given as goal

abbrev pub decreases-scope : goal.decreases-scope
decreases-scope g l = vec_len l.jobs

abbrev pub decreases-run_streams : goal.decreases-run_streams
decreases-run_streams g l = vec_len l.jobs
