use Rattle.std.proofs.Common.{vec_len}
use Rattle.studio_rings.proofs.path_threads.+fn-run_paths-scope+run_paths.Given as goal

abbrev pub decreases-scope : goal.decreases-scope
decreases-scope g l = vec_len l.jobs

abbrev pub decreases-run_paths : goal.decreases-run_paths
decreases-run_paths g l = vec_len l.jobs
