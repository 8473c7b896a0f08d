use Rattle.std.proofs.Common.{IfSome, subst}
use Rattle.rtrb.specs.Ring.{Finishes, all_sent}
use Rattle.studio_ends.specs.declared.path_end.PathDone.{PathDone}
use Rattle.worker_tests.proofs.OneStreamLemmas.{handed_in, token_of}
use Rattle.worker_tests.proofs.tests.stream_ends.finish_path.Goals as goal

pub path_done-requires-clause-token : goal.path_done-requires-clause-token
path_done-requires-clause-token g c = λ side at.
    let fin = subst (λ o. IfSome o (λ (done : PathDone). Finishes c.args.path.ring done.token)) c.in-Some.is c.finish-done.ensures.token in
    token_of c.args.path.ring c.in-Some.done.token side.ring (c.requires.pair side at) fin.0

pub returns : goal.returns
returns g c = handed_in c.args.stream.now c.path_done.new.self c.args.number (all_sent c.in-Some.done.token) c.path_done.ensures.sides c.path_done.ensures.others.1
