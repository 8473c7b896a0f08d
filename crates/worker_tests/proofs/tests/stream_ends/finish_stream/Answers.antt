use Rattle.std.proofs.Common.{◌∙◌, IfSome, subst}
use Rattle.rtrb.specs.Ring.{Finishes}
use Rattle.studio_ends.specs.declared.stream_end.turns.StreamDone.{StreamDone}
use Rattle.worker_tests.proofs.tests.stream_ends.finish_stream.Goals as goal

pub returns : goal.returns
returns g c =
    let fin = subst (λ o. IfSome o (λ (done : StreamDone). Finishes c.drains.new.stream.marks done.token)) c.in-Some.is c.finish-done.ensures.token in
    let same = c.drains.ensures.marks in
    (fin.0.0 ∙ same.0.0, fin.0.1 ∙ same.0.1, fin.0.2 ∙ same.0.2, fin.0.3 ∙ same.0.3)
