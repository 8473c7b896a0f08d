use Rattle.std.proofs.Common.{◌≡◌, [], Err, rules}
use Rattle.studio_run.proofs.BufferLemmas.{PassesOn-grown, BreaksOff-longer}
use Rattle.studio_run.proofs.lines.counts.write_path_counts.Goals as goal

pub returns-in_err-make_space-clause-fault : goal.returns-in_err-make_space-clause-fault
returns-in_err-make_space-clause-fault g c =
    let is : c.from_residual.result ≡ Err c.in_err-make_space.field-0.0 = search rules in
    rw is (BreaksOff-longer _ _ _ [] _ c.in_err-make_space.ensures.fault)

pub returns-clause-ok : goal.returns-clause-ok
returns-clause-ok g c = PassesOn-grown _ _ _ _ _ _ c.in_ok-make_space.ensures.ok c.push_path_line.ensures
