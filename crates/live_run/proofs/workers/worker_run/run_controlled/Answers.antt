use Rattle.std.proofs.Common.{◌≡◌, [], None, false, refl}
use Rattle.studio_io.specs.declared.gain_source.NoGains.{NoGains}
use Rattle.live_run.proofs.RunLemmas.{uncontrolled}
use Rattle.live_run.proofs.workers.worker_run.run_controlled.Goals as goal

pub returns-in-None-clause-run : goal.returns-in-None-clause-run
returns-in-None-clause-run g c =
    let is : c.args.gains ≡ None = c.in-None.is in
    rw is (uncontrolled (λ (after : NoGains). []) false c.args.studio.now (λ after. refl) c.run-in-None.result c.run-in-None.ensures.run)
