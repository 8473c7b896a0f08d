use Rattle.std.proofs.Common.{◌≡◌, [], None, true, refl}
use Rattle.studio_io.specs.declared.gain_source.NoGains.{NoGains}
use Rattle.live_run.proofs.RunLemmas.{uncontrolled}
use Rattle.live_run.proofs.single_thread.SingleThreadRun.run.Goals as goal

pub returns-in-None-clause-run : goal.returns-in-None-clause-run
returns-in-None-clause-run g c =
    let is : c.args.self.gains ≡ None = c.in-None.is in
    rw is (uncontrolled (λ (after : NoGains). []) true c.args.studio.now (λ after. refl) c.run-in-None.result c.run-in-None.ensures.run)
