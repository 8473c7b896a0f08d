use Rattle.live_run.proofs.OutputEndLemmas.{ends-next-to}
use Rattle.live_run.proofs.launch.BoundRun.run_with_page.Goals as goal

pub returns-clause-ends : goal.returns-clause-ends
returns-clause-ends g c =
    ends-next-to _ g.O.Events.EventOutput.ended g.O.Mix.MixOutput.ended (λ mix. mix.mix) c.args.run.options.now.one_thread c.run_bound.result c.run_bound.ensures.ends
