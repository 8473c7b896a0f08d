use Rattle.live_run.specs.RingPlaces.{ring_places}
use Rattle.live_run.proofs.workers.worker_run.WorkerRun.run.Goals as goal

pub run-requires-clause-opened : goal.run-requires-clause-opened
run-requires-clause-opened g c κs within = (c.args.studio.now, ring_places c.args.studio.now, c.open_at-open_at.ensures.sound, c.requires.opened)

pub returns-clause-run : goal.returns-clause-run
returns-clause-run g c = (
  _,
  record {
    balance = c.in_ok-report.ensures.balance;
    settled = λ settled. (ring_places c.args.studio.now, _, _, c.in_ok-report.ensures.settled settled c.args.studio.now (ring_places c.args.studio.now) c.requires.opened);
  },
)

pub returns-clause-ends : goal.returns-clause-ends
returns-clause-ends g c = (_, c.of_parts-outputs.ensures)
