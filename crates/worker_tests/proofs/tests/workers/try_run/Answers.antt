use Rattle.worker_tests.proofs.tests.workers.try_run.Goals as goal

pub run_workers-requires-clause-opened : goal.run_workers-requires-clause-opened
run_workers-requires-clause-opened g c = λ κs within. let o = c.in-Some.ensures.opened in
    (c.args.studio.now, c.args.places, c.streams-sound.ensures.sound, record { streams = o.streams; monitors = c.in-Some.ends.monitors.items; rings = o.rings; mix = o.mix })
