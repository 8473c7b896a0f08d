use Rattle.worker_tests.proofs.tests.gain_moves.run_in_workers.Goals as goal

pub run-requires-clause-opened : goal.run-requires-clause-opened
run-requires-clause-opened g c = λ κs within. let o = c.in-Some.ensures.opened in
    (c.args.studio.now, 4, c.streams-sound.ensures.sound, record { streams = o.streams; monitors = c.in-Some.ends.monitors.items; rings = o.rings; mix = o.mix })
