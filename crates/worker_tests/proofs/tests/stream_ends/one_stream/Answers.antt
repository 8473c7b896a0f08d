use Rattle.std.proofs.Common.{rules, ◌≡◌, length}
use Rattle.worker_tests.proofs.OneStreamLemmas.{one_popped, only_stream, two_popped}
use Rattle.worker_tests.proofs.tests.stream_ends.one_stream.Goals as goal

pub invariant_of-result : goal.invariant_of-result
invariant_of-result g c =
    let ends = c.open_ends-ends.result in
    let studio = c.studio_of-studio.result in
    let opened = c.open_ends-ends.ensures in
    let two : length ends.paths.items ≡ 2 = search rules in
    let one : length ends.streams.items ≡ 1 = search rules in
    record {
      pairs = only_stream studio.open_at c.args.ring_len studio.streams ends.paths.items ends.streams.items ends.monitors.items c.last_of-first.result c.last_of-second.result c.last_of-stream.result ends.mix opened.streams opened.rings
          (two_popped ends.paths.items c.last_of-second.new.list.items c.last_of-first.new.list.items c.last_of-first.result c.last_of-second.result (search rules) (search rules) two)
          (one_popped ends.streams.items c.last_of-stream.new.list.items c.last_of-stream.result (search rules) one);
    }
