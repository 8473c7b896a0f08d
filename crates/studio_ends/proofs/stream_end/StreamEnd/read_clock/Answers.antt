use Rattle.std.proofs.lemmas.Grind.{elements}
use Rattle.std.proofs.Common.{rules, ◌≡◌, refl, to_z, of_z, w64, arith}
use Rattle.studio_ends.proofs.ClockLemmas.{clock-read}
use Rattle.studio_ends.proofs.StreamLemmas.{at_now, stop_now}
use Rattle.studio_ends.proofs.stream_end.StreamEnd.read_clock.Goals as goal

pub returns-clause-read : goal.returns-clause-read
returns-clause-read c =
    let z : to_z w64 (of_z w64 c.args.now) ≡ c.args.now = search rules in
    clock-read c.args.self.now _ c.args.now _ _ (at_now _ _ _ _ _ c.args.now _ z c.push_marks-why_stopped.ensures.pushed) c.push_marks-why_stopped.ensures.most (stop_now _ _ _ c.args.now _ _ z c.push_marks-why_stopped.ensures.stop) refl refl refl

pub push_marks-why_stopped-requires-clause-cells : goal.push_marks-why_stopped-requires-clause-cells
push_marks-why_stopped-requires-clause-cells c = grind (arith, elements)

pub push_marks-why_stopped-requires-clause-high : goal.push_marks-why_stopped-requires-clause-high
push_marks-why_stopped-requires-clause-high c = grind (arith, elements)

pub push_marks-why_stopped-requires-clause-low : goal.push_marks-why_stopped-requires-clause-low
push_marks-why_stopped-requires-clause-low c = grind (arith, elements)
