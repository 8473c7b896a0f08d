use Rattle.std.proofs.lemmas.Grind.{elements}
use Rattle.std.proofs.Common.{rules, ◌≡◌, refl, to_z, of_z, w64, arith}
use Rattle.studio_ends.proofs.StreamLemmas.{turned, at_now, stop_now}
use Rattle.studio_ends.proofs.stream_end.StreamEnd.turn.Goals as goal

pub returns-clause-turned : goal.returns-clause-turned
returns-clause-turned c =
    let t = c.take_all-from.ensures.took in
    let z : to_z w64 (of_z w64 c.args.now) ≡ c.args.now = search rules in
    turned c.args.self.now _ c.args.now _ c.take_all-from.new.merge t.0 _ t.1 t.2 t.3 (at_now _ _ _ _ _ c.args.now _ z c.push_marks-marks.ensures.pushed) refl c.push_marks-marks.ensures.most (search rules) (stop_now _ _ _ c.args.now _ _ z c.push_marks-marks.ensures.stop) c.show_counts.ensures.ring (rw c.counts.ensures at (c.show_counts.ensures.shows)) refl

pub returns-clause-told : goal.returns-clause-told
returns-clause-told c =
    let t = c.take_all-from.ensures.took in
    record { taken = t.0; took = t.1; noted = c.take_all-from.new.sender; notes = t.4; tells = c.send_stats.ensures }

pub push_marks-marks-requires-clause-cells : goal.push_marks-marks-requires-clause-cells
push_marks-marks-requires-clause-cells c = grind (arith, elements)

pub push_marks-marks-requires-clause-low : goal.push_marks-marks-requires-clause-low
push_marks-marks-requires-clause-low c = grind (arith, elements)

pub push_marks-marks-requires-clause-open_yet : goal.push_marks-marks-requires-clause-open_yet
push_marks-marks-requires-clause-open_yet c = grind (arith, elements)

pub push_marks-marks-requires-clause-high : goal.push_marks-marks-requires-clause-high
push_marks-marks-requires-clause-high c = grind (arith, elements)
