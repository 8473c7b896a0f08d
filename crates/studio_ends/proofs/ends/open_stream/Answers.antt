use Rattle.std.proofs.lemmas.Grind.{elements, common_steps}
use Rattle.std.proofs.Common.{rules, ◌≡◌, [], refl, arith}
use Rattle.path_merge.specs.Merge.{HasHistory}
use Rattle.studio_ends.proofs.OpenLemmas.{stands-fresh}
use Rattle.studio_ends.proofs.ends.open_stream.Goals as goal

pub returns-clause-fresh : goal.returns-clause-fresh
returns-clause-fresh c = λ own count paths.
    let stands : HasHistory c.args.spec.now c.args.open_at c.in_ok-merge.merge [] 0 = search rules in
    let time : c.in_ok-merge.merge.time ≡ c.args.open_at = search rules in
    record {
      stands = stands-fresh c.args.spec.now c.args.open_at c.args.ring_len own _ c.format-format.ensures.sound stands c.in_ok-marks.ensures.producer.0 paths;
      spec = refl;
      open_yet = c.in_ok-merge.ensures.open_yet;
      time = time;
      count = count;
      paths = paths;
    }

pub same-side : goal.same-side
same-side c = grind (arith, elements)

pub same-merge : goal.same-merge
same-merge c = grind (arith, elements)

pub open_marks-requires : goal.open_marks-requires
open_marks-requires c = grind (arith, elements)

pub new-requires-clause-not_low : goal.new-requires-clause-not_low
new-requires-clause-not_low c = grind (arith, common_steps)
