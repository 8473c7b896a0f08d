use Rattle.std.proofs.lemmas.Grind.{elements}
use Rattle.std.proofs.Common.{◌≡◌, ◌∙◌, arith, refl, to_z, of_z, w64}
use Rattle.std.proofs.lemmas.Int.{ints}
use Rattle.studio_run.proofs.gains.studio.studio_with_gains.Goals as goal

pub new-changed-requires-clause-few : goal.new-changed-requires-clause-few
new-changed-requires-clause-few c = grind (arith, elements)

pub new-changed-requires-clause-some : goal.new-changed-requires-clause-some
new-changed-requires-clause-some c = grind (arith, elements)

pub new-changed-requires-clause-outs : goal.new-changed-requires-clause-outs
new-changed-requires-clause-outs c = grind (arith, elements)

pub new-changed-requires-clause-not_high : goal.new-changed-requires-clause-not_high
new-changed-requires-clause-not_high c = grind (arith, elements)

pub new-changed-requires-clause-ins : goal.new-changed-requires-clause-ins
new-changed-requires-clause-ins c = grind (arith, elements)

pub returns-in_default-from_slice-clause-fault : goal.returns-in_default-from_slice-clause-fault
returns-in_default-from_slice-clause-fault c = grind (arith, elements)

pub returns-in-Err-clause-fault : goal.returns-in-Err-clause-fault
returns-in-Err-clause-fault c = grind (arith, elements)

pub returns-in-Ok-read_lines-clause-others : goal.returns-in-Ok-read_lines-clause-others
returns-in-Ok-read_lines-clause-others c =
    let low = c.open_at.ensures.sound.open_low in
    let high = c.open_at.ensures.sound.open_high in
    let is = c.open_at.ensures.value in
    let open_at : to_z w64 (of_z w64 c.open_at.result) ≡ c.args.studio.now.open_at = omega (arith, ints) in
    let streams : c.in-Ok-from_slice.streams.items ≡ c.args.studio.now.streams = c.in-Ok-from_slice.ensures.items ∙ c.streams.ensures.value in
    rw (c.with_others_of.ensures, c.new-changed.ensures, open_at, streams, c.output.ensures) refl
