use Rattle.std.proofs.lemmas.Grind.{elements}
use Rattle.std.proofs.Common.{rules, ◌∙◌, refl, arith}
use Rattle.studio_ends.proofs.TakeLemmas.{took_to-none, took_to-more}
use Rattle.studio_ends.proofs.stream_end.packets_in.take_all.Goals as goal

pub loop-number-init : goal.loop-number-init
loop-number-init c = (took_to-none _ _ _ _ refl (search rules), c.requires.spec, refl)

pub loop-number-preserved : goal.loop-number-preserved
loop-number-preserved c =
    let i = c.loop-number.invariant in
    let p = c.take-count.ensures.took in
    (took_to-more _ _ _ _ _ _ _ _ _ _ c.from-place.result c.in-Some.path _ c.index_mut.result.now c.take-count.new.self (search rules) (search rules) (search rules) (search rules) c.index_mut.ensures.value i.0 (record { packets = p.0; of = p.1; count_is = p.2; joined = p.3; noted = p.4 }), p.3.spec ∙ i.1, i.2)

pub returns-clause-took : goal.returns-clause-took
returns-clause-took c = grind (arith, elements)
