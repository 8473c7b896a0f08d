use Rattle.std.proofs.Common.{rules, arith, refl}
use Rattle.studio_ends.proofs.MixTurnLemmas.{through-all, through-more, through-none}
use Rattle.studio_ends.proofs.mix_end.marks_in.take_streams.Goals as goal

pub loop-stream-init : goal.loop-stream-init
loop-stream-init c = record { len = refl; some = omega arith; odd = omega arith; took = through-none _ _ }

pub loop-stream-preserved : goal.loop-stream-preserved
loop-stream-preserved c =
    let i = c.loop-stream.invariant in
    let few = c.take-some.ensures in
    let a = i.some in
    let b = i.odd in
    let d = few.most in
    let e = few.some_strange in
    record {
      len = i.len;
      some = omega (arith, a, d);
      odd = omega (arith, b, d, e);
      took = through-more _ _ _ _ _ _ _ _ _ _ c.index_mut.result.now c.take-some.new.self i.took (search rules) (search rules) c.index_mut.ensures.value few;
    }

pub returns-clause-took : goal.returns-clause-took
returns-clause-took c = through-all _ _ _ _ _ _ _ (search rules) c.loop-stream.invariant.took
