use Rattle.std.proofs.lemmas.Grind.{elements}
use Rattle.std.proofs.Common.{rules, arith, ◌≡◌, ◌∙◌, sym, if◌then◌else◌, not}
use Rattle.studio_ends.proofs.AcceptedLemmas.{at_most_one, stops_final, took-more, took-none}
use Rattle.studio_ends.proofs.TurnLemmas.{looked_and_passed}
use Rattle.studio_ends.proofs.mix_end.marks_in.take_stream.Goals as goal

pub loop-taken-init : goal.loop-taken-init
loop-taken-init g c = (omega arith, omega arith, took-none _ _ _)

pub loop-taken-preserved : goal.loop-taken-preserved
loop-taken-preserved g c =
    let i = c.loop-taken.invariant in
    let k = c.feed_if_accepted-kept.ensures in
    let one : c.from-strange.result ≡ (if not c.feed_if_accepted-kept.result then 1 else 0) = search rules in
    let most = at_most_one _ _ one in
    let few = i.1 in
    let mark = c.peek.result.now in
    let taken = looked_and_passed c.loop-taken.side.ring c.is_empty.new.self.ring c.drop_next.new.self.ring mark c.is_empty.ensures.ring c.drop_next.ensures.ring (c.drop_next.ensures.passed mark c.peek.ensures) in
    (omega arith, omega (arith, most, few), took-more _ c.loop-taken.side c.drop_next.new.self _ c.loop-taken.mixer c.feed_if_accepted-kept.new.mixer _ _ _ _ mark c.feed_if_accepted-kept.result i.2 taken.0 (c.drop_next.ensures.done ∙ c.is_empty.ensures.done) taken.1 k.stands k.value k.lanes k.spec one)

pub returns-then-not-wants : goal.returns-then-not-wants
returns-then-not-wants g c =
    let i = c.loop-taken.invariant in
    stops_final _ _ _ _ _ _ _ i.2 i.0 i.1 (λ studio feeds number feed h is. sym c.if-not-wants.true ∙ c.wants.ensures.stands studio feeds number feed h is)

pub drop_next-requires : goal.drop_next-requires
drop_next-requires c = omega arith

pub peek-requires : goal.peek-requires
peek-requires c = omega arith

pub returns-then-is_empty : goal.returns-then-is_empty
returns-then-is_empty c = grind (arith, elements)

pub overflow_add-strange : goal.overflow_add-strange
overflow_add-strange c = grind (arith, elements)
