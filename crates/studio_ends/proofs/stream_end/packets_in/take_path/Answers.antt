use Rattle.std.proofs.lemmas.Grind.{elements, common_steps}
use Rattle.std.proofs.Common.{arith, ◌∙◌, ◌++◌, ◌∷◌, [], length-append}
use Rattle.studio_ends.proofs.NoteLemmas.{noted-more, noted-one}
use Rattle.studio_ends.proofs.TurnLemmas.{looked_and_passed, took-more, joined-more}
use Rattle.studio_ends.proofs.stream_end.packets_in.take_path.Goals as goal

pub loop-taken-preserved : goal.loop-taken-preserved
loop-taken-preserved g c =
    let i = c.loop-taken.invariant.1 in
    let packet = c.peek.result.now in
    let o = c.offer_packet.ensures in
    let taken = looked_and_passed c.loop-taken.side.ring c.is_empty.new.self.ring c.drop_next.new.self.ring packet c.is_empty.ensures.ring c.drop_next.ensures.ring (c.drop_next.ensures.passed packet c.peek.ensures) in (
      omega arith,
      (
        i.0 ++ packet ∷ [],
        took-more _ _ c.drop_next.new.self i.0 packet i.1 taken.0 (c.drop_next.ensures.done ∙ c.is_empty.ensures.done) taken.1 taken.2,
        (let n = i.2 in omega (arith, n, length-append i.0 (packet ∷ []))),
        joined-more _ c.loop-taken.merge c.offer_packet.new.merge _ i.0 packet i.3 o.joins,
        noted-more _ c.loop-taken.merge c.args.path i.0 packet _ c.loop-taken.sender c.offer_packet.new.sender i.3 i.4
            (noted-one c.loop-taken.merge c.offer_packet.new.merge c.args.spec.now c.args.path packet c.loop-taken.sender c.offer_packet.new.sender (i.3.spec ∙ c.requires.spec) o.noted o.unfit o.joins),
      ),
    )

pub drop_next-requires : goal.drop_next-requires
drop_next-requires c = omega arith

pub overflow_add-taken : goal.overflow_add-taken
overflow_add-taken c = omega arith

pub peek-requires : goal.peek-requires
peek-requires c = omega arith

pub returns-then-is_empty : goal.returns-then-is_empty
returns-then-is_empty c = grind (arith, elements)

pub returns : goal.returns
returns c = grind (arith, elements)

pub loop-taken-init : goal.loop-taken-init
loop-taken-init c = grind (arith, common_steps)
