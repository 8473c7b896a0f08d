use Rattle.std.proofs.Common.{◌≤ℤ◌, ℤ, subst, sym, w64}
use Rattle.std.proofs.lemmas.Int.{to_z-of_z}
use Rattle.live_gains.specs.GainChannel.{Answers, HasPlanned, PlansFrom}
use Rattle.live_gains.proofs.run_gains.RunGainsGainSource.answer.Goals as goal

pub returns-clause-sent : goal.returns-clause-sent
returns-clause-sent g c = λ message at.
    subst (λ n. Answers message c.args.answer n c.args.gains.now c.args.self.now c.send_answer.new.self) (to_z-of_z w64 c.args.next_block_start c.ranges.next_block_start)
    (c.send_answer.ensures.sent message at)

pub returns-clause-planned : goal.returns-clause-planned
returns-clause-planned g c = λ studio from kept late some.
    let same = to_z-of_z w64 c.args.next_block_start c.ranges.next_block_start in
    subst (λ (n : ℤ). PlansFrom studio n c.send_answer.new.self × HasPlanned studio n c.send_answer.new.self) same
    (c.send_answer.ensures.planned studio from kept (subst (λ (n : ℤ). from ≤ℤ n) (sym same) late) some)
