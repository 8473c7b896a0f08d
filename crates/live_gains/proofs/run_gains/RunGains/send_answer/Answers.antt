use Rattle.std.proofs.lemmas.Grind.{elements}
use Rattle.std.proofs.Common.{◌≡◌, ◌++◌, ℤ, List, refl, sym, ap, subst, ◌∙◌, w64, arith}
use Rattle.std.proofs.lemmas.Int.{to_z-of_z}
use Rattle.std.proofs.lemmas.Option.{same_Some}
use Rattle.rtrb.specs.Ring.{sent}
use Rattle.studio_io.specs.Gains.{changes_in}
use Rattle.status_page.specs.declared.control.RequestOutcome.TheVariants.{Answered}
use Rattle.live_gains.specs.GainChannel.{changes_sent}
use Rattle.live_gains.specs.Planned.{AreKept, planned_after, planned_at}
use Rattle.live_gains.specs.declared.messages.RequestMessage.{RequestMessage}
use Rattle.live_gains.proofs.GainChangeLemmas.{taken_more}
use Rattle.live_gains.proofs.PlannedLemmas.{kept_after, planned_exactly}
use Rattle.live_gains.proofs.run_gains.RunGains.send_answer.Goals as goal

pub returns-clause-sent : goal.returns-clause-sent
returns-clause-sent g c = λ message at. record {
  outcome = c.answered-outcome.result;
  own = c.answered-outcome.ensures.own ∙ ap (λ (l : RequestMessage). l.number) (same_Some c.in-Some.message message (c.in-Some.ensures.value ∙ at));
  is = c.answered-outcome.ensures.answer ∙ ap (Answered c.args.answer) (to_z-of_z w64 c.args.next_block_start c.ranges.next_block_start);
  shown = c.answered-outcome.ensures.shown;
  planned = c.answered-outcome.ensures.sent;
  sent_are = c.push_reserved.ensures.sent.0;
  received_are = refl;
}

pub returns-clause-taken : goal.returns-clause-taken
returns-clause-taken g c = λ some.
    taken_more c.args.answer c.args.next_block_start c.args.gains.now (sent c.args.self.now.answers) (sent c.push_reserved.new.self) c.answered-outcome.result
    c.push_reserved.ensures.sent.0 (c.answered-outcome.ensures.answer ∙ ap (Answered c.args.answer) (to_z-of_z w64 c.args.next_block_start c.ranges.next_block_start)) c.answered-outcome.ensures.shown

pub returns-clause-planned : goal.returns-clause-planned
returns-clause-planned g c = λ studio from kept late some.
    let answer = c.args.answer in
    let next = c.args.next_block_start in
    let gains = c.args.gains.now in
    let times = c.args.self.now.planned.items in
    let was = changes_sent (sent c.args.self.now.answers) in
    let is = changes_sent (sent c.push_reserved.new.self) in
    let more : is ≡ was ++ changes_in answer gains =
    taken_more answer next gains (sent c.args.self.now.answers) (sent c.push_reserved.new.self) c.answered-outcome.result
    c.push_reserved.ensures.sent.0 (c.answered-outcome.ensures.answer ∙ ap (Answered answer) (to_z-of_z w64 next c.ranges.next_block_start)) c.answered-outcome.ensures.shown in
    let after : c.answered-outcome.new.planned.items ≡ planned_after answer next times =
    c.answered-outcome.ensures.planned ∙ ap (λ (n : ℤ). planned_after answer n times) (to_z-of_z w64 next c.ranges.next_block_start) in
    let left : AreKept studio is next (planned_after answer next times) =
    subst (λ (changes : List (ℤ × List ℤ)). AreKept studio changes next (planned_after answer next times)) (sym more) (kept_after studio was answer gains from next times kept late) in (
      subst (λ (l : List ℤ). AreKept studio is next l) (sym after) left,
      after ∙ (planned_exactly studio was answer gains from next times kept late ∙ ap (λ (changes : List (ℤ × List ℤ)). planned_at studio changes next) (sym more)),
    )

pub invariant_of-self-2 : goal.invariant_of-self-2
invariant_of-self-2 c = grind (arith, elements)

pub push_reserved-requires : goal.push_reserved-requires
push_reserved-requires c = grind (arith, elements)

pub returns-clause-kept : goal.returns-clause-kept
returns-clause-kept c = grind (arith, elements)
