use Rattle.std.proofs.lemmas.Grind.{elements}
use Rattle.std.proofs.Common.{◌≡◌, sym, subst, ◌∙◌, rules, FitsSigned, to_z, of_z, w64, arith}
use Rattle.std.proofs.lemmas.Int.{to_z-of_z}
use Rattle.rtp_stats.proofs.DeadlineLemmas.{margin_found}
use Rattle.rtp_stats.specs.Deadlines.{HasMargin}
use Rattle.rtp_stats.proofs.deadlines.Deadlines.margin.Goals as goal

pub returns-in-Some-clause-margin : goal.returns-in-Some-clause-margin
returns-in-Some-clause-margin c =
    let found = c.in-Some.is in
    let fits : FitsSigned w64 c.in-Some.deadline = search rules in
    let at : to_z w64 (of_z w64 c.in-Some.deadline) ≡ c.in-Some.deadline = to_z-of_z w64 c.in-Some.deadline fits in
    let now : to_z w64 (of_z w64 c.args.now) ≡ c.args.now = to_z-of_z w64 c.args.now c.ranges.now in
    let left = subst (λ t. HasMargin t c.args.now c.margin_before.result) at (subst (λ t. HasMargin (to_z w64 (of_z w64 c.in-Some.deadline)) t c.margin_before.result) now c.margin_before.ensures) in
    margin_found c.args.self.now c.args.fate c.args.ts c.args.due c.args.now c.in-Some.deadline c.margin_before.result
    (λ is. sym found ∙ (c.deadline.ensures.opening is).0)
    (λ stream anchor before number last some of closed placed grid nearby short. sym found ∙ c.deadline.ensures.in_step stream anchor before number last some of closed placed grid nearby short)
    (λ is. sym found ∙ c.deadline.ensures.unplaced is)
    (λ none closed. sym found ∙ c.deadline.ensures.unknown none closed)
    left

pub returns-in-None-clause-margin : goal.returns-in-None-clause-margin
returns-in-None-clause-margin c = grind (arith, elements)
