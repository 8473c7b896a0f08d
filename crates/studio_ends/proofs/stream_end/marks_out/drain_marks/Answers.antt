use Rattle.std.proofs.lemmas.Grind.{elements}
use Rattle.std.proofs.Common.{arith, ◌≡◌, ◌∙◌, sym, ap, length, ◌++◌, if◌then◌else◌, length-append}
use Rattle.std.specs.Option.{option_to_list}
use Rattle.rtrb.specs.Ring.{sent}
use Rattle.path_merge.specs.NextMark.{next_left}
use Rattle.path_merge.proofs.GoalLemmas.{given_all}
use Rattle.studio_ends.specs.StreamTurns.{DrainsMarks}
use Rattle.studio_ends.proofs.DrainLemmas.{drained-none, drained-more}
use Rattle.studio_ends.proofs.CellSizeLemmas.{cells_on}
use Rattle.studio_ends.proofs.TurnLemmas.{producers}
use Rattle.studio_ends.proofs.stream_end.marks_out.drain_marks.Goals as goal
use Rattle.studio_ends.proofs.stream_end.marks_out.drain_marks.Goals.{After-push_next}

pub push_next-requires-clause-cells : goal.push_next-requires-clause-cells
push_next-requires-clause-cells c =
    let i = c.loop.invariant.0 in
    cells_on c.args.merge.now c.loop.merge c.args.marks.now c.is_full.new.self i.spec (producers c.args.marks.now c.loop.marks c.is_full.new.self i.ring c.is_full.ensures.looked.0) c.requires.cells

pub loop-init : goal.loop-init
loop-init c = (drained-none _ _, omega arith)

pub returns-then-ended-clause-all : goal.returns-then-ended-clause-all
returns-then-ended-clause-all c = λ _. given_all _ (sym c.ended.ensures ∙ c.if-ended.true)

pub returns-then-not-push_next-clause-all : goal.returns-then-not-push_next-clause-all
returns-then-not-push_next-clause-all c = λ _. c.push_next.ensures.all c.if-not-push_next.true

-- the next mark was pushed and passed
gone_on : (c : After-push_next) → DrainsMarks c.args.marks.now c.args.merge.now c.push_next.new.marks c.push_next.new.merge
gone_on c = let p = c.push_next.ensures in let look = c.is_full.ensures.looked in
    drained-more _ c.loop.marks c.push_next.new.marks _ c.loop.merge c.push_next.new.merge (next_left c.loop.merge) c.loop.invariant.0 (producers c.loop.marks c.is_full.new.self c.push_next.new.marks look.0 p.ring)
    (p.pushed ∙ ap (λ l. l ++ option_to_list (next_left c.loop.merge)) look.1) p.stands p.spec p.closed

pub returns-then-not-push_next-clause-drained : goal.returns-then-not-push_next-clause-drained
returns-then-not-push_next-clause-drained c = gone_on (goal.at.returns-then-not-push_next-clause-drained c).After-push_next

pub loop-preserved : goal.loop-preserved
loop-preserved c =
    let here = (goal.at.loop-preserved c).After-push_next in
    let one : length (option_to_list (next_left c.loop.merge)) ≡ 1 = c.push_next.ensures.count ∙ ap (λ b. if b then 1 else 0) c.if-not-push_next.false in
    let got : sent c.push_next.new.marks ≡ sent c.loop.marks ++ option_to_list (next_left c.loop.merge) = c.push_next.ensures.pushed ∙ ap (λ l. l ++ option_to_list (next_left c.loop.merge)) c.is_full.ensures.looked.1 in
    let l = ap length got in
    let n = c.loop.invariant.1 in
    (gone_on here, omega (arith, l, n, one, length-append (sent c.loop.marks) (option_to_list (next_left c.loop.merge))))

pub returns-clause-all : goal.returns-clause-all
returns-clause-all c = λ e. given_all _ (sym c.ended-2.ensures ∙ e)

pub returns-then-is_full-clause-drained : goal.returns-then-is_full-clause-drained
returns-then-is_full-clause-drained c = grind (arith, elements)

pub push_next-requires-clause-space : goal.push_next-requires-clause-space
push_next-requires-clause-space c = grind (arith, elements)

pub returns-then-ended-clause-some : goal.returns-then-ended-clause-some
returns-then-ended-clause-some c = grind (arith, elements)

pub returns-then-is_full-clause-some : goal.returns-then-is_full-clause-some
returns-then-is_full-clause-some c = grind (arith, elements)

pub returns-then-not-push_next-clause-some : goal.returns-then-not-push_next-clause-some
returns-then-not-push_next-clause-some c = grind (arith, elements)
