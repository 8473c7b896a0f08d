use Rattle.std.proofs.lemmas.Grind.{elements}
use Rattle.std.proofs.Common.{rules, arith, ◌≡◌, ◌+◌, ◌++◌, length, ℤ, Option, refl, ◌∙◌, sym, ap, to_z, of_z, w64}
use Rattle.std.specs.Option.{option_to_list}
use Rattle.rtp_stream.specs.MarkFacts.{MarkView}
use Rattle.path_merge.specs.NextMark.{next_mark}
use Rattle.studio_ends.proofs.MarkLemmas.{Pushing, pushing-none, pushing-more, pushed, pushing-at}
use Rattle.studio_ends.proofs.CellSizeLemmas.{cells_on}
use Rattle.studio_ends.proofs.TurnLemmas.{producers}
use Rattle.studio_ends.proofs.stream_end.marks_out.push_marks.Goals as goal
use Rattle.studio_ends.proofs.stream_end.marks_out.push_marks.Goals.{After-push_next}

pub push_next-requires-clause-cells : goal.push_next-requires-clause-cells
push_next-requires-clause-cells c =
    let i = c.loop-count.invariant.1 in
    cells_on c.args.merge.now c.loop-count.merge c.args.marks.now c.is_full.new.self i.spec (producers c.args.marks.now c.loop-count.marks c.is_full.new.self i.ring c.is_full.ensures.looked.0) c.requires.cells

pub loop-count-init : goal.loop-count-init
loop-count-init c =
    let z : to_z w64 (of_z w64 c.args.now) ≡ c.args.now = search rules in
    (omega arith, pushing-at _ _ _ _ c.args.now _ _ (sym z) (pushing-none _ _ _ (c.requires.low) c.requires.open_yet))

pub returns-then-is_full-clause-pushed : goal.returns-then-is_full-clause-pushed
returns-then-is_full-clause-pushed c =
    let z : to_z w64 (of_z w64 c.args.now) ≡ c.args.now = search rules in
    let look = c.is_full.ensures.looked in
    pushed _ c.loop-count.marks c.is_full.new.self _ _ c.args.now _ (c.requires.high) (pushing-at _ _ _ _ _ c.args.now _ z c.loop-count.invariant.1) look.0 look.1

pub returns-clause-pushed : goal.returns-clause-pushed
returns-clause-pushed c =
    let z : to_z w64 (of_z w64 c.args.now) ≡ c.args.now = search rules in
    pushed _ c.loop-count.marks c.loop-count.marks _ _ c.args.now _ (c.requires.high) (pushing-at _ _ _ _ _ c.args.now _ z c.loop-count.invariant.1) ((refl, refl, refl, refl), refl) refl

-- the time as `push_next` takes it
abbrev asked : After-push_next → ℤ
asked c = to_z w64 (of_z w64 c.args.now)

-- the next mark on the way to this time
abbrev next : After-push_next → Option MarkView
next c = next_mark c.loop-count.merge (asked c)

-- the next mark was pushed and passed
gone_on : (c : After-push_next) → Pushing c.args.marks.now c.args.merge.now (asked c) c.push_next.new.marks c.push_next.new.merge (c.loop-count.count + length (option_to_list (next c)))
gone_on c =
    let z : to_z w64 (of_z w64 c.args.now) ≡ c.args.now = search rules in
    let look = c.is_full.ensures.looked in
    let p = c.push_next.ensures in
    pushing-more _ c.loop-count.marks c.push_next.new.marks _ c.loop-count.merge c.push_next.new.merge (asked c) c.loop-count.count (next c) (rw z (c.requires.high))
    c.loop-count.invariant.1 (producers c.loop-count.marks c.is_full.new.self c.push_next.new.marks look.0 p.ring) (p.pushed ∙ ap (λ l. l ++ option_to_list (next c)) look.1) p.stands p.moved p.spec

pub returns-then-not-push_next-clause-pushed : goal.returns-then-not-push_next-clause-pushed
returns-then-not-push_next-clause-pushed c =
    let z : to_z w64 (of_z w64 c.args.now) ≡ c.args.now = search rules in
    let here = (goal.at.returns-then-not-push_next-clause-pushed c).After-push_next in
    let none : c.loop-count.count + length (option_to_list (next here)) ≡ c.loop-count.count = search rules in
    pushed _ c.push_next.new.marks c.push_next.new.marks _ _ c.args.now _ (c.requires.high) (pushing-at _ _ _ _ _ c.args.now _ z (rw none at (gone_on here))) ((refl, refl, refl, refl), refl) refl

pub loop-count-preserved : goal.loop-count-preserved
loop-count-preserved c =
    let here = (goal.at.loop-count-preserved c).After-push_next in
    let one : c.loop-count.count + length (option_to_list (next here)) ≡ c.loop-count.count + 1 = search rules in
    (omega arith, rw one at (gone_on here))

pub returns-then-not-push_next-clause-stop : goal.returns-then-not-push_next-clause-stop
returns-then-not-push_next-clause-stop c = grind (arith, elements)

pub returns-then-is_full-clause-stop : goal.returns-then-is_full-clause-stop
returns-then-is_full-clause-stop c = grind (arith, elements)

pub push_next-requires-clause-space : goal.push_next-requires-clause-space
push_next-requires-clause-space c = grind (arith, elements)

pub push_next-requires-clause-can : goal.push_next-requires-clause-can
push_next-requires-clause-can c = grind (arith, elements)
