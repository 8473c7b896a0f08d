use Rattle.std.proofs.Common.{◌+◌, sym, ◌∙◌, ap, take, drop, arith}
use Rattle.std.proofs.lemmas.List.{take_rest}
use Rattle.studio_run.proofs.LinesLemmas.{EndsAt, EndsAt-from_position, seen_by_none, length_within, fault-fine, fault-long, fault-cut}
use Rattle.studio_run.proofs.trace.line.split_line.Goals as goal
use Rattle.studio_run.proofs.trace.line.split_line.Goals.{In-Some}

ends : (c : In-Some) → EndsAt c.args.text.now c.in-Some.end c.min-searched.result
ends c = EndsAt-from_position c.args.text.now c.min-searched.result c.in-Some.end (sym c.first_place.ensures ∙ c.in-Some.is)

pub returns-in-Some-clause-line : goal.returns-in-Some-clause-line
returns-in-Some-clause-line c = ap (λ n. take n c.args.text.now) (sym (ends (goal.at.returns-in-Some-clause-line c).In-Some).place)

pub returns-in-Some-clause-rest : goal.returns-in-Some-clause-rest
returns-in-Some-clause-rest c = take_rest c.args.text.now (c.in-Some.end + 1) ∙ ap (λ n. drop (n + 1) c.args.text.now) (sym (ends (goal.at.returns-in-Some-clause-rest c).In-Some).place)

pub returns-in-Some-clause-whole : goal.returns-in-Some-clause-whole
returns-in-Some-clause-whole c = omega (arith, (ends (goal.at.returns-in-Some-clause-whole c).In-Some).place, (ends (goal.at.returns-in-Some-clause-whole c).In-Some).whole)

pub returns-in-Some-clause-fine : goal.returns-in-Some-clause-fine
returns-in-Some-clause-fine c = fault-fine c.args.text.now (omega (arith, (ends (goal.at.returns-in-Some-clause-fine c).In-Some).place, (ends (goal.at.returns-in-Some-clause-fine c).In-Some).early, c.min-searched.ensures)) (omega (arith, (ends (goal.at.returns-in-Some-clause-fine c).In-Some).place, (ends (goal.at.returns-in-Some-clause-fine c).In-Some).whole))

pub returns-in-None-clause-fault : goal.returns-in-None-clause-fault
returns-in-None-clause-fault c =
    let searched = seen_by_none c.args.text.now c.min-searched.result (sym c.first_place.ensures ∙ c.in-None.is) (omega arith) in
    fault-long c.args.text.now (omega (arith, searched))

pub returns-in-None-2-clause-fault : goal.returns-in-None-2-clause-fault
returns-in-None-2-clause-fault c =
    let searched = seen_by_none c.args.text.now c.min-searched.result (sym c.first_place.ensures ∙ c.in-None.is) (omega arith) in
    fault-cut c.args.text.now (omega (arith, length_within c.args.text.now)) (omega (arith, searched))
