use Rattle.std.proofs.lemmas.Grind.{elements, pieces}
use Rattle.std.proofs.Common.{◌≡◌, Err, None, Some, map, ap, sym, ◌∙◌, inl, inr, ⊎_elim, rules, arith}
use Rattle.toml.specs.View.{table_view}
use Rattle.studio_config.specs.Values.{tables_at, gains_at}
use Rattle.studio_config.specs.OutputTable.{each_fault, matrix_fault, change_of}
use Rattle.studio_config.specs.declared.config.fault.ConfigTable.TheVariants as at
use Rattle.studio_config.specs.declared.config.keys.Key.TheVariants as key
use Rattle.studio_config.proofs.GainLemmas.{err_map}
use Rattle.studio_config.proofs.config.schedule.read_schedule.Goals as goal

pub returns-in_err-later-clause-fault : goal.returns-in_err-later-clause-fault
returns-in_err-later-clause-fault c =
    let is : c.from_residual-in_err-later.result ≡ Err c.in_err-later.field-0.0 = search rules in
    rw is (⊎_elim
    (λ memory. inl memory)
    (λ fault.
    let left : each_fault (λ n. matrix_fault c.args.outs c.args.ins (at.Change n)) 0 (tables_at (table_view c.args.table.now) key.Change) ≡ Some c.in_err-later.field-0.0 =
    ap (each_fault (λ n. matrix_fault c.args.outs c.args.ins (at.Change n)) 0) (sym c.requires.same) ∙ fault in
    inr (rw (c.in_ok-first.ensures.ok, left)))
    c.in_err-later.ensures.fault)

pub returns-clause-fault : goal.returns-clause-fault
returns-clause-fault c =
    let m = table_view c.args.table.now in
    let none : each_fault (λ n. matrix_fault c.args.outs c.args.ins (at.Change n)) 0 (tables_at m key.Change) ≡ None =
    ap (each_fault (λ n. matrix_fault c.args.outs c.args.ins (at.Change n)) 0) (sym c.requires.same) ∙ c.in_ok-later.ensures.ok in
    let first : gains_at m key.Gains ≡ c.in_ok-first.first = sym c.in_ok-first.ensures.matrix in
    let later : map change_of (tables_at m key.Change) ≡ c.in_ok-later.later.items = ap (map change_of) (sym c.requires.same) ∙ sym c.in_ok-later.ensures.changes in
    err_map _ _ c.make_schedule.result c.make_schedule.ensures.fault (λ e fault. inr (rw (c.in_ok-first.ensures.ok, none, first, later, fault)))

pub returns-clause-schedule : goal.returns-clause-schedule
returns-clause-schedule c = grind (arith, elements)

pub returns-clause-ins : goal.returns-clause-ins
returns-clause-ins c = grind (arith, elements)

pub returns-clause-outs : goal.returns-clause-outs
returns-clause-outs c = grind (arith, elements)

pub returns-clause-ok : goal.returns-clause-ok
returns-clause-ok c = search (pieces, arith)
