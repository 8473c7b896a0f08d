use Rattle.std.proofs.Common.{◌≡◌, None, true, ◌&&◌, ◌==◌, length, map, MatchResult, IfNone, ap, sym, subst, ◌∙◌, inr, rules}
use Rattle.std.specs.List.{list_all, flat_map}
use Rattle.toml.specs.declared.value.Value.{Value}
use Rattle.gain_mix.specs.declared.matrix.MatrixFault.TheVariants.{Memory}
use Rattle.toml.specs.View.{view}
use Rattle.gain_mix.specs.Gain.{rows_of, ins_of}
use Rattle.gain_mix.specs.Matrix.{matrix_fault_of}
use Rattle.studio_config.specs.Values.{row_in}
use Rattle.studio_config.proofs.GainLemmas.{gains_fault-shape, gains_fault-range, gains_fault-none, flat-no_fault, flat-matrix, ok_from, err_from, ok_as, even-outs, even-ins}
use Rattle.studio_config.proofs.config.matrix.read_matrix.Goals as goal
use Rattle.studio_config.proofs.config.matrix.read_matrix.Goals.{After-drop-gains}

pub returns-then-not-has_rows-clause-fault : goal.returns-then-not-has_rows-clause-fault
returns-then-not-has_rows-clause-fault c =
    inr (gains_fault-shape (λ v. row_in (view v)) c.args.outs c.args.ins c.args.rows.now (sym c.has_rows.ensures ∙ search rules))

pub returns-then-not-have_range-clause-fault : goal.returns-then-not-have_range-clause-fault
returns-then-not-have_range-clause-fault c =
    inr (gains_fault-range (λ v. row_in (view v)) c.args.outs c.args.ins c.args.rows.now (sym c.has_rows.ensures ∙ search rules) (sym c.have_range.ensures ∙ search rules))

pub returns-clause-ok : goal.returns-clause-ok
returns-clause-ok c =
    let none = gains_fault-none (λ v. row_in (view v)) c.args.outs c.args.ins c.args.rows.now (sym c.has_rows.ensures ∙ search rules) (sym c.have_range.ensures ∙ search rules) in
    search (rules, none)

made : (c : After-drop-gains) → MatchResult c.new.result (λ m. m ≡ map (λ v. row_in (view v)) c.args.rows.now) (λ f. f ≡ Memory)
made c =
    let f = λ (v : Value). row_in (view v) in
    let even : ((length c.args.rows.now == c.args.outs) && list_all (λ v. length (f v) == c.args.ins) c.args.rows.now) ≡ true = sym c.has_rows.ensures ∙ search rules in
    let flat : c.deref.result.now ≡ flat_map f c.args.rows.now = search rules in
    let fine : matrix_fault_of c.args.outs c.args.ins c.deref.result.now ≡ None = ap (matrix_fault_of c.args.outs c.args.ins) flat
    ∙ flat-no_fault f c.args.outs c.args.ins c.args.rows.now c.requires.some_outs c.requires.few_outs c.requires.some_ins c.requires.few_ins even (sym c.have_range.ensures ∙ search rules) in
    let rows : rows_of c.args.ins c.args.outs c.deref.result.now ≡ map f c.args.rows.now = ap (rows_of c.args.ins c.args.outs) flat ∙ flat-matrix f c.args.outs c.args.ins c.args.rows.now even in
    let met = subst (λ o. IfNone o (MatchResult c.new.result (λ m. m ≡ rows_of c.args.ins c.args.outs c.deref.result.now) (λ e. e ≡ Memory))) fine c.new.ensures.made in
    subst (λ made. MatchResult c.new.result (λ m. m ≡ made) (λ e. e ≡ Memory)) rows met

pub returns-clause-matrix : goal.returns-clause-matrix
returns-clause-matrix c = ok_from _ Memory c.new.result (made c)

pub returns-clause-fault : goal.returns-clause-fault
returns-clause-fault c = err_from _ Memory _ c.new.result (made c)

pub returns-clause-outs : goal.returns-clause-outs
returns-clause-outs c =
    ok_as _ Memory (λ m. length m ≡ c.args.outs) c.new.result (made c) (even-outs (λ v. row_in (view v)) c.args.outs c.args.ins c.args.rows.now (sym c.has_rows.ensures ∙ search rules))

pub returns-clause-ins : goal.returns-clause-ins
returns-clause-ins c =
    ok_as _ Memory (λ m. ins_of m ≡ c.args.ins) c.new.result (made c) (even-ins (λ v. row_in (view v)) c.args.outs c.args.ins c.args.rows.now c.requires.some_outs (sym c.has_rows.ensures ∙ search rules))
