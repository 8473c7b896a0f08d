use Rattle.std.proofs.Common.{ap, ◌∙◌, length, arith, ◌≡◌, ◌+◌, ◌-◌, ◌*◌, All, drop}
use Rattle.std.proofs.lemmas.List.{length-take, length-drop}
use Rattle.std.proofs.lemmas.List.Elements.{All-same, All-take, All-drop}
use Rattle.gain_mix.specs.Gain.{IsGain}
use Rattle.gain_mix.proofs.RowLemmas.{seen_ins, seen_outs, row_bounds, seen_row}
use Rattle.gain_mix.proofs.matrix.Matrix.row.Goals as goal

pub overflow_mul-start : goal.overflow_mul-start
overflow_mul-start c = let b = row_bounds _ _ _ _ c.self.view_is c.self.invariant.0 c.args.output c.requires in omega arith

pub overflow_add-result : goal.overflow_add-result
overflow_add-result c = let b = row_bounds _ _ _ _ c.self.view_is c.self.invariant.0 c.args.output c.requires in omega arith

pub offset_bounds-deref-start : goal.offset_bounds-deref-start
offset_bounds-deref-start c = let b = row_bounds _ _ _ _ c.self.view_is c.self.invariant.0 c.args.output c.requires in omega arith

pub slice_bounds-result-end : goal.slice_bounds-result-end
slice_bounds-result-end c =
    let b = row_bounds _ _ _ _ c.self.view_is c.self.invariant.0 c.args.output c.requires in
    let e = ap length (c.deref.ensures.value ∙ c.self.invariant.1) in
    omega arith

pub returns-clause-row : goal.returns-clause-row
returns-clause-row c =
    let n = c.self.inside.ins in
    let e : (c.args.output * n + n) - c.args.output * n ≡ n = omega arith in
    rw e (seen_row _ _ _ _ c.self.view_is c.self.invariant.0 c.args.output _ c.requires (c.deref.ensures.value ∙ c.self.invariant.1))

pub returns-clause-gains : goal.returns-clause-gains
returns-clause-gains c =
    let n = c.self.inside.ins in
    let k = c.args.output * n in
    let b = row_bounds _ _ _ _ c.self.view_is c.self.invariant.0 c.args.output c.requires in
    let i = seen_ins _ _ _ _ c.self.view_is c.self.invariant.0 in
    let v = c.deref.ensures.value ∙ c.self.invariant.1 in
    let e = ap length v in
    let gains : All IsGain c.deref.result.now = All-same IsGain c.deref.result.now c.self.inside.gains.items v c.self.invariant.0.in_range in
    record {
      len = simp (length-take, length-drop) (omega arith);
      in_range = All-take IsGain ((k + n) - k) (drop k c.deref.result.now) (All-drop IsGain k c.deref.result.now gains);
    }

pub returns-clause-few : goal.returns-clause-few
returns-clause-few c =
    let i = seen_ins _ _ _ _ c.self.view_is c.self.invariant.0 in
    let f = c.self.invariant.0.few_ins in
    omega arith

pub returns-clause-few_outs : goal.returns-clause-few_outs
returns-clause-few_outs c =
    let i = seen_outs _ _ _ _ c.self.view_is c.self.invariant.0 in
    let f = c.self.invariant.0.few_outs in
    omega arith
