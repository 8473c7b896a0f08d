use Rattle.std.proofs.lemmas.Grind.{common_steps}
use Rattle.std.proofs.Common.{rules, ap, sym, ◌∙◌, ◌≡◌, ◌*◌, length, vec_len, arith}
use Rattle.gain_mix.specs.Gain.{rows_of}
use Rattle.gain_mix.proofs.RowLemmas.{seen_ins, seen_outs}
use Rattle.gain_mix.proofs.matrix.Matrix.set.Goals as goal

pub copy_from_slice-requires : goal.copy_from_slice-requires
copy_from_slice-requires c =
    let a = seen_outs _ _ _ _ c.self.view_is c.self.invariant.0 in
    let b = seen_ins _ _ _ _ c.self.view_is c.self.invariant.0 in
    let long : vec_len c.self.inside.gains ≡ length c.self.inside.gains.items = search rules in
    long ∙ c.self.invariant.0.in_rows ∙ ap (λ m. m * c.self.inside.ins) (sym a) ∙ ap (λ n. length c.args.self.now * n) (sym b) ∙ sym c.requires.len

pub returns : goal.returns
returns c =
    let a = seen_outs _ _ _ _ c.self.view_is c.self.invariant.0 in
    let b = seen_ins _ _ _ _ c.self.view_is c.self.invariant.0 in
    ap (rows_of c.self.inside.ins c.self.inside.outs) c.copy_from_slice.ensures.items
    ∙ ap (λ m. rows_of c.self.inside.ins m c.args.gains.now) (sym a)
    ∙ ap (λ n. rows_of n (length c.args.self.now) c.args.gains.now) (sym b)

pub invariant_of-self : goal.invariant_of-self
invariant_of-self c = grind (arith, common_steps)
