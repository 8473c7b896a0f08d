use Rattle.std.proofs.lemmas.Grind.{elements}
use Rattle.std.proofs.Common.{rules, ◌≡◌, ◌*◌, length, sym, ap, ◌∙◌, arith}
use Rattle.gain_mix.specs.Gain.{ins_of, rows_of}
use Rattle.gain_mix.specs.Matrix.{matrix_fault_of}
use Rattle.gain_mix.proofs.RowLemmas.{ins_of-rows_of, length-rows_of}
use Rattle.studio_run.proofs.GainLemmas.{made_by}
use Rattle.studio_run.proofs.gains.line.whole_change.Goals as goal

pub returns-in-Ok-new-clause-fits : goal.returns-in-Ok-new-clause-fits
returns-in-Ok-new-clause-fits c =
    let rows = made_by (matrix_fault_of c.outs.result c.ins.result c.as_slice.result.now) c.in-Ok-new.matrix (rows_of c.ins.result c.outs.result c.as_slice.result.now) c.in-Ok-new.ensures.refused c.in-Ok-new.ensures.made in
    let count : length c.as_slice.result.now ≡ length c.args.gains.now = ap length (c.as_slice.ensures.value ∙ c.in-Ok.ensures) in
    let outs : c.outs.result ≡ length c.args.schedule.now.first = c.outs.ensures.rows ∙ ap length c.first-first.ensures in
    let ins : c.ins.result ≡ ins_of c.args.schedule.now.first = c.ins.ensures.gains ∙ ap ins_of c.first-first.ensures in
    let counted : length c.as_slice.result.now ≡ c.outs.result * c.ins.result = count ∙ c.requires ∙ sym (ap (λ n. n * c.ins.result) outs ∙ ap (λ n. length c.args.schedule.now.first * n) ins) in
    record {
      time = search rules;
      outs = ap length rows ∙ length-rows_of c.ins.result c.outs.result c.as_slice.result.now ∙ outs;
      ins = ap ins_of rows ∙ ins_of-rows_of c.ins.result c.outs.result c.as_slice.result.now c.outs.ensures.some counted ∙ ins;
    }

pub returns-in-Err-Memory-clause-fault : goal.returns-in-Err-Memory-clause-fault
returns-in-Err-Memory-clause-fault c = grind (arith, elements)
