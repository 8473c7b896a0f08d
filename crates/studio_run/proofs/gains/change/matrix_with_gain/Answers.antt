use Rattle.std.proofs.lemmas.Grind.{elements}
use Rattle.std.proofs.Common.{rules, ◌≡◌, ◌+◌, ◌*◌, None, length, set, ap, ◌∙◌, w32, arith}
use Rattle.std.proofs.lemmas.Int.{to_z-of_z}
use Rattle.gain_mix.specs.Gain.{ins_of, rows_of}
use Rattle.gain_mix.specs.Matrix.{matrix_fault_of}
use Rattle.studio_run.specs.Gains.{with_gain}
use Rattle.studio_run.proofs.GainLemmas.{gain_changed, length-with_gain, made_by, set-no_fault}
use Rattle.studio_run.proofs.gains.change.matrix_with_gain.Goals as goal
use Rattle.studio_run.proofs.gains.change.matrix_with_gain.Goals.{After-drop-gains}

made : (c : After-drop-gains) → c.in-Ok.changed ≡ with_gain c.args.matrix.now c.args.output c.args.input c.args.gain
made c =
    let matrix = c.args.matrix.now in
    let items = c.in_ok-gains.ensures.items in
    let ins = c.ins.ensures.gains in
    let gain = to_z-of_z w32 c.args.gain c.ranges.gain in
    let written : c.as_slice.result.now ≡ set c.gains.result.now (c.args.output * ins_of matrix + c.args.input) c.args.gain = rw (items, ins) at c.as_slice.ensures.value ∙ ap (set c.gains.result.now (c.args.output * ins_of matrix + c.args.input)) gain in
    let rows = made_by (matrix_fault_of c.outs.result c.ins-2.result c.as_slice.result.now) c.in-Ok.changed (rows_of c.ins-2.result c.outs.result c.as_slice.result.now) c.in-Ok.ensures.refused c.in-Ok.ensures.made in
    gain_changed matrix c.in-Ok.changed c.gains.result.now c.as_slice.result.now c.args.output c.args.input c.args.gain c.requires.input c.gains.ensures.by_row written
    (rows ∙ ap (λ n. rows_of n c.outs.result c.as_slice.result.now) c.ins-2.ensures.gains ∙ ap (λ m. rows_of (ins_of matrix) m c.as_slice.result.now) c.outs.ensures.rows)

pub returns-in-Ok-clause-rows : goal.returns-in-Ok-clause-rows
returns-in-Ok-clause-rows c = made c

pub returns-in-Ok-clause-outs : goal.returns-in-Ok-clause-outs
returns-in-Ok-clause-outs c = ap length (made c) ∙ length-with_gain c.args.matrix.now c.args.output c.args.input c.args.gain

pub unreachable-requires : goal.unreachable-requires
unreachable-requires c =
    let matrix = c.args.matrix.now in
    let items = c.in_ok-gains.ensures.items in
    let ins = c.ins.ensures.gains in
    let gain = to_z-of_z w32 c.args.gain c.ranges.gain in
    let written : c.as_slice.result.now ≡ set c.gains.result.now (c.args.output * ins_of matrix + c.args.input) c.args.gain = rw (items, ins) at c.as_slice.ensures.value ∙ ap (set c.gains.result.now (c.args.output * ins_of matrix + c.args.input)) gain in
    let kept = set-no_fault (length matrix) (ins_of matrix) c.gains.result.now c.as_slice.result.now (c.args.output * ins_of matrix + c.args.input) c.args.gain c.gains.ensures.no_fault c.requires.range written in
    let none : matrix_fault_of c.outs.result c.ins-2.result c.as_slice.result.now ≡ None = ap (λ m. matrix_fault_of m c.ins-2.result c.as_slice.result.now) c.outs.ensures.rows ∙ ap (λ n. matrix_fault_of (length matrix) n c.as_slice.result.now) c.ins-2.ensures.gains ∙ kept in
    search rules

pub overflow_add-place : goal.overflow_add-place
overflow_add-place c = grind (arith, elements)

pub index_mut-requires : goal.index_mut-requires
index_mut-requires c = grind (arith, elements)

pub overflow_mul-place : goal.overflow_mul-place
overflow_mul-place c = grind (arith, elements)
