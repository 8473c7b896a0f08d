use Rattle.std.proofs.lemmas.Grind.{elements}
use Rattle.std.proofs.Common.{◌≡◌, true, Ok, length, sym, ap, ◌∙◌, to_z, of_z, w32, w64, arith}
use Rattle.std.specs.Int.RustNames.{unsigned_abs}
use Rattle.std.proofs.lemmas.Int.{to_z-of_z}
use Rattle.gain_mix.specs.Changes.{matrix_at}
use Rattle.gain_mix.specs.Gain.{ins_of}
use Rattle.studio_run.specs.Gains.{is_channel, is_gain, is_time, with_gain}
use Rattle.studio_run.proofs.GainLemmas.{gain-narrow, one-said}
use Rattle.studio_run.proofs.gains.line.one_change.Goals as goal

pub returns-in-Ok-clause-ok : goal.returns-in-Ok-clause-ok
returns-in-Ok-clause-ok c =
    let schedule = c.args.schedule.now in
    let at = to_z-of_z w64 c.args.at c.ranges.at in
    let output = to_z-of_z w64 c.args.output c.ranges.output in
    let input = to_z-of_z w64 c.args.input c.ranges.input in
    let gain = to_z-of_z w64 c.args.gain c.ranges.gain in
    let time : is_time c.args.at ≡ true = ap is_time (sym at) ∙ sym c.is_time.ensures ∙ c.if-not-is_time.false in
    let of_output : is_channel (length schedule.first) c.args.output ≡ true =
    ap (is_channel (length schedule.first)) (sym output) ∙ ap (λ n. is_channel n (to_z w64 (of_z w64 c.args.output))) (sym c.outs.ensures.first) ∙ sym c.is_channel.ensures ∙ c.if-not-is_channel.false in
    let of_input : is_channel (ins_of schedule.first) c.args.input ≡ true =
    ap (is_channel (ins_of schedule.first)) (sym input) ∙ ap (λ n. is_channel n (to_z w64 (of_z w64 c.args.input))) (sym c.ins.ensures.first) ∙ sym c.is_channel-2.ensures ∙ c.if-not-is_channel-2.false in
    let of_gain : is_gain c.args.gain ≡ true = ap is_gain (sym gain) ∙ sym c.is_gain.ensures ∙ c.if-not-is_gain.false in
    let narrow : to_z w32 (of_z w32 (to_z w64 (of_z w64 c.args.gain))) ≡ c.args.gain = ap (λ g. to_z w32 (of_z w32 g)) gain ∙ gain-narrow c.args.gain of_gain in
    let rows : c.in-Ok.matrix ≡ with_gain (matrix_at schedule c.args.at) (unsigned_abs c.args.output) (unsigned_abs c.args.input) c.args.gain =
    c.in-Ok.ensures.rows
    ∙ ap (λ m. with_gain m c.unsigned_abs-output.result c.unsigned_abs-input.result (to_z w32 (of_z w32 (to_z w64 (of_z w64 c.args.gain))))) (c.at.ensures.in_force ∙ ap (matrix_at schedule) at)
    ∙ ap (λ n. with_gain (matrix_at schedule c.args.at) n c.unsigned_abs-input.result (to_z w32 (of_z w32 (to_z w64 (of_z w64 c.args.gain))))) (c.unsigned_abs-output.ensures.value ∙ ap unsigned_abs output)
    ∙ ap (λ n. with_gain (matrix_at schedule c.args.at) (unsigned_abs c.args.output) n (to_z w32 (of_z w32 (to_z w64 (of_z w64 c.args.gain))))) (c.unsigned_abs-input.ensures.value ∙ ap unsigned_abs input)
    ∙ ap (with_gain (matrix_at schedule c.args.at) (unsigned_abs c.args.output) (unsigned_abs c.args.input)) narrow in
    one-said schedule c.args.at c.args.output c.args.input c.args.gain c.in-Ok.matrix time of_output of_input of_gain rows
    ∙ ap (λ t. Ok (t, c.in-Ok.matrix)) (sym at)

pub returns-in-Err-clause-fault : goal.returns-in-Err-clause-fault
returns-in-Err-clause-fault c = grind (arith, elements)

pub matrix_with_gain-requires-clause-output : goal.matrix_with_gain-requires-clause-output
matrix_with_gain-requires-clause-output c = grind (arith, elements)

pub overflow_cast-gain : goal.overflow_cast-gain
overflow_cast-gain c = grind (arith, elements)

pub matrix_with_gain-requires-clause-input : goal.matrix_with_gain-requires-clause-input
matrix_with_gain-requires-clause-input c = grind (arith, elements)

pub returns-then-not-is_gain-clause-fault : goal.returns-then-not-is_gain-clause-fault
returns-then-not-is_gain-clause-fault c = grind (arith, elements)

pub returns-then-not-is_channel-2-clause-fault : goal.returns-then-not-is_channel-2-clause-fault
returns-then-not-is_channel-2-clause-fault c = grind (arith, elements)
