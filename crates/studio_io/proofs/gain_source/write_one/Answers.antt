use Rattle.std.proofs.Common.{◌≡◌, ◌+◌, ◌*◌, ◌<◌, length, subst, sym, arith}
use Rattle.gain_mix.specs.Gain.{ins_of}
use Rattle.studio_io.proofs.GainLemmas.{place_within}
use Rattle.studio_io.proofs.gain_source.write_one.Goals as goal

pub bounds-gains-output : goal.bounds-gains-output
bounds-gains-output c =
    let output = c.if-output-outs.false in
    let input = c.if-input-ins.false in
    let rows = c.outs.ensures.rows in
    let cols = c.ins.ensures.gains in
    let same : c.ins-2.result ≡ ins_of c.args.matrix.now = c.ins-2.ensures.gains in
    let long : length c.copy_gains.new.gains ≡ length c.args.matrix.now * ins_of c.args.matrix.now = c.in_ok-copy_gains.ensures.len in
    let within = place_within (length c.args.matrix.now) (ins_of c.args.matrix.now) c.args.output c.args.input (omega (arith, output, rows)) (omega (arith, input, cols)) in
    subst (λ n. c.args.output * n + c.args.input < length c.copy_gains.new.gains) (sym same) (subst (λ n. c.args.output * ins_of c.args.matrix.now + c.args.input < n) (sym long) within)
