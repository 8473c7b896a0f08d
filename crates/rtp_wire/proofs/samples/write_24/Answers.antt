use Rattle.std.proofs.Common.{◌≡◌, ℤ, pos, get_or, ap, ◌∙◌, arith, to_z, of_z, w32}
use Rattle.std.specs.Int.{to_be_bytes}
use Rattle.std.proofs.lemmas.Int.{ints}
use Rattle.rtp_wire.proofs.SampleLemmas.{write_more_24, octets_24}
use Rattle.rtp_wire.proofs.samples.write_24.Goals as goal

pub loop-i-preserved : goal.loop-i-preserved
loop-i-preserved c =
    let v : ℤ = get_or c.args.samples.now c.loop-i.i (pos 0) in
    let fits = c.requires.fit c.loop-i.i (pos 0) (omega arith) in
    let same : to_z w32 (of_z w32 v) ≡ v = omega (arith, ints, fits.low, fits.high) in
    write_more_24 c.args.samples.now c.loop-i.out c.args.out.now c.loop-i.i _ _ _ (omega arith) (omega (arith, c.requires.space)) (octets_24 v c.to_be_bytes.result fits (c.to_be_bytes.ensures ∙ ap (λ z. to_be_bytes w32 (of_z w32 z)) same)) c.loop-i.invariant
