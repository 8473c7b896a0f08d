use Rattle.std.proofs.Common.{◌∙◌, arith, rules, w32}
use Rattle.std.proofs.lemmas.Int.{to_z-of_z}
use Rattle.std.specs.Int.RustNames.{FitsSigned}
use Rattle.rtp_wire.specs.declared.encoding.Enc.TheVariants.{L16}
use Rattle.rtp_wire.specs.Sample.{sample_at}
use Rattle.rtp_wire.proofs.SampleLemmas.{fill_more}
use Rattle.rtp_wire.proofs.samples.read_16.Goals as goal

pub loop-i-preserved : goal.loop-i-preserved
loop-i-preserved c =
    let fits : FitsSigned w32 c.sample.result = search rules in
    fill_more (sample_at L16 c.args.octets.now) c.loop-i.out c.args.out.now c.loop-i.i _ (omega arith) (to_z-of_z w32 c.sample.result fits ∙ c.sample.ensures) c.loop-i.invariant
