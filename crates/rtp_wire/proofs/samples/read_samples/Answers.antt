use Rattle.std.proofs.Common.{arith}
use Rattle.rtp_wire.proofs.SampleLemmas.{samples_of-at, samples_in_24_bits}
use Rattle.rtp_wire.specs.declared.encoding.Enc.TheVariants.{L16, L24}
use Rattle.rtp_wire.proofs.samples.read_samples.Goals as goal

pub returns-in-L16-clause-each : goal.returns-in-L16-clause-each
returns-in-L16-clause-each c k h =
    rw c.in-L16.is (samples_of-at L16 c.args.octets.now _ _ _ k c.read_16.ensures.samples c.read_16.ensures.count h)

pub returns-in-L24-clause-each : goal.returns-in-L24-clause-each
returns-in-L24-clause-each c k h =
    rw c.in-L24.is (samples_of-at L24 c.args.octets.now _ _ _ k c.read_24.ensures.samples c.read_24.ensures.count h)

pub returns-in-L16-clause-in_24_bits : goal.returns-in-L16-clause-in_24_bits
returns-in-L16-clause-in_24_bits c = samples_in_24_bits c.args.enc c.args.octets.now (λ i. omega (arith, c.type_inv.octets i))

pub returns-in-L24-clause-in_24_bits : goal.returns-in-L24-clause-in_24_bits
returns-in-L24-clause-in_24_bits c = samples_in_24_bits c.args.enc c.args.octets.now (λ i. omega (arith, c.type_inv.octets i))
