use Rattle.std.proofs.Common.{◌≡◌, pos, arith, ap, sym, subst, ◌∙◌}
use Rattle.std.proofs.lemmas.Int.{ints}
use Rattle.std.proofs.lemmas.List.Elements.{All-replicate}
use Rattle.rtp_wire.specs.declared.encoding.Enc.{Enc}
use Rattle.rtp_wire.specs.declared.encoding.Enc.TheVariants.{L24}
use Rattle.rtp_wire.specs.Sample.{FitsEncoding}
use Rattle.mix_packets.specs.declared.out_spec.Output.{Output}
use Rattle.mix_packets.specs.Packer.{PackerState}
use Rattle.engine_tests.proofs.tests.datagrams.sequence_and_timestamp_wrap.Goals as goal

fits : (enc : Enc) → enc ≡ L24 → FitsEncoding enc (pos 1000)
fits enc e = subst (λ x. FitsEncoding x (pos 1000)) (sym e) (record { low = omega (arith, ints); high = omega (arith, ints) })

pub next-requires-clause-fit : goal.next-requires-clause-fit
next-requires-clause-fit g c =
    let enc : c.new-packer.result.spec.enc ≡ L24 = ap (λ (p : PackerState). p.spec.enc) c.new-packer.ensures ∙ ap (λ (s : Output). s.enc) c.in-Ok.ensures.ok in
    All-replicate (FitsEncoding c.new-packer.result.spec.enc) 48 (pos 1000) (fits c.new-packer.result.spec.enc enc)

pub next-requires-2-clause-fit : goal.next-requires-2-clause-fit
next-requires-2-clause-fit g c =
    let enc : c.next.new.self.spec.enc ≡ L24 = ap (λ (p : PackerState). p.spec.enc) c.next.ensures.number ∙ ap (λ (p : PackerState). p.spec.enc) c.new-packer.ensures ∙ ap (λ (s : Output). s.enc) c.in-Ok.ensures.ok in
    All-replicate (FitsEncoding c.next.new.self.spec.enc) 48 (pos 1000) (fits c.next.new.self.spec.enc enc)
