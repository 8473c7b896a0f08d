use Rattle.std.proofs.Common.{◌≡◌, true, arith, ap, refl, sym, ◌∙◌}
use Rattle.std.specs.Prelude.{nat_eq, slice_set}
use Rattle.rtp_stream.specs.PacketRef.{packet_of}
use Rattle.rtp_stream.specs.Anchor.{is_source_wanted}
use Rattle.rtp_stream.specs.PathProbation.{is_complete, probation_after, probation_at}
use Rattle.rtp_stream.proofs.ProbationLemmas.{probation_at-get, probation_at-other, probation_at-set}
use Rattle.rtp_stream.proofs.probation.update_probation.Goals as goal

pub returns-clause-heard : goal.returns-clause-heard
returns-clause-heard c =
    let place = c.from-place.ensures ∙ c.number.ensures.value in
    let wanted : is_source_wanted c.args.spec.now.ssrc (packet_of c.args.packet.now).ssrc ≡ true = ap (λ w. is_source_wanted w (packet_of c.args.packet.now).ssrc) (sym c.ssrc.ensures) ∙ sym c.is_wanted_source.ensures ∙ c.if-not-is_wanted_source.false in
    ap (probation_at (slice_set c.args.probations.now c.from-place.result c.update.new.self)) (sym place)
    ∙ probation_at-set c.from-place.result c.args.probations.now c.update.new.self (omega (arith, c.told-probations, place, c.number.ensures.few, c.number.ensures.value))
    ∙ c.update.ensures c.args.spec.now (omega (arith, c.frames.ensures.value, c.from.ensures))
    ∙ ap (λ p. probation_after c.args.spec.now p (c.args.off, (packet_of c.args.packet.now))) (sym (probation_at-get c.from-place.result c.args.probations.now _ (omega (arith, c.told-probations, place, c.number.ensures.few, c.number.ensures.value))) ∙ ap (probation_at c.args.probations.now) place)
    ∙ sym (rw wanted refl)

pub returns-clause-others : goal.returns-clause-others
returns-clause-others c = λ other apart.
    let place = c.from-place.ensures ∙ c.number.ensures.value in
    probation_at-other other c.from-place.result c.args.probations.now c.update.new.self (ap (nat_eq other) place ∙ apart)

pub returns-clause-complete : goal.returns-clause-complete
returns-clause-complete c =
    let place = c.from-place.ensures ∙ c.number.ensures.value in
    let wanted : is_source_wanted c.args.spec.now.ssrc (packet_of c.args.packet.now).ssrc ≡ true = ap (λ w. is_source_wanted w (packet_of c.args.packet.now).ssrc) (sym c.ssrc.ensures) ∙ sym c.is_wanted_source.ensures ∙ c.if-not-is_wanted_source.false in
    c.is_complete.ensures ∙ ap is_complete (sym (ap (probation_at (slice_set c.args.probations.now c.from-place.result c.update.new.self)) (sym place) ∙ probation_at-set c.from-place.result c.args.probations.now c.update.new.self (omega (arith, c.told-probations, place, c.number.ensures.few, c.number.ensures.value)))) ∙ sym (rw wanted refl)
