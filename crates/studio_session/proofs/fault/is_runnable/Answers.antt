use Rattle.std.proofs.Common.{[], slice_get, refl, ap, subst, ◌∙◌}
use Rattle.mix_packets.specs.OutSpec.{IsOutput}
use Rattle.studio_session.proofs.FaultLemmas.{runnable}
use Rattle.studio_session.proofs.fault.is_runnable.Goals as goal

pub returns : goal.returns
returns c = runnable c.args.spec.now []
    (λ i stream at. c.are_streams.ensures i stream (ap (λ ss. slice_get ss i) c.streams.ensures.value ∙ at))
    (subst IsOutput c.output.ensures c.is_output.ensures) refl
