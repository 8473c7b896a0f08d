use Rattle.std.proofs.Common.{◌≡◌, ◌∙◌, ℤ, List, Option, None, false, slice_get, sym, ap, subst, arith, to_z, of_z, w64}
use Rattle.std.proofs.lemmas.Int.{ints}
use Rattle.rtp_stream.specs.declared.stream_spec.Stream.{Stream}
use Rattle.mix_packets.specs.OutSpec.{IsOutput}
use Rattle.studio_config.specs.Studio.{Studio}
use Rattle.studio_session.specs.Event.{TraceEvent}
use Rattle.studio_session.specs.Fault.{session_fault_from, session_fault_of}
use Rattle.studio_session.specs.declared.fault.StudioFault.{StudioFault}
use Rattle.studio_session.proofs.FaultLemmas.{runnable, with_paths}
use Rattle.studio_session.proofs.fault.first_fault.Goals as goal

-- if the search by the studio's streams and opening time finds no fault, the events have none
no_fault : (studio : Studio) (events : List TraceEvent) (streams : List Stream) (open_at : ℤ) (found : Option StudioFault) → streams ≡ studio.streams → open_at ≡ studio.open_at
    → found ≡ session_fault_from streams 0 open_at false events → found ≡ None → session_fault_of studio events ≡ None
no_fault studio events streams open_at found same time is none =
    ap (λ t. session_fault_from studio.streams 0 t false events) (sym time) ∙ ap (λ ss. session_fault_from ss 0 open_at false events) (sym same) ∙ sym is ∙ none

pub returns-clause-runnable : goal.returns-clause-runnable
returns-clause-runnable g c = λ none.
    let studio = c.args.spec.now in
    let sound = c.open_at.ensures.sound in
    let low = sound.open_low in
    let high = sound.open_high in
    let value = c.open_at.ensures.value in
    let open_at : to_z w64 (of_z w64 c.open_at.result) ≡ studio.open_at = omega (arith, ints, value, low, high) in
    runnable studio (g.E.EventSource.events c.args.source.now)
    (λ i stream at. c.are_streams.ensures i stream (ap (λ ss. slice_get ss i) c.streams.ensures.value ∙ at))
    (subst IsOutput c.output.ensures c.is_output.ensures)
    (no_fault studio (g.E.EventSource.events c.args.source.now) c.streams-2.result.now (to_z w64 (of_z w64 c.open_at.result)) c.fault_from.result c.streams-2.ensures.value open_at c.fault_from.ensures none)

pub returns-clause-paths : goal.returns-clause-paths
returns-clause-paths g c = λ none.
    let studio = c.args.spec.now in
    let sound = c.open_at.ensures.sound in
    let low = sound.open_low in
    let high = sound.open_high in
    let value = c.open_at.ensures.value in
    let open_at : to_z w64 (of_z w64 c.open_at.result) ≡ studio.open_at = omega (arith, ints, value, low, high) in
    with_paths studio (g.E.EventSource.events c.args.source.now)
    (no_fault studio (g.E.EventSource.events c.args.source.now) c.streams-2.result.now (to_z w64 (of_z w64 c.open_at.result)) c.fault_from.result c.streams-2.ensures.value open_at c.fault_from.ensures none)
