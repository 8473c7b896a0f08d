use Rattle.std.proofs.Common.{◌≡◌, ◌<◌, ◌∙◌, ◌+◌, length, drop, false, sym, ap, arith, to_z, of_z, w64}
use Rattle.std.proofs.lemmas.Int.{ints}
use Rattle.studio_session.specs.Fault.{session_fault_from, time_past}
use Rattle.studio_session.proofs.CursorLemmas.{event_here}
use Rattle.studio_session.proofs.FaultLemmas.{fault_found, fault_past}
use Rattle.studio_session.proofs.fault.fault_from.Goals as goal

pub loop-place-preserved : goal.loop-place-preserved
loop-place-preserved g c =
    let events = g.E.EventSource.events c.args.source.now in
    let place = c.loop-place.place in
    let within : place < length events = omega (arith, c.loop-place-test.true, c.count-place-end.ensures) in
    let here = event_here events place within in
    let small = c.time_after-time.type_inv in
    let same : to_z w64 (of_z w64 c.time_after-time.result) ≡ c.time_after-time.result = omega (arith, ints, small) in
    let time = to_z w64 c.loop-place.time-bits in
    c.loop-place.invariant
    ∙ fault_past c.args.streams.now place time c.loop-place.closed events here.0 c.outline-event.result here.1 (c.outline-event.ensures here.0 here.1) (sym c.event_fault.ensures ∙ c.in_default.is)
    ∙ ap (λ b. session_fault_from c.args.streams.now (place + 1) (time_past time c.outline-event.result) b (drop (place + 1) events)) (sym c.closed_after-closed.ensures)
    ∙ ap (λ t. session_fault_from c.args.streams.now (place + 1) t c.closed_after-closed.result (drop (place + 1) events)) (sym c.time_after-time.ensures ∙ sym same)

pub returns-in-Some : goal.returns-in-Some
returns-in-Some g c =
    let events = g.E.EventSource.events c.args.source.now in
    let place = c.loop-place.place in
    let within : place < length events = omega (arith, c.loop-place-test.true, c.count-place-end.ensures) in
    let here = event_here events place within in
    let fits = c.ranges.open_at.sfits in
    let same : to_z w64 (of_z w64 c.args.open_at) ≡ c.args.open_at = omega (arith, ints, fits) in
    sym (ap (λ t. session_fault_from c.args.streams.now 0 t false events) (sym same)
    ∙ c.loop-place.invariant
    ∙ fault_found c.args.streams.now place (to_z w64 c.loop-place.time-bits) c.loop-place.closed events here.0 c.outline-event.result c.in-Some.fault here.1 (c.outline-event.ensures here.0 here.1) (sym c.event_fault.ensures ∙ c.in-Some.is))
