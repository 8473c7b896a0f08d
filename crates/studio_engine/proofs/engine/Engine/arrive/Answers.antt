use Rattle.std.proofs.Common.{◌≡◌, None, refl, sym, ap, subst, ◌∙◌}
use Rattle.studio_session.specs.Event.{Arrival}
use Rattle.studio_engine.specs.Engine.{EngineState, arrive_fault_of}
use Rattle.studio_engine.specs.Session.{HasSession}
use Rattle.studio_engine.proofs.EngineLemmas.{pulled_at, session_handed, taken_arrival}
use Rattle.studio_engine.proofs.engine.Engine.arrive.Goals as goal

pub returns-clause-stands : goal.returns-clause-stands
returns-clause-stands c = λ studio events datagrams s.
    let i = c.self.inside in
    let inside : EngineState = record { mixer = i.mixer; cursors = i.cursors.cursors; time = i.time; turning = i.turning; closed = i.closed; settled = i.settled; count = i.cursors.count } in
    let s' : HasSession studio inside events datagrams = subst (λ e. HasSession studio e events datagrams) (sym c.self.view_is) s in
    let event = Arrival c.args.stream c.args.path c.args.octets.now in
    let fine : arrive_fault_of inside c.args.stream c.args.path ≡ None = ap (λ e. arrive_fault_of e c.args.stream c.args.path) c.self.view_is ∙ sym c.arrive_fault.ensures ∙ c.in_default.is in
    session_handed studio inside _ event i.time i.turning i.closed _ events datagrams c.in-Some-push_datagram.ensures.handed
    c.self.invariant.taken c.in-Some-push_datagram.ensures.count refl refl
    (taken_arrival studio inside events datagrams c.args.stream c.args.path c.args.octets.now s' fine) s'

pub returns-clause-outcome : goal.returns-clause-outcome
returns-clause-outcome c = λ studio events datagrams spec s at.
    let i = c.self.inside in
    let inside : EngineState = record { mixer = i.mixer; cursors = i.cursors.cursors; time = i.time; turning = i.turning; closed = i.closed; settled = i.settled; count = i.cursors.count } in
    let s' : HasSession studio inside events datagrams = subst (λ e. HasSession studio e events datagrams) (sym c.self.view_is) s in
    let found = pulled_at studio inside events datagrams c.args.stream spec s' at in
    c.in-Some-push_datagram.ensures.outcome found.0 spec c.args.stream studio.open_at events found.1 found.2 s'.count found.3
