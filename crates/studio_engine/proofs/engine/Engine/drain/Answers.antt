use Rattle.std.proofs.lemmas.Grind.{elements}
use Rattle.std.proofs.Common.{refl, sym, subst, arith}
use Rattle.studio_engine.specs.Engine.{EngineState}
use Rattle.studio_engine.specs.Session.{HasSession}
use Rattle.studio_engine.proofs.EngineLemmas.{engine_kept, session_settles, taken_of}
use Rattle.studio_engine.proofs.engine.Engine.drain.Goals as goal

pub invariant_of-self : goal.invariant_of-self
invariant_of-self c =
    let i = c.self.inside in
    let inv = c.self.invariant in
    let inside : EngineState = record { mixer = i.mixer; cursors = i.cursors.cursors; time = i.time; turning = i.turning; closed = i.closed; settled = i.settled; count = i.cursors.count } in
    engine_kept inside c.next_datagram-given.new.mixer c.next_datagram-given.new.self i.turning c.is_none-self-inside.result c.next_datagram-given.ensures.count inv
    c.next_datagram-given.ensures.streams c.next_datagram-given.ensures.cursors c.next_datagram-given.ensures.come
    (λ e. c.next_datagram-given.ensures.idle (inv.idle e))
    inv.open_yet (λ e. c.if-not-self.false)

pub returns-clause-none : goal.returns-clause-none
returns-clause-none c = λ none studio events datagrams s.
    let i = c.self.inside in
    let inv = c.self.invariant in
    let inside : EngineState = record { mixer = i.mixer; cursors = i.cursors.cursors; time = i.time; turning = i.turning; closed = i.closed; settled = i.settled; count = i.cursors.count } in
    let s' : HasSession studio inside events datagrams = subst (λ e. HasSession studio e events datagrams) (sym c.self.view_is) s in
    let stop = c.next_datagram-given.ensures.none none studio events datagrams s'.runnable (taken_of events i.cursors.cursors i.cursors.count s'.count inv.taken) s'.given in
    session_settles studio inside _ events datagrams refl refl c.next_datagram-given.ensures.count c.if-not-self.false c.next_datagram-given.ensures.capacities s' stop

pub returns-clause-some : goal.returns-clause-some
returns-clause-some c = grind (arith, elements)
