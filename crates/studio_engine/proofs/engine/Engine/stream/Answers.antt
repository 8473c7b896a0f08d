use Rattle.std.proofs.Common.{sym, subst, ◌∙◌}
use Rattle.studio_session.specs.Cursor.{at_place}
use Rattle.studio_engine.specs.Engine.{EngineState}
use Rattle.studio_engine.specs.Session.{HasSession}
use Rattle.studio_engine.proofs.CountsLemmas.{stream_is}
use Rattle.studio_engine.proofs.engine.Engine.stream.Goals as goal

pub returns-clause-stands : goal.returns-clause-stands
returns-clause-stands c = λ studio events datagrams spec s at.
    let i = c.self.inside in
    let inside : EngineState = record { mixer = i.mixer; cursors = i.cursors.cursors; time = i.time; turning = i.turning; closed = i.closed; settled = i.settled; count = i.cursors.count } in
    let s' : HasSession studio inside events datagrams = subst (λ e. HasSession studio e events datagrams) (sym c.self.view_is) s in
    c.spec.ensures ∙ stream_is studio inside events datagrams c.args.stream (at_place i.cursors.count c.in_ok-cursor.cursor.now) spec s' c.in_ok-cursor.ensures.some at
