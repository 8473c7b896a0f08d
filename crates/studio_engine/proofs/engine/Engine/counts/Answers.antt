use Rattle.std.proofs.Common.{sym, subst, ◌∙◌}
use Rattle.studio_session.specs.Cursor.{at_place}
use Rattle.studio_engine.specs.Engine.{EngineState, HasAllMarks}
use Rattle.studio_engine.specs.Session.{HasSession}
use Rattle.studio_engine.proofs.CountsLemmas.{counts_whole}
use Rattle.studio_engine.proofs.engine.Engine.counts.Goals as goal

pub returns-clause-whole : goal.returns-clause-whole
returns-clause-whole c = λ studio events datagrams spec s at whole.
    let i = c.self.inside in
    let inside : EngineState = record { mixer = i.mixer; cursors = i.cursors.cursors; time = i.time; turning = i.turning; closed = i.closed; settled = i.settled; count = i.cursors.count } in
    let s' : HasSession studio inside events datagrams = subst (λ e. HasSession studio e events datagrams) (sym c.self.view_is) s in
    let whole' : HasAllMarks inside = subst HasAllMarks (sym c.self.view_is) whole in
    c.counts.ensures ∙ counts_whole studio inside events datagrams c.args.stream (at_place i.cursors.count c.in_ok-cursor.cursor.now) spec c.self.invariant s' c.in_ok-cursor.ensures.some at whole'
