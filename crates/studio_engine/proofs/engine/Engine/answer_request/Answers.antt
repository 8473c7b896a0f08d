use Rattle.std.proofs.Common.{sym, subst}
use Rattle.studio_engine.specs.Engine.{EngineState}
use Rattle.studio_engine.specs.Session.{HasSession}
use Rattle.studio_engine.proofs.ChangedLemmas.{session_answered}
use Rattle.studio_engine.proofs.engine.Engine.answer_request.Goals as goal

pub returns-clause-stands : goal.returns-clause-stands
returns-clause-stands c = λ studio events datagrams session.
    let i = c.self.inside in
    let old : EngineState = record { mixer = i.mixer; cursors = i.cursors.cursors; time = i.time; turning = i.turning; closed = i.closed; settled = i.settled; count = i.cursors.count } in
    let session' : HasSession studio old events datagrams = subst (λ e. HasSession studio e events datagrams) (sym c.self.view_is) session in
    session_answered studio old c.answer_request.new.self c.answer_request.result c.answer_request.new.gains events datagrams (c.answer_request.ensures.stands studio) c.answer_request.ensures.lanes c.answer_request.ensures.later c.answer_request.ensures.kept session'
