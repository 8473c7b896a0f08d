use Rattle.std.proofs.Common.{sym, subst}
use Rattle.rtp_stream.specs.PathCounts.{path_tally_of}
use Rattle.studio_session.specs.Cursor.{at_place}
use Rattle.studio_engine.specs.Engine.{EngineState}
use Rattle.studio_engine.specs.Session.{HasSession}
use Rattle.studio_engine.proofs.CountsLemmas.{path_counts_so_far}
use Rattle.studio_engine.proofs.engine.Engine.path_counts.Goals as goal

pub returns-clause-value : goal.returns-clause-value
returns-clause-value c = λ studio events datagrams spec s at.
    let i = c.self.inside in
    let inside : EngineState = record { mixer = i.mixer; cursors = i.cursors.cursors; time = i.time; turning = i.turning; closed = i.closed; settled = i.settled; count = i.cursors.count } in
    let s' : HasSession studio inside events datagrams = subst (λ e. HasSession studio e events datagrams) (sym c.self.view_is) s in
    path_counts_so_far studio inside events datagrams c.args.stream c.args.path (at_place i.cursors.count c.in_ok-cursor.cursor.now) spec (path_tally_of c.path_counts.result) c.self.invariant s' c.in_ok-cursor.ensures.some at c.path_counts.ensures
