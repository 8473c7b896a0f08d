use Rattle.std.proofs.Common.{sym, subst, ◌∙◌, w64}
use Rattle.std.proofs.lemmas.Int.{to_z-of_z}
use Rattle.studio_engine.specs.Engine.{EngineState}
use Rattle.studio_engine.specs.Session.{HasSession}
use Rattle.studio_engine.proofs.engine.Engine.next_block_start.Goals as goal

pub returns-clause-stands : goal.returns-clause-stands
returns-clause-stands c = λ studio events datagrams session.
    let i = c.self.inside in
    let engine : EngineState = record { mixer = i.mixer; cursors = i.cursors.cursors; time = i.time; turning = i.turning; closed = i.closed; settled = i.settled; count = i.cursors.count } in
    let session' : HasSession studio engine events datagrams = subst (λ e. HasSession studio e events datagrams) (sym c.self.view_is) session in
    to_z-of_z w64 c.next_block_start.result (record { sfits = c.next_block_start.type_inv })
    ∙ c.next_block_start.ensures.stands studio _ _ session'.given.played.fed
