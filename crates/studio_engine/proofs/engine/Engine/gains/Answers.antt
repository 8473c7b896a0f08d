use Rattle.std.proofs.Common.{sym, subst, ap, ◌∙◌, ◌≤ℤ◌, ℤ, length, w64}
use Rattle.std.proofs.lemmas.Int.{to_z-of_z}
use Rattle.gain_mix.specs.Changes.{matrix_at}
use Rattle.mix_packets.specs.Block.{block_start}
use Rattle.studio_engine.specs.Engine.{EngineState}
use Rattle.studio_engine.specs.Session.{HasSession}
use Rattle.studio_engine.proofs.engine.Engine.gains.Goals as goal

pub returns-clause-stands : goal.returns-clause-stands
returns-clause-stands c = λ studio events datagrams session late.
    let i = c.self.inside in
    let engine : EngineState = record { mixer = i.mixer; cursors = i.cursors.cursors; time = i.time; turning = i.turning; closed = i.closed; settled = i.settled; count = i.cursors.count } in
    let session' : HasSession studio engine events datagrams = subst (λ e. HasSession studio e events datagrams) (sym c.self.view_is) session in
    let same = to_z-of_z w64 c.args.at c.ranges.at in
    c.gains.ensures.stands studio _ _ session'.given.played.fed (subst (λ (at : ℤ). block_start studio.output (length datagrams) ≤ℤ at) (sym same) late)
    ∙ ap (λ (at : ℤ). matrix_at studio.schedule at) same
