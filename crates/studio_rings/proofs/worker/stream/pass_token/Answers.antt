use Rattle.std.proofs.Common.{refl}
use Rattle.studio_rings.proofs.StreamTurnLemmas.{goes-none}
use Rattle.studio_rings.proofs.HandLemmas.{goes-handed}
use Rattle.studio_rings.proofs.worker.stream.pass_token.Goals as goal

pub returns-in-Some-clause-later : goal.returns-in-Some-clause-later
returns-in-Some-clause-later g c =
    let o = c.path_done.ensures.others in
    goes-handed g.C.Clock.told c.args.stream.now _ _ _ c.path_done.ensures.sides o.1 o.3 refl refl c.path_done.ensures.stands

pub returns-in-None-clause-later : goal.returns-in-None-clause-later
returns-in-None-clause-later g c = goes-none _ _
