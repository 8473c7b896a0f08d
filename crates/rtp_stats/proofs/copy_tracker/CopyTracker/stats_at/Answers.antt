use Rattle.std.proofs.Common.{◌≡◌, subst, to_z, of_z, w64}
use Rattle.std.proofs.lemmas.Int.{to_z-of_z}
use Rattle.rtp_stats.specs.Stats.{AreNumbers}
use Rattle.rtp_stats.proofs.copy_tracker.CopyTracker.stats_at.Goals as goal

pub returns : goal.returns
returns c = λ stream offers told.
    let z : to_z w64 (of_z w64 c.args.now) ≡ c.args.now = to_z-of_z w64 c.args.now c.ranges.now in
    subst (λ path. AreNumbers stream offers path c.args.now c.stats.result) c.in-Some.ensures.value (subst (λ now. AreNumbers stream offers c.in-Some.path now c.stats.result) z (c.stats.ensures stream offers told))
