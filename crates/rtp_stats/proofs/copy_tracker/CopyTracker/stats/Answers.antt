use Rattle.std.proofs.Common.{◌≡◌, subst, to_z, of_z, w64}
use Rattle.std.proofs.lemmas.Int.{to_z-of_z}
use Rattle.rtp_stats.specs.Stats.{AreNumbers}
use Rattle.rtp_stats.proofs.copy_tracker.CopyTracker.stats.Goals as goal

pub returns : goal.returns
returns c = λ stream offers told.
    let z : to_z w64 (of_z w64 c.args.now) ≡ c.args.now = to_z-of_z w64 c.args.now c.ranges.now in
    subst (λ now. AreNumbers stream offers c.args.path now (record { tally = c.path.result; spare = c.spare.result })) z (record {
      first = c.path.ensures.first stream offers told;
      double = c.path.ensures.double stream offers told;
      unlike = c.path.ensures.unlike stream offers told;
      late = c.path.ensures.late stream offers told;
      ahead = c.path.ensures.ahead stream offers told;
      repeated = c.path.ensures.repeated stream offers told;
      missed = c.path.ensures.missed stream offers told;
      least = c.spare.ensures.least stream offers told;
      greatest = c.spare.ensures.greatest stream offers told;
      second = c.spare.ensures.second;
      median = c.spare.ensures.median stream offers told;
      none = c.spare.ensures.none stream offers told;
    })
