use Rattle.std.proofs.Common.{◌≡◌, refl, subst, to_z, of_z, w64}
use Rattle.std.proofs.lemmas.Int.{to_z-of_z}
use Rattle.rtp_stats.specs.Stats.{AreNumbers}
use Rattle.rtp_stats.proofs.copy_tracker.CopyTracker.stream_stats.Goals as goal

pub returns-clause-told : goal.returns-clause-told
returns-clause-told c = λ stream offers told.
    let z : to_z w64 (of_z w64 c.args.now) ≡ c.args.now = to_z-of_z w64 c.args.now c.ranges.now in
    record {
      counts_are = refl;
      a = c.stats_at.result;
      b = c.stats_at-2.result;
      c = c.stats_at-3.result;
      d = c.stats_at-4.result;
      paths = refl;
      of_a = subst (λ now. AreNumbers stream offers 0 now c.stats_at.result) z (c.stats_at.ensures stream offers told);
      of_b = subst (λ now. AreNumbers stream offers 1 now c.stats_at-2.result) z (c.stats_at-2.ensures stream offers told);
      of_c = subst (λ now. AreNumbers stream offers 2 now c.stats_at-3.result) z (c.stats_at-3.ensures stream offers told);
      of_d = subst (λ now. AreNumbers stream offers 3 now c.stats_at-4.result) z (c.stats_at-4.ensures stream offers told);
    }
