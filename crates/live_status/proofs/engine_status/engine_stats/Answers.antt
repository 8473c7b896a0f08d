use Rattle.std.proofs.Common.{◌≡◌, ℤ, Option, Some, Bor, option_copied, sym, subst, ◌∙◌, to_z, of_z, w64, rules}
use Rattle.std.proofs.lemmas.Int.{to_z-of_z}
use Rattle.rtp_stream.specs.declared.counts.Counts.{Counts}
use Rattle.rtp_stats.specs.Stats.{AreTold}
use Rattle.rtp_stats.specs.declared.copy_tracker.CopyTracker.{CopyTracker}
use Rattle.live_status.specs.Engine.{AreStatsOf, HasEngineCounts}
use Rattle.live_status.proofs.engine_status.engine_stats.Goals as goal

pub returns-in-Some-clause-whole : goal.returns-in-Some-clause-whole
returns-in-Some-clause-whole c = subst (λ (counts : Counts). HasEngineCounts c.args.engine.now c.args.number counts) (sym c.stream_stats.ensures.counts) c.in_ok-counts.ensures.whole

pub returns-in-Some-clause-paths : goal.returns-in-Some-clause-paths
returns-in-Some-clause-paths c =
    let stats = c.stream_stats.result in
    let time : to_z w64 (of_z w64 c.time.result) ≡ c.args.engine.now.time = to_z-of_z w64 c.time.result (search rules) ∙ c.time.ensures.value in
    let this : AreStatsOf (option_copied (Some c.in-Some.tracker)) c.args.engine.now.time stats = (
      c.stream_stats.ensures.four,
      λ stream offers tallied.
          subst (λ (now : ℤ). AreTold stream offers stats.counts now stats) time
          (subst (λ (counts : Counts). AreTold stream offers counts (to_z w64 (of_z w64 c.time.result)) stats) (sym c.stream_stats.ensures.counts) (c.stream_stats.ensures.told stream offers tallied)),
    ) in
    subst (λ (o : Option (Bor CopyTracker)). AreStatsOf (option_copied o) c.args.engine.now.time stats) (sym c.in-Some.is) this

pub returns-in-None-clause-whole : goal.returns-in-None-clause-whole
returns-in-None-clause-whole c = subst (λ (counts : Counts). HasEngineCounts c.args.engine.now c.args.number counts) (sym c.of_counts.ensures.counts) c.in_ok-counts.ensures.whole
