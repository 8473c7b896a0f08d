use Rattle.std.proofs.Common.{◌≤◌, ℕ, List, length, subst}
use Rattle.rtp_stats.specs.Stats.{IsByChannel}
use Rattle.live_status.proofs.Outputs.{counts_shown}
use Rattle.live_status.proofs.engine_status.fill_engine_outputs.Goals as goal

pub returns : goal.returns
returns c =
    let counts = c.args.engine.now.mixer.saturated in
    counts_shown counts c.new.result c.args.outputs.now c.fill_outputs.new.outputs (subst (λ (l : List ℕ). length l ≤ 8) c.saturated.ensures.value c.saturated.ensures.few)
    (subst (λ (l : List ℕ). IsByChannel l c.new.result) c.saturated.ensures.value c.new.ensures.counts) c.fill_outputs.ensures
