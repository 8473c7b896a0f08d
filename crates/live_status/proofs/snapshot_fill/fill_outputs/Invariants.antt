use Rattle.live_status.specs.Outputs.{HasNumbers}
use Rattle.live_status.proofs.Each.{IsUpTo}
use Rattle.live_status.proofs.snapshot_fill.fill_outputs.Given as goal

abbrev pub invariant-loop-channel : goal.invariant-loop-channel
invariant-loop-channel l = IsUpTo (HasNumbers l.stats) l.channel l.initial.outputs l.outputs
