use Rattle.std.proofs.Common.{◌≡◌, replicate}
use Rattle.live_status.specs.Outputs.{blank_output}
use Rattle.live_status.proofs.publisher.add_outputs.Given as goal

abbrev pub invariant-loop : goal.invariant-loop
invariant-loop l = (l.snapshot.outputs.items ≡ replicate l.counter blank_output) × (l.snapshot.streams ≡ l.initial.snapshot.streams)
