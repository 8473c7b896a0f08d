use Rattle.std.proofs.Common.{◌≡◌, ◌+◌, ◌*◌, ◌≤◌, ◌++◌, length, drop}
use Rattle.live_status.specs.Lines.{run_outputs}
use Rattle.live_status.proofs.lines.running.push_run_outputs.Given as goal

abbrev pub invariant-loop-kind : goal.invariant-loop-kind
invariant-loop-kind l = record {
  text : l.text ++ run_outputs (drop l.kind-index l.kinds) l.states ≡ l.initial.text ++ run_outputs l.kinds l.states;
  few : length l.text ≤ length l.initial.text + 400 * l.kind-index;
}
