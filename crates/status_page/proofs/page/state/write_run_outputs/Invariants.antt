use Rattle.std.proofs.Common.{◌≡◌, ◌++◌, drop}
use Rattle.status_page.specs.State.{run_outputs_tokens}
use Rattle.status_page.proofs.page.state.write_run_outputs.Given as goal

abbrev pub invariant-loop-kind : goal.invariant-loop-kind
invariant-loop-kind l = record {
  tokens : l.writer.tokens ++ run_outputs_tokens (drop l.kind-index l.kinds) l.states ≡ l.initial.writer.tokens ++ run_outputs_tokens l.kinds l.states;
  before : l.writer.before ≡ l.initial.writer.before;
}
