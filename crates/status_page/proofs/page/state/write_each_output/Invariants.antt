use Rattle.std.proofs.Common.{◌≡◌, ◌++◌, drop}
use Rattle.status_page.specs.State.{outputs_tokens}
use Rattle.status_page.proofs.page.state.write_each_output.Given as goal

abbrev pub invariant-loop-output : goal.invariant-loop-output
invariant-loop-output l = record {
  tokens : l.writer.tokens ++ outputs_tokens (drop l.output-index l.outputs) ≡ l.initial.writer.tokens ++ outputs_tokens l.outputs;
  before : l.writer.before ≡ l.initial.writer.before;
}
