use Rattle.std.proofs.Common.{◌≡◌, ◌++◌, drop}
use Rattle.status_page.specs.State.{output_members}
use Rattle.status_page.proofs.page.state.write_output_members.Given as goal

abbrev pub invariant-loop-field : goal.invariant-loop-field
invariant-loop-field l = record {
  tokens : l.writer.tokens ++ output_members (drop l.field-index l.fields) l.output ≡ l.initial.writer.tokens ++ output_members l.fields l.output;
  before : l.writer.before ≡ l.initial.writer.before;
}
