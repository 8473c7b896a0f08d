use Rattle.std.proofs.Common.{◌≡◌, ◌++◌, drop}
use Rattle.status_page.specs.State.{path_members}
use Rattle.status_page.proofs.page.state.write_path_members.Given as goal

abbrev pub invariant-loop-field : goal.invariant-loop-field
invariant-loop-field l = record {
  tokens : l.writer.tokens ++ path_members (drop l.field-index l.fields) l.path ≡ l.initial.writer.tokens ++ path_members l.fields l.path;
  before : l.writer.before ≡ l.initial.writer.before;
}
