use Rattle.std.proofs.Common.{◌≡◌, ◌++◌, drop}
use Rattle.status_page.specs.State.{paths_tokens}
use Rattle.status_page.proofs.page.state.write_each_path.Given as goal

abbrev pub invariant-loop-path : goal.invariant-loop-path
invariant-loop-path l = record {
  tokens : l.writer.tokens ++ paths_tokens (drop l.path-index l.paths) ≡ l.initial.writer.tokens ++ paths_tokens l.paths;
  before : l.writer.before ≡ l.initial.writer.before;
}
