use Rattle.std.proofs.Common.{◌≡◌, ◌++◌, drop}
use Rattle.status_page.specs.State.{stream_members}
use Rattle.status_page.proofs.page.state.write_stream_members.Given as goal

abbrev pub invariant-loop-count : goal.invariant-loop-count
invariant-loop-count l = record {
  tokens : l.writer.tokens ++ stream_members (drop l.count-index l.counts) l.stream ≡ l.initial.writer.tokens ++ stream_members l.counts l.stream;
  before : l.writer.before ≡ l.initial.writer.before;
}
