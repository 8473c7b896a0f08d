use Rattle.std.proofs.Common.{◌≡◌, ◌++◌, drop}
use Rattle.status_page.specs.State.{streams_tokens}
use Rattle.status_page.proofs.page.state.write_each_stream.Given as goal

abbrev pub invariant-loop-stream : goal.invariant-loop-stream
invariant-loop-stream l = record {
  tokens : l.writer.tokens ++ streams_tokens (drop l.stream-index l.streams) ≡ l.initial.writer.tokens ++ streams_tokens l.streams;
  before : l.writer.before ≡ l.initial.writer.before;
}
