use Rattle.std.proofs.Common.{◌≡◌, ◌++◌, drop}
use Rattle.status_page.specs.GainReplies.{number_tokens}
use Rattle.status_page.proofs.control.reply.write_each_time.Given as goal

abbrev pub invariant-loop-time : goal.invariant-loop-time
invariant-loop-time l = record {
  tokens : l.writer.tokens ++ number_tokens (drop l.time-index l.times) ≡ l.initial.writer.tokens ++ number_tokens l.times;
  before : l.writer.before ≡ l.initial.writer.before;
}
