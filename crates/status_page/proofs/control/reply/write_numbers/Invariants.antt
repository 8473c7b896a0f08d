use Rattle.std.proofs.Common.{◌≡◌, ◌++◌, drop}
use Rattle.status_page.specs.GainReplies.{number_tokens}
use Rattle.status_page.proofs.control.reply.write_numbers.Given as goal

abbrev pub invariant-loop-number : goal.invariant-loop-number
invariant-loop-number l = record {
  tokens : l.writer.tokens ++ number_tokens (drop l.number-index l.numbers) ≡ l.initial.writer.tokens ++ number_tokens l.numbers;
  before : l.writer.before ≡ l.initial.writer.before;
}
