use Rattle.std.proofs.lemmas.Grind.{common_steps}
use Rattle.std.proofs.Common.{◌++◌, ap, ◌∙◌, arith}
use Rattle.studio_io.specs.Gains.{changes_in}
use Rattle.engine_run.proofs.gain_requests.ask_once.Goals as goal

pub returns-clause-stands : goal.returns-clause-stands
returns-clause-stands g c = λ studio events datagrams s. record {
  changes = changes_in c.answer_request-answer.result c.answer_request-answer.new.gains;
  taken = c.answer.ensures.taken c.in-Some.ensures.asks ∙ ap (λ l. l ++ changes_in c.answer_request-answer.result c.answer_request-answer.new.gains) c.next.ensures.taken;
  stands = c.answer_request-answer.ensures.stands studio events datagrams s;
}

pub returns-clause-noted : goal.returns-clause-noted
returns-clause-noted g c = record {
  changes = changes_in c.answer_request-answer.result c.answer_request-answer.new.gains;
  taken = c.answer.ensures.taken c.in-Some.ensures.asks ∙ ap (λ l. l ++ changes_in c.answer_request-answer.result c.answer_request-answer.new.gains) c.next.ensures.taken;
  noted = c.notify_change.ensures.noted;
}

pub returns-in_default-clause-noted : goal.returns-in_default-clause-noted
returns-in_default-clause-noted c = grind (arith, common_steps)

pub returns-in_default-clause-heard : goal.returns-in_default-clause-heard
returns-in_default-clause-heard c = grind (arith, common_steps)

pub returns-in_default-clause-stands : goal.returns-in_default-clause-stands
returns-in_default-clause-stands c = grind (arith, common_steps)
