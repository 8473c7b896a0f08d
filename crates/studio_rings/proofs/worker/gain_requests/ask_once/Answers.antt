use Rattle.std.proofs.Common.{◌++◌, ap, subst, sym, ◌∙◌}
use Rattle.studio_io.specs.Gains.{changes_in}
use Rattle.studio_rings.specs.GainRequests.{TakesChanges}
use Rattle.studio_rings.proofs.GainRequestLemmas.{takes-none}
use Rattle.studio_rings.proofs.worker.gain_requests.ask_once.Goals as goal

pub returns-in_default : goal.returns-in_default
returns-in_default g c = subst (TakesChanges c.args.end.now c.args.end.now (g.G.GainSource.taken c.args.source.now)) (sym c.next.ensures.taken) (takes-none c.args.end.now (g.G.GainSource.taken c.args.source.now))

pub returns : goal.returns
returns g c = record {
  changes = changes_in c.answer_request-answer.result c.answer_request-answer.new.gains;
  taken = c.answer.ensures.taken c.in-Some.ensures.asks ∙ ap (λ l. l ++ changes_in c.answer_request-answer.result c.answer_request-answer.new.gains) c.next.ensures.taken;
  sides = c.answer_request-answer.ensures.sides;
  given = c.answer_request-answer.ensures.given;
}
