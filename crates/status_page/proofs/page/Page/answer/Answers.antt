use Rattle.status_page.proofs.ConnectionsLemmas.{chain_answers}
use Rattle.status_page.proofs.page.Page.answer.Goals as goal

pub returns-clause-answers : goal.returns-clause-answers
returns-clause-answers c =
    let calls = c.advance.ensures.calls in
    let all = chain_answers c.args.self.now c.advance.new.service calls.0 calls.2 in
    record { more = calls.0; follow = calls.1; answered = all.0 }

pub returns-clause-same : goal.returns-clause-same
returns-clause-same c =
    let calls = c.advance.ensures.calls in
    let all = chain_answers c.args.self.now c.advance.new.service calls.0 calls.2 in
    all.1
