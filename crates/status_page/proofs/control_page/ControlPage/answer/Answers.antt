use Rattle.status_page.proofs.ControlLemmas.{chain_keeps_page}
use Rattle.status_page.proofs.control_page.ControlPage.answer.Goals as goal

pub returns-clause-page : goal.returns-clause-page
returns-clause-page g c =
    let calls = c.advance.ensures.calls in
    chain_keeps_page _ _ _ c.advance.new.service calls.0 calls.2
