-- Requests that are answered one after another by a page.
use Rattle.std.proofs.Common.{◌≡◌, List, [], ◌∷◌, All, ◌∙◌, subst}
use Rattle.std.proofs.lemmas.List.Elements.{All-cons, All-nil}
use Rattle.http_server.specs.Exchange.{Call, Chain}
use Rattle.status_page.specs.declared.run_facts.ShownRun.{ShownRun}
use Rattle.status_page.specs.Connections.{IsAnswered, page_answers}

-- the page stays as it was, and each response is that of its run
pub chain_answers : (old new : ShownRun) (calls : List Call) → Chain page_answers old calls new
    → All (λ call. IsAnswered old call.0 call.1) calls × (new ≡ old)
chain_answers old new [] same = (All-nil (λ call. IsAnswered old call.0 call.1), same)
chain_answers old new (call ∷ calls) chain =
    let first = chain.1 in
    let rest = chain_answers chain.0 new calls chain.2 in
    let P : ShownRun → Type 0 = λ run. All (λ call. IsAnswered run call.0 call.1) calls in
    (All-cons (λ call. IsAnswered old call.0 call.1) call calls first.0 (subst P first.1 rest.0), rest.1 ∙ first.1)
