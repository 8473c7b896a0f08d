use Rattle.std.proofs.Common.{◌≡◌, ℕ, List, [], ◌∷◌, ◌++◌, OnOk, subst}
use Rattle.http_server.specs.Response.{fields_of}
use Rattle.status_page.specs.Responses.{policy_text}
use Rattle.status_page.proofs.page.add_policy.Goals as goal

pub returns-clause-fields : goal.returns-clause-fields
returns-clause-fields c =
    let Adds : List ℕ → List ℕ → Type 0 = λ name value. OnOk c.add_header.result (fields_of c.add_header.new.self ≡ fields_of c.args.response.now ++ (name, value) ∷ []) in
    subst (λ (name : List ℕ). Adds name policy_text) c.from_static.ensures
    (subst (λ (value : List ℕ). Adds c.from_static.result value) c.policy.ensures c.add_header.ensures.headers)
