use Rattle.std.proofs.Common.{◌≡◌, ℕ, List, [], ◌∷◌, ◌++◌, OnOk, subst}
use Rattle.std.specs.Prelude.{codes}
use Rattle.http_header.specs.FieldValue.{FieldValue, plain_value}
use Rattle.http_server.specs.Response.{fields_of}
use Rattle.status_page.proofs.page.add_no_frame.Goals as goal

pub returns-clause-fields : goal.returns-clause-fields
returns-clause-fields c =
    let Adds : List ℕ → FieldValue → Type 0 = λ name value. OnOk c.add_header.result (fields_of c.add_header.new.self ≡ fields_of c.args.response.now ++ (name, value.bytes) ∷ []) in
    subst (λ (name : List ℕ). Adds name (plain_value (codes "DENY"))) c.from_static.ensures
    (subst (λ (value : FieldValue). Adds c.from_static.result value) c.from_static-2.ensures c.add_header.ensures.headers)
