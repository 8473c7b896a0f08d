use Rattle.std.proofs.Common.{◌≡◌, [], ◌∷◌, ◌++◌, OnOk, ap, subst, ◌∙◌, append_assoc}
use Rattle.json.specs.Token.{key}
use Rattle.status_page.specs.State.{known_token}
use Rattle.status_page.proofs.page.state.write_count_member.Goals as goal

pub returns-clause-tokens : goal.returns-clause-tokens
returns-clause-tokens c =
    let named = key c.args.name.now in
    let count = known_token c.args.count in
    let was = c.args.writer.now.tokens in
    let same : c.key.new.self.tokens ++ count ∷ [] ≡ was ++ named ∷ count ∷ [] = ap (λ l. l ++ count ∷ []) c.in_ok-key.ensures.ok ∙ append_assoc was (named ∷ []) (count ∷ []) in
    subst (λ l. OnOk c.write_known.result (c.write_known.new.writer.tokens ≡ l)) same c.write_known.ensures.tokens
