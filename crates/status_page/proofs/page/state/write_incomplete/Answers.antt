use Rattle.std.proofs.Common.{◌≡◌, [], ◌∷◌, ◌++◌, OnOk, codes, ap, subst, ◌∙◌, append_assoc}
use Rattle.json.specs.Token.{key}
use Rattle.status_page.specs.State.{number_token}
use Rattle.status_page.proofs.page.state.write_incomplete.Goals as goal

pub returns-clause-tokens : goal.returns-clause-tokens
returns-clause-tokens c =
    let was = c.args.writer.now.tokens in
    let first = key (codes "incomplete") in
    let incomplete = number_token c.args.incomplete in
    let second = key (codes "sent_late") in
    let sent_late = number_token c.args.sent_late in
    let third = key (codes "left_out") in
    let left_out = number_token c.args.left_out in
    let to_two : c.u64.new.self.tokens ≡ was ++ first ∷ incomplete ∷ [] = c.in_ok-u64.ensures.ok ∙ (ap (λ l. l ++ incomplete ∷ []) c.in_ok-key.ensures.ok ∙ append_assoc was (first ∷ []) (incomplete ∷ [])) in
    let to_three : c.key-2.new.self.tokens ≡ was ++ first ∷ incomplete ∷ second ∷ [] = c.in_ok-key-2.ensures.ok ∙ (ap (λ l. l ++ second ∷ []) to_two ∙ append_assoc was (first ∷ incomplete ∷ []) (second ∷ [])) in
    let to_four : c.u64-2.new.self.tokens ≡ was ++ first ∷ incomplete ∷ second ∷ sent_late ∷ [] = c.in_ok-u64-2.ensures.ok ∙ (ap (λ l. l ++ sent_late ∷ []) to_three ∙ append_assoc was (first ∷ incomplete ∷ second ∷ []) (sent_late ∷ [])) in
    let to_five : c.key-3.new.self.tokens ≡ was ++ first ∷ incomplete ∷ second ∷ sent_late ∷ third ∷ [] = c.in_ok-key-3.ensures.ok ∙ (ap (λ l. l ++ third ∷ []) to_four ∙ append_assoc was (first ∷ incomplete ∷ second ∷ sent_late ∷ []) (third ∷ [])) in
    let same : c.key-3.new.self.tokens ++ left_out ∷ [] ≡ was ++ first ∷ incomplete ∷ second ∷ sent_late ∷ third ∷ left_out ∷ [] = ap (λ l. l ++ left_out ∷ []) to_five ∙ append_assoc was (first ∷ incomplete ∷ second ∷ sent_late ∷ third ∷ []) (left_out ∷ []) in
    subst (λ l. OnOk c.u64-3.result (c.u64-3.new.self.tokens ≡ l)) same c.u64-3.ensures.ok
