use Rattle.std.proofs.lemmas.Grind.{elements}
use Rattle.std.proofs.Common.{[], ◌∷◌, ◌++◌, inr, refl, sym, ap, ◌∙◌, arith}
use Rattle.rtrb.specs.Ring.{received}
use Rattle.live_gains.proofs.run_gains.RunGains.take_next.Goals as goal

pub returns-in-Ok-admit-clause-opens : goal.returns-in-Ok-admit-clause-opens
returns-in-Ok-admit-clause-opens g c = record {
  message = c.in-Ok-admit.message;
  came = c.in-Ok.ensures.ok.0 ∙ ap (λ l. received c.args.self.now.requests ++ l ∷ []) (sym c.in-Ok-admit.ensures.only.0);
  taken = refl;
  asked = refl;
  gains = c.in-Ok-admit.ensures.gains;
  sent_are = c.is_full.ensures.looked.1;
}

pub returns-in-Err-clause-none : goal.returns-in-Err-clause-none
returns-in-Err-clause-none g c = λ none.
    inr (record {
      message = c.in-Ok.message;
      outcome = c.in-Err.outcome;
      came = c.in-Ok.ensures.ok.0;
      is = c.in-Err.ensures.returned;
      taken = refl;
      sent_are = c.push_reserved.ensures.sent.0 ∙ ap (λ l. l ++ c.in-Err.outcome ∷ []) c.is_full.ensures.looked.1;
    })

pub invariant_of-self-in-Err : goal.invariant_of-self-in-Err
invariant_of-self-in-Err c = grind (arith, elements)

pub returns-in_default-clause-none : goal.returns-in_default-clause-none
returns-in_default-clause-none c = grind (arith, elements)

pub returns-in-Ok-admit-clause-none : goal.returns-in-Ok-admit-clause-none
returns-in-Ok-admit-clause-none c = grind (arith, elements)

pub invariant_of-self-in-Ok-admit : goal.invariant_of-self-in-Ok-admit
invariant_of-self-in-Ok-admit c = grind (arith, elements)
