use Rattle.std.proofs.lemmas.Grind.{elements}
use Rattle.std.proofs.Common.{rules, refl, arith}
use Rattle.live_gains.proofs.page_requester.PageRequester.send.Goals as goal

pub returns-in-Ok : goal.returns-in-Ok
returns-in-Ok g c = record {
  sent = record {
    message = _;
    sent_are = c.in-Ok.ensures.ok.0;
    asked = refl;
    carried = search rules;
    own = c.args.self.now.counted;
    received_are = refl;
    away = c.take.ensures.after;
  };
}

pub invariant_of-self-in-Err-Full : goal.invariant_of-self-in-Err-Full
invariant_of-self-in-Err-Full c = grind (arith, elements)

pub invariant_of-self-then-is_err : goal.invariant_of-self-then-is_err
invariant_of-self-then-is_err c = grind (arith, elements)

pub invariant_of-self-in-Ok : goal.invariant_of-self-in-Ok
invariant_of-self-in-Ok c = grind (arith, elements)
