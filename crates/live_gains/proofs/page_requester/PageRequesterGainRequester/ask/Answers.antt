use Rattle.std.proofs.lemmas.Grind.{elements}
use Rattle.std.proofs.Common.{arith}
use Rattle.live_gains.proofs.PageRequesterLemmas.{asked, not_answered}
use Rattle.live_gains.proofs.page_requester.PageRequesterGainRequester.ask.Goals as goal

pub returns-in_default : goal.returns-in_default
returns-in_default g c =
    not_answered c.args.request c.args.gains.now c.args.self.now c.wait_for_memory.new.self c.send.new.self c.wait_or_withdraw.new.self
    c.wait_for_memory.ensures c.if-not-send.ensures.sent c.in_default.ensures

pub returns : goal.returns
returns g c =
    asked c.args.request c.args.gains.now c.show.new.gains c.in-Some.outcome c.args.self.now c.wait_for_memory.new.self c.send.new.self c.wait_or_withdraw.new.self
    c.wait_for_memory.ensures c.if-not-send.ensures.sent c.in-Some.ensures c.show.ensures

pub returns-then-not-wait_for_memory : goal.returns-then-not-wait_for_memory
returns-then-not-wait_for_memory c = grind (arith, elements)
