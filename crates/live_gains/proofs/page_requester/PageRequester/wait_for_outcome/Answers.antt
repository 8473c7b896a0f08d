use Rattle.std.proofs.Common.{◌∙◌}
use Rattle.live_gains.proofs.PageRequesterLemmas.{one_later}
use Rattle.live_gains.proofs.page_requester.PageRequester.wait_for_outcome.Goals as goal

pub returns-in-Some-collect : goal.returns-in-Some-collect
returns-in-Some-collect g c =
    one_later _ _ _ _ (c.is_abandoned-is_over.ensures.1 ∙ c.loop.invariant.received_are) c.loop.invariant.sent_are c.in-Some-collect.ensures
