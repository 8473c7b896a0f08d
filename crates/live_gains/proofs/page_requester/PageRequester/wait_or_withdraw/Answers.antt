use Rattle.live_gains.proofs.PageRequesterLemmas.{collects_later}
use Rattle.live_gains.proofs.page_requester.PageRequester.wait_or_withdraw.Goals as goal

pub returns : goal.returns
returns g c = collects_later _ _ _ _ c.in_default.ensures c.wait_for_outcome-2.ensures
