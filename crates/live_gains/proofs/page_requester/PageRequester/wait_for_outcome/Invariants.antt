use Rattle.live_gains.specs.PageRequester.{CollectsNone}
use Rattle.live_gains.proofs.page_requester.PageRequester.wait_for_outcome.Given as goal

-- nothing has come back yet
abbrev pub invariant-loop : goal.invariant-loop
invariant-loop g l = CollectsNone l.fn.self l.self
