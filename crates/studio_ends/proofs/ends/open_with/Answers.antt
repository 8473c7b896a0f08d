use Rattle.std.proofs.lemmas.Grind.{elements}
use Rattle.std.proofs.Common.{◌≡◌, [], arith, false, true}
use Rattle.studio_ends.specs.FreshEnds.{AreOpened}
use Rattle.studio_ends.specs.OpenedChannels.{HaveChannels}
use Rattle.studio_ends.specs.Receivers.{HaveNoSender, HaveReceivers}
use Rattle.studio_ends.proofs.ReceiverLemmas.{ok-kept}
use Rattle.studio_ends.proofs.ends.open_with.Goals as goal

pub returns-clause-fault : goal.returns-clause-fault
returns-clause-fault c = grind (arith, elements)

pub returns-clause-opened : goal.returns-clause-opened
returns-clause-opened c = ok-kept (AreOpened c.args.studio.now c.args.ring_len) _ c.open_ends.result c.map_err.result c.map_err.ensures.cases c.open_ends.ensures.opened

pub returns-clause-places : goal.returns-clause-places
returns-clause-places c = grind (arith, elements)

pub returns-clause-receivers : goal.returns-clause-receivers
returns-clause-receivers c =
    ok-kept (λ ends. HaveChannels [] [] c.args.channels.now → c.args.channels.now.are_wanted ≡ true → HaveReceivers ends c.open_ends.new.channels.receivers) _ c.open_ends.result c.map_err.result
    c.map_err.ensures.cases c.open_ends.ensures.receivers

pub returns-clause-silent : goal.returns-clause-silent
returns-clause-silent c =
    ok-kept (λ ends. HaveChannels [] [] c.args.channels.now → c.args.channels.now.are_wanted ≡ false → HaveNoSender ends) _ c.open_ends.result c.map_err.result c.map_err.ensures.cases c.open_ends.ensures.silent
