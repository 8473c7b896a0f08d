use Rattle.std.proofs.lemmas.Grind.{elements}
use Rattle.std.proofs.Common.{refl, subst, to_z, of_z, w64, arith}
use Rattle.std.proofs.lemmas.Int.{to_z-of_z}
use Rattle.studio_mix.specs.Changed.{with_gains}
use Rattle.studio_mix.specs.Mixer.{HasFeeds}
use Rattle.studio_mix.proofs.ChangedLemmas.{both_ok}
use Rattle.studio_ends.specs.AcceptedFeeds.{accepted_feeds}
use Rattle.studio_ends.proofs.ChangedLemmas.{given_changed_at}
use Rattle.studio_ends.proofs.mix_end.MixEnd.change_gains.Goals as goal

pub returns-clause-given : goal.returns-clause-given
returns-clause-given c =
    both_ok c.change_gains.result _ _ _ (λ later stands studio datagrams given.
    given_changed_at studio c.args.self.now _ (to_z w64 (of_z w64 c.args.at)) c.args.at c.args.gains.now datagrams (to_z-of_z w64 c.args.at c.ranges.at) refl (λ s number fed. stands s (accepted_feeds s.streams c.args.self.now.sides.items) number fed) later given)
    c.change_gains.ensures.later c.change_gains.ensures.stands

pub returns-clause-fault : goal.returns-clause-fault
returns-clause-fault c = grind (arith, elements)

pub returns-clause-fine : goal.returns-clause-fine
returns-clause-fine c = grind (arith, elements)

pub returns-clause-stands : goal.returns-clause-stands
returns-clause-stands c =
    both_ok c.change_gains.result _ _ _ (λ later stands studio number fed.
    subst (λ t. HasFeeds (with_gains studio t c.args.gains.now) c.change_gains.new.self (accepted_feeds studio.streams c.args.self.now.sides.items) number) (to_z-of_z w64 c.args.at c.ranges.at)
    (stands studio (accepted_feeds studio.streams c.args.self.now.sides.items) number fed))
    c.change_gains.ensures.later c.change_gains.ensures.stands
