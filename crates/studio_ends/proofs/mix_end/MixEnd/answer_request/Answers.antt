use Rattle.std.proofs.Common.{refl}
use Rattle.studio_ends.specs.AcceptedFeeds.{accepted_feeds}
use Rattle.studio_ends.proofs.ChangedLemmas.{given_answered}
use Rattle.studio_ends.proofs.mix_end.MixEnd.answer_request.Goals as goal

pub returns-clause-given : goal.returns-clause-given
returns-clause-given c = λ studio datagrams given.
    given_answered studio c.args.self.now _ c.answer_request.result c.answer_request.new.gains datagrams refl
    (λ s number fed. c.answer_request.ensures.stands s (accepted_feeds s.streams c.args.self.now.sides.items) number fed)
    c.answer_request.ensures.later given
