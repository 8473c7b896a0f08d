use Rattle.std.proofs.Common.{◌++◌, ◌∷◌, [], subst}
use Rattle.lane_align.specs.Lane.{HasFeed}
use Rattle.lane_align.proofs.lane.Lane.feed.Goals as goal

pub returns-clause-stands : goal.returns-clause-stands
returns-clause-stands c = λ stream from size marks t fed.
    subst (λ m. HasFeed stream from size c.feed_ref.new.self (marks ++ m ∷ []) t) c.as_ref.ensures (c.feed_ref.ensures.stands stream from size marks t fed)
