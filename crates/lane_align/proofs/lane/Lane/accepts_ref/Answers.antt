use Rattle.std.proofs.Common.{◌≡◌, ◌∙◌, rules}
use Rattle.lane_align.specs.Lane.{is_next}
use Rattle.lane_align.proofs.LaneLemmas.{fed_next}
use Rattle.lane_align.proofs.lane.Lane.accepts_ref.Goals as goal

pub returns-then-is_same_format-clause-stands : goal.returns-then-is_same_format-clause-stands
returns-then-is_same_format-clause-stands c = λ stream from size marks t fed.
    let value : c.may_follow.result ≡ is_next c.args.self.now c.args.mark.now = search rules in
    value ∙ fed_next stream from size c.args.self.now marks t c.args.mark.now fed

pub returns-else-is_same_format-clause-stands : goal.returns-else-is_same_format-clause-stands
returns-else-is_same_format-clause-stands c = λ stream from size marks t fed.
    let value : c.is_same_format.result ≡ is_next c.args.self.now c.args.mark.now = search rules in
    value ∙ fed_next stream from size c.args.self.now marks t c.args.mark.now fed
