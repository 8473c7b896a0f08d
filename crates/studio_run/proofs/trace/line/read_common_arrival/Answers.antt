use Rattle.std.proofs.Common.{sym, ◌∙◌}
use Rattle.studio_run.proofs.CommonLineLemmas.{common_said, common_last}
use Rattle.studio_run.proofs.trace.line.read_common_arrival.Goals as goal

pub returns-clause-said : goal.returns-clause-said
returns-clause-said c =
    common_said c.args.line.now c.in_ok-letter.letter c.in_ok-letter.digit c.in_ok-stream.stream c.in_ok-path.path c.in_ok-letter.digits.now
    c.in_ok-letter.ensures (sym c.path_by.ensures ∙ c.in_ok-path.was) c.in_ok-stream.ensures.digit c.in_ok-stream.ensures.small (sym c.spells_octets.ensures ∙ c.if-not-spells_octets.false)

pub returns-clause-last : goal.returns-clause-last
returns-clause-last c =
    common_last c.args.line.now c.in_ok-letter.letter c.in_ok-letter.digit c.in_ok-letter.digits.now c.in_ok-letter.ensures (sym c.spells_octets.ensures ∙ c.if-not-spells_octets.false)
