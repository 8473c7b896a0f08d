use Rattle.std.specs.Prelude.{IfSome}
use Rattle.std.proofs.Common.{sym, subst, ◌∙◌}
use Rattle.std.proofs.lemmas.Bool.{false≢true}
use Rattle.studio_session.specs.Play.{TakesMark}
use Rattle.studio_session.proofs.feed_mixer.hand_on.Goals as goal

pub returns-then-accepts_ref-clause-stands : goal.returns-then-accepts_ref-clause-stands
returns-then-accepts_ref-clause-stands c =
    subst (λ o. IfSome o (TakesMark c.args.mixer.now c.feed_ref.new.self c.args.stream)) (sym c.in-Some.is)
    (λ studio feeds next feed fed at list. c.feed_ref.ensures.stands studio feeds next feed fed at)

pub returns-else-accepts_ref-clause-stands : goal.returns-else-accepts_ref-clause-stands
returns-else-accepts_ref-clause-stands c =
    subst (λ o. IfSome o (TakesMark c.args.mixer.now c.args.mixer.now c.args.stream)) (sym c.in-Some.is)
    (λ studio feeds next feed fed at list. absurd (false≢true (sym c.if-accepts_ref.false ∙ c.accepts_ref.ensures.stands studio feeds next feed fed at ∙ list)))
