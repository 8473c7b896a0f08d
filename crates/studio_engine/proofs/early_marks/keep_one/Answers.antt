use Rattle.std.specs.Prelude.{IfSome}
use Rattle.std.proofs.Common.{◌≡◌, true, sym, subst, ◌∙◌}
use Rattle.std.proofs.lemmas.Bool.{false≢true}
use Rattle.studio_mix.specs.Mixer.{has_space_of}
use Rattle.studio_session.specs.Play.{TakesMark}
use Rattle.studio_engine.proofs.early_marks.keep_one.Goals as goal

pub returns-clause-stands : goal.returns-clause-stands
returns-clause-stands c = λ yes.
    subst (λ o. IfSome o (TakesMark c.args.mixer.now c.keep_ref.new.self c.args.stream)) (sym c.in-Some.is)
    (λ studio feeds next feed fed at list. c.keep_ref.ensures.stands studio feeds next feed fed at)

pub returns-then-not-accepts_ref-clause-stands : goal.returns-then-not-accepts_ref-clause-stands
returns-then-not-accepts_ref-clause-stands c = λ yes.
    subst (λ o. IfSome o (TakesMark c.args.mixer.now c.args.mixer.now c.args.stream)) (sym c.in-Some.is)
    (λ studio feeds next feed fed at list. absurd (false≢true (sym c.if-not-accepts_ref.true ∙ c.accepts_ref.ensures.stands studio feeds next feed fed at ∙ list)))

pub returns-then-not-has_space-clause-space : goal.returns-then-not-has_space-clause-space
returns-then-not-has_space-clause-space c = λ space.
    sym c.if-not-has_space.true ∙ c.has_space.ensures.value
    ∙ subst (λ o. IfSome o (λ m. has_space_of c.args.mixer.now c.args.stream m ≡ true)) c.in-Some.is space
