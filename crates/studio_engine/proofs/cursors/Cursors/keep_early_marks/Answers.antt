use Rattle.std.proofs.lemmas.Grind.{common_steps, elements}
use Rattle.std.proofs.Common.{◌≡◌, ◌++◌, length, take, drop, ap, sym, subst, ◌∙◌, ℕ, List, arith}
use Rattle.studio_mix.proofs.NextLemmas.{lent}
use Rattle.studio_config.specs.Studio.{Studio}
use Rattle.studio_session.specs.Event.{TraceEvent}
use Rattle.studio_session.specs.Play.{HasPlayed, IsRunnableBy}
use Rattle.studio_engine.specs.Cursors.{AreBehind, CursorsState, all_at}
use Rattle.studio_engine.specs.Engine.{AreIdle, HaveCome}
use Rattle.studio_engine.proofs.CursorsLemmas.{all_come, at_come, behind_come, of_both}
use Rattle.studio_engine.proofs.cursors.Cursors.keep_early_marks.Goals as goal

pub invariant_of-self : goal.invariant_of-self
invariant_of-self c =
    let i = c.self.inside in
    let caught = c.catch_up.new.cursors in
    let long : length caught ≡ i.cursors.len = c.catch_up.auto.cursors ∙ c.as_mut_slice.ensures.len in
    let first : c.as_mut_slice-2.result.now ≡ caught = c.as_mut_slice-2.ensures.value ∙ lent i.cursors.len (length caught) caught i.cursors.items long in
    let start : c.as_mut_slice-2.result.now ≡ all_at i.count i.cursors.items = first ∙ c.catch_up.ensures ∙ ap (all_at i.count) c.as_mut_slice.ensures.value in
    let moved = c.keep_early_marks.new.cursors in
    let kept = take i.cursors.len (moved ++ drop (length moved) (take i.cursors.len (caught ++ drop (length caught) i.cursors.items))) in
    let back : kept ≡ moved = lent i.cursors.len (length moved) moved (take i.cursors.len (caught ++ drop (length caught) i.cursors.items)) (c.keep_early_marks.auto.cursors ∙ ap length first ∙ long) in
    let come : HaveCome i.count moved = c.keep_early_marks.ensures.come i.count (subst (HaveCome i.count) (sym start) (all_come i.count i.cursors.items)) in
    subst (AreBehind i.count) (sym back) (behind_come i.count moved come)

pub returns-clause-stands : goal.returns-clause-stands
returns-clause-stands c =
    let i = c.self.inside in
    let caught = c.catch_up.new.cursors in
    let long : length caught ≡ i.cursors.len = c.catch_up.auto.cursors ∙ c.as_mut_slice.ensures.len in
    let first : c.as_mut_slice-2.result.now ≡ caught = c.as_mut_slice-2.ensures.value ∙ lent i.cursors.len (length caught) caught i.cursors.items long in
    let start : c.as_mut_slice-2.result.now ≡ all_at i.count i.cursors.items = first ∙ c.catch_up.ensures ∙ ap (all_at i.count) c.as_mut_slice.ensures.value in
    let moved = c.keep_early_marks.new.cursors in
    let kept = take i.cursors.len (moved ++ drop (length moved) (take i.cursors.len (caught ++ drop (length caught) i.cursors.items))) in
    let back : kept ≡ moved = lent i.cursors.len (length moved) moved (take i.cursors.len (caught ++ drop (length caught) i.cursors.items)) (c.keep_early_marks.auto.cursors ∙ ap length first ∙ long) in
    let come : HaveCome i.count moved = c.keep_early_marks.ensures.come i.count (subst (HaveCome i.count) (sym start) (all_come i.count i.cursors.items)) in
    let from : c.as_mut_slice-2.result.now ≡ c.args.self.now.cursors = start ∙ ap (λ (s : CursorsState). s.cursors) c.self.view_is in
    let seen : moved ≡ all_at i.count kept = sym (ap (all_at i.count) back ∙ at_come i.count moved come) in
    of_both (λ before after. (studio : Studio) (events : List TraceEvent) (next : ℕ) → IsRunnableBy studio events → HasPlayed studio events (record { mixer = c.args.mixer.now; cursors = before }) next
    → HasPlayed studio events (record { mixer = c.keep_early_marks.new.mixer; cursors = after }) next)
    c.as_mut_slice-2.result.now c.args.self.now.cursors moved (all_at i.count kept) from seen c.keep_early_marks.ensures.stands

pub returns-clause-idle : goal.returns-clause-idle
returns-clause-idle c =
    let i = c.self.inside in
    let caught = c.catch_up.new.cursors in
    let long : length caught ≡ i.cursors.len = c.catch_up.auto.cursors ∙ c.as_mut_slice.ensures.len in
    let first : c.as_mut_slice-2.result.now ≡ caught = c.as_mut_slice-2.ensures.value ∙ lent i.cursors.len (length caught) caught i.cursors.items long in
    let start : c.as_mut_slice-2.result.now ≡ all_at i.count i.cursors.items = first ∙ c.catch_up.ensures ∙ ap (all_at i.count) c.as_mut_slice.ensures.value in
    let moved = c.keep_early_marks.new.cursors in
    let kept = take i.cursors.len (moved ++ drop (length moved) (take i.cursors.len (caught ++ drop (length caught) i.cursors.items))) in
    let back : kept ≡ moved = lent i.cursors.len (length moved) moved (take i.cursors.len (caught ++ drop (length caught) i.cursors.items)) (c.keep_early_marks.auto.cursors ∙ ap length first ∙ long) in
    let come : HaveCome i.count moved = c.keep_early_marks.ensures.come i.count (subst (HaveCome i.count) (sym start) (all_come i.count i.cursors.items)) in
    let seen : moved ≡ all_at i.count kept = sym (ap (all_at i.count) back ∙ at_come i.count moved come) in
    λ e. subst AreIdle seen (c.keep_early_marks.ensures.idle e)

pub returns-clause-come : goal.returns-clause-come
returns-clause-come c =
    let i = c.self.inside in
    let caught = c.catch_up.new.cursors in
    let long : length caught ≡ i.cursors.len = c.catch_up.auto.cursors ∙ c.as_mut_slice.ensures.len in
    let first : c.as_mut_slice-2.result.now ≡ caught = c.as_mut_slice-2.ensures.value ∙ lent i.cursors.len (length caught) caught i.cursors.items long in
    let start : c.as_mut_slice-2.result.now ≡ all_at i.count i.cursors.items = first ∙ c.catch_up.ensures ∙ ap (all_at i.count) c.as_mut_slice.ensures.value in
    let moved = c.keep_early_marks.new.cursors in
    let kept = take i.cursors.len (moved ++ drop (length moved) (take i.cursors.len (caught ++ drop (length caught) i.cursors.items))) in
    let back : kept ≡ moved = lent i.cursors.len (length moved) moved (take i.cursors.len (caught ++ drop (length caught) i.cursors.items)) (c.keep_early_marks.auto.cursors ∙ ap length first ∙ long) in
    let come : HaveCome i.count moved = c.keep_early_marks.ensures.come i.count (subst (HaveCome i.count) (sym start) (all_come i.count i.cursors.items)) in
    all_come i.count kept

pub returns-clause-cursors : goal.returns-clause-cursors
returns-clause-cursors c = grind (arith, elements)

pub returns-clause-all : goal.returns-clause-all
returns-clause-all c = grind (arith, common_steps)
