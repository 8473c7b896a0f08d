use Rattle.std.proofs.lemmas.Grind.{elements}
use Rattle.std.proofs.Common.{◌≡◌, ◌++◌, length, take, drop, ap, sym, subst, ◌∙◌, ◌+◌, arith}
use Rattle.studio_mix.proofs.NextLemmas.{lent}
use Rattle.studio_session.specs.Event.{Closing}
use Rattle.studio_session.specs.PushedEvents.{AreHanded}
use Rattle.studio_engine.specs.Cursors.{CursorsState, all_at}
use Rattle.studio_engine.specs.Engine.{AreIdle, HaveCome}
use Rattle.studio_engine.proofs.CursorsLemmas.{all_come, at_come, of_both}
use Rattle.studio_engine.proofs.cursors.Cursors.push_close.Goals as goal

pub returns-clause-handed : goal.returns-clause-handed
returns-clause-handed c =
    let i = c.self.inside in
    let caught = c.catch_up.new.cursors in
    let long : length caught ≡ i.cursors.len = c.catch_up.auto.cursors ∙ c.as_mut_slice.ensures.len in
    let first : c.as_mut_slice-2.result.now ≡ caught = c.as_mut_slice-2.ensures.value ∙ lent i.cursors.len (length caught) caught i.cursors.items long in
    let start : c.as_mut_slice-2.result.now ≡ all_at i.count i.cursors.items = first ∙ c.catch_up.ensures ∙ ap (all_at i.count) c.as_mut_slice.ensures.value in
    let moved = c.push_close.new.cursors in
    let kept = take i.cursors.len (moved ++ drop (length moved) (take i.cursors.len (caught ++ drop (length caught) i.cursors.items))) in
    let back : kept ≡ moved = lent i.cursors.len (length moved) moved (take i.cursors.len (caught ++ drop (length caught) i.cursors.items)) (c.push_close.auto.cursors ∙ ap length first ∙ long) in
    let come : HaveCome (i.count + 1) moved = c.push_close.ensures.come in
    let from : c.as_mut_slice-2.result.now ≡ c.args.self.now.cursors = start ∙ ap (λ (s : CursorsState). s.cursors) c.self.view_is in
    let seen : moved ≡ all_at (i.count + 1) kept = sym (ap (all_at (i.count + 1)) back ∙ at_come (i.count + 1) moved come) in
    of_both (λ before after. AreHanded (Closing) before after (length before)) c.as_mut_slice-2.result.now c.args.self.now.cursors moved (all_at (i.count + 1) kept) from seen c.push_close.ensures.handed

pub returns-clause-come : goal.returns-clause-come
returns-clause-come c =
    let i = c.self.inside in
    let caught = c.catch_up.new.cursors in
    let long : length caught ≡ i.cursors.len = c.catch_up.auto.cursors ∙ c.as_mut_slice.ensures.len in
    let first : c.as_mut_slice-2.result.now ≡ caught = c.as_mut_slice-2.ensures.value ∙ lent i.cursors.len (length caught) caught i.cursors.items long in
    let start : c.as_mut_slice-2.result.now ≡ all_at i.count i.cursors.items = first ∙ c.catch_up.ensures ∙ ap (all_at i.count) c.as_mut_slice.ensures.value in
    let moved = c.push_close.new.cursors in
    let kept = take i.cursors.len (moved ++ drop (length moved) (take i.cursors.len (caught ++ drop (length caught) i.cursors.items))) in
    let back : kept ≡ moved = lent i.cursors.len (length moved) moved (take i.cursors.len (caught ++ drop (length caught) i.cursors.items)) (c.push_close.auto.cursors ∙ ap length first ∙ long) in
    let come : HaveCome (i.count + 1) moved = c.push_close.ensures.come in
    all_come (i.count + 1) kept

pub returns-clause-idle : goal.returns-clause-idle
returns-clause-idle c =
    let i = c.self.inside in
    let caught = c.catch_up.new.cursors in
    let long : length caught ≡ i.cursors.len = c.catch_up.auto.cursors ∙ c.as_mut_slice.ensures.len in
    let first : c.as_mut_slice-2.result.now ≡ caught = c.as_mut_slice-2.ensures.value ∙ lent i.cursors.len (length caught) caught i.cursors.items long in
    let start : c.as_mut_slice-2.result.now ≡ all_at i.count i.cursors.items = first ∙ c.catch_up.ensures ∙ ap (all_at i.count) c.as_mut_slice.ensures.value in
    let moved = c.push_close.new.cursors in
    let kept = take i.cursors.len (moved ++ drop (length moved) (take i.cursors.len (caught ++ drop (length caught) i.cursors.items))) in
    let back : kept ≡ moved = lent i.cursors.len (length moved) moved (take i.cursors.len (caught ++ drop (length caught) i.cursors.items)) (c.push_close.auto.cursors ∙ ap length first ∙ long) in
    let come : HaveCome (i.count + 1) moved = c.push_close.ensures.come in
    let seen : moved ≡ all_at (i.count + 1) kept = sym (ap (all_at (i.count + 1)) back ∙ at_come (i.count + 1) moved come) in
    subst AreIdle seen c.push_close.ensures.idle

pub invariant_of-self : goal.invariant_of-self
invariant_of-self c = grind (arith, elements)

pub push_close-requires-clause-come : goal.push_close-requires-clause-come
push_close-requires-clause-come c = grind (arith, elements)
