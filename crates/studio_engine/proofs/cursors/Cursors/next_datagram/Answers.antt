use Rattle.std.proofs.lemmas.Grind.{elements}
use Rattle.std.proofs.Common.{◌≡◌, ◌++◌, length, take, drop, ap, sym, subst, ◌∙◌, ℕ, List, None, IfSome, arith}
use Rattle.studio_mix.proofs.NextLemmas.{lent}
use Rattle.studio_config.specs.Studio.{Studio}
use Rattle.studio_session.specs.Event.{TraceEvent}
use Rattle.studio_session.specs.Play.{IsRunnableBy}
use Rattle.studio_session.specs.PushedEvents.{HaveTaken}
use Rattle.studio_session.specs.Run.{HasGivenBlocks}
use Rattle.studio_engine.specs.Cursors.{AreBehind, CursorsState, all_at}
use Rattle.studio_engine.specs.Engine.{AreIdle, HaveCome}
use Rattle.studio_engine.specs.Give.{GivesBlock, HasNoBlock}
use Rattle.studio_engine.proofs.CursorsLemmas.{all_come, at_come, behind_come, of_both}
use Rattle.studio_engine.proofs.cursors.Cursors.next_datagram.Goals as goal

pub invariant_of-self : goal.invariant_of-self
invariant_of-self c =
    let i = c.self.inside in
    let caught = c.catch_up.new.cursors in
    let long : length caught ≡ i.cursors.len = c.catch_up.auto.cursors ∙ c.as_mut_slice.ensures.len in
    let first : c.as_mut_slice-2.result.now ≡ caught = c.as_mut_slice-2.ensures.value ∙ lent i.cursors.len (length caught) caught i.cursors.items long in
    let start : c.as_mut_slice-2.result.now ≡ all_at i.count i.cursors.items = first ∙ c.catch_up.ensures ∙ ap (all_at i.count) c.as_mut_slice.ensures.value in
    let moved = c.next_datagram.new.cursors in
    let kept = take i.cursors.len (moved ++ drop (length moved) (take i.cursors.len (caught ++ drop (length caught) i.cursors.items))) in
    let back : kept ≡ moved = lent i.cursors.len (length moved) moved (take i.cursors.len (caught ++ drop (length caught) i.cursors.items)) (c.next_datagram.auto.cursors ∙ ap length first ∙ long) in
    let come : HaveCome i.count moved = c.next_datagram.ensures.come i.count (subst (HaveCome i.count) (sym start) (all_come i.count i.cursors.items)) in
    subst (AreBehind i.count) (sym back) (behind_come i.count moved come)

pub returns-clause-some : goal.returns-clause-some
returns-clause-some c =
    let i = c.self.inside in
    let caught = c.catch_up.new.cursors in
    let long : length caught ≡ i.cursors.len = c.catch_up.auto.cursors ∙ c.as_mut_slice.ensures.len in
    let first : c.as_mut_slice-2.result.now ≡ caught = c.as_mut_slice-2.ensures.value ∙ lent i.cursors.len (length caught) caught i.cursors.items long in
    let start : c.as_mut_slice-2.result.now ≡ all_at i.count i.cursors.items = first ∙ c.catch_up.ensures ∙ ap (all_at i.count) c.as_mut_slice.ensures.value in
    let moved = c.next_datagram.new.cursors in
    let kept = take i.cursors.len (moved ++ drop (length moved) (take i.cursors.len (caught ++ drop (length caught) i.cursors.items))) in
    let back : kept ≡ moved = lent i.cursors.len (length moved) moved (take i.cursors.len (caught ++ drop (length caught) i.cursors.items)) (c.next_datagram.auto.cursors ∙ ap length first ∙ long) in
    let come : HaveCome i.count moved = c.next_datagram.ensures.come i.count (subst (HaveCome i.count) (sym start) (all_come i.count i.cursors.items)) in
    let from : c.as_mut_slice-2.result.now ≡ c.args.self.now.cursors = start ∙ ap (λ (s : CursorsState). s.cursors) c.self.view_is in
    let seen : moved ≡ all_at i.count kept = sym (ap (all_at i.count) back ∙ at_come i.count moved come) in
    of_both (λ before after. IfSome c.next_datagram.result (λ len. (studio : Studio) (events : List TraceEvent) (datagrams : List (List ℕ)) → IsRunnableBy studio events → HaveTaken events before
    → HasGivenBlocks studio events (record { mixer = c.args.mixer.now; cursors = before }) datagrams
    → GivesBlock studio events (record { mixer = c.next_datagram.new.mixer; cursors = after }) datagrams c.args.out.now c.next_datagram.new.out len))
    c.as_mut_slice-2.result.now c.args.self.now.cursors moved (all_at i.count kept) from seen c.next_datagram.ensures.some

pub returns-clause-none : goal.returns-clause-none
returns-clause-none c =
    let i = c.self.inside in
    let caught = c.catch_up.new.cursors in
    let long : length caught ≡ i.cursors.len = c.catch_up.auto.cursors ∙ c.as_mut_slice.ensures.len in
    let first : c.as_mut_slice-2.result.now ≡ caught = c.as_mut_slice-2.ensures.value ∙ lent i.cursors.len (length caught) caught i.cursors.items long in
    let start : c.as_mut_slice-2.result.now ≡ all_at i.count i.cursors.items = first ∙ c.catch_up.ensures ∙ ap (all_at i.count) c.as_mut_slice.ensures.value in
    let moved = c.next_datagram.new.cursors in
    let kept = take i.cursors.len (moved ++ drop (length moved) (take i.cursors.len (caught ++ drop (length caught) i.cursors.items))) in
    let back : kept ≡ moved = lent i.cursors.len (length moved) moved (take i.cursors.len (caught ++ drop (length caught) i.cursors.items)) (c.next_datagram.auto.cursors ∙ ap length first ∙ long) in
    let come : HaveCome i.count moved = c.next_datagram.ensures.come i.count (subst (HaveCome i.count) (sym start) (all_come i.count i.cursors.items)) in
    let from : c.as_mut_slice-2.result.now ≡ c.args.self.now.cursors = start ∙ ap (λ (s : CursorsState). s.cursors) c.self.view_is in
    let seen : moved ≡ all_at i.count kept = sym (ap (all_at i.count) back ∙ at_come i.count moved come) in
    of_both (λ before after. c.next_datagram.result ≡ None → (studio : Studio) (events : List TraceEvent) (datagrams : List (List ℕ)) → IsRunnableBy studio events → HaveTaken events before
    → HasGivenBlocks studio events (record { mixer = c.args.mixer.now; cursors = before }) datagrams
    → HasNoBlock studio events (record { mixer = c.next_datagram.new.mixer; cursors = after }) datagrams)
    c.as_mut_slice-2.result.now c.args.self.now.cursors moved (all_at i.count kept) from seen c.next_datagram.ensures.none

pub returns-clause-idle : goal.returns-clause-idle
returns-clause-idle c =
    let i = c.self.inside in
    let caught = c.catch_up.new.cursors in
    let long : length caught ≡ i.cursors.len = c.catch_up.auto.cursors ∙ c.as_mut_slice.ensures.len in
    let first : c.as_mut_slice-2.result.now ≡ caught = c.as_mut_slice-2.ensures.value ∙ lent i.cursors.len (length caught) caught i.cursors.items long in
    let start : c.as_mut_slice-2.result.now ≡ all_at i.count i.cursors.items = first ∙ c.catch_up.ensures ∙ ap (all_at i.count) c.as_mut_slice.ensures.value in
    let moved = c.next_datagram.new.cursors in
    let kept = take i.cursors.len (moved ++ drop (length moved) (take i.cursors.len (caught ++ drop (length caught) i.cursors.items))) in
    let back : kept ≡ moved = lent i.cursors.len (length moved) moved (take i.cursors.len (caught ++ drop (length caught) i.cursors.items)) (c.next_datagram.auto.cursors ∙ ap length first ∙ long) in
    let come : HaveCome i.count moved = c.next_datagram.ensures.come i.count (subst (HaveCome i.count) (sym start) (all_come i.count i.cursors.items)) in
    let from : c.as_mut_slice-2.result.now ≡ c.args.self.now.cursors = start ∙ ap (λ (s : CursorsState). s.cursors) c.self.view_is in
    let seen : moved ≡ all_at i.count kept = sym (ap (all_at i.count) back ∙ at_come i.count moved come) in
    of_both (λ before after. AreIdle before → AreIdle after) c.as_mut_slice-2.result.now c.args.self.now.cursors moved (all_at i.count kept) from seen c.next_datagram.ensures.idle

pub returns-clause-come : goal.returns-clause-come
returns-clause-come c =
    let i = c.self.inside in
    let caught = c.catch_up.new.cursors in
    let long : length caught ≡ i.cursors.len = c.catch_up.auto.cursors ∙ c.as_mut_slice.ensures.len in
    let first : c.as_mut_slice-2.result.now ≡ caught = c.as_mut_slice-2.ensures.value ∙ lent i.cursors.len (length caught) caught i.cursors.items long in
    let start : c.as_mut_slice-2.result.now ≡ all_at i.count i.cursors.items = first ∙ c.catch_up.ensures ∙ ap (all_at i.count) c.as_mut_slice.ensures.value in
    let moved = c.next_datagram.new.cursors in
    let kept = take i.cursors.len (moved ++ drop (length moved) (take i.cursors.len (caught ++ drop (length caught) i.cursors.items))) in
    let back : kept ≡ moved = lent i.cursors.len (length moved) moved (take i.cursors.len (caught ++ drop (length caught) i.cursors.items)) (c.next_datagram.auto.cursors ∙ ap length first ∙ long) in
    let come : HaveCome i.count moved = c.next_datagram.ensures.come i.count (subst (HaveCome i.count) (sym start) (all_come i.count i.cursors.items)) in
    all_come i.count kept

pub returns-clause-cursors : goal.returns-clause-cursors
returns-clause-cursors c = grind (arith, elements)
