use Rattle.std.proofs.lemmas.Grind.{common_steps, elements}
use Rattle.std.proofs.Common.{◌≡◌, ◌≤◌, ◌+◌, ◌++◌, None, Some, length, take, drop, slice_get, refl, sym, ap, subst, ◌∙◌, arith}
use Rattle.studio_mix.proofs.NextLemmas.{lent}
use Rattle.studio_session.specs.Cursor.{at_place}
use Rattle.studio_engine.specs.Cursors.{CursorsState, all_at}
use Rattle.studio_engine.specs.Engine.{AreIdle}
use Rattle.studio_engine.proofs.CursorsLemmas.{all_come, length_at, past_none, rest_at, rest_of, seen_at}
use Rattle.studio_engine.proofs.cursors.Cursors.push_datagram.Goals as goal

pub push_datagram-requires-clause-idle : goal.push_datagram-requires-clause-idle
push_datagram-requires-clause-idle c =
    let i = c.self.inside in
    subst AreIdle (sym c.as_mut_slice.ensures.value) (rest_of i.count i.cursors.items (subst AreIdle (sym (ap (λ (s : CursorsState). s.cursors) c.self.view_is)) c.requires.idle))

pub push_datagram-requires-clause-path : goal.push_datagram-requires-clause-path
push_datagram-requires-clause-path c = λ cursor at.
    let i = c.self.inside in
    let here = seen_at i.count i.cursors.items c.args.stream cursor (ap (λ l. slice_get l c.args.stream) (sym c.as_mut_slice.ensures.value) ∙ at) in
    c.requires.path (at_place i.count cursor) (subst (λ (s : CursorsState). slice_get s.cursors c.args.stream ≡ Some (at_place i.count cursor)) c.self.view_is here)

pub returns-in_err-outcome-clause-come : goal.returns-in_err-outcome-clause-come
returns-in_err-outcome-clause-come c = all_come c.self.inside.count _

pub returns-in_err-outcome-clause-none : goal.returns-in_err-outcome-clause-none
returns-in_err-outcome-clause-none c = λ none.
    let i = c.self.inside in
    let past = c.in_err-outcome.ensures.none refl in
    let value = ap length c.as_mut_slice.ensures.value in
    let long = length_at i.count i.cursors.items in
    let end : length (all_at i.count i.cursors.items) ≤ c.args.stream = omega (arith, past, value, long) in
    subst (λ (s : CursorsState). slice_get s.cursors c.args.stream ≡ None) c.self.view_is (past_none (all_at i.count i.cursors.items) c.args.stream end)

pub returns-clause-come : goal.returns-clause-come
returns-clause-come c = all_come (c.self.inside.count + 1) _

pub returns-clause-idle : goal.returns-clause-idle
returns-clause-idle c =
    let i = c.self.inside in
    let moved = c.push_datagram.new.cursors in
    let kept = take i.cursors.len (moved ++ drop (length moved) i.cursors.items) in
    let back : kept ≡ moved = lent i.cursors.len (length moved) moved i.cursors.items (c.push_datagram.auto.cursors ∙ c.as_mut_slice.ensures.len) in
    rest_at (i.count + 1) kept (subst AreIdle (sym back) c.push_datagram.ensures.idle)

pub invariant_of-self : goal.invariant_of-self
invariant_of-self c = grind (arith, elements)

pub invariant_of-self-2 : goal.invariant_of-self-2
invariant_of-self-2 c = grind (arith, elements)

pub returns-clause-handed : goal.returns-clause-handed
returns-clause-handed c = grind (arith, common_steps)
