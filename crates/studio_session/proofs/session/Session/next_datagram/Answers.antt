use Rattle.std.proofs.lemmas.Grind.{elements, common_steps}
use Rattle.std.proofs.Common.{◌≤◌, ◌∙◌, length, sym, subst, arith}
use Rattle.studio_mix.proofs.NextLemmas.{lent}
use Rattle.studio_session.specs.Play.{HasFilled, HasPlayed}
use Rattle.studio_session.proofs.SessionLemmas.{gives, ready_same}
use Rattle.studio_session.proofs.session.Session.next_datagram.Goals as goal

pub returns-clause-given : goal.returns-clause-given
returns-clause-given g c = λ studio next run played.
    let events = g.E.EventSource.events c.args.source.now in
    let i = c.self.inside in
    let was : HasPlayed studio events (record { mixer = i.mixer; cursors = c.as_mut_slice.result.now }) next =
    subst (λ l. HasPlayed studio events (record { mixer = i.mixer; cursors = l }) next) (sym c.as_mut_slice.ensures.value)
    (subst (λ s. HasPlayed studio events s next) (sym c.self.view_is) played) in
    let count = length c.as_mut_slice.result.now in
    let filled : HasFilled studio events (record { mixer = c.fill.new.mixer; cursors = c.fill.new.cursors }) next count = c.fill.ensures.stands studio next run was in
    let all : length c.fill.new.cursors ≤ count = omega (arith, c.fill.auto.cursors) in
    c.next_block.ensures.ready studio filled.played.feeds next filled.played.fed
    ∙ ready_same studio events (record { mixer = c.fill.new.mixer; cursors = c.fill.new.cursors }) next count run filled all

pub returns-clause-some : goal.returns-clause-some
returns-clause-some g c =
    let events = g.E.EventSource.events c.args.source.now in
    let i = c.self.inside in
    let count = length c.as_mut_slice.result.now in
    let all : length c.fill.new.cursors ≤ count = omega (arith, c.fill.auto.cursors) in
    let back = lent i.cursors.len (length c.fill.new.cursors) c.fill.new.cursors i.cursors.items (c.fill.auto.cursors ∙ c.as_mut_slice.ensures.len) in
    gives events c.args.self.now c.fill.new.mixer c.next_block.new.self c.fill.new.cursors _ count c.args.out.now c.next_block.new.out c.next_block.result
    back all
    (λ studio next run played. c.fill.ensures.stands studio next run
    (subst (λ l. HasPlayed studio events (record { mixer = i.mixer; cursors = l }) next) (sym c.as_mut_slice.ensures.value)
    (subst (λ s. HasPlayed studio events s next) (sym c.self.view_is) played)))
    (λ studio feeds next fed. c.next_block.ensures.ready studio feeds next fed)
    c.next_block.ensures.some

pub invariant_of-self : goal.invariant_of-self
invariant_of-self c = grind (arith, elements)

pub returns-clause-ready : goal.returns-clause-ready
returns-clause-ready c = grind (arith, elements)

pub fill-requires-clause-ready : goal.fill-requires-clause-ready
fill-requires-clause-ready c = grind (arith, elements)

pub returns-clause-none : goal.returns-clause-none
returns-clause-none c = grind (arith, common_steps)
