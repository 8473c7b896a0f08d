use Rattle.std.proofs.Common.{◌≡◌, ◌∙◌, arith, rules}
use Rattle.studio_ends.proofs.TurnLemmas.{producers}
use Rattle.studio_rings.proofs.FeedLemmas.{offers-lost, offers-then}
use Rattle.studio_rings.proofs.worker.path.offer_until_taken.Goals as goal

pub returns-clause-offers : goal.returns-clause-offers
returns-clause-offers g c _ =
    let i = c.loop.invariant in
    let after = c.loop-test.false in
    let until = c.loop.auto.counter-end in
    let full = i.full in
    let tries : c.loop.counter ≡ 1001 = omega (arith, after, until) in
    offers-lost c.args.datagram.now c.args.end.now c.loop.end i.ring i.spec i.same (i.packet (omega (arith, tries))) (omega (arith, full, tries)) i.bad i.wrong_type i.wrong_length i.offered (let few = i.few in omega (arith, few, tries))

pub returns-then-ne-clause-offers : goal.returns-then-ne-clause-offers
returns-then-ne-clause-offers g c _ =
    let i = c.loop.invariant in
    let full = i.full in
    let few = i.few in
    let before = c.loop-test.true in
    offers-then c.args.datagram.now c.args.end.now c.loop.end c.offer.new.self c.offer.result
    (record { spec = i.spec; same = i.same; full = omega (arith, full); bad = i.bad; wrong_type = i.wrong_type; wrong_length = i.wrong_length; offered = i.offered; few = omega (arith, few, before) })
    (producers c.args.end.now.ring c.loop.end.ring c.offer.new.self.ring i.ring c.offer.ensures.ring) (c.offer.ensures.spec ∙ i.spec) (search rules) c.offer.ensures.answer
