use Rattle.std.proofs.Common.{◌≡◌, ◌^◌, ◌<◌, rules, true, false, Some, None, arith, ap, sym, subst, ◌∙◌}
use Rattle.rtp_stream.specs.PacketRef.{packet_of}
use Rattle.path_merge.specs.MergeState.{MergeState, IsSound}
use Rattle.path_merge.proofs.OfferLemmas.{counted_anchored, kept_anchored, offers_anchored, refused_anchored}
use Rattle.path_merge.proofs.FirstLemmas.{offers_first, refused_first}
use Rattle.path_merge.proofs.SoundLemmas.{paths_few}
use Rattle.path_merge.proofs.UncountedOfferLemmas.{offers_closed, offers_full}
use Rattle.path_merge.proofs.merge.Merge.offer_ref.Goals as goal

pub returns-then-self-clause-stands : goal.returns-then-self-clause-stands
returns-then-self-clause-stands g c = λ stream open_at events k at.
    let shut : c.args.self.now.closed ≡ true = ap (λ (m : MergeState). m.closed) (sym c.self.view_is) ∙ c.if-self.true in
    offers_closed stream open_at c.args.self.now events k at shut c.args.path (packet_of c.args.packet)

pub returns-then-self-eq-MAX_ARRIVALS-clause-stands : goal.returns-then-self-eq-MAX_ARRIVALS-clause-stands
returns-then-self-eq-MAX_ARRIVALS-clause-stands g c = λ stream open_at events k at.
    let open_yet : c.args.self.now.closed ≡ false = ap (λ (m : MergeState). m.closed) (sym c.self.view_is) ∙ c.if-self.false in
    let full : c.args.self.now.counts.arrived ≡ 2 ^ 62 = ap (λ (m : MergeState). m.counts.arrived) (sym c.self.view_is) ∙ c.if-self-eq-MAX_ARRIVALS.true in
    offers_full stream open_at c.args.self.now events k at open_yet full c.args.path (packet_of c.args.packet)

pub returns-in-Some-clause-stands : goal.returns-in-Some-clause-stands
returns-in-Some-clause-stands g c = λ stream open_at events k at.
    let seq : (packet_of c.args.packet).seq < 2 ^ 16 = search rules in
    let ts : (packet_of c.args.packet).ts < 2 ^ 32 = search rules in
    let sound : IsSound c.args.self.now c.self.inside.next_media = subst (λ m. IsSound m c.self.inside.next_media) c.self.view_is c.self.invariant in
    let open_yet : c.args.self.now.closed ≡ false = ap (λ (m : MergeState). m.closed) (sym c.self.view_is) ∙ c.if-self.false in
    let space : c.args.self.now.counts.arrived < 2 ^ 62 = omega (arith, ap (λ (m : MergeState). m.counts.arrived) c.self.view_is, c.if-self-eq-MAX_ARRIVALS.false, sound.few_arrived) in
    let is_a : c.args.self.now.anchor ≡ Some c.in-Some.anchor = ap (λ (m : MergeState). m.anchor) (sym c.self.view_is) ∙ c.in-Some.is in
    offers_anchored c.args.self.now c.offer_next.new.self c.in-Some.anchor c.args.path (packet_of c.args.packet) c.offer_next.result c.offer_next.ensures.next c.offer_next.ensures.restart stream open_at c.self.inside.next_media sound open_yet events k at space is_a (paths_few c.args.self.now c.self.inside.next_media sound c.args.path c.requires.path) seq ts

pub returns-in-None-clause-stands : goal.returns-in-None-clause-stands
returns-in-None-clause-stands g c = λ stream open_at events k at.
    let sound : IsSound c.args.self.now c.self.inside.next_media = subst (λ m. IsSound m c.self.inside.next_media) c.self.view_is c.self.invariant in
    let open_yet : c.args.self.now.closed ≡ false = ap (λ (m : MergeState). m.closed) (sym c.self.view_is) ∙ c.if-self.false in
    let space : c.args.self.now.counts.arrived < 2 ^ 62 = omega (arith, ap (λ (m : MergeState). m.counts.arrived) c.self.view_is, c.if-self-eq-MAX_ARRIVALS.false, sound.few_arrived) in
    let is_none : c.args.self.now.anchor ≡ None = ap (λ (m : MergeState). m.anchor) (sym c.self.view_is) ∙ c.in-None.is in
    offers_first stream open_at c.args.self.now c.self.inside.next_media sound open_yet events k at is_none space c.args.path (packet_of c.args.packet) (paths_few c.args.self.now c.self.inside.next_media sound c.args.path c.requires.path) c.offer_first.ensures.seq c.offer_first.ensures.ts c.offer_first.new.self c.offer_first.result c.offer_first.ensures.step

pub returns-in-Some-clause-refused : goal.returns-in-Some-clause-refused
returns-in-Some-clause-refused g c = refused_anchored c.args.self.now c.offer_next.new.self c.in-Some.anchor c.args.path (packet_of c.args.packet) c.offer_next.result c.offer_next.ensures.next c.offer_next.ensures.restart

pub returns-in-None-clause-refused : goal.returns-in-None-clause-refused
returns-in-None-clause-refused g c = refused_first c.args.self.now.spec c.args.self.now c.offer_first.new.self c.args.path (packet_of c.args.packet) c.offer_first.result c.offer_first.ensures.step

pub returns-in-Some-clause-time : goal.returns-in-Some-clause-time
returns-in-Some-clause-time g c = (kept_anchored c.args.self.now c.offer_next.new.self c.in-Some.anchor c.args.path (packet_of c.args.packet) c.offer_next.result c.offer_next.ensures.next c.offer_next.ensures.restart).0

pub returns-in-Some-clause-closed : goal.returns-in-Some-clause-closed
returns-in-Some-clause-closed g c = (kept_anchored c.args.self.now c.offer_next.new.self c.in-Some.anchor c.args.path (packet_of c.args.packet) c.offer_next.result c.offer_next.ensures.next c.offer_next.ensures.restart).1

pub returns-in-Some-clause-spec : goal.returns-in-Some-clause-spec
returns-in-Some-clause-spec g c = (kept_anchored c.args.self.now c.offer_next.new.self c.in-Some.anchor c.args.path (packet_of c.args.packet) c.offer_next.result c.offer_next.ensures.next c.offer_next.ensures.restart).2

pub returns-in-Some-clause-unheard : goal.returns-in-Some-clause-unheard
returns-in-Some-clause-unheard g c = λ uncounted. absurd (let counted = sym uncounted ∙ counted_anchored c.args.self.now c.offer_next.new.self c.in-Some.anchor c.args.path (packet_of c.args.packet) c.offer_next.result c.offer_next.ensures.next c.offer_next.ensures.restart in cc)

pub returns-then-self-clause-refused : goal.returns-then-self-clause-refused
returns-then-self-clause-refused g c = search rules

pub returns-then-self-clause-unheard : goal.returns-then-self-clause-unheard
returns-then-self-clause-unheard g c = search rules

pub returns-then-self-clause-time : goal.returns-then-self-clause-time
returns-then-self-clause-time g c = search rules

pub returns-then-self-clause-closed : goal.returns-then-self-clause-closed
returns-then-self-clause-closed g c = search rules

pub returns-then-self-clause-spec : goal.returns-then-self-clause-spec
returns-then-self-clause-spec g c = search rules

pub offer_next-requires-clause-anchored : goal.offer_next-requires-clause-anchored
offer_next-requires-clause-anchored g c = search rules

pub offer_next-requires-clause-open_yet : goal.offer_next-requires-clause-open_yet
offer_next-requires-clause-open_yet g c = search rules

pub offer_next-requires-clause-space : goal.offer_next-requires-clause-space
offer_next-requires-clause-space g c = search rules

pub offer_next-requires-clause-fits : goal.offer_next-requires-clause-fits
offer_next-requires-clause-fits g c = search rules

pub offer_first-requires-clause-unanchored : goal.offer_first-requires-clause-unanchored
offer_first-requires-clause-unanchored g c = search rules

pub offer_first-requires-clause-open_yet : goal.offer_first-requires-clause-open_yet
offer_first-requires-clause-open_yet g c = search rules

pub offer_first-requires-clause-space : goal.offer_first-requires-clause-space
offer_first-requires-clause-space g c = search rules

pub offer_first-requires-clause-fits : goal.offer_first-requires-clause-fits
offer_first-requires-clause-fits g c = search rules

pub returns-in-None-clause-unheard : goal.returns-in-None-clause-unheard
returns-in-None-clause-unheard g c = search rules

pub returns-in-None-clause-time : goal.returns-in-None-clause-time
returns-in-None-clause-time g c = search rules

pub returns-in-None-clause-closed : goal.returns-in-None-clause-closed
returns-in-None-clause-closed g c = search rules

pub returns-in-None-clause-spec : goal.returns-in-None-clause-spec
returns-in-None-clause-spec g c = search rules
