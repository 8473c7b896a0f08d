use Rattle.std.proofs.lemmas.Grind.{elements}
use Rattle.std.proofs.Common.{◌≡◌, ◌∙◌, ap, arith, length, ◌∷◌, [], ◌++◌, length-append, subst}
use Rattle.rtrb.specs.Ring.{sent}
use Rattle.rtp_stream.specs.PacketRef.{packet_of}
use Rattle.rtp_stream.specs.PathCounts.{PathTally, path_tally_of, with_reception}
use Rattle.rtp_stream.specs.Reception.{FitsReception, reception_from}
use Rattle.rtp_stream.specs.declared.reception.Reception.TheVariants.{Sent as Received}
use Rattle.studio_ends.proofs.FittingLemmas.{fitting-more}
use Rattle.studio_ends.proofs.path_end.PathEnd.offer.Goals as goal

-- the packet that was received is the one that is pushed
received_is : (c : goal.After-push) → reception_from c.receive_ref-reception.result ≡ Received (packet_of c.in-Sent.packet)
received_is c = ap reception_from c.in-Sent.is

pushed : (c : goal.After-push) → sent c.push.new.self ≡ sent c.args.self.now.ring ++ packet_of c.in-Sent.packet ∷ []
pushed c = c.push.ensures.sent ∙ ap (λ l. l ++ packet_of c.in-Sent.packet ∷ []) c.lacks_space.ensures.ring.1

pub invariant_of-self-in-Sent-clause-all_counted : goal.invariant_of-self-in-Sent-clause-all_counted
invariant_of-self-in-Sent-clause-all_counted c =
    let p = c.args.self.now in
    let added : path_tally_of c.add.new.self ≡ with_reception (path_tally_of p.counts) (Received (packet_of c.in-Sent.packet)) = c.add.ensures ∙ ap (with_reception (path_tally_of p.counts)) (received_is c) in
    let one = ap (λ (t : PathTally). t.sent) added in
    let longer = ap length (pushed c) in
    let before = p.all_counted in
    omega (arith, one, longer, before, length-append (sent p.ring) ((packet_of c.in-Sent.packet) ∷ []))

pub invariant_of-self-in-Sent-clause-all_fit : goal.invariant_of-self-in-Sent-clause-all_fit
invariant_of-self-in-Sent-clause-all_fit c =
    let p = c.args.self.now in
    let fits = subst (FitsReception p.spec) (received_is c) c.receive_ref-reception.ensures.fits in
    fitting-more p.spec (sent p.ring) (sent c.push.new.self) (packet_of c.in-Sent.packet) (pushed c) p.all_fit fits

pub push-requires-clause-cells : goal.push-requires-clause-cells
push-requires-clause-cells c = grind (arith, elements)

pub returns-then-lacks_space-clause-answer : goal.returns-then-lacks_space-clause-answer
returns-then-lacks_space-clause-answer c = grind (arith, elements)

pub push-requires-clause-free : goal.push-requires-clause-free
push-requires-clause-free c = grind (arith, elements)

pub invariant_of-self-in-Sent-clause-few : goal.invariant_of-self-in-Sent-clause-few
invariant_of-self-in-Sent-clause-few c = grind (arith, elements)

pub returns-then-lacks_space-clause-known : goal.returns-then-lacks_space-clause-known
returns-then-lacks_space-clause-known c = grind (arith, elements)

pub returns-in-Sent-clause-answer : goal.returns-in-Sent-clause-answer
returns-in-Sent-clause-answer c = grind (arith, elements)
