use Rattle.std.proofs.Common.{rules, ◌≤◌, arith, refl, ◌∙◌, ap, sym, subst}
use Rattle.rtrb.specs.Ring.{SameProducer}
use Rattle.studio_ends.specs.declared.path_end.PathEnd.{PathEnd}
use Rattle.studio_ends.proofs.TurnLemmas.{producers}
use Rattle.studio_io.specs.FaultCounts.{CountsFaults}
use Rattle.studio_io.specs.declared.feed_state.FeedState.{FeedState}
use Rattle.studio_io.specs.declared.feed.FeedAnswer.TheVariants.{Datagram, Nothing, Fault, Ended}
use Rattle.studio_io.proofs.FaultLemmas.{counts-none, faults-noted}
use Rattle.studio_rings.proofs.FeedLemmas.{Sends, few-faults, sends-answer, sends-none}
use Rattle.studio_rings.proofs.worker.path.send_feed.Goals as goal

pub loop-init : goal.loop-init
loop-init g c = record {
  few = subst (λ (s : FeedState). s.in_a_row ≤ 999) (sym c.new-state.ensures) (omega arith);
  space = refl;
  ring = ((refl, refl, refl, refl), refl);
  spec = refl;
  sends = λ whole. subst (λ (s : FeedState). Sends (g.F.Feed.told c.args.feed.now) c.args.end.now (g.F.Feed.told c.args.feed.now) s c.args.end.now) (sym c.new-state.ensures) (sends-none (g.F.Feed.told c.args.feed.now) c.args.end.now whole);
  faults = subst (λ (s : FeedState). CountsFaults (g.F.Feed.told c.args.feed.now) s (g.F.Feed.told c.args.feed.now)) (sym c.new-state.ensures) (counts-none (g.F.Feed.told c.args.feed.now));
}

pub loop-preserved-else-not-offer_until_taken : goal.loop-preserved-else-not-offer_until_taken
loop-preserved-else-not-offer_until_taken g c = record {
  few = few-faults c.loop.state c.note.new.self _ c.loop.invariant.few c.note.ensures.noted;
  space = search rules;
  ring = producers c.args.end.now.ring c.loop.end.ring c.offer_until_taken.new.end.ring c.loop.invariant.ring c.offer_until_taken.ensures.ring;
  spec = c.offer_until_taken.ensures.spec ∙ c.loop.invariant.spec;
  sends = λ whole. sends-answer _ _ _ c.args.end.now c.loop.end c.offer_until_taken.new.end c.loop.state c.note.new.self c.next-answer.new.buf _ (Datagram c.in-Datagram.count) c.in-Datagram.is c.if-state.false c.loop.invariant.few c.note.ensures.noted (c.next-answer.ensures.tells c.loop.invariant.space) (c.offer_until_taken.ensures.offers (search rules)) (c.loop.invariant.sends whole);
  faults = faults-noted c.loop.state c.note.new.self _ _ c.next-answer.new.buf c.if-state.false _ (c.next-answer.ensures.tells c.loop.invariant.space) c.note.ensures.noted c.note.ensures.faults _ c.loop.invariant.faults;
}

pub loop-preserved-in-Nothing : goal.loop-preserved-in-Nothing
loop-preserved-in-Nothing g c = record {
  few = few-faults c.loop.state c.note.new.self _ c.loop.invariant.few c.note.ensures.noted;
  space = search rules;
  ring = subst (λ (end : PathEnd). SameProducer c.args.end.now.ring end.ring) (sym c.send_counts.ensures.same) c.loop.invariant.ring;
  spec = ap (λ (end : PathEnd). end.spec) c.send_counts.ensures.same ∙ c.loop.invariant.spec;
  sends = λ whole. sends-answer _ _ _ c.args.end.now c.loop.end c.send_counts.new.self c.loop.state c.note.new.self c.next-answer.new.buf _ Nothing c.in-Nothing.is c.if-state.false c.loop.invariant.few c.note.ensures.noted (c.next-answer.ensures.tells c.loop.invariant.space) c.send_counts.ensures.same (c.loop.invariant.sends whole);
  faults = faults-noted c.loop.state c.note.new.self _ _ c.next-answer.new.buf c.if-state.false _ (c.next-answer.ensures.tells c.loop.invariant.space) c.note.ensures.noted c.note.ensures.faults _ c.loop.invariant.faults;
}

pub loop-preserved-in-Fault : goal.loop-preserved-in-Fault
loop-preserved-in-Fault g c = record {
  few = few-faults c.loop.state c.note.new.self _ c.loop.invariant.few c.note.ensures.noted;
  space = search rules;
  ring = c.loop.invariant.ring;
  spec = c.loop.invariant.spec;
  sends = λ whole. sends-answer _ _ _ c.args.end.now c.loop.end c.loop.end c.loop.state c.note.new.self c.next-answer.new.buf _ Fault c.in-Fault.is c.if-state.false c.loop.invariant.few c.note.ensures.noted (c.next-answer.ensures.tells c.loop.invariant.space) refl (c.loop.invariant.sends whole);
  faults = faults-noted c.loop.state c.note.new.self _ _ c.next-answer.new.buf c.if-state.false _ (c.next-answer.ensures.tells c.loop.invariant.space) c.note.ensures.noted c.note.ensures.faults _ c.loop.invariant.faults;
}

pub loop-preserved : goal.loop-preserved
loop-preserved g c = record {
  few = few-faults c.loop.state c.note.new.self _ c.loop.invariant.few c.note.ensures.noted;
  space = search rules;
  ring = c.loop.invariant.ring;
  spec = c.loop.invariant.spec;
  sends = λ whole. sends-answer _ _ _ c.args.end.now c.loop.end c.loop.end c.loop.state c.note.new.self c.next-answer.new.buf _ Ended c.in-Ended.is c.if-state.false c.loop.invariant.few c.note.ensures.noted (c.next-answer.ensures.tells c.loop.invariant.space) refl (c.loop.invariant.sends whole);
  faults = faults-noted c.loop.state c.note.new.self _ _ c.next-answer.new.buf c.if-state.false _ (c.next-answer.ensures.tells c.loop.invariant.space) c.note.ensures.noted c.note.ensures.faults _ c.loop.invariant.faults;
}

pub returns-then-state-clause-sent : goal.returns-then-state-clause-sent
returns-then-state-clause-sent g c = λ over whole. (c.loop.invariant.sends whole).over over

pub returns-then-load-clause-sent : goal.returns-then-load-clause-sent
returns-then-load-clause-sent g c = λ over whole. (c.loop.invariant.sends whole).over over

pub returns-then-not-offer_until_taken-clause-faults : goal.returns-then-not-offer_until_taken-clause-faults
returns-then-not-offer_until_taken-clause-faults g c = faults-noted c.loop.state c.note.new.self _ _ c.next-answer.new.buf c.if-state.false _ (c.next-answer.ensures.tells c.loop.invariant.space) c.note.ensures.noted c.note.ensures.faults _ c.loop.invariant.faults
