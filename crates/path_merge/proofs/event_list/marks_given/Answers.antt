use Rattle.std.proofs.Common.{◌≡◌, length, arith, ap, ◌∙◌, w64}
use Rattle.std.proofs.lemmas.Int.{to_z-of_z}
use Rattle.rtp_stream.specs.Marks.{marks_of}
use Rattle.path_merge.proofs.StepLemmas.{take_all}
use Rattle.path_merge.proofs.RunLemmas.{next_in_order, given_more, given_at_start, of_stream_at}
use Rattle.path_merge.proofs.event_list.marks_given.Goals as goal

pub loop-event-init : goal.loop-event-init
loop-event-init c = given_at_start c.args.spec _ c.in_ok-merge.merge _ c.in_ok-merge.ensures.stands c.new-marks.ensures.items

pub take_event-requires-clause-of_stream : goal.take_event-requires-clause-of_stream
take_event-requires-clause-of_stream c = of_stream_at c.args.spec _ c.args.events.now c.loop-event.event-index c.event-item.result c.requires.of_stream c.loop-event.invariant.stands.spec c.loop-event-test.true c.event-item.is

pub take_event-requires-clause-in_order : goal.take_event-requires-clause-in_order
take_event-requires-clause-in_order c =
    let given = rw (to_z-of_z w64 c.args.open_at c.ranges.open_at) at c.loop-event.invariant in
    next_in_order c.args.spec c.args.open_at c.loop-event.merge c.args.events.now _ c.loop-event.event-index c.event-item.result c.requires.well_timed c.loop-event-test.true c.event-item.is given

pub loop-event-preserved : goal.loop-event-preserved
loop-event-preserved c = given_more c.args.spec _ c.take_event.new.merge c.args.events.now _ c.loop-event.event-index c.event-item.result c.loop-event-test.true c.event-item.is (c.in_ok-take_event.ensures c.args.spec _ _ c.loop-event.invariant)

pub returns : goal.returns
returns c =
    let given = rw (to_z-of_z w64 c.args.open_at c.ranges.open_at) at c.loop-event.invariant in
    let all : c.loop-event.event-index ≡ length c.args.events.now = omega (arith, c.loop-event-test.false, c.loop-event.auto.event-index-end) in
    given.all ∙ ap (marks_of c.args.spec c.args.open_at) (take_all c.args.events.now c.loop-event.event-index all)
