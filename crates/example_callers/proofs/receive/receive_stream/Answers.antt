use Rattle.std.proofs.Common.{◌≡◌, inl, inr, ◌+◌, [], ◌∷◌, ◌++◌, length, take, Some, None, w64, refl, sym, ap, subst, ◌∙◌, arith, to_z, of_z}
use Rattle.std.specs.Prelude.{IsErrAnd}
use Rattle.std.proofs.lemmas.Int.{ints, to_z-of_z}
use Rattle.path_merge.specs.Run.{HasGiven}
use Rattle.path_merge.proofs.StepLemmas.{take_all}
use Rattle.rtp_stream.specs.declared.event.Event.TheVariants.{Tick}
use Rattle.rtp_stream.specs.Marks.{marks_of}
use Rattle.path_merge.proofs.JoinLemmas.{alike-refl}
use Rattle.path_merge.proofs.RunLemmas.{given_at_start, given_offered, drained_more, drained_all, given_closed}
use Rattle.example_callers.proofs.ReceiveLemmas.{events_more, paths_more, off_paths, out_of_order, told_fault, mark_more, still_free, fewer_left, reached, no_event, refused_read, refused_admit, admitted}
use Rattle.example_callers.specs.Receive.{events_of_all, history_of}
use Rattle.example_callers.specs.declared.receive.ReceiveFault.TheVariants.{Clock, Path}
use Rattle.example_callers.proofs.receive.receive_stream.Goals.{in-Ok+in-Ok-admit, in-Ok+in_default-admit, in_default-read}
use Rattle.example_callers.proofs.receive.receive_stream.Goals as goal

pub loop-arrival-init : goal.loop-arrival-init
loop-arrival-init c = record {
  paths = refl;
  open_yet = c.in_ok-merge.ensures.open_yet;
  given = given_at_start c.args.spec _ c.in_ok-merge.merge _ c.in_ok-merge.ensures.stands c.new-marks.ensures.items;
}

pub loop-marks-init : goal.loop-marks-init
loop-marks-init c =
    let inv = c.loop-arrival.invariant in
    record { paths = inv.paths; open_yet = inv.open_yet; so_far = _; given = inv.given; joins = alike-refl c.args.spec _ _; fine = inl refl }

pub returns-in_err-mark-clause-fault : goal.returns-in_err-mark-clause-fault
returns-in_err-mark-clause-fault c =
    let inv = c.loop-marks.invariant in
    let fault = c.in_err-mark.field-0.0 in
    let now_is : to_z w64 (of_z w64 c.arrival-item.result.time) ≡ c.arrival-item.result.time = omega (arith, ints) in
    let refused = rw now_is at c.in_err-mark.ensures.fault in
    told_fault c.args.spec c.args.open_at c.args.arrivals.now (Clock fault) c.from_residual-in_err-mark.result c.from_residual-in_err-mark.ensures.1
    (elim inv.fine [
      | inl e ↦ out_of_order c.args.spec c.args.arrivals.now c.loop-arrival.arrival-index c.arrival-item.result c.loop-arrival-test.true c.arrival-item.is c.args.open_at c.loop-marks.merge c.loop-marks.marks.items fault
          (subst (λ l. HasGiven c.args.spec c.args.open_at c.loop-marks.merge l c.loop-marks.marks.items) e (subst (λ t. HasGiven c.args.spec t c.loop-marks.merge inv.so_far c.loop-marks.marks.items) (to_z-of_z w64 c.args.open_at c.ranges.open_at) inv.given)) refused
      | inr none ↦ absurd (let both : Some fault ≡ None = sym refused ∙ none in cc)
    ])

pub loop-marks-smaller : goal.loop-marks-smaller
loop-marks-smaller c =
    let inv = c.loop-marks.invariant in
    let now_is : to_z w64 (of_z w64 c.arrival-item.result.time) ≡ c.arrival-item.result.time = omega (arith, ints) in
    let free = rw now_is at c.in_ok-mark.ensures.fine in
    let moves = rw now_is at (rw c.in-Some.is at c.in_ok-mark.ensures.moved) in
    let step = rw now_is at (rw c.in-Some.is at (c.in_ok-mark.ensures.stands c.args.spec _ inv.so_far (length c.loop-marks.marks.items) inv.given.stands)) in
    rw c.in_ok-push.ensures.items
    (fewer_left c.args.spec _ c.loop-marks.merge c.advance.new.self c.arrival-item.result.time (events_of_all c.args.spec (take c.loop-arrival.arrival-index c.args.arrivals.now)) inv.so_far c.loop-marks.marks.items inv.given inv.joins free c.in-Some.mark moves step)

pub loop-marks-preserved : goal.loop-marks-preserved
loop-marks-preserved c =
    let inv = c.loop-marks.invariant in
    let now_is : to_z w64 (of_z w64 c.arrival-item.result.time) ≡ c.arrival-item.result.time = omega (arith, ints) in
    let free = rw now_is at c.in_ok-mark.ensures.fine in
    let events = events_of_all c.args.spec (take c.loop-arrival.arrival-index c.args.arrivals.now) in
    let now = c.arrival-item.result.time in
    let moves = rw now_is at (rw c.in-Some.is at c.in_ok-mark.ensures.moved) in
    let step = rw now_is at (rw c.in-Some.is at (c.in_ok-mark.ensures.stands c.args.spec _ inv.so_far (length c.loop-marks.marks.items) inv.given.stands)) in
    let next = mark_more c.args.spec _ c.loop-marks.merge c.advance.new.self now events inv.so_far c.loop-marks.marks.items inv.given inv.joins free c.in-Some.mark moves step in
    let still = still_free c.args.spec _ c.loop-marks.merge c.advance.new.self now events inv.so_far c.loop-marks.marks.items inv.given inv.joins free c.in-Some.mark moves in
    rw c.in_ok-push.ensures.items (record { paths = inv.paths; open_yet = still.1 ∙ inv.open_yet; so_far = next.0; given = next.1; joins = next.2; fine = inr still.0 })

pub returns-in_err-check_path-clause-fault : goal.returns-in_err-check_path-clause-fault
returns-in_err-check_path-clause-fault c =
    let lacking = c.in_err-check_path.ensures.lacking in
    told_fault c.args.spec c.args.open_at c.args.arrivals.now Path c.from_residual-in_err-check_path.result (subst (λ f. IsErrAnd c.from_residual-in_err-check_path.result (λ e. e ≡ f)) lacking.0 c.from_residual-in_err-check_path.ensures.1)
    (off_paths c.args.spec c.args.arrivals.now c.loop-arrival.arrival-index c.arrival-item.result c.loop-arrival-test.true c.arrival-item.is lacking.1)

pub loop-arrival-preserved : goal.loop-arrival-preserved
loop-arrival-preserved c =
    let inv = c.loop-marks.invariant in
    let now_is : to_z w64 (of_z w64 c.arrival-item.result.time) ≡ c.arrival-item.result.time = omega (arith, ints) in
    let free = rw now_is at c.in_ok-mark.ensures.fine in
    let events = events_of_all c.args.spec (take c.loop-arrival.arrival-index c.args.arrivals.now) in
    let a = c.arrival-item.result in
    let open_at = to_z w64 (of_z w64 c.args.open_at) in
    let moves = rw now_is at (rw c.in_default.is at c.in_ok-mark.ensures.moved) in
    let step = rw now_is at (rw c.in_default.is at (c.in_ok-mark.ensures.stands c.args.spec _ inv.so_far (length c.loop-marks.marks.items) inv.given.stands)) in
    let there = reached c.args.spec _ c.loop-marks.merge c.advance.new.self a.time events inv.so_far c.loop-marks.marks.items inv.given inv.joins free moves step in
    let more = events_more c.args.spec c.args.arrivals.now c.loop-arrival.arrival-index a c.loop-arrival-test.true c.arrival-item.is in
    let paths = paths_more c.args.spec c.args.arrivals.now c.loop-arrival.arrival-index a c.loop-arrival-test.true c.arrival-item.is inv.paths c.in_ok-check_path.ensures.here in
    elim c.match-read.branch [
      | in-Ok+in-Ok-admit w ↦ rw w.merge-is (record {
        paths = paths;
        open_yet = w.offer.ensures.closed ∙ there.1 ∙ inv.open_yet;
        given = subst (λ l. HasGiven c.args.spec open_at w.offer.new.self l c.loop-marks.marks.items)
            (sym (more ∙ ap (λ l. (events ++ Tick a.time ∷ []) ++ l) (admitted c.args.spec a w.in-Ok-admit.packet w.in-Ok.view.pt w.in-Ok.view.payload.now
            (w.in-Ok-admit.ensures.seq ∙ ap (λ h. h.seq) w.in-Ok.ensures.head) (w.in-Ok-admit.ensures.ts ∙ ap (λ h. h.ts) w.in-Ok.ensures.head) (w.in-Ok-admit.ensures.ssrc ∙ ap (λ h. h.ssrc) w.in-Ok.ensures.head) w.in-Ok-admit.ensures.payload
            (w.in-Ok.ensures.ok.0 refl) (ap (λ h. h.pt) w.in-Ok.ensures.head) w.in-Ok.ensures.payload w.in-Ok-admit.ensures.fine)))
            (given_offered c.args.spec _ w.offer.new.self _ c.loop-marks.marks.items a.path w.in-Ok-admit.packet w.offer.result there.0.all (w.offer.ensures.stands c.args.spec _ _ _ there.0.stands));
      })
      | in-Ok+in_default-admit w ↦ rw w.merge-is (record {
        paths = paths;
        open_yet = there.1 ∙ inv.open_yet;
        given = subst (λ l. HasGiven c.args.spec open_at c.advance.new.self l c.loop-marks.marks.items)
            (sym (more ∙ no_event (events ++ Tick a.time ∷ []) _ (refused_admit c.args.spec a w.admit.result w.in-Ok.view.pt w.in-Ok.view.payload.now w.in_default-admit.not-Ok
            (w.in-Ok.ensures.ok.0 refl) (ap (λ h. h.pt) w.in-Ok.ensures.head) w.in-Ok.ensures.payload w.admit.ensures.fault))) there.0;
      })
      | in_default-read w ↦ rw w.merge-is (record {
        paths = paths;
        open_yet = there.1 ∙ inv.open_yet;
        given = subst (λ l. HasGiven c.args.spec open_at c.advance.new.self l c.loop-marks.marks.items) (sym (more ∙ no_event (events ++ Tick a.time ∷ []) _ (refused_read c.args.spec a c.read.result w.in_default-read.not-Ok c.read.ensures.fault))) there.0;
      })
    ]

pub loop-mark-init : goal.loop-mark-init
loop-mark-init c =
    let given = c.loop-arrival.invariant.given in
    let end = c.loop-arrival.auto.arrival-index-end in
    let all : c.loop-arrival.arrival-index ≡ length c.args.arrivals.now = omega (arith, c.loop-arrival-test.false, end) in
    let whole : HasGiven c.args.spec (to_z w64 (of_z w64 c.args.open_at)) c.loop-arrival.merge (events_of_all c.args.spec c.args.arrivals.now) c.loop-arrival.marks.items =
    subst (λ l. HasGiven c.args.spec (to_z w64 (of_z w64 c.args.open_at)) c.loop-arrival.merge (events_of_all c.args.spec l) c.loop-arrival.marks.items) (take_all c.args.arrivals.now c.loop-arrival.arrival-index all) given in
    (length c.loop-arrival.marks.items, c.close.ensures.stands c.args.spec _ _ _ whole.stands, given_closed c.args.spec _ c.close.new.self _ c.loop-arrival.marks.items whole.all)

pub loop-mark-preserved : goal.loop-mark-preserved
loop-mark-preserved c =
    let w = c.loop-mark.invariant in
    let more = drained_more c.args.spec _ c.drain.new.self (history_of c.args.spec c.args.arrivals.now) w.0 c.in-Some-drain.mark c.loop-mark.marks.items (c.in-Some-drain.ensures.stands c.args.spec _ (history_of c.args.spec c.args.arrivals.now) w.0 w.1) w.2 in
    rw c.in_ok-push-2.ensures.items (w.0 + 1, more.0, more.1)

pub returns-clause-marks : goal.returns-clause-marks
returns-clause-marks c =
    let w = c.loop-mark.invariant in
    let drains = c.in_default-drain.ensures.stands c.args.spec _ (history_of c.args.spec c.args.arrivals.now) w.0 w.1 in
    subst (λ t. c.loop-mark.marks.items ≡ marks_of c.args.spec t (history_of c.args.spec c.args.arrivals.now)) (to_z-of_z w64 c.args.open_at c.ranges.open_at)
    (drained_all c.args.spec _ c.drain.new.self (history_of c.args.spec c.args.arrivals.now) w.0 c.loop-mark.marks.items drains w.2).all
