use Rattle.std.specs.Prelude.{FitsSigned, nat_eq}
use Rattle.std.specs.Int.{int_max}
use Rattle.std.proofs.Common.{◌≡◌, ◌+◌, ◌+ℤ◌, ◌<ℤ◌, pos, sym, subst, ◌∙◌, arith, rules, to_z, of_z, w64}
use Rattle.std.proofs.lemmas.Int.{ints, to_z-of_z}
use Rattle.path_merge.specs.Steps.{next_deadline_of}
use Rattle.std.proofs.lemmas.List.{get_or-map}
use Rattle.studio_session.specs.Cursor.{CursorState, at_place}
use Rattle.studio_engine.specs.Cursors.{all_at}
use Rattle.studio_engine.proofs.CursorsLemmas.{length_at}
use Rattle.studio_engine.specs.Deadline.{IsIdle, IsNotPast, IsUnreadyBefore}
use Rattle.studio_engine.proofs.DeadlineLemmas.{unready_by, unready_first, unready_max}
use Rattle.studio_engine.proofs.deadline.latest_reading.Goals.{then-wants, else-wants}
use Rattle.studio_engine.proofs.deadline.latest_reading.Goals as goal

pub loop-stream-init : goal.loop-stream-init
loop-stream-init c =
    let time = to_z w64 (of_z w64 c.args.time) in
    record {
      later = omega (arith, ints, c.requires.not_late);
      before = λ studio events next count rest. unready_first studio events next time (to_z w64 (of_z w64 (time +ℤ pos 1))) rest.time_is (omega (arith, ints, c.requires.not_late));
    }

pub loop-stream-preserved : goal.loop-stream-preserved
loop-stream-preserved c =
    let inv = c.loop-stream.invariant in
    let time = to_z w64 (of_z w64 c.args.time) in
    let so_far = to_z w64 c.loop-stream.reading-bits in
    elim c.if-wants.branch [
      | then-wants w ↦
          let i = c.loop-stream.stream in
          let item = w.index-cursors-stream.result in
          let end = to_z w64 (of_z w64 c.block_end-end.result) in
          let own = to_z w64 (of_z w64 w.reading_for.result) in
          let fits_end : FitsSigned w64 c.block_end-end.result = search rules in
          let fits_own : FitsSigned w64 w.reading_for.result = search rules in
          let fits_max : FitsSigned w64 w.max-reading.result = search rules in
          let own_is : own ≡ w.reading_for.result = to_z-of_z w64 w.reading_for.result fits_own in
          let max_is : to_z w64 c.if-wants.reading-bits ≡ w.max-reading.result = w.reading-is ∙ to_z-of_z w64 w.max-reading.result fits_max in
          let is : to_z w64 c.if-wants.reading-bits ≡ int_max own so_far = max_is ∙ w.max-reading.ensures.value in
          let late = subst (λ (x : CursorState). IsNotPast (next_deadline_of x.merge) (nat_eq (x.merge.counts.got + x.merge.counts.lost) 0) x.spec.frames (end +ℤ pos x.spec.latency) w.reading_for.result) w.index-cursors-stream.is w.reading_for.ensures in
          record {
            later = omega (arith, ints, inv.later, w.max-reading.ensures.other_bound, max_is);
            before = λ studio events next count rest. subst (IsUnreadyBefore studio events next) (sym is) (unready_max studio events next own so_far
                (subst (IsUnreadyBefore studio events next) (sym own_is)
                (unready_by studio events c.args.mixer.now (all_at count c.args.cursors.now) time next i (at_place count item) end w.reading_for.result rest (omega (arith, c.loop-stream-test.true, length_at count c.args.cursors.now))
                (λ feeds number fed. to_z-of_z w64 c.block_end-end.result fits_end ∙ c.block_end-end.ensures studio feeds number fed)
                (λ feeds number feed fed at. sym w.if-wants.true ∙ c.wants.ensures.stands studio feeds number feed fed at)
                (subst (λ (x : CursorState). IsNotPast (next_deadline_of x.merge) (nat_eq (x.merge.counts.got + x.merge.counts.lost) 0) x.spec.frames (end +ℤ pos x.spec.latency) w.reading_for.result)
                (sym (get_or-map (at_place count) c.args.cursors.now i item (at_place count item) c.loop-stream-test.true)) late)))
                (inv.before studio events next count rest));
          }
      | else-wants w ↦ record {
        later = subst (λ r. time <ℤ r) (sym w.reading-is) inv.later;
        before = λ studio events next count rest. subst (IsUnreadyBefore studio events next) (sym w.reading-is) (inv.before studio events next count rest);
      }
    ]

pub returns-clause-before : goal.returns-clause-before
returns-clause-before c = λ studio events next count rest.
    c.loop-stream.invariant.before studio events next count
    (subst (λ t. IsIdle studio events c.args.mixer.now (all_at count c.args.cursors.now) t next) (sym (to_z-of_z w64 c.args.time c.ranges.time)) rest)
