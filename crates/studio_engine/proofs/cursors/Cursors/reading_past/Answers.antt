use Rattle.std.proofs.Common.{◌≡◌, ℕ, ℤ, List, sym, ap, subst, ◌∙◌, to_z, of_z, w64}
use Rattle.std.proofs.lemmas.Int.{to_z-of_z}
use Rattle.studio_config.specs.Studio.{Studio}
use Rattle.studio_session.specs.Event.{TraceEvent}
use Rattle.studio_engine.specs.Cursors.{CursorsState, all_at}
use Rattle.studio_engine.specs.Deadline.{IsIdle, IsUnreadyBefore}
use Rattle.studio_engine.proofs.CursorsLemmas.{each_some}
use Rattle.studio_engine.proofs.cursors.Cursors.reading_past.Goals as goal

pub returns-clause-before : goal.returns-clause-before
returns-clause-before c =
    let i = c.self.inside in
    let same : all_at i.count c.as_slice.result.now ≡ c.args.self.now.cursors = ap (all_at i.count) c.as_slice.ensures.value ∙ ap (λ (s : CursorsState). s.cursors) c.self.view_is in
    each_some (λ (reading : ℤ). (studio : Studio) (events : List TraceEvent) (next count : ℕ) → IsIdle studio events c.args.mixer.now (all_at count c.as_slice.result.now) (to_z w64 (of_z w64 c.args.time)) next → IsUnreadyBefore studio events next reading)
    (λ (reading : ℤ). (studio : Studio) (events : List TraceEvent) (next : ℕ) → IsIdle studio events c.args.mixer.now c.args.self.now.cursors c.args.time next → IsUnreadyBefore studio events next reading)
    c.reading_past.result
    (λ reading said studio events next rest. said studio events next i.count
    (subst (λ t. IsIdle studio events c.args.mixer.now (all_at i.count c.as_slice.result.now) t next) (sym (to_z-of_z w64 c.args.time c.ranges.time))
    (subst (λ l. IsIdle studio events c.args.mixer.now l c.args.time next) (sym same) rest)))
    c.reading_past.ensures.before

pub returns-clause-never : goal.returns-clause-never
returns-clause-never c = λ none studio events next rest.
    let i = c.self.inside in
    let same : all_at i.count c.as_slice.result.now ≡ c.args.self.now.cursors = ap (all_at i.count) c.as_slice.ensures.value ∙ ap (λ (s : CursorsState). s.cursors) c.self.view_is in
    c.reading_past.ensures.never none studio events next i.count
    (subst (λ t. IsIdle studio events c.args.mixer.now (all_at i.count c.as_slice.result.now) t next) (sym (to_z-of_z w64 c.args.time c.ranges.time))
    (subst (λ l. IsIdle studio events c.args.mixer.now l c.args.time next) (sym same) rest))
