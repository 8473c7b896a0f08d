use Rattle.std.proofs.lemmas.Grind.{elements}
use Rattle.std.proofs.Common.{◌≡◌, ◌<ℤ◌, ◌≤ℤ◌, None, false, true, length, refl, sym, ap, subst, ◌∙◌, arith, to_z, of_z, w64}
use Rattle.std.proofs.lemmas.Int.{ints, to_z-of_z}
use Rattle.path_merge.specs.Clock.{clock_fault_of}
use Rattle.path_merge.proofs.RunLemmas.{still_no_fault}
use Rattle.studio_session.specs.Event.{Tick}
use Rattle.studio_session.specs.PushedEvents.{AreHanded}
use Rattle.studio_session.proofs.FaultLemmas.{reading_fault}
use Rattle.studio_engine.specs.Engine.{EngineState}
use Rattle.studio_engine.specs.Session.{HasSession}
use Rattle.studio_engine.proofs.EngineLemmas.{session_handed}
use Rattle.studio_engine.proofs.engine.Engine.set_out.Goals as goal

pub returns-clause-stands : goal.returns-clause-stands
returns-clause-stands c = λ studio events datagrams s.
    let i = c.self.inside in
    let now = c.args.now in
    let inside : EngineState = record { mixer = i.mixer; cursors = i.cursors.cursors; time = i.time; turning = i.turning; closed = i.closed; settled = i.settled; count = i.cursors.count } in
    let s' : HasSession studio inside events datagrams = subst (λ e. HasSession studio e events datagrams) (sym c.self.view_is) s in
    let same = to_z-of_z w64 now c.ranges.now in
    let handed = subst (λ u. AreHanded (Tick u) i.cursors.cursors c.push_tick.new.self.cursors (length i.cursors.cursors)) same c.push_tick.ensures.handed in
    let later : i.time <ℤ now = subst (λ (e : EngineState). e.time <ℤ now) (sym c.self.view_is) c.requires.later in
    let before : i.time ≤ℤ now = omega (arith, ints, later) in
    let open_yet : i.closed ≡ false = ap (λ (e : EngineState). e.closed) c.self.view_is ∙ c.requires.open_yet in
    let free : clock_fault_of i.time i.closed now ≡ None = still_no_fault i.time i.closed now before c.requires.not_far open_yet in
    session_handed studio inside _ (Tick now) (to_z w64 (of_z w64 now)) true i.closed _ events datagrams handed
    c.self.invariant.taken c.push_tick.ensures.count same refl (reading_fault studio.streams i.time i.closed now free) s'

pub invariant_of-self : goal.invariant_of-self
invariant_of-self c = grind (arith, elements)
