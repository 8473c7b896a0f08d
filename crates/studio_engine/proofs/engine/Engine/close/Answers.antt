use Rattle.std.proofs.Common.{◌≡◌, false, true, refl, sym, ap, subst, ◌∙◌}
use Rattle.studio_session.specs.Event.{Closing}
use Rattle.studio_engine.specs.Engine.{EngineState}
use Rattle.studio_engine.specs.Session.{HasSession, shut}
use Rattle.studio_engine.proofs.EngineLemmas.{session_handed}
use Rattle.studio_engine.proofs.engine.Engine.close.Goals as goal

pub returns-then-not-self-clause-stands : goal.returns-then-not-self-clause-stands
returns-then-not-self-clause-stands c = λ studio events datagrams s.
    let i = c.self.inside in
    let inside : EngineState = record { mixer = i.mixer; cursors = i.cursors.cursors; time = i.time; turning = i.turning; closed = i.closed; settled = i.settled; count = i.cursors.count } in
    let s' : HasSession studio inside events datagrams = subst (λ e. HasSession studio e events datagrams) (sym c.self.view_is) s in
    let open_yet : c.args.self.now.closed ≡ false = ap (λ (e : EngineState). e.closed) (sym c.self.view_is) ∙ c.if-not-self.true in
    let kept = c.push_close.new.self in
    let after : EngineState = record { mixer = i.mixer; cursors = kept.cursors; time = i.time; turning = i.turning; closed = true; settled = i.settled; count = kept.count } in
    let next : HasSession studio after (shut false events) datagrams = session_handed studio inside kept.cursors Closing i.time i.turning true kept.count events datagrams
    c.push_close.ensures.handed c.self.invariant.taken c.push_close.ensures.count refl refl (λ p. refl) s' in
    subst (λ b. HasSession studio after (shut b events) datagrams) (sym open_yet) next
