use Rattle.std.proofs.Common.{◌≡◌, length, sym, ap, subst, ◌∙◌}
use Rattle.studio_mix.specs.Saturated.{AreSaturated}
use Rattle.studio_mix.proofs.SaturatedLemmas.{saturated_longer}
use Rattle.studio_session.specs.Play.{feeds_of}
use Rattle.studio_session.proofs.SessionLemmas.{are_longer}
use Rattle.studio_engine.specs.Engine.{EngineState, session_of}
use Rattle.studio_engine.proofs.engine.Engine.saturated.Goals as goal

pub returns-clause-stands : goal.returns-clause-stands
returns-clause-stands c = λ studio events datagrams s.
    let engine = c.args.self.now in
    let played = s.given.played in
    let counts : c.saturated.result.now ≡ engine.mixer.saturated = c.saturated.ensures.value ∙ ap (λ (e : EngineState). e.mixer.saturated) c.self.view_is in
    subst (AreSaturated studio (feeds_of studio events) (length datagrams)) (sym counts)
    (saturated_longer studio played.feeds (feeds_of studio events) (length datagrams) engine.mixer.saturated
    (are_longer studio events (session_of engine) (length datagrams) s.runnable played) played.fed.saturated)
