use Rattle.std.proofs.Common.{length, ap, ◌∙◌}
use Rattle.studio_mix.proofs.LastLemmas.{last_longer}
use Rattle.studio_session.specs.Play.{feeds_of}
use Rattle.studio_session.proofs.SessionLemmas.{are_longer}
use Rattle.studio_engine.specs.Engine.{EngineState, session_of}
use Rattle.studio_engine.proofs.engine.Engine.missing.Goals as goal

pub returns-clause-stands : goal.returns-clause-stands
returns-clause-stands c = λ studio events datagrams number s last_one.
    let engine = c.args.self.now in
    let played = s.given.played in
    let last = last_longer studio played.feeds (feeds_of studio events) (length datagrams) engine.mixer.inputs engine.mixer.missing
    (are_longer studio events (session_of engine) (length datagrams) s.runnable played) played.fed.saturated.final played.fed.last in
    c.missing.ensures.value ∙ ap (λ (e : EngineState). e.mixer.missing) c.self.view_is ∙ last.missing number last_one
