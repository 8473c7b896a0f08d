use Rattle.std.proofs.Common.{All, sym, subst}
use Rattle.studio_session.specs.Cursor.{IsReadyFor}
use Rattle.studio_session.specs.Play.{HasPlayed, SessionState}
use Rattle.studio_session.proofs.ReportLemmas.{pulled_of}
use Rattle.studio_session.proofs.session.Session.into_cursors.Goals as goal

pub returns-clause-pulled : goal.returns-clause-pulled
returns-clause-pulled c = λ studio events next played.
    let i = c.self.inside in
    pulled_of studio events (record { mixer = i.mixer; cursors = i.cursors.items }) next (subst (λ s. HasPlayed studio events s next) (sym c.self.view_is) played)

pub returns-clause-ready : goal.returns-clause-ready
returns-clause-ready c = λ events ready. subst (λ (s : SessionState). All (IsReadyFor events) s.cursors) (sym c.self.view_is) ready
