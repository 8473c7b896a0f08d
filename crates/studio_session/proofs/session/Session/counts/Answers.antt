use Rattle.std.proofs.Common.{All, sym, subst}
use Rattle.studio_session.specs.Cursor.{IsReadyFor}
use Rattle.studio_session.specs.Play.{HasPlayed, SessionState}
use Rattle.studio_session.specs.Report.{ArePulled}
use Rattle.studio_session.proofs.ReportLemmas.{pulled_of}
use Rattle.studio_session.proofs.session.Session.counts.Goals as goal

pub all_counts-requires : goal.all_counts-requires
all_counts-requires g c =
    let events = g.E.EventSource.events c.args.source.now in
    record {
      ready = subst (λ l. All (IsReadyFor events) l) (sym c.as_mut_slice.ensures.value)
          (subst (λ (s : SessionState). All (IsReadyFor events) s.cursors) (sym c.self.view_is) c.requires.ready);
    }

pub returns : goal.returns
returns g c = λ studio next run played.
    let events = g.E.EventSource.events c.args.source.now in
    let i = c.self.inside in
    c.in_ok-counts.ensures studio run
    (subst (ArePulled studio events) (sym c.as_mut_slice.ensures.value)
    (pulled_of studio events (record { mixer = i.mixer; cursors = i.cursors.items }) next (subst (λ s. HasPlayed studio events s next) (sym c.self.view_is) played)))
