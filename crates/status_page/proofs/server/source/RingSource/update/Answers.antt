use Rattle.status_page.proofs.ShownLemmas.{shows_more}
use Rattle.status_page.proofs.server.source.RingSource.update.Goals as goal

pub turns-preserved : goal.turns-preserved
turns-preserved g c = shows_more _ _ _ _ _ _ c.turns.invariant c.show_next.ensures
