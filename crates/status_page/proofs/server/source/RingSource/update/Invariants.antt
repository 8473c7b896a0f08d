use Rattle.rtrb.specs.Ring.{received}
use Rattle.status_page.specs.Shown.{ShowsLast}
use Rattle.status_page.proofs.server.source.RingSource.update.Given as goal

-- the page shows the last snapshot that was taken so far
abbrev pub invariant-turns : goal.invariant-turns
invariant-turns g l = ShowsLast (received l.fn.self.ring) (received l.self.ring) (g.P.ServedPage.shown l.fn.page) (g.P.ServedPage.shown l.page)
