use Rattle.std.proofs.Common.{List, arith, subst, sym}
use Rattle.std.proofs.lemmas.Grind.{common_steps}
use Rattle.status_page.specs.declared.snapshot.StreamState.{StreamState}
use Rattle.live_status.specs.Each.{AreEach}
use Rattle.live_status.specs.Health.{FillsSockets}
use Rattle.live_status.proofs.Each.{refilled}
use Rattle.live_status.proofs.FilledHealth.{sockets-said}
use Rattle.live_status.proofs.health.fill_health.Goals as goal

pub returns-clause-streams : goal.returns-clause-streams
returns-clause-streams c = grind (arith, common_steps)

pub returns-clause-health : goal.returns-clause-health
returns-clause-health g c =
    let Fills = FillsSockets (g.H.HealthSource.says c.args.health.now) in
    let olds = c.args.snapshot.now.streams.items in
    let news = c.fill_sockets.new.streams in
    let filled : AreEach Fills olds news = subst (λ (l : List StreamState). AreEach Fills l news) c.as_mut_slice.ensures.value c.fill_sockets.ensures in
    record {
      sockets = sockets-said (g.H.HealthSource.says c.args.health.now) olds _ (subst (λ (l : List StreamState). AreEach Fills olds l) (sym (refilled olds news filled.length_is)) filled);
      failed = c.failed_sends-snapshot.ensures;
      stale = c.stale-snapshot.ensures;
      incomplete = c.incomplete-snapshot.ensures;
      sent_late = c.sent_late-snapshot.ensures;
      left_out = c.left_out-snapshot.ensures;
      outputs = c.outputs-snapshot.ensures;
    }
