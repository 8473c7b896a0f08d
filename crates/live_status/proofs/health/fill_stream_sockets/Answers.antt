use Rattle.std.proofs.Common.{List, refl, subst, sym}
use Rattle.status_page.specs.declared.snapshot.PathState.{PathState}
use Rattle.live_status.specs.Each.{AreEach}
use Rattle.live_status.specs.Health.{FillsSocket}
use Rattle.live_status.proofs.Each.{refilled}
use Rattle.live_status.proofs.health.fill_stream_sockets.Goals as goal

pub returns : goal.returns
returns g c =
    let Fills = FillsSocket (g.H.HealthSource.says c.args.health.now) c.args.number in
    let olds = c.args.stream.now.paths.items in
    let news = c.fill_path_sockets.new.paths in
    let filled : AreEach Fills olds news = subst (λ (l : List PathState). AreEach Fills l news) c.as_mut_slice.ensures.value c.fill_path_sockets.ensures in
    record {
      name_is = refl;
      condition_is = refl;
      latency_is = refl;
      left_is = refl;
      counts_are = refl;
      paths_are = subst (λ (l : List PathState). AreEach Fills olds l) (sym (refilled olds news filled.length_is)) filled;
    }
