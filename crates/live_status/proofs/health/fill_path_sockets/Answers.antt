use Rattle.std.proofs.Common.{◌<◌, length, sym, refl, subst, ◌∙◌, arith}
use Rattle.std.proofs.lemmas.Option.{slice_get_read}
use Rattle.status_page.specs.declared.snapshot.PathState.{PathState}
use Rattle.live_status.specs.Health.{FillsSocket}
use Rattle.live_status.proofs.Each.{upto-all, upto-set}
use Rattle.live_status.proofs.health.fill_path_sockets.Goals as goal

pub loop-place-preserved : goal.loop-place-preserved
loop-place-preserved g c =
    let Fills = FillsSocket (g.H.HealthSource.says c.args.health.now) c.args.number in
    let n = c.loop-place.place in
    let path = c.index-paths-place.result in
    let paths = c.loop-place.paths in
    let upto = c.loop-place.invariant in
    let same = upto.length_is in
    let within : n < length paths = (let below = c.loop-place-test.true in omega (arith, below, same)) in
    let there = slice_get_read paths (length paths) n path refl within c.index-paths-place.is in
    let at = sym (upto.left n (omega arith)) ∙ there in
    let this : Fills n path c.fill_socket.new.path = subst (λ (p : PathState). Fills n p c.fill_socket.new.path) (sym c.index-paths-place.is) c.fill_socket.ensures in
    upto-set Fills n c.args.paths.now paths path c.fill_socket.new.path upto within at this

pub returns : goal.returns
returns g c = upto-all (FillsSocket (g.H.HealthSource.says c.args.health.now) c.args.number) c.loop-place.place c.args.paths.now c.loop-place.paths c.loop-place-test.false c.loop-place.invariant
