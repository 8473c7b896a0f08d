use Rattle.std.proofs.Common.{◌<◌, length, sym, refl, subst, ◌∙◌, arith}
use Rattle.std.proofs.lemmas.Option.{slice_get_read}
use Rattle.status_page.specs.declared.snapshot.StreamState.{StreamState}
use Rattle.live_status.specs.Health.{FillsSockets}
use Rattle.live_status.proofs.Each.{upto-all, upto-set}
use Rattle.live_status.proofs.health.fill_sockets.Goals as goal

pub loop-number-preserved : goal.loop-number-preserved
loop-number-preserved g c =
    let Fills = FillsSockets (g.H.HealthSource.says c.args.health.now) in
    let n = c.loop-number.number in
    let stream = c.index-streams-number.result in
    let streams = c.loop-number.streams in
    let upto = c.loop-number.invariant in
    let same = upto.length_is in
    let within : n < length streams = (let below = c.loop-number-test.true in omega (arith, below, same)) in
    let there = slice_get_read streams (length streams) n stream refl within c.index-streams-number.is in
    let at = sym (upto.left n (omega arith)) ∙ there in
    let this : Fills n stream c.fill_stream_sockets.new.stream = subst (λ (s : StreamState). Fills n s c.fill_stream_sockets.new.stream) (sym c.index-streams-number.is) c.fill_stream_sockets.ensures in
    upto-set Fills n c.args.streams.now streams stream c.fill_stream_sockets.new.stream upto within at this

pub returns : goal.returns
returns g c = upto-all (FillsSockets (g.H.HealthSource.says c.args.health.now)) c.loop-number.number c.args.streams.now c.loop-number.streams c.loop-number-test.false c.loop-number.invariant
