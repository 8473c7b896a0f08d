use Rattle.std.proofs.Common.{◌<◌, length, sym, refl, subst, ◌∙◌, arith}
use Rattle.std.proofs.lemmas.Option.{slice_get_read}
use Rattle.status_page.specs.declared.snapshot.StreamState.{StreamState}
use Rattle.live_status.specs.StreamWatch.{ShowsWatchAt}
use Rattle.live_status.proofs.Each.{upto-all, upto-set}
use Rattle.live_status.proofs.reception_watch.show_watches.Goals as goal

pub loop-number-preserved : goal.loop-number-preserved
loop-number-preserved c =
    let P = ShowsWatchAt c.args.have_ended c.args.watches.now in
    let n = c.loop-number.number in
    let one = c.index-streams-number.result in
    let items = c.loop-number.streams in
    let upto = c.loop-number.invariant in
    let same = upto.length_is in
    let within : n < length items = (let below = c.loop-number-test.true in omega (arith, below, same)) in
    let there = slice_get_read items (length items) n one refl within c.index-streams-number.is in
    let at = sym (upto.left n (omega arith)) ∙ there in
    let this : P n one c.show_watch_at.new.stream = subst (λ (s : StreamState). P n s c.show_watch_at.new.stream) (sym c.index-streams-number.is) c.show_watch_at.ensures in
    upto-set P n c.args.streams.now items one c.show_watch_at.new.stream upto within at this

pub returns : goal.returns
returns c = upto-all (ShowsWatchAt c.args.have_ended c.args.watches.now) c.loop-number.number c.args.streams.now c.loop-number.streams c.loop-number-test.false c.loop-number.invariant
