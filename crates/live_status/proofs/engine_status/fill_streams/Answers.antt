use Rattle.std.proofs.Common.{◌<◌, Option, get_or, length, sym, refl, subst, ◌∙◌, arith}
use Rattle.std.proofs.lemmas.Option.{slice_get_read}
use Rattle.rtp_stats.specs.declared.copy_tracker.CopyTracker.{CopyTracker}
use Rattle.status_page.specs.declared.snapshot.StreamState.{StreamState}
use Rattle.live_status.specs.EngineStatus.{FillsEngineStream, FillsEngineStreamAt}
use Rattle.live_status.proofs.Each.{upto-all, upto-set}
use Rattle.live_status.proofs.EngineStatusLemmas.{found-at}
use Rattle.live_status.proofs.engine_status.fill_streams.Goals as goal

pub loop-number-preserved : goal.loop-number-preserved
loop-number-preserved c =
    let Sees = FillsEngineStreamAt c.args.engine.now c.args.trackers.now in
    let n = c.loop-number.number in
    let stream = c.index-streams-number.result in
    let streams = c.loop-number.streams in
    let upto = c.loop-number.invariant in
    let same = upto.length_is in
    let within : n < length streams = (let below = c.loop-number-test.true in omega (arith, below, same)) in
    let there = slice_get_read streams (length streams) n stream refl within c.index-streams-number.is in
    let at = sym (upto.left n (omega arith)) ∙ there in
    let was = get_or streams n stream in
    let filled : Sees n was c.fill_engine_stream.new.stream = subst (λ (tracker : Option CopyTracker). FillsEngineStream c.args.engine.now tracker n was c.fill_engine_stream.new.stream) (found-at c.args.trackers.now n c.get.result c.get.ensures.lookup.1 c.get.ensures.lookup.3) c.fill_engine_stream.ensures in
    let this : Sees n stream c.fill_engine_stream.new.stream = subst (λ (s : StreamState). Sees n s c.fill_engine_stream.new.stream) (sym c.index-streams-number.is) filled in
    upto-set Sees n c.args.streams.now streams stream c.fill_engine_stream.new.stream upto within at this

pub returns : goal.returns
returns c = upto-all (FillsEngineStreamAt c.args.engine.now c.args.trackers.now) c.loop-number.number c.args.streams.now c.loop-number.streams c.loop-number-test.false c.loop-number.invariant
