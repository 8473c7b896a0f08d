use Rattle.std.proofs.Common.{◌≡◌, ◌<◌, List, Option, length, sym, refl, subst, ◌∙◌, arith}
use Rattle.std.proofs.lemmas.Option.{slice_get_read}
use Rattle.rtp_stream.specs.declared.stream_counts.PathCounts.{PathCounts}
use Rattle.status_page.specs.declared.snapshot.StreamState.{StreamState}
use Rattle.live_status.proofs.Each.{upto-all, upto-set}
use Rattle.live_run.specs.StreamStatus.{FillsStreamAt, FillsEachStream}
use Rattle.live_run.proofs.StreamStatusLemmas.{left-next}
use Rattle.live_run.proofs.workers.stream_status.fill_streams.Goals as goal

pub loop-number-preserved : goal.loop-number-preserved
loop-number-preserved c =
    let stats = c.args.stats.now in
    let counts = c.args.counts.now in
    let olds = c.args.streams.now in
    let n = c.loop-number.number in
    let streams = c.loop-number.streams in
    let stream = c.index-streams-number.result in
    let new = c.fill_stream_at.new.stream in
    let is_left = c.loop-number.invariant.0 in
    let upto = c.loop-number.invariant.1 in
    let same = upto.length_is in
    let within : n < length streams = (let below = c.loop-number-test.true in omega (arith, below, same)) in
    let there = slice_get_read streams (length streams) n stream refl within c.index-streams-number.is in
    let at = sym (upto.left n (omega arith)) ∙ there in
    let is_paths = subst (λ (s : StreamState). c.len-paths.result ≡ length s.paths.items) (sym c.index-streams-number.is) c.len-paths.ensures.value in
    let this : FillsEachStream stats counts olds n stream new = subst (λ (left : List (Option PathCounts)). FillsStreamAt stats n left stream new) is_left
    (subst (λ (s : StreamState). FillsStreamAt stats n c.loop-number.left.now s new) (sym c.index-streams-number.is) c.fill_stream_at.ensures) in (
      left-next olds n c.len-paths.result stream counts c.loop-number.left.now _ at is_paths is_left c.counts_past-left.ensures,
      upto-set (FillsEachStream stats counts olds) n olds streams stream new upto within at this,
    )

pub returns : goal.returns
returns c = upto-all (FillsEachStream c.args.stats.now c.args.counts.now c.args.streams.now) c.loop-number.number c.args.streams.now c.loop-number.streams c.loop-number-test.false c.loop-number.invariant.1
