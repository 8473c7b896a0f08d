use Rattle.std.proofs.Common.{◌<◌, length, arith}
use Rattle.std.proofs.lemmas.Option.{slice_get_within}
use Rattle.live_audio.proofs.AudioLemmas.{latency_more}
use Rattle.live_audio.proofs.ring_size.greatest_latency.Goals as goal

pub loop-number-preserved : goal.loop-number-preserved
loop-number-preserved c =
    let streams = c.args.streams.now in
    let number = c.loop-number.number in
    let more = c.loop-number-test.true in
    let long = c.loop-number.auto.number-end in
    let within : number < length streams = omega (arith, more, long) in
    latency_more streams number c.loop-number.greatest c.latency.result c.greater_of-greatest.result c.index-streams-number.result c.greater_of-greatest.ensures.one c.greater_of-greatest.ensures.other c.latency.ensures.value
    c.index-streams-number.is within c.loop-number.invariant

pub returns : goal.returns
returns c = λ place stream at.
    let within = slice_get_within c.args.streams.now place stream at in
    let last = c.loop-number-test.false in
    let long = c.loop-number.auto.number-end in
    c.loop-number.invariant place stream (omega (arith, within, last, long)) at
