use Rattle.std.proofs.Common.{◌<◌, length, arith}
use Rattle.std.proofs.lemmas.Option.{slice_get_within}
use Rattle.rtp_stream.specs.StreamSpecFacts.{IsStream}
use Rattle.studio_session.proofs.FaultLemmas.{holds_more}
use Rattle.studio_session.proofs.fault.are_streams.Goals as goal

pub loop-stream-init : goal.loop-stream-init
loop-stream-init c = λ i stream h at. absurd (omega (arith, h))

pub loop-stream-preserved : goal.loop-stream-preserved
loop-stream-preserved c = holds_more IsStream c.args.streams.now c.loop-stream.stream-index c.stream-item.result c.stream-item.is c.paths.ensures.sound c.loop-stream.invariant

pub returns : goal.returns
returns c = λ i stream at.
    let within : i < length c.args.streams.now = slice_get_within c.args.streams.now i stream at in
    c.loop-stream.invariant i stream (omega (arith, within, c.loop-stream-test.false, c.loop-stream.auto.stream-index-end)) at
