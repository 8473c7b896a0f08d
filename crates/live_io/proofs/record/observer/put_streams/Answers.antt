use Rattle.std.proofs.Common.{◌<◌, length, arith}
use Rattle.live_io.proofs.PutLemmas.{describes_more}
use Rattle.live_io.proofs.record.observer.put_streams.Goals as goal

pub loop-number-preserved : goal.loop-number-preserved
loop-number-preserved c =
    let streams = c.args.streams.now in
    let number = c.loop-number.number in
    let more = c.loop-number-test.true in
    let long = c.loop-number.auto.number-end in
    let within : number < length streams = omega (arith, more, long) in
    describes_more streams number c.index-streams-number.result c.args.blocks.now c.loop-number.blocks c.put_paths.new.blocks within c.index-streams-number.is c.loop-number.invariant
    c.put_paths.ensures.sends c.put_paths.ensures.ended
