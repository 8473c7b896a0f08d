use Rattle.std.proofs.Common.{◌≡◌, ◌+◌, ℤ, drop, Err, rules, subst, to_z, of_z, w64}
use Rattle.std.proofs.lemmas.Int.{to_z-of_z}
use Rattle.live_status.specs.SnapshotLines.{WritesPart, stream_lines, streams_lines}
use Rattle.live_status.proofs.SnapshotLines.{streams_next, writing-broken, writing-more}
use Rattle.live_status.proofs.lines.snapshot.write_streams.Goals as goal

pub loop-number-preserved : goal.loop-number-preserved
loop-number-preserved g c =
    let time = to_z w64 (of_z w64 c.args.now) in
    let n = c.loop-number.number in
    let streams = c.args.streams.now in
    let left = streams_lines n time (drop n streams) in
    let piece = stream_lines n time c.index-streams-number.result in
    let left_then = streams_lines (n + 1) time (drop (n + 1) streams) in
    record {
      empty = c.in_ok-write_stream.ensures.empty;
      lines =
          writing-more _ _ _ _ left piece left_then (streams_next n time streams c.index-streams-number.result c.loop-number-test.true c.index-streams-number.is)
          c.loop-number.invariant.lines c.in_ok-write_stream.ensures.ok;
    }

pub returns-in_err-write_stream-clause-fault : goal.returns-in_err-write_stream-clause-fault
returns-in_err-write_stream-clause-fault g c =
    let time = to_z w64 (of_z w64 c.args.now) in
    let n = c.loop-number.number in
    let streams = c.args.streams.now in
    let left = streams_lines n time (drop n streams) in
    let piece = stream_lines n time c.index-streams-number.result in
    let left_then = streams_lines (n + 1) time (drop (n + 1) streams) in
    let is : c.from_residual.result ≡ Err c.in_err-write_stream.field-0.0 = search rules in
    rw is (subst (λ (t : ℤ). WritesPart (g.W.Write.contents c.args.writer.now) (streams_lines 0 t c.args.streams.now) (g.W.Write.contents c.write_stream.new.writer)) (to_z-of_z w64 c.args.now c.ranges.now)
    (writing-broken _ _ _ _ left piece left_then (streams_next n time streams c.index-streams-number.result c.loop-number-test.true c.index-streams-number.is)
    c.loop-number.invariant.lines c.in_err-write_stream.ensures.fault))
