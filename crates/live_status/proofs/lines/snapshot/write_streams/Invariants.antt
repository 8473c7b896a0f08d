use Rattle.std.proofs.Common.{◌≡◌, [], drop}
use Rattle.live_status.specs.SnapshotLines.{streams_lines}
use Rattle.live_status.proofs.SnapshotLines.{AreWriting}
use Rattle.live_status.proofs.lines.snapshot.write_streams.Given as goal

-- some of the lines of the streams so far were written
abbrev pub invariant-loop-number : goal.invariant-loop-number
invariant-loop-number g l = record {
  empty : l.text ≡ [];
  lines : AreWriting (streams_lines 0 l.now l.streams) (g.W.Write.contents l.fn.writer) (g.W.Write.contents l.writer) (streams_lines l.number l.now (drop l.number l.streams));
}
