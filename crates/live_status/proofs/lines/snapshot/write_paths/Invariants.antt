use Rattle.std.proofs.Common.{◌≡◌, [], drop}
use Rattle.live_status.specs.SnapshotLines.{paths_lines}
use Rattle.live_status.proofs.SnapshotLines.{AreWriting}
use Rattle.live_status.proofs.lines.snapshot.write_paths.Given as goal

-- some of the lines of the paths so far were written
abbrev pub invariant-loop-place : goal.invariant-loop-place
invariant-loop-place g l = record {
  empty : l.text ≡ [];
  lines : AreWriting (paths_lines l.number 0 l.now l.paths) (g.W.Write.contents l.fn.writer) (g.W.Write.contents l.writer) (paths_lines l.number l.place l.now (drop l.place l.paths));
}
