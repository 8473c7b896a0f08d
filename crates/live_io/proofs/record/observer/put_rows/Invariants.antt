use Rattle.live_io.specs.RecordBlocks.{Sends, StaysEnded, row_blocks}
use Rattle.live_io.proofs.record.observer.put_rows.Given as goal

-- the paths so far were described
abbrev pub invariant-loop-path : goal.invariant-loop-path
invariant-loop-path l = record {
  sends : Sends l.fn.blocks (row_blocks l.stream l.description l.path) l.blocks;
  ended : StaysEnded l.fn.blocks l.blocks;
}
