use Rattle.live_io.specs.RecordWriter.{HasWritten}
use Rattle.live_io.proofs.record.writer.write_record.Given as goal

-- the whole blocks that came so far were written
abbrev pub invariant-turns : goal.invariant-turns
invariant-turns g l =
    HasWritten (g.D.Write.contents l.fn.file) l.fn.writer → HasWritten (g.D.Write.contents l.file) l.writer
