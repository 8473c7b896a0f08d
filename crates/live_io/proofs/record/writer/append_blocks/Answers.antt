use Rattle.live_io.proofs.WrittenLemmas.{cut_behind}
use Rattle.live_io.proofs.record.writer.append_blocks.Goals as goal

pub returns-in-Some-clause-failed : goal.returns-in-Some-clause-failed
returns-in-Some-clause-failed g c = record {
  count = c.write_front-done.result;
  kept = c.whole_blocks-kept.ensures.whole;
  cut = λ is held holds len. cut_behind c.args.paths _ _ _ held c.args.octets.now c.write_front-done.result c.args.len c.in-Some.end _ c.whole_blocks-kept.ensures.whole
      holds c.write_front-done.ensures.written len c.in-Some.ensures.sum (c.cut_to-is_cut.ensures is);
}
