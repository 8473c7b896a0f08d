use Rattle.std.proofs.lemmas.Grind.{elements}
use Rattle.std.proofs.Common.{◌∙◌, sym, subst, arith}
use Rattle.rtp_stream.specs.MarkFacts.{payload_length}
use Rattle.rtp_stream.specs.declared.mark.PacketFormat.{PacketFormat}
use Rattle.studio_ends.specs.CellSizes.{HasCellsFor}
use Rattle.studio_ends.proofs.FormatLemmas.{next_format}
use Rattle.studio_ends.proofs.stream_end.marks_out.push_next.Goals as goal

pub push-requires-clause-cells : goal.push-requires-clause-cells
push-requires-clause-cells c =
    let same = next_format c.args.merge.now c.args.goal c.in-Some.mark (sym c.mark_to-next.ensures ∙ c.in-Some.is) in
    subst (λ (f : PacketFormat). HasCellsFor (payload_length f) c.args.marks.now) (sym same) c.requires.cells

pub returns-clause-there : goal.returns-clause-there
returns-clause-there c = grind (arith, elements)

pub returns-clause-all : goal.returns-clause-all
returns-clause-all c = grind (arith, elements)

pub returns-clause-count : goal.returns-clause-count
returns-clause-count c = grind (arith, elements)
