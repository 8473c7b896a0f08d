use Rattle.std.proofs.Common.{rules}
use Rattle.studio_ends.proofs.CellLemmas.{mark_within}
use Rattle.studio_ends.proofs.rings.mark_cell.SizedMarkProducer.push.Goals as goal

pub fill-requires : goal.fill-requires
fill-requires g c = (search rules, mark_within g.row.N c.args.mark.now.format c.args.mark.now.kind c.kind-kind.ensures.sound c.requires.space)
