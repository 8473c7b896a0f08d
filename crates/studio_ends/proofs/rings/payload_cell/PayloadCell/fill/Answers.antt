use Rattle.std.proofs.Common.{◌∙◌, length, ap}
use Rattle.studio_ends.proofs.CellLemmas.{length_is, written, written_is}
use Rattle.studio_ends.proofs.rings.payload_cell.PayloadCell.fill.Goals as goal

pub invariant_of-self : goal.invariant_of-self
invariant_of-self g c =
    let len = length_is g.row.N c.self.inside.len c.self.inside.octets c.set_len.new.self c.self.invariant c.self.view_is ∙ c.set_len.ensures in
    written g.row.N c.self.inside.len _ c.self.inside.octets c.copy_from_slice.new.self c.self.invariant len (ap length c.copy_from_slice.ensures.after)

pub returns : goal.returns
returns g c =
    let len = length_is g.row.N c.self.inside.len c.self.inside.octets c.set_len.new.self c.self.invariant c.self.view_is ∙ c.set_len.ensures in
    written_is c.self.inside.len _ c.self.inside.octets c.copy_from_slice.new.self len (ap length c.copy_from_slice.ensures.after) ∙ c.copy_from_slice.ensures.after
