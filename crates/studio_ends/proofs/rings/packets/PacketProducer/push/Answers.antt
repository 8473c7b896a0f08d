use Rattle.std.proofs.Common.{arith, ◌≡◌, ◌∙◌, ◌<◌, sym, ap, subst, length}
use Rattle.rtrb.specs.Ring.{known_free}
use Rattle.studio_ends.specs.PacketRings.{sender_in}
use Rattle.studio_ends.specs.CellSizes.{HasCellsFor, producer_with}
use Rattle.studio_ends.proofs.CellSizeLemmas.{fits_long, fits_middle, fits_short}
use Rattle.studio_ends.proofs.rings.packets.PacketProducer.push.Goals as goal

pub push-requires : goal.push-requires
push-requires c =
    let seen : producer_with 0 c.in-Short.end ≡ c.args.self.now = ap sender_in (sym c.in-Short.is) ∙ c.self.view_is in
    (omega arith, (subst (λ p. 0 < known_free p) (sym seen) c.requires.free, fits_short (length c.args.packet.payload.now) c.in-Short.end.end.names (subst (HasCellsFor (length c.args.packet.payload.now)) (sym seen) c.requires.cells)))

pub push-requires-in-Middle : goal.push-requires-in-Middle
push-requires-in-Middle c =
    let seen : producer_with 1 c.in-Middle.end ≡ c.args.self.now = ap sender_in (sym c.in-Middle.is) ∙ c.self.view_is in
    (omega arith, (subst (λ p. 0 < known_free p) (sym seen) c.requires.free, fits_middle (length c.args.packet.payload.now) c.in-Middle.end.end.names (subst (HasCellsFor (length c.args.packet.payload.now)) (sym seen) c.requires.cells)))

pub push-requires-in-Long : goal.push-requires-in-Long
push-requires-in-Long c =
    let seen : producer_with 2 c.in-Long.end ≡ c.args.self.now = ap sender_in (sym c.in-Long.is) ∙ c.self.view_is in
    (omega arith, (subst (λ p. 0 < known_free p) (sym seen) c.requires.free, fits_long (length c.args.packet.payload.now) c.in-Long.end.end.names (subst (HasCellsFor (length c.args.packet.payload.now)) (sym seen) c.requires.cells)))
