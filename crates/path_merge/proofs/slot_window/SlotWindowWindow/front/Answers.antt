use Rattle.std.proofs.Common.{sym, ◌∙◌}
use Rattle.path_merge.specs.SlotWindow.{SlotRing}
use Rattle.path_merge.proofs.RingLemmas.{slot_read}
use Rattle.path_merge.proofs.SlotWindowLemmas.{front_slot, held_is}
use Rattle.path_merge.proofs.slot_window.SlotWindowWindow.front.Goals as goal

pub returns : goal.returns
returns c =
    let ring : SlotRing = record { base = c.self.inside.base; front = c.self.inside.front; span = c.self.inside.span; slots = c.self.inside.slots.items } in
    rw (← c.self.view_is) (c.packet.ensures ∙ c.index.ensures ∙ slot_read c.self.inside.slots.items c.self.inside.front c.index.result.now c.self.invariant.front ∙ sym (front_slot ring c.self.invariant) ∙ sym (held_is ring c.self.inside.base))
