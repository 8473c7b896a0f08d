use Rattle.std.proofs.lemmas.Grind.{elements}
use Rattle.std.proofs.Common.{◌+◌, ◌*◌, ◌≤◌, ◌++◌, ap, sym, subst, refl, ◌∙◌, length, arith}
use Rattle.lane_align.specs.HeldValues.{Held, silence}
use Rattle.lane_align.proofs.HeldLemmas.{values_added, held_of}
use Rattle.lane_align.proofs.frame_queue.FrameQueue.add.Goals as goal

pub returns : goal.returns
returns c =
    let q = c.self.inside in
    let P = λ (h : Held). length h.values + c.args.silent * h.channels ≤ h.block * h.channels in
    let Q = λ (h : Held). h.block * h.channels + length c.args.samples.now ≤ h.capacity in
    values_added q.channels q.block q.lead q.front q.gap q.stored.items c.self.invariant c.args.silent c.args.gap q.stored.capacity c.fill_from_slice.result c.len-self-inside.result c.args.samples.now q.stored c.store_silence.new.stored c.fill_from_slice.new.self
    refl (subst P (sym c.self.view_is) c.requires.within) (subst Q (sym c.self.view_is) c.requires.space) c.store_silence.ensures c.len-self-inside.ensures.len c.fill_from_slice.ensures.count c.fill_from_slice.ensures.items
    ∙ ap (λ (h : Held). held_of h.channels h.block h.capacity (h.values ++ (silence h.channels (c.args.silent + c.args.gap) ++ c.args.samples.now))) c.self.view_is

pub invariant_of-self : goal.invariant_of-self
invariant_of-self c = grind (arith, elements)

pub store_silence-requires-clause-space : goal.store_silence-requires-clause-space
store_silence-requires-clause-space c = grind (arith, elements)
