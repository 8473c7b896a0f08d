use Rattle.std.proofs.Common.{◌≡◌, ℕ, ◌+◌, Bool, Option, if◌then◌else◌, IsOk, Some, List, arith, ap, sym, refl, ◌∙◌}
use Rattle.std.specs.Prelude.{insert, bytes_eq}
use Rattle.rtp_stream.specs.declared.packet.Packet.{Packet}
use Rattle.rtp_stream.specs.declared.fate.Put.TheVariants.{Double, Unlike}
use Rattle.std.specs.Ordering.{nat_cmp}
use Rattle.std.specs.FinMap.{get, from_entries}
use Rattle.rtp_stream.specs.Grid.{first_with}
use Rattle.rtp_stream.specs.PacketRef.{packet_of}
use Rattle.rtp_stream.specs.Put.{put_answer}
use Rattle.path_merge.specs.SortedWindow.{SortedPackets, IsFoundAt}
use Rattle.path_merge.proofs.SortedLemmas.{get_entries, IsPut, put_in_gap, found_by_place}
use Rattle.path_merge.proofs.sorted_window.SortedWindowWindow.put_ref.Goals as goal
use Rattle.path_merge.proofs.sorted_window.SortedWindowWindow.put_ref.Goals.{After-insert, then-eq, else-eq}

-- the effect of the insertion
is_put : (c : After-insert) → IsPut c.self.inside.base (c.self.inside.base + c.self.inside.size) c.args.number (packet_of c.args.packet) c.self.inside.packets.items (insert c.self.inside.packets.items c.in-Err.at (c.args.number, (packet_of c.args.packet)))
is_put c =
    let base = ap (λ (h : SortedPackets). h.base) c.self.view_is in
    let size = ap (λ (h : SortedPackets). h.size) c.self.view_is in
    put_in_gap _ _ _ _ _ _ c.self.invariant.within (omega (arith, c.requires.not_below)) (omega (arith, c.requires.below)) (rw c.deref.ensures.value at c.in-Err.ensures.absent)

-- there is space, so it succeeds
new_items : (c : After-insert) → c.insert.new.self.items ≡ insert c.self.inside.packets.items c.in-Err.at (c.args.number, (packet_of c.args.packet))
new_items c =
    let ok : IsOk c.insert.result = c.insert.ensures.succeeds (omega (arith, (is_put c).space, c.self.invariant.space, c.self.inside.packets.ok.0)) in
    grind (arith, c.insert.ensures.items, ok)

pub invariant_of-self : goal.invariant_of-self
invariant_of-self c = record {
  within = rw (new_items c) (is_put c).within;
  space = omega (arith, c.insert.ensures.capacity, c.self.invariant.space);
  small = c.self.invariant.small;
  narrow = c.self.invariant.narrow;
}

pub returns-in-Err-clause-answer : goal.returns-in-Err-clause-answer
returns-in-Err-clause-answer c = ap (λ o. put_answer o (packet_of c.args.packet)) (sym (is_put c).absent ∙ sym (get_entries _ _) ∙ ap (λ (h : SortedPackets). get (from_entries {R = nat_cmp} h.packets) c.args.number) c.self.view_is)

pub returns-in-Err-clause-held : goal.returns-in-Err-clause-held
returns-in-Err-clause-held c n = rw (new_items c, ← c.self.view_is) (simp get_entries ((is_put c).held n))

-- the result of a put if a packet is held
answer_of : (o : Option Packet) (q p : Packet) (xs ys : List ℕ) (b : Bool) → o ≡ Some q → xs ≡ q.payload.items → ys ≡ p.payload.items → b ≡ bytes_eq xs ys → put_answer o p ≡ (if b then Double else Unlike)
answer_of o q p xs ys b found is_q is_p is_b = rw (found, is_b, is_q, is_p)

pub returns-after-eq-clause-answer : goal.returns-after-eq-clause-answer
returns-after-eq-clause-answer c =
    let at : IsFoundAt c.self.inside.packets.items c.args.number c.in-Ok.at = rw c.deref.ensures.value at c.in-Ok.ensures.found in
    let first : first_with c.args.number c.self.inside.packets.items ≡ Some c.index.result.now.1 = found_by_place c.args.number c.in-Ok.at c.index.result.now c.self.inside.packets.items at.in_range at.smaller_before c.index.ensures (rw c.index.ensures (at.has_number c.index.result.now)) in
    let answer = answer_of (get (from_entries {R = nat_cmp} c.args.self.now.packets) c.args.number) c.index.result.now.1 (packet_of c.args.packet) c.as_slice.result.now c.args.packet.payload.now c.eq.result (get_entries _ _ ∙ ap (λ (h : SortedPackets). first_with c.args.number h.packets) (sym c.self.view_is) ∙ first) c.as_slice.ensures.value refl c.eq.ensures in
    elim c.if-eq.branch [ then-eq w ↦ w.result-is ∙ sym (answer ∙ ap (λ b. if b then Double else Unlike) w.if-eq.true) | else-eq w ↦ w.result-is ∙ sym (answer ∙ ap (λ b. if b then Double else Unlike) w.if-eq.false) ]
