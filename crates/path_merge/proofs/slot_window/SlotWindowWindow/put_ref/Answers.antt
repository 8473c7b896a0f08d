use Rattle.std.proofs.lemmas.Grind.{elements}
use Rattle.std.proofs.Common.{◌≡◌, ◌+◌, ◌-◌, max, Some, length, if◌then◌else◌, arith, ap, sym, ◌∙◌}
use Rattle.std.specs.Prelude.{nat_eq, slice_set}
use Rattle.std.specs.Ordering.{nat_cmp}
use Rattle.std.specs.FinMap.{get, from_entries}
use Rattle.rtp_stream.specs.PacketRef.{packet_of}
use Rattle.path_merge.specs.SlotWindow.{SlotRing, packets_in, place_at}
use Rattle.rtp_stream.specs.Put.{put_answer}
use Rattle.path_merge.proofs.SlotWindowLemmas.{held_is, put_place, put_ring, put_slot, read_here, slot_of}
use Rattle.path_merge.proofs.slot_window.SlotWindowWindow.put_ref.Goals as goal

pub invariant_of-self : goal.invariant_of-self
invariant_of-self c =
    let ring : SlotRing = record { base = c.self.inside.base; front = c.self.inside.front; span = c.self.inside.span; slots = c.self.inside.slots.items } in
    let p = put_place ring _ c.args.number c.self.view_is c.requires.not_below c.requires.below in
    let size : c.len.result ≡ length c.self.inside.slots.items = omega (arith, c.len.ensures, c.self.inside.slots.ok.0) in
    let at = c.place_after-at.ensures.place ∙ ap (λ size. place_at c.self.inside.front size (c.args.number - c.self.inside.base)) size in
    rw (at, c.max-self-inside.ensures, c.write.ensures) (put_ring ring c.self.invariant (c.args.number - c.self.inside.base) p.1 (packet_of c.args.packet))

pub returns-in-Taken-clause-answer : goal.returns-in-Taken-clause-answer
returns-in-Taken-clause-answer c =
    let ring : SlotRing = record { base = c.self.inside.base; front = c.self.inside.front; span = c.self.inside.span; slots = c.self.inside.slots.items } in
    let p = put_place ring _ c.args.number c.self.view_is c.requires.not_below c.requires.below in
    let size : c.len.result ≡ length c.self.inside.slots.items = omega (arith, c.len.ensures, c.self.inside.slots.ok.0) in
    let at = c.place_after-at.ensures.place ∙ ap (λ size. place_at c.self.inside.front size (c.args.number - c.self.inside.base)) size in
    let here = read_here ring c.self.invariant c.args.number c.place_after-at.result c.index.result.now p.0 p.1 at c.index.ensures in
    c.answer-answer.ensures ∙ ap (λ o. put_answer o (packet_of c.args.packet)) (sym here ∙ sym (held_is ring c.args.number) ∙ ap (λ x. get (from_entries {R = nat_cmp} (packets_in x)) c.args.number) c.self.view_is)

pub returns-in-Double-clause-answer : goal.returns-in-Double-clause-answer
returns-in-Double-clause-answer c =
    let ring : SlotRing = record { base = c.self.inside.base; front = c.self.inside.front; span = c.self.inside.span; slots = c.self.inside.slots.items } in
    let p = put_place ring _ c.args.number c.self.view_is c.requires.not_below c.requires.below in
    let size : c.len.result ≡ length c.self.inside.slots.items = omega (arith, c.len.ensures, c.self.inside.slots.ok.0) in
    let at = c.place_after-at.ensures.place ∙ ap (λ size. place_at c.self.inside.front size (c.args.number - c.self.inside.base)) size in
    let here = read_here ring c.self.invariant c.args.number c.place_after-at.result c.index.result.now p.0 p.1 at c.index.ensures in
    c.answer-answer.ensures ∙ ap (λ o. put_answer o (packet_of c.args.packet)) (sym here ∙ sym (held_is ring c.args.number) ∙ ap (λ x. get (from_entries {R = nat_cmp} (packets_in x)) c.args.number) c.self.view_is)

pub returns-in-Unlike-clause-answer : goal.returns-in-Unlike-clause-answer
returns-in-Unlike-clause-answer c =
    let ring : SlotRing = record { base = c.self.inside.base; front = c.self.inside.front; span = c.self.inside.span; slots = c.self.inside.slots.items } in
    let p = put_place ring _ c.args.number c.self.view_is c.requires.not_below c.requires.below in
    let size : c.len.result ≡ length c.self.inside.slots.items = omega (arith, c.len.ensures, c.self.inside.slots.ok.0) in
    let at = c.place_after-at.ensures.place ∙ ap (λ size. place_at c.self.inside.front size (c.args.number - c.self.inside.base)) size in
    let here = read_here ring c.self.invariant c.args.number c.place_after-at.result c.index.result.now p.0 p.1 at c.index.ensures in
    c.answer-answer.ensures ∙ ap (λ o. put_answer o (packet_of c.args.packet)) (sym here ∙ sym (held_is ring c.args.number) ∙ ap (λ x. get (from_entries {R = nat_cmp} (packets_in x)) c.args.number) c.self.view_is)

pub returns-in-Taken-clause-held : goal.returns-in-Taken-clause-held
returns-in-Taken-clause-held c n =
    let ring : SlotRing = record { base = c.self.inside.base; front = c.self.inside.front; span = c.self.inside.span; slots = c.self.inside.slots.items } in
    let p = put_place ring _ c.args.number c.self.view_is c.requires.not_below c.requires.below in
    let size : c.len.result ≡ length c.self.inside.slots.items = omega (arith, c.len.ensures, c.self.inside.slots.ok.0) in
    let at = c.place_after-at.ensures.place ∙ ap (λ size. place_at c.self.inside.front size (c.args.number - c.self.inside.base)) size in
    rw (at, c.write.ensures, c.in-Taken.is) (held_is (record ring { slots = slice_set ring.slots (place_at ring.front (length ring.slots) (c.args.number - c.self.inside.base)) (Some (packet_of c.args.packet)); span = max ring.span (c.args.number - c.self.inside.base + 1) }) n
    ∙ put_slot ring c.self.invariant (c.args.number - c.self.inside.base) p.1 (packet_of c.args.packet) n
    ∙ ap (λ m. if nat_eq n m then Some (packet_of c.args.packet) else slot_of ring n) p.2
    ∙ ap (λ o. if nat_eq n c.args.number then Some (packet_of c.args.packet) else o) (sym (held_is ring n) ∙ ap (λ x. get (from_entries {R = nat_cmp} (packets_in x)) n) c.self.view_is))

pub returns-in-Taken-clause-size : goal.returns-in-Taken-clause-size
returns-in-Taken-clause-size c = grind (arith, elements)

pub returns-in-Taken-clause-base : goal.returns-in-Taken-clause-base
returns-in-Taken-clause-base c = grind (arith, elements)
