use Rattle.std.proofs.lemmas.Grind.{elements}
use Rattle.std.proofs.Common.{◌≡◌, [], ◌∷◌, ◌++◌, None, Some, arith, append-nil, sym, subst, ◌∙◌, w64, true, false}
use Rattle.std.proofs.lemmas.Int.{ints, to_z-of_z}
use Rattle.rtp_stream.specs.declared.event.Event.TheVariants.{Tick}
use Rattle.rtp_stream.specs.Marks.{is_slot}
use Rattle.path_merge.specs.Run.{HasGiven}
use Rattle.path_merge.proofs.JoinLemmas.{alike-refl}
use Rattle.path_merge.proofs.RunLemmas.{no_fault, still_no_fault, moves_by_slot, moves_by_other, one_more, last_step}
use Rattle.path_merge.proofs.event_list.advance_to.Goals as goal

pub advances-init : goal.advances-init
advances-init g c =
    let now_is = to_z-of_z w64 c.args.now c.ranges.now in
    rw now_is (record { can = c.requires; on_way = λ stream open_at events given. (events, given, alike-refl stream open_at _) })

pub returns-then-not-slot : goal.returns-then-not-slot
returns-then-not-slot g c = λ stream open_at events given.
    let now_is = to_z-of_z w64 c.args.now c.ranges.now in
    let w = c.advances.invariant.on_way stream open_at events given in
    let other : is_slot c.in-Ok-Some.mark.kind ≡ false = sym c.is_slot-slot.ensures ∙ c.if-not-slot.true in
    let there = moves_by_other c.advances.merge c.advance.new.self _ c.in-Ok-Some.mark other (rw c.in-Ok-Some.field-0-is at c.in-Ok-Some.ensures.moved) in
    subst (λ t. HasGiven stream open_at c.advance.new.self (events ++ Tick t ∷ []) c.push.new.self.items) now_is
    (rw c.in_ok-push-in-Ok-Some.ensures.items (last_step stream open_at c.advances.merge c.advance.new.self _ events w.0 c.advances.marks.items w.1 w.2 (Some c.in-Ok-Some.mark) there (rw c.in-Ok-Some.field-0-is at (c.in-Ok-Some.ensures.stands stream open_at w.0 _ w.1.stands))))

pub returns-in-Ok-None : goal.returns-in-Ok-None
returns-in-Ok-None g c = λ stream open_at events given.
    let now_is = to_z-of_z w64 c.args.now c.ranges.now in
    let w = c.advances.invariant.on_way stream open_at events given in
    let there = (rw c.in-Ok-None.field-0-is at c.in-Ok-None.ensures.moved).0 in
    subst (λ t. HasGiven stream open_at c.advance.new.self (events ++ Tick t ∷ []) c.advances.marks.items) now_is
    (rw append-nil at (last_step stream open_at c.advances.merge c.advance.new.self _ events w.0 c.advances.marks.items w.1 w.2 None there (rw c.in-Ok-None.field-0-is at (c.in-Ok-None.ensures.stands stream open_at w.0 _ w.1.stands))))

pub advances-smaller : goal.advances-smaller
advances-smaller g c =
    let now_is = to_z-of_z w64 c.args.now c.ranges.now in
    let slot = moves_by_slot c.advances.merge c.advance.new.self _ c.in-Ok-Some.mark (sym c.is_slot-slot.ensures ∙ c.if-not-slot.false) (rw c.in-Ok-Some.field-0-is at c.in-Ok-Some.ensures.moved) in
    omega (arith, ints, slot.0, slot.1)

pub advances-preserved : goal.advances-preserved
advances-preserved g c =
    let is_slot_mark : is_slot c.in-Ok-Some.mark.kind ≡ true = sym c.is_slot-slot.ensures ∙ c.if-not-slot.false in
    let slot = moves_by_slot c.advances.merge c.advance.new.self _ c.in-Ok-Some.mark is_slot_mark (rw c.in-Ok-Some.field-0-is at c.in-Ok-Some.ensures.moved) in
    let free = no_fault c.advances.merge.time c.advances.merge.closed _ c.advances.invariant.can in
    record {
      can = still_no_fault c.advance.new.self.time c.advance.new.self.closed _ slot.1 free.1 (slot.2 ∙ free.2);
      on_way = λ stream open_at events given.
          let w = c.advances.invariant.on_way stream open_at events given in
          rw c.in_ok-push-in-Ok-Some.ensures.items (one_more stream open_at c.advances.merge c.advance.new.self _ events w.0 c.advances.marks.items w.1 w.2 c.in-Ok-Some.mark is_slot_mark (rw c.in-Ok-Some.field-0-is at (c.in-Ok-Some.ensures.stands stream open_at w.0 _ w.1.stands)));
    }

pub returns-in-Err : goal.returns-in-Err
returns-in-Err c = grind (arith, elements)
