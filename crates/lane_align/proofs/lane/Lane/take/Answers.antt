use Rattle.std.proofs.lemmas.Grind.{elements}
use Rattle.std.specs.Prelude.{option_copied}
use Rattle.std.proofs.Common.{◌≡◌, ◌∙◌, ◌++◌, ◌∷◌, [], Some, take, sym, ap, subst, arith, rules, to_z, of_z, w64}
use Rattle.std.proofs.lemmas.Int.{ints}
use Rattle.rtp_stream.specs.MarkFacts.{HasLength, payload_length}
use Rattle.rtp_stream.specs.MarkRef.{body_from, kind_of}
use Rattle.lane_align.specs.Lane.{HasFeed, IsAfter, with_slot}
use Rattle.lane_align.proofs.LaneLemmas.{fed_next, lane_of}
use Rattle.lane_align.proofs.SlotLemmas.{fed_slot, fed_quiet, fed_end, next_after}
use Rattle.lane_align.proofs.lane.Lane.take.Goals as goal

pub take_slot-requires-clause-after : goal.take_slot-requires-clause-after
take_slot-requires-clause-after c =
    let now = c.args.self.now in
    let s = c.in-Slot in
    let same : to_z w64 (of_z w64 s.media) ≡ s.media = omega (arith, ints) in
    subst (IsAfter now.format.frames now.slot) (sym same) (next_after now c.args.mark.now s.epoch s.number s.media (body_from (option_copied s.payload)) c.requires.accepted (sym c.kind.ensures.value ∙ ap kind_of s.is))

pub keep_slot-requires-clause-after : goal.keep_slot-requires-clause-after
keep_slot-requires-clause-after c =
    let now = c.args.self.now in
    let s = c.in-Slot in
    let same : to_z w64 (of_z w64 s.media) ≡ s.media = omega (arith, ints) in
    subst (IsAfter now.format.frames now.slot) (sym same) (next_after now c.args.mark.now s.epoch s.number s.media (body_from (option_copied s.payload)) c.requires.accepted (sym c.kind.ensures.value ∙ ap kind_of s.is))

pub returns-then-has_space-clause-stands : goal.returns-then-has_space-clause-stands
returns-then-has_space-clause-stands c = λ stream from size marks t fed.
    let now = c.args.self.now in
    let s = c.in-Slot in
    let is_slot = sym c.kind.ensures.value ∙ ap kind_of s.is in
    let same : to_z w64 (of_z w64 s.media) ≡ s.media = omega (arith, ints) in
    let after = next_after now c.args.mark.now s.epoch s.number s.media (body_from (option_copied s.payload)) c.requires.accepted is_slot in
    let listed = sym (fed_next stream from size now marks t c.args.mark.now fed) ∙ c.requires.accepted in
    let fits : HasLength (payload_length now.format) (body_from (option_copied s.payload)) = search rules in
    let taken = c.keep_slot.ensures.taken ∙ ap (λ m. with_slot now (record { epoch = s.epoch; number = s.number; media = m }) (body_from (option_copied s.payload))) same in
    subst (λ l. HasFeed stream from size l (marks ++ c.args.mark.now ∷ []) t) (sym taken)
    (fed_slot stream from size now marks t c.args.mark.now s.epoch s.number s.media (body_from (option_copied s.payload)) fed is_slot fits after c.keep_slot.ensures.left c.keep_slot.ensures.came listed)

pub returns-else-has_space-clause-stands : goal.returns-else-has_space-clause-stands
returns-else-has_space-clause-stands c = λ stream from size marks t fed.
    let now = c.args.self.now in
    let s = c.in-Slot in
    let is_slot = sym c.kind.ensures.value ∙ ap kind_of s.is in
    let same : to_z w64 (of_z w64 s.media) ≡ s.media = omega (arith, ints) in
    let after = next_after now c.args.mark.now s.epoch s.number s.media (body_from (option_copied s.payload)) c.requires.accepted is_slot in
    let listed = sym (fed_next stream from size now marks t c.args.mark.now fed) ∙ c.requires.accepted in
    let fits : HasLength (payload_length now.format) (body_from (option_copied s.payload)) = search rules in
    let taken = c.take_slot.ensures.taken ∙ ap (λ m. with_slot now (record { epoch = s.epoch; number = s.number; media = m }) (body_from (option_copied s.payload))) same in
    subst (λ l. HasFeed stream from size l (marks ++ c.args.mark.now ∷ []) t) (sym taken)
    (fed_slot stream from size now marks t c.args.mark.now s.epoch s.number s.media (body_from (option_copied s.payload)) fed is_slot fits after c.take_slot.ensures.left c.take_slot.ensures.came listed)

pub returns-in-Quiet-clause-stands : goal.returns-in-Quiet-clause-stands
returns-in-Quiet-clause-stands c = λ stream from size marks t fed.
    let i = c.self.inside in
    let lane = lane_of i.format i.start i.block i.position i.slot i.quiet i.ended i.capacity i.values.values i.presence.values (take i.block i.present) in
    let fed' : HasFeed stream from size lane marks t = subst (λ l. HasFeed stream from size l marks t) (sym c.self.view_is) fed in
    let listed = sym (fed_next stream from size c.args.self.now marks t c.args.mark.now fed) ∙ c.requires.accepted in
    let same : to_z w64 (of_z w64 c.in-Quiet.until) ≡ c.in-Quiet.until = omega (arith, ints) in
    subst (λ u. HasFeed stream from size (lane_of i.format i.start i.block i.position i.slot (Some u) i.ended i.capacity i.values.values i.presence.values (take i.block i.present)) (marks ++ c.args.mark.now ∷ []) t) (sym same)
    (fed_quiet stream from size lane marks t c.args.mark.now c.in-Quiet.until fed' (sym c.kind.ensures.value ∙ ap kind_of c.in-Quiet.is) listed)

pub returns-in-End-clause-stands : goal.returns-in-End-clause-stands
returns-in-End-clause-stands c = λ stream from size marks t fed.
    let i = c.self-in-End.inside in
    let lane = lane_of i.format i.start i.block i.position i.slot i.quiet i.ended i.capacity i.values.values i.presence.values (take i.block i.present) in
    let fed' : HasFeed stream from size lane marks t = subst (λ l. HasFeed stream from size l marks t) (sym c.self-in-End.view_is) fed in
    let listed = sym (fed_next stream from size c.args.self.now marks t c.args.mark.now fed) ∙ c.requires.accepted in
    fed_end stream from size lane marks t c.args.mark.now fed' (sym c.kind.ensures.value ∙ ap kind_of c.in-End.is) listed

pub take_slot-requires-clause-small : goal.take_slot-requires-clause-small
take_slot-requires-clause-small c = grind (arith, elements)

pub keep_slot-requires-clause-small : goal.keep_slot-requires-clause-small
keep_slot-requires-clause-small c = grind (arith, elements)

pub keep_slot-requires-clause-space : goal.keep_slot-requires-clause-space
keep_slot-requires-clause-space c = grind (arith, elements)

pub invariant_of-self : goal.invariant_of-self
invariant_of-self c = grind (arith, elements)

pub take_slot-requires-clause-len : goal.take_slot-requires-clause-len
take_slot-requires-clause-len c = grind (arith, elements)

pub keep_slot-requires-clause-len : goal.keep_slot-requires-clause-len
keep_slot-requires-clause-len c = grind (arith, elements)
