use Rattle.std.proofs.lemmas.Grind.{elements}
use Rattle.std.proofs.Common.{◌≡◌, ◌∙◌, Some, false, ap, sym, arith, to_z, of_z, w64}
use Rattle.std.proofs.lemmas.Int.{ints}
use Rattle.rtp_stream.specs.MarkList.{can_follow}
use Rattle.rtp_stream.specs.declared.mark.Body.TheVariants.{Lost}
use Rattle.rtp_stream.specs.declared.mark.MarkKind.TheVariants.{Slot}
use Rattle.lane_align.specs.Lane.{LaneState, last_kind}
use Rattle.lane_align.proofs.lane.Lane.may_take_slot.Goals as goal

pub returns-in-Some-default : goal.returns-in-Some-default
returns-in-Some-default c = λ body.
    let s = c.in-Some-default.slot in
    let next = Slot c.args.epoch c.args.number c.args.media body in
    let lane = c.args.self.now in
    let same : to_z w64 (of_z w64 c.args.media) ≡ c.args.media = omega (arith, ints) in
    let slot = sym (ap (λ (l : LaneState). l.slot) c.self.view_is) ∙ c.in-Some-default.is-0 in
    c.may_follow_slot.ensures Lost body
    ∙ ap (λ m. can_follow c.self.inside.format.frames (Some (Slot s.epoch s.number s.media Lost)) (Slot c.args.epoch c.args.number m body)) same
    ∙ ap (λ (l : LaneState). can_follow l.format.frames (Some (Slot s.epoch s.number s.media Lost)) next) c.self.view_is
    ∙ sym (ap (λ e. can_follow lane.format.frames (last_kind e lane.slot lane.quiet) next) c.requires ∙ ap (λ o. can_follow lane.format.frames (last_kind false o lane.quiet) next) slot)

pub may_follow_slot-requires-clause-slot : goal.may_follow_slot-requires-clause-slot
may_follow_slot-requires-clause-slot c = grind (arith, elements)
