use Rattle.std.specs.Prelude.{option_copied}
use Rattle.std.proofs.Common.{◌≡◌, ◌∙◌, ap, sym, arith, to_z, of_z, w64}
use Rattle.std.proofs.lemmas.Int.{ints}
use Rattle.rtp_stream.specs.MarkRef.{body_from, kind_of}
use Rattle.rtp_stream.specs.MarkList.{can_follow}
use Rattle.rtp_stream.specs.declared.mark.MarkKind.TheVariants.{Slot}
use Rattle.lane_align.specs.Lane.{last_kind}
use Rattle.lane_align.proofs.lane.Lane.may_follow.Goals as goal

pub returns-in-Slot : goal.returns-in-Slot
returns-in-Slot c =
    let lane = c.args.self.now in
    let same : to_z w64 (of_z w64 c.in-Slot.media) ≡ c.in-Slot.media = omega (arith, ints) in
    c.may_take_slot.ensures (body_from (option_copied c.in-Slot.payload))
    ∙ ap (λ m. can_follow lane.format.frames (last_kind lane.ended lane.slot lane.quiet) (Slot c.in-Slot.epoch c.in-Slot.number m (body_from (option_copied c.in-Slot.payload)))) same
    ∙ ap (can_follow lane.format.frames (last_kind lane.ended lane.slot lane.quiet)) (ap kind_of (sym c.in-Slot.is))
