use Rattle.std.proofs.Common.{arith, ap, sym, subst, ◌∙◌, ◌≡◌, ◌+◌, ◌*◌, length, take, w64, to_z, of_z}
use Rattle.std.proofs.lemmas.Int.{to_z-of_z}
use Rattle.std.proofs.lemmas.List.{length-set}
use Rattle.gain_mix.specs.Changes.{Changes, before, with_change}
use Rattle.gain_mix.specs.Gain.{ins_of, rows_of}
use Rattle.gain_mix.specs.LiveSchedule.{AreSlots}
use Rattle.gain_mix.proofs.LiveScheduleLemmas.{put_sound, put_changes}
use Rattle.gain_mix.proofs.live_schedule.LiveSchedule.put.Goals as goal

pub invariant_of-self : goal.invariant_of-self
invariant_of-self c =
    let i = c.self.inside in
    let at = to_z w64 (of_z w64 c.args.at) in
    let all = c.self.invariant.1 in
    let place = c.requires.place in
    let same : c.args.at ≡ at = sym (to_z-of_z w64 c.args.at c.ranges.at) in
    let kept : c.args.kept ≡ length (before at (take i.used i.slots.items)) =
    c.requires.kept ∙ ap (λ (s : Changes). length (before c.args.at s.later)) (sym c.self.view_is) ∙ ap (λ u. length (before u (take i.used i.slots.items))) same in
    let len : length c.args.gains.now ≡ length i.first * ins_of i.first = c.requires.len ∙ ap (λ (s : Changes). length s.first * ins_of s.first) (sym c.self.view_is) in (
      subst (λ slots. AreSlots i.first slots (c.args.kept + 1)) (sym c.write_slot.ensures)
          (put_sound i.first i.slots.items i.used c.args.kept at c.args.gains.now c.self.invariant.0 kept (omega (arith, place, all)) len),
      ap length c.write_slot.ensures ∙ length-set i.slots.items c.args.kept _ ∙ all,
    )

pub returns : goal.returns
returns c =
    let i = c.self.inside in
    let at = to_z w64 (of_z w64 c.args.at) in
    let all = c.self.invariant.1 in
    let place = c.requires.place in
    let same : c.args.at ≡ at = sym (to_z-of_z w64 c.args.at c.ranges.at) in
    let kept : c.args.kept ≡ length (before at (take i.used i.slots.items)) =
    c.requires.kept ∙ ap (λ (s : Changes). length (before c.args.at s.later)) (sym c.self.view_is) ∙ ap (λ u. length (before u (take i.used i.slots.items))) same in
    let len : length c.args.gains.now ≡ length i.first * ins_of i.first = c.requires.len ∙ ap (λ (s : Changes). length s.first * ins_of s.first) (sym c.self.view_is) in
    record {
      taken =
          ap (λ slots. record { first = i.first; later = take (c.args.kept + 1) slots }) c.write_slot.ensures
          ∙ put_changes i.first i.slots.items i.used c.args.kept at c.args.gains.now c.self.invariant.0 kept (omega (arith, place, all)) len
          ∙ ap (λ (s : Changes). with_change s at (rows_of (ins_of s.first) (length s.first) c.args.gains.now)) c.self.view_is
          ∙ ap (λ u. with_change c.args.self.now u (rows_of (ins_of c.args.self.now.first) (length c.args.self.now.first) c.args.gains.now)) (sym same);
    }

pub write_slot-requires-clause-in_range : goal.write_slot-requires-clause-in_range
write_slot-requires-clause-in_range c = omega arith

pub write_slot-requires-clause-outs : goal.write_slot-requires-clause-outs
write_slot-requires-clause-outs c = omega arith
