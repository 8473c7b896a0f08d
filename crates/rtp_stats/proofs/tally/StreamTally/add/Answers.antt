use Rattle.std.proofs.lemmas.Grind.{elements}
use Rattle.std.proofs.Common.{◌≡◌, ◌∷◌, length, arith, sym, subst, w64}
use Rattle.std.proofs.lemmas.Int.{to_z-of_z}
use Rattle.std.proofs.lemmas.List.{with_items_is}
use Rattle.rtp_stats.specs.Counts.{AreCounts, HasFates}
use Rattle.rtp_stats.specs.Offer.{Offer}
use Rattle.rtp_stats.specs.Repeats.{repeats_of}
use Rattle.rtp_stats.specs.Tally.{HasTally}
use Rattle.rtp_stats.proofs.RepeatLemmas.{repeats_after}
use Rattle.rtp_stats.proofs.CountLemmas.{fates_after}
use Rattle.rtp_stats.proofs.TallyLemmas.{seconds_without, tally_entries, tally_missed, tally_seconds}
use Rattle.rtp_stats.proofs.tally.StreamTally.add.Goals as goal

pub returns-in_default : goal.returns-in_default
returns-in_default c stream offers has0 =
    let has = subst (HasTally stream offers) (sym c.self.view_is) has0 in
    let o : Offer = record { path = c.args.path; fate = c.args.fate; seq = c.args.seq; spare = c.args.spare; now = c.args.now; again = c.args.again } in
    let long : length c.note_copy.new.entries ≡ c.self.inside.entries.len = omega (arith, c.note_copy.auto.entries, c.as_mut_slice.ensures.len) in
    record {
      fates = subst (HasFates (o ∷ offers)) (sym c.add.ensures.value) (fates_after o offers c.self.inside.counts c.add.ensures.path has.fates);
      missed = tally_missed stream.window o offers c.self.inside.entries.items c.as_mut_slice.result.now c.self.inside.missed c.note_copy.new.missed c.as_mut_slice.ensures.value c.note_copy.ensures.four c.note_copy.ensures.missed c.self.invariant.places has.entries has.missed;
      repeats = subst (AreCounts (λ p. repeats_of p (o ∷ offers))) (sym c.note_repeat.ensures) (repeats_after o offers c.self.inside.repeats c.add.ensures.path has.repeats);
      entries = rw (with_items_is c.self.inside.entries c.note_copy.new.entries long) (tally_entries stream.window o offers c.self.inside.entries.items c.as_mut_slice.result.now c.note_copy.new.entries c.as_mut_slice.ensures.value c.note_copy.ensures.kept c.self.invariant.places c.add.ensures.path has.entries);
      seconds = seconds_without o offers c.self.inside.seconds.items c.in_default.is has.seconds;
    }

pub returns-in-Some : goal.returns-in-Some
returns-in-Some c stream offers has0 =
    let has = subst (HasTally stream offers) (sym c.self.view_is) has0 in
    let o : Offer = record { path = c.args.path; fate = c.args.fate; seq = c.args.seq; spare = c.args.spare; now = c.args.now; again = c.args.again } in
    let long : length c.note_copy.new.entries ≡ c.self.inside.entries.len = omega (arith, c.note_copy.auto.entries, c.as_mut_slice.ensures.len) in
    let eight : length c.note_spare.new.seconds ≡ c.self.inside.seconds.len = omega (arith, c.note_spare.auto.seconds, c.as_mut_slice-in-Some.ensures.len) in
    record {
      fates = subst (HasFates (o ∷ offers)) (sym c.add.ensures.value) (fates_after o offers c.self.inside.counts c.add.ensures.path has.fates);
      missed = tally_missed stream.window o offers c.self.inside.entries.items c.as_mut_slice.result.now c.self.inside.missed c.note_copy.new.missed c.as_mut_slice.ensures.value c.note_copy.ensures.four c.note_copy.ensures.missed c.self.invariant.places has.entries has.missed;
      repeats = subst (AreCounts (λ p. repeats_of p (o ∷ offers))) (sym c.note_repeat.ensures) (repeats_after o offers c.self.inside.repeats c.add.ensures.path has.repeats);
      entries = rw (with_items_is c.self.inside.entries c.note_copy.new.entries long) (tally_entries stream.window o offers c.self.inside.entries.items c.as_mut_slice.result.now c.note_copy.new.entries c.as_mut_slice.ensures.value c.note_copy.ensures.kept c.self.invariant.places c.add.ensures.path has.entries);
      seconds = rw (with_items_is c.self.inside.seconds c.note_spare.new.seconds eight) (tally_seconds o offers c.self.inside.seconds.items c.as_mut_slice-in-Some.result.now c.note_spare.new.seconds c.in-Some.spare c.as_mut_slice-in-Some.ensures.value (λ d. rw (to_z-of_z w64 c.args.now c.ranges.now) at (c.note_spare.ensures d)) c.in-Some.is c.add.ensures.path has.seconds);
    }

pub invariant_of-self-in_default : goal.invariant_of-self-in_default
invariant_of-self-in_default c = grind (arith, elements)

pub invariant_of-self : goal.invariant_of-self
invariant_of-self c = grind (arith, elements)
