use Rattle.std.proofs.Common.{◌≡◌, length, refl, sym, subst, arith, to_z, of_z, w64}
use Rattle.std.proofs.lemmas.Grind.{common_steps}
use Rattle.std.proofs.lemmas.Int.{to_z-of_z}
use Rattle.std.proofs.lemmas.Option.{slice_get_read, slice_get_within}
use Rattle.rtp_stats.specs.declared.copy_tracker.CopyTracker.{CopyTracker}
use Rattle.rtp_stats.specs.CopyTracker.{NotesOffer}
use Rattle.live_status.proofs.Each.{get-set, get-set_else}
use Rattle.live_status.proofs.engine_offers.note_offer.Goals as goal

pub returns-then-number-trackers : goal.returns-then-number-trackers
returns-then-number-trackers c =
    let trackers = c.args.trackers.now in
    let n = c.args.number in
    let tracker = c.index-trackers-number.result in
    let is_new = c.note.new.self in
    let within = c.if-number-trackers.true in
    let Adds = NotesOffer c.args.path c.args.packet.fate c.args.packet.seq c.args.packet.ts c.args.due in
    let z : to_z w64 (of_z w64 c.args.now) ≡ c.args.now = to_z-of_z w64 c.args.now c.ranges.now in
    let there = slice_get_read trackers (length trackers) n tracker refl within c.index-trackers-number.is in
    let noted : Adds c.args.now tracker is_new = subst (λ now. Adds now tracker is_new) z (subst (λ (w : CopyTracker). Adds (to_z w64 (of_z w64 c.args.now)) w is_new) (sym c.index-trackers-number.is) c.note.ensures) in
    record {
      length_is = grind (arith, common_steps);
      here = λ was is at_was at_is.
          let old_is : tracker ≡ was = cc (there, at_was) in
          let new_is : is_new ≡ is = cc (get-set trackers n is_new within, at_is) in
          subst (λ w. Adds c.args.now was w) new_is (subst (λ w. Adds c.args.now w is_new) old_is noted);
      elsewhere = λ place other. get-set_else trackers n place is_new other;
    }

pub returns-else-number-trackers : goal.returns-else-number-trackers
returns-else-number-trackers c = record {
  length_is = refl;
  here = λ was is at_was at_is. absurd (let within = slice_get_within c.args.trackers.now c.args.number was at_was in let past = c.if-number-trackers.false in omega (arith, within, past));
  elsewhere = λ place other. refl;
}
