use Rattle.std.proofs.Common.{◌≡◌, ◌∷◌, subst, to_z, of_z, w64}
use Rattle.std.proofs.lemmas.Int.{to_z-of_z}
use Rattle.rtp_stats.specs.Deadlines.{IsMarginOf}
use Rattle.rtp_stats.specs.Repeats.{is_again}
use Rattle.rtp_stats.specs.Tally.{HasTally}
use Rattle.rtp_stats.proofs.copy_tracker.CopyTracker.note.Goals as goal

pub returns : goal.returns
returns c =
    let z : to_z w64 (of_z w64 c.args.now) ≡ c.args.now = to_z-of_z w64 c.args.now c.ranges.now in
    let spare = c.margin-spare.result in
    record {
      spare = spare;
      margin = subst (λ now. IsMarginOf c.args.self.now.deadlines c.args.fate c.args.ts c.args.due now spare) z c.margin-spare.ensures.margin;
      tally = λ stream offers told.
          subst (λ now. HasTally stream (record { path = c.args.path; fate = c.args.fate; seq = c.args.seq; spare = spare; now = now; again = is_again c.args.self.now.deadlines c.args.ts } ∷ offers) c.add.new.self) z (subst (λ again. HasTally stream (record { path = c.args.path; fate = c.args.fate; seq = c.args.seq; spare = spare; now = to_z w64 (of_z w64 c.args.now); again = again } ∷ offers) c.add.new.self) c.has_reached-again.ensures (c.add.ensures stream offers told));
      known = c.margin-spare.ensures.known;
    }
