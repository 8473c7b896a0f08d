use Rattle.std.proofs.Common.{◌≡◌, subst, to_z, of_z, w64}
use Rattle.std.proofs.lemmas.Int.{to_z-of_z}
use Rattle.rtp_stats.specs.CopyTracker.{NotesOffer}
use Rattle.rtp_stats.proofs.channel.stream.StreamStatsSender.note.Goals as goal

pub returns-clause-noted : goal.returns-clause-noted
returns-clause-noted c =
    let z : to_z w64 (of_z w64 c.args.now) ≡ c.args.now = to_z-of_z w64 c.args.now c.ranges.now in
    subst (λ now. NotesOffer c.args.path c.args.fate c.args.packet.seq c.args.packet.ts c.args.due now c.args.self.now.tracker c.note.new.self) z c.note.ensures
