-- The notes of a tracker about a packet that was offered.
use Rattle.std.specs.Prelude.{ℕ, ℤ, List, ◌∷◌, Option}
use Rattle.rtp_stream.specs.declared.fate.Fate.{Fate}
use Rattle.rtp_stream.specs.declared.stream_spec.Stream.{Stream}
use Rattle.rtp_stats.specs.Deadlines.{IsMarginOf, IsKnownAfter}
use Rattle.rtp_stats.specs.Offer.{Offer}
use Rattle.rtp_stats.specs.Repeats.{is_again}
use Rattle.rtp_stats.specs.Tally.{HasTally}
use Rattle.rtp_stats.specs.declared.copy_tracker.CopyTracker.{CopyTracker}

-- the packet's arrival margin is by the deadline that the tracker knew, the tally has one offer more, and the tracker
-- knows the deadline after the packet
pub record NotesOffer (path : ℕ) (fate : Fate) (seq ts : ℕ) (due : Option ℤ) (now : ℤ) (old new : CopyTracker) : Type 0 where
  pub spare : Option ℕ
  pub margin : IsMarginOf old.deadlines fate ts due now spare
  pub tally : (stream : Stream) (offers : List Offer) → HasTally stream offers old.tally
      → HasTally stream (record { path = path; fate = fate; seq = seq; spare = spare; now = now; again = is_again old.deadlines ts } ∷ offers) new.tally
  pub known : IsKnownAfter old.deadlines fate ts due new.deadlines
