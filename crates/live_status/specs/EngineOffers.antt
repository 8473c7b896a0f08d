-- The notes that the status of an engine makes of its offers.
use Rattle.std.specs.Prelude.{◌≡◌, ◌≢◌, ℕ, [], List, length, slice_get, Some, None, ℤ, Option}
use Rattle.rtp_stream.specs.declared.stream_spec.Stream.{Stream}
use Rattle.rtp_stats.specs.CopyTracker.{NotesOffer}
use Rattle.rtp_stats.specs.Tally.{HasTally}
use Rattle.rtp_stats.specs.declared.copy_tracker.CopyTracker.{CopyTracker}
use Rattle.studio_session.specs.declared.arrive_outcome.ArriveOutcome.{ArriveOutcome}
use Rattle.studio_session.specs.declared.arrive_outcome.ArriveOutcome.TheVariants.{Offered, Bad, WrongType, WrongLength}
use Rattle.studio_session.specs.declared.arrive_outcome.OfferedPacket.{OfferedPacket}

-- the tracker of a stream to which nothing was offered
abbrev pub IsNewTracker : ℕ → Stream → CopyTracker → Type 0
IsNewTracker place stream tracker = HasTally stream [] tracker.tally × (tracker.deadlines ≡ None)

-- a packet was noted only by the tracker of the stream with this number
pub record AddsOfferAt (number path : ℕ) (packet : OfferedPacket) (due : Option ℤ) (now : ℤ) (old new : List CopyTracker) : Type 0 where
  pub length_is : length new ≡ length old
  pub here : (was is : CopyTracker) → slice_get old number ≡ Some was → slice_get new number ≡ Some is → NotesOffer path packet.fate packet.seq packet.ts due now was is
  pub elsewhere : (place : ℕ) → place ≢ number → slice_get new place ≡ slice_get old place

-- the packet of an offered datagram is noted for its stream; other datagrams are not noted
abbrev pub Notes : ArriveOutcome → ℕ → ℕ → Option ℤ → ℤ → List CopyTracker → List CopyTracker → Type 0
Notes (Offered packet) number path due now old new = AddsOfferAt number path packet due now old new
Notes (Bad fault) number path due now old new = new ≡ old
Notes WrongType number path due now old new = new ≡ old
Notes WrongLength number path due now old new = new ≡ old
