-- The statistics that the ends of paths, of streams and of the mixer send.
use Rattle.std.specs.Prelude.{◌≡◌, ℕ, ◌<◌, ◌^◌, ◌++◌, ℤ, pos, ◌+ℤ◌, ◌<ℤ◌, ◌≤ℤ◌, List, [], ◌∷◌, Option, Some, None, if◌then◌else◌}
use Rattle.std.specs.Option.{option_map}
use Rattle.mix_packets.specs.declared.out_spec.Output.{Output}
use Rattle.path_merge.specs.Merge.{HasHistory}
use Rattle.path_merge.specs.MergeState.{MergeState}
use Rattle.path_merge.specs.Steps.{next_deadline_of}
use Rattle.rtp_stats.specs.Channel.{Gives}
use Rattle.rtp_stats.specs.Channels.{Tells, TellsMix}
use Rattle.rtp_stats.specs.CopyTracker.{NotesOffer}
use Rattle.rtp_stats.specs.Offer.{Offer}
use Rattle.rtp_stats.specs.Tally.{HasTally}
use Rattle.rtp_stats.specs.declared.channel.mix_sender.MixStatsSender.{MixStatsSender}
use Rattle.rtp_stats.specs.declared.channel.path.PathCountsSender.{PathCountsSender}
use Rattle.rtp_stats.specs.declared.channel.stream.StreamStatsSender.{StreamStatsSender}
use Rattle.rtp_stream.specs.Anchor.{deadline_of, next_number}
use Rattle.rtp_stream.specs.Counts.{tally_of}
use Rattle.rtp_stream.specs.Epochs.{anchor_of}
use Rattle.rtp_stream.specs.Fate.{fate_of}
use Rattle.rtp_stream.specs.History.{is_closed, time_of}
use Rattle.rtp_stream.specs.declared.counts.Counts.{Counts}
use Rattle.rtp_stream.specs.declared.event.Event.{Event}
use Rattle.rtp_stream.specs.declared.event.Event.TheVariants.{Arrive, Tick, Close}
use Rattle.rtp_stream.specs.declared.fate.Fate.{Fate}
use Rattle.rtp_stream.specs.declared.packet.Packet.{Packet}
use Rattle.rtp_stream.specs.declared.stream_counts.PathCounts.{PathCounts}
use Rattle.rtp_stream.specs.declared.stream_spec.Stream.{Stream}

-- the sender of statistics, if there is one, has the encoding and the channels of this output
abbrev pub Measures : Option MixStatsSender → Output → Type 0
Measures sender output = (one : MixStatsSender) → sender ≡ Some one → (one.enc ≡ output.enc) × (one.channels ≡ output.channels)

-- if there is a sender of statistics, it sent these counts and the peaks so far, including those of this datagram,
-- unless its ring was full
abbrev pub TellsCounts : List ℕ → List ℕ → Option MixStatsSender → Option MixStatsSender → Type 0
TellsCounts counts datagram None new = new ≡ None
TellsCounts counts datagram (Some old) None = ⊥
TellsCounts counts datagram (Some old) (Some new) = TellsMix counts datagram old new

-- if there is a sender of a path's counts, it sent these, unless the last ones are still to be taken
abbrev pub TellsPath : PathCounts → Option PathCountsSender → Option PathCountsSender → Type 0
TellsPath counts None new = new ≡ None
TellsPath counts (Some old) None = ⊥
TellsPath counts (Some old) (Some new) = Gives counts old.ring new.ring

-- if there is a sender of a stream's statistics, it noted a packet with this fate
abbrev pub Notes : ℕ → Fate → Packet → Option ℤ → ℤ → Option StreamStatsSender → Option StreamStatsSender → Type 0
Notes path outcome packet due now None new = new ≡ None
Notes path outcome packet due now (Some old) None = ⊥
Notes path outcome packet due now (Some old) (Some new) = NotesOffer path outcome packet.seq packet.ts due now old.tracker new.tracker × (new.ring ≡ old.ring)

-- if there is a sender of a stream's statistics, it noted the packet with the fate that the merge's history gives it
abbrev pub NotesPacket : MergeState → ℕ → Packet → MergeState → Option StreamStatsSender → Option StreamStatsSender → Type 0
NotesPacket before path packet after old new = (stream : Stream) (open_at : ℤ) (events : List Event) (k : ℕ)
    → HasHistory stream open_at before events k → Notes path (fate_of stream open_at events path packet) packet (next_deadline_of after) after.time old new

-- the deadline of the next slot after a history; none before the first anchor, and none after a close
abbrev pub deadline_after : Stream → ℤ → List Event → Option ℤ
deadline_after stream open_at events =
    if is_closed events then None
    else option_map (λ anchor. deadline_of stream anchor (next_number stream anchor (time_of open_at events))) (anchor_of stream open_at events)

-- if there is a sender of a stream's statistics, it noted the arrivals among these events, which follow those before,
-- one after the other: each with the fate and the time that the history before it gives it, and the deadline after it
abbrev pub NotesArrivals : Stream → ℤ → List Event → List Event → Option StreamStatsSender → Option StreamStatsSender → Type 0
NotesArrivals stream open_at before [] old new = new ≡ old
NotesArrivals stream open_at before (Arrive path packet ∷ more) old new =
    (next : Option StreamStatsSender)
    × Notes path (fate_of stream open_at before path packet) packet (deadline_after stream open_at (before ++ Arrive path packet ∷ [])) (time_of open_at before) old next
    × NotesArrivals stream open_at (before ++ Arrive path packet ∷ []) more next new
NotesArrivals stream open_at before (Tick u ∷ more) old new = NotesArrivals stream open_at (before ++ Tick u ∷ []) more old new
NotesArrivals stream open_at before (Close ∷ more) old new = NotesArrivals stream open_at (before ++ Close ∷ []) more old new

-- if there is a sender of a stream's statistics, it noted each arrival among these events, by every history of the merge
-- before them
abbrev pub NotesAll : MergeState → (Stream → List Event) → Option StreamStatsSender → Option StreamStatsSender → Type 0
NotesAll before more old new = (stream : Stream) (open_at : ℤ) (events : List Event) (k : ℕ) → 0 < stream.frames
    → HasHistory stream open_at before events k → NotesArrivals stream open_at events (more stream) old new

-- if there is a sender of a stream's statistics, it sent those of the packets that it noted, with the merge's counts, if
-- a tenth of a second went by since the last ones; it goes on with what it noted
abbrev pub TellsStream : MergeState → Option StreamStatsSender → Option StreamStatsSender → Type 0
TellsStream merge None new = new ≡ None
TellsStream merge (Some old) None = ⊥
TellsStream merge (Some old) (Some new) = (counts : Counts) × (tally_of counts ≡ merge.counts)
    × ((stream : Stream) (offers : List Offer) → HasTally stream offers old.tracker.tally → Tells stream offers counts old.next merge.time old.ring new.ring)
    × (new.tracker ≡ old.tracker)
    × (merge.time <ℤ old.next → new.next ≡ old.next)
    × (old.next ≤ℤ merge.time → merge.time ≤ℤ pos (2 ^ 62) → new.next ≡ merge.time +ℤ pos 4800)
