-- The packets that a sender sent, by full sequence numbers, and what is received of them with 16 and 32 bits
-- (RFC 3550, 5.1).
use Rattle.std.specs.Prelude.{◌≡◌, ℕ, ◌+◌, ◌^◌, ◌≤◌, true, ◌&&◌, List, [], ◌∷◌, ◌++◌, length, ℤ, pos, ◌+ℤ◌, ◌-ℤ◌, ◌*ℤ◌, ◌≤ℤ◌, ◌<ℤ◌, int_le, int_lt, nat_eq, Option, Some, None, if◌then◌else◌, unsigned_abs}
use Rattle.std.specs.Int.{int_rem_euclid}
use Rattle.rtp_stream.specs.declared.stream_spec.Stream.{Stream}
use Rattle.rtp_stream.specs.MarkFacts.{MarkView}
use Rattle.rtp_stream.specs.declared.anchor.Anchor.{Anchor}
use Rattle.rtp_stream.specs.declared.packet.Packet.{Packet}
use Rattle.rtp_stream.specs.declared.event.Event.{Event}
use Rattle.rtp_stream.specs.declared.event.Event.TheVariants.{Arrive, Tick, Close}
use Rattle.rtp_stream.specs.History.{arrival_count, time_of, is_counting}
use Rattle.rtp_stream.specs.Anchor.{anchor_from, can_anchor, next_number}
use Rattle.rtp_stream.specs.Epochs.{anchors_of}
use Rattle.rtp_stream.specs.Marks.{marks_under}

-- a packet as it was sent: its full number may be below 0, if it was sent long before the first that is received
pub record SentPacket : Type 0 where
  pub number : ℤ
  pub payload : List ℕ

-- a packet that was sent comes in on a path, the clock is read, or the stream is closed
pub data SentEvent : Type 0 where
  Arrives : ℕ → SentPacket → SentEvent
  Ticks : ℤ → SentEvent
  Closes : SentEvent

-- the timestamp that is in step with a number of any sign
abbrev pub timestamp_in_step : Stream → Anchor → ℤ → ℕ
timestamp_in_step stream anchor number = unsigned_abs (int_rem_euclid (pos anchor.timestamp +ℤ (number -ℤ pos anchor.number) *ℤ pos stream.frames) (pos (2 ^ 32)))

-- the packet as it is received: its number's low 16 bits, the timestamp in step with the number, the anchor's source
abbrev pub wire_packet : Stream → Anchor → SentPacket → Packet
wire_packet stream anchor packet = record {
  seq = unsigned_abs (int_rem_euclid packet.number (pos 65536));
  ts = timestamp_in_step stream anchor packet.number;
  ssrc = anchor.source;
  payload = record { items = packet.payload };
}

abbrev pub wire_event : Stream → Anchor → SentEvent → Event
wire_event stream anchor (Arrives path packet) = Arrive path (wire_packet stream anchor packet)
wire_event stream anchor (Ticks u) = Tick u
wire_event stream anchor Closes = Close

-- the history that is received, if this was sent
abbrev pub wire_history : Stream → Anchor → List SentEvent → List Event
wire_history stream anchor [] = []
wire_history stream anchor (event ∷ sent) = wire_event stream anchor event ∷ wire_history stream anchor sent

-- the first arrival, unless a close comes before it, is the anchor's packet, which may be the stream's first
abbrev pub BeginsWith : Stream → Anchor → ℤ → List SentEvent → Type 0
BeginsWith stream anchor time [] = Unit {0}
BeginsWith stream anchor time (Arrives path packet ∷ sent) =
    (packet.number ≡ pos anchor.number) × (anchor ≡ anchor_from stream time (wire_packet stream anchor packet)) × (can_anchor stream time (wire_packet stream anchor packet) ≡ true)
BeginsWith stream anchor time (Ticks u ∷ sent) = BeginsWith stream anchor u sent
BeginsWith stream anchor time (Closes ∷ sent) = Unit {0}

-- a number from `reach` below `next` to just below `reach` above it
abbrev pub IsNear : ℕ → ℕ → ℤ → Type 0
IsNear reach next number = ((pos next -ℤ pos reach) ≤ℤ number) × (number <ℤ (pos next +ℤ pos reach))

-- each arrival before a close has a number within this reach of the number next due
abbrev pub IsWithinReach : Stream → Anchor → ℕ → ℤ → List SentEvent → Type 0
IsWithinReach stream anchor reach time [] = Unit {0}
IsWithinReach stream anchor reach time (Arrives path packet ∷ sent) = IsNear reach (next_number stream anchor time) packet.number × IsWithinReach stream anchor reach time sent
IsWithinReach stream anchor reach time (Ticks u ∷ sent) = IsWithinReach stream anchor reach u sent
IsWithinReach stream anchor reach time (Closes ∷ sent) = Unit {0}

-- the received history has at most one epoch: nothing in it restarts the stream
abbrev pub IsOneEpoch : Stream → ℤ → List Event → Type 0
IsOneEpoch stream open_at events = length (anchors_of stream open_at events) ≤ 1

-- these events open no epoch after those before
abbrev pub OpensNoEpoch : Stream → ℤ → List Event → List Event → Type 0
OpensNoEpoch stream open_at before events = length (anchors_of stream open_at (before ++ events)) ≤ length (anchors_of stream open_at before)

-- an arrival is a copy of its own number if that is from the number due next to the window's end: neither 16-bit
-- numbers nor timestamps are used
abbrev pub sent_copies_at : Stream → Anchor → ℤ → List Event → SentEvent → List (ℕ × Packet)
sent_copies_at stream anchor open_at before (Arrives path packet) =
    if is_counting before && (int_le (pos (next_number stream anchor (time_of open_at before))) packet.number && int_lt packet.number (pos (next_number stream anchor (time_of open_at before) + stream.window)))
    then (unsigned_abs packet.number, wire_packet stream anchor packet) ∷ [] else []
sent_copies_at stream anchor open_at before (Ticks u) = []
sent_copies_at stream anchor open_at before Closes = []

-- the copies in what was sent, after these events were received
unfoldable pub sent_copies_after : Stream → Anchor → ℤ → List Event → List SentEvent → List (ℕ × Packet)
sent_copies_after stream anchor open_at before [] = []
sent_copies_after stream anchor open_at before (event ∷ sent) =
    sent_copies_at stream anchor open_at before event ++ sent_copies_after stream anchor open_at (before ++ wire_event stream anchor event ∷ []) sent

abbrev pub sent_copies : Stream → Anchor → ℤ → List SentEvent → List (ℕ × Packet)
sent_copies stream anchor open_at sent = sent_copies_after stream anchor open_at [] sent

-- the anchor in force after these events: this one from the first arrival on
abbrev pub anchor_after : Anchor → List Event → Option Anchor
anchor_after anchor before = if nat_eq (arrival_count before) 0 then None else Some anchor

-- the marks of what was sent, after these events were received and these marks produced; `copies` are those of all that
-- was sent
unfoldable pub sent_marks_after : Stream → Anchor → ℤ → List (ℕ × Packet) → List MarkView → List Event → List SentEvent → List MarkView
sent_marks_after stream anchor open_at copies given before [] = given
sent_marks_after stream anchor open_at copies given before (event ∷ sent) =
    sent_marks_after stream anchor open_at copies (given ++ marks_under stream open_at (anchor_after anchor before) copies given before (wire_event stream anchor event)) (before ++ wire_event stream anchor event ∷ []) sent

-- the marks of what was sent, by the full numbers under this anchor: neither 16-bit numbers nor timestamps are used
abbrev pub marks_by_number : Stream → Anchor → ℤ → List SentEvent → List MarkView
marks_by_number stream anchor open_at sent = sent_marks_after stream anchor open_at (sent_copies stream anchor open_at sent) [] [] sent

-- all packets of this number have this payload
abbrev pub HasEqualCopies : ℕ → List ℕ → List SentEvent → Type 0
HasEqualCopies number payload [] = Unit {0}
HasEqualCopies number payload (Arrives path packet ∷ sent) = (packet.number ≡ pos number → packet.payload ≡ payload) × HasEqualCopies number payload sent
HasEqualCopies number payload (Ticks u ∷ sent) = HasEqualCopies number payload sent
HasEqualCopies number payload (Closes ∷ sent) = HasEqualCopies number payload sent
