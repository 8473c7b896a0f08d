-- The media time of a packet by the media clock, and the sound that the slots of a stream carry.
use Rattle.std.specs.Prelude.{◌≡◌, ℕ, ◌+◌, ◌*◌, ◌^◌, ◌-◌, ◌<◌, List, [], ◌∷◌, ◌++◌, ℤ, pos, ◌+ℤ◌, ◌-ℤ◌, ◌<ℤ◌, None, Some}
use Rattle.std.specs.Int.{int_rem_euclid}
use Rattle.rtp_wire.specs.Sample.{sample_at}
use Rattle.rtp_stream.specs.declared.stream_spec.Stream.{Stream}
use Rattle.rtp_stream.specs.declared.stream_spec.StreamClock.TheVariants.{Media}
use Rattle.rtp_stream.specs.declared.anchor.Anchor.{Anchor}
use Rattle.rtp_stream.specs.declared.packet.Packet.{Packet}
use Rattle.rtp_stream.specs.declared.mark.Body.TheVariants.{Got, Lost}
use Rattle.rtp_stream.specs.declared.mark.MarkKind.{MarkKind}
use Rattle.rtp_stream.specs.declared.mark.MarkKind.TheVariants.{Slot, Quiet, End}
use Rattle.rtp_stream.specs.declared.event.Event.{Event}
use Rattle.rtp_stream.specs.declared.event.Event.TheVariants.{Arrive}
use Rattle.rtp_stream.specs.History.{time_of}
use Rattle.rtp_stream.specs.Anchor.{first_media_time, media_time_of}
use Rattle.rtp_stream.specs.Grid.{first_with}
use Rattle.rtp_stream.specs.Epochs.{anchor_of}
use Rattle.rtp_stream.specs.Copies.{copies_at, copies_in, copies_of_all}

-- the arrival after these events is an in-time copy of this number, under this anchor
pub record IsInTimeCopy (stream : Stream) (open_at : ℤ) (before : List Event) (path : ℕ) (packet : Packet) (anchor : Anchor) (number : ℕ) : Type 0 where
  pub in_force : anchor_of stream open_at (before ++ Arrive path packet ∷ []) ≡ Some anchor
  pub copy : copies_at stream open_at before (Arrive path packet) ≡ (anchor.epoch, (number, packet)) ∷ []

-- the media time of a timestamp that arrived at this time, by the media clock: it is in step with the timestamp, its
-- deadline is still to come, it is less than two windows past `time` minus the latency, and of all times that are in step
-- with the timestamp it is the nearest to the arrival
pub record IsMediaTimeOf (stream : Stream) (offset ts : ℕ) (time media : ℤ) : Type 0 where
  pub in_step : int_rem_euclid media (pos (2 ^ 32)) ≡ int_rem_euclid (pos ts -ℤ pos offset) (pos (2 ^ 32))
  pub after : (time -ℤ pos stream.latency) <ℤ media
  pub before : media <ℤ (time -ℤ pos stream.latency +ℤ pos (2 * (stream.window * stream.frames)))
  pub nearest : media ≡ first_media_time (Media offset) ts time

-- the packet that a slot carries: of all in-time copies of the slot's number in its epoch, the one that arrived first
pub record IsCarried (stream : Stream) (open_at : ℤ) (events : List Event) (epoch number : ℕ) (media : ℤ) (octets : List ℕ) : Type 0 where
  pub before : List Event
  pub path : ℕ
  pub packet : Packet
  pub after : List Event
  pub anchor : Anchor
  pub came : events ≡ before ++ Arrive path packet ∷ after
  pub copy : IsInTimeCopy stream open_at before path packet anchor number
  pub own_epoch : anchor.epoch ≡ epoch
  pub first : first_with number (copies_in epoch (copies_of_all stream open_at before)) ≡ None
  pub octets_are : octets ≡ packet.payload.items
  pub media_is : media ≡ media_time_of stream anchor number

-- the same by the media clock: the slot has the media time of the packet's timestamp
pub record IsCarriedInStep (stream : Stream) (offset : ℕ) (open_at : ℤ) (events : List Event) (epoch number : ℕ) (media : ℤ) (octets : List ℕ) : Type 0 where
  pub carried : IsCarried stream open_at events epoch number media octets
  pub media_time : IsMediaTimeOf stream offset carried.packet.ts (time_of open_at carried.before) media

-- a slot with a payload has this property
abbrev pub IfGot : (ℕ → ℕ → ℤ → List ℕ → Type 0) → MarkKind → Type 0
IfGot P (Slot epoch number media (Got payload)) = P epoch number media payload.items
IfGot P (Slot epoch number media Lost) = Unit {0}
IfGot P (Quiet until) = Unit {0}
IfGot P End = Unit {0}

-- two arrivals are less than 2^32 - 2^24 sampling instants apart, so that one timestamp has one media time at both: that
-- is more than a day at 48 kHz
pub record AreNearTimes (time other : ℤ) : Type 0 where
  pub not_far_before : time <ℤ (other +ℤ pos (2 ^ 32 - 2 ^ 24))
  pub not_far_after : other <ℤ (time +ℤ pos (2 ^ 32 - 2 ^ 24))

-- the octets hold the sound from this media time on: frame by frame, and in each frame a sample of each channel
abbrev pub HoldsSound : Stream → (ℤ → ℕ → ℤ) → ℤ → List ℕ → Type 0
HoldsSound stream sound media octets =
    (frame channel : ℕ) → frame < stream.frames → channel < stream.channels → sample_at stream.enc octets (frame * stream.channels + channel) ≡ sound (media +ℤ pos frame) channel

-- the sound is that of the stream: each in-time copy holds it from the media time of its slot on
abbrev pub HasSoundOf : (ℤ → ℕ → ℤ) → Stream → ℤ → List Event → Type 0
HasSoundOf sound stream open_at events =
    (before : List Event) (path : ℕ) (packet : Packet) (after : List Event) (anchor : Anchor) (number : ℕ) → events ≡ before ++ Arrive path packet ∷ after
    → IsInTimeCopy stream open_at before path packet anchor number → HoldsSound stream sound (media_time_of stream anchor number) packet.payload.items

-- each in-time copy holds the sound from the time on that is in step with its timestamp and nearest to its arrival: that
-- time depends on no anchor, epoch or number
abbrev pub HasSoundByTimestamp : (ℤ → ℕ → ℤ) → Stream → ℕ → ℤ → List Event → Type 0
HasSoundByTimestamp sound stream offset open_at events =
    (before : List Event) (path : ℕ) (packet : Packet) (after : List Event) (anchor : Anchor) (number : ℕ) → events ≡ before ++ Arrive path packet ∷ after
    → IsInTimeCopy stream open_at before path packet anchor number → HoldsSound stream sound (first_media_time (Media offset) packet.ts (time_of open_at before)) packet.payload.items
