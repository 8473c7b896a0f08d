-- The numbers that are heard over epochs: none twice, as long as the sender's numbers go on.
use Rattle.std.specs.Prelude.{◌≡◌, ℕ, ◌-◌, ◌<◌, Bool, true, ◌&&◌, nat_eq, List, [], ◌∷◌, ◌++◌, take, ℤ, pos, ◌+ℤ◌, ◌-ℤ◌, ◌≤ℤ◌, Option, Some, None, if◌then◌else◌, unsigned_abs}
use Rattle.rtp_stream.specs.Nearest.{nearest_number}
use Rattle.rtp_stream.specs.declared.stream_spec.Stream.{Stream}
use Rattle.rtp_stream.specs.declared.anchor.Anchor.{Anchor}
use Rattle.rtp_stream.specs.declared.mark.Body.{Body}
use Rattle.rtp_stream.specs.declared.mark.Body.TheVariants.{Got, Lost}
use Rattle.rtp_stream.specs.declared.mark.MarkKind.{MarkKind}
use Rattle.rtp_stream.specs.declared.mark.MarkKind.TheVariants.{Slot, Quiet, End}
use Rattle.rtp_stream.specs.declared.event.Event.{Event}
use Rattle.rtp_stream.specs.declared.event.Event.TheVariants.{Arrive, Tick, Close}
use Rattle.rtp_stream.specs.History.{time_of}
use Rattle.rtp_stream.specs.Anchor.{next_number}
use Rattle.rtp_stream.specs.Grid.{is_on_grid}
use Rattle.rtp_stream.specs.Epochs.{anchor_of, anchors_of}
use Rattle.rtp_stream.specs.MarkFacts.{MarkView}
use Rattle.rtp_stream.specs.Marks.{marks_of}
use Rattle.rtp_stream.specs.Sent.{Arrives, Closes, IsNear, SentEvent, Ticks, wire_packet}

-- each arrival is on one of the four paths that a stream may have
abbrev pub HasFewPaths : List Event → Type 0
HasFewPaths [] = Unit {0}
HasFewPaths (Arrive path packet ∷ events) = (path < 4) × HasFewPaths events
HasFewPaths (Tick u ∷ events) = HasFewPaths events
HasFewPaths (Close ∷ events) = HasFewPaths events

-- the number that was due next under an anchor when the event at this place came
abbrev pub due_at : Stream → ℤ → List Event → Anchor → ℕ → ℕ
due_at stream open_at events a place = next_number stream a (time_of open_at (take place events))

-- the number that an epoch's first packet had in the epoch before, if `next` was due next there: the nearest number
-- with its low 16 bits
abbrev pub number_before : Anchor → ℕ → ℕ
number_before b next = unsigned_abs (nearest_number 32768 (b.number - 65536) (pos next))

-- an epoch's first packet is of the source of the epoch before, and on its grid: the sender's numbers go on
abbrev pub goes_on : Stream → Anchor → ℕ → Anchor → Bool
goes_on stream a next b = nat_eq b.source a.source && is_on_grid stream a (number_before b next) b.timestamp

-- the sender's numbers go on in all epochs after this one
abbrev pub AllGoOn : Stream → ℤ → List Event → Anchor → List (ℕ × Anchor) → Type 0
AllGoOn stream open_at events a [] = Unit {0}
AllGoOn stream open_at events a ((place, b) ∷ later) = (goes_on stream a (due_at stream open_at events a place) b ≡ true) × AllGoOn stream open_at events b later

-- the sender's numbers go on in all epochs, so no epoch was opened by a probation
abbrev pub GoOn : Stream → ℤ → List Event → List (ℕ × Anchor) → Type 0
GoOn stream open_at events [] = Unit {0}
GoOn stream open_at events ((place, a) ∷ later) = AllGoOn stream open_at events a later

-- the sender's numbers, counted on from epoch 0, minus the numbers of this epoch; `shift` is the same difference in the
-- epoch of anchor `a`
abbrev pub shift_from : Stream → ℤ → List Event → ℕ → ℤ → Anchor → List (ℕ × Anchor) → ℤ
shift_from stream open_at events epoch shift a [] = shift
shift_from stream open_at events epoch shift a ((place, b) ∷ later) =
    if nat_eq a.epoch epoch then shift else shift_from stream open_at events epoch (shift +ℤ (pos (number_before b (due_at stream open_at events a place)) -ℤ pos b.number)) b later

abbrev pub shift_among : Stream → ℤ → List Event → List (ℕ × Anchor) → ℕ → ℤ
shift_among stream open_at events [] epoch = pos 0
shift_among stream open_at events ((place, a) ∷ later) epoch = shift_from stream open_at events epoch (pos 0) a later

-- the sender's number of a slot with a payload; `shift` is the sender's number minus the slot's
abbrev pub number_heard : ℕ → ℤ → Body → List ℤ
number_heard number shift (Got payload) = (pos number +ℤ shift) ∷ []
number_heard number shift Lost = []

abbrev pub heard_in : (ℕ → ℤ) → MarkKind → List ℤ
heard_in shift (Slot epoch number media body) = number_heard number (shift epoch) body
heard_in shift (Quiet until) = []
heard_in shift End = []

abbrev pub heard_among : (ℕ → ℤ) → List MarkView → List ℤ
heard_among shift [] = []
heard_among shift (mark ∷ marks) = heard_in shift mark.kind ++ heard_among shift marks

-- the sender's numbers of all slots with a payload, in their order
abbrev pub numbers_heard : Stream → ℤ → List Event → List ℤ
numbers_heard stream open_at events = heard_among (shift_among stream open_at events (anchors_of stream open_at events)) (marks_of stream open_at events)

-- the numbers rise, and the first is at least this limit, so no number comes twice
abbrev pub RisesFrom : ℤ → List ℤ → Type 0
RisesFrom limit [] = Unit {0}
RisesFrom limit (n ∷ numbers) = (limit ≤ℤ n) × RisesFrom (n +ℤ pos 1) numbers

-- the sender's numbers minus the numbers of an anchor's epoch
abbrev pub shift_of : Stream → ℤ → List Event → Anchor → ℤ
shift_of stream open_at events a = shift_among stream open_at events (anchors_of stream open_at events) a.epoch

-- the sender's number is within this reach of the number that is due next in the epoch in force
abbrev pub IsNearInForce : Stream → ℤ → ℕ → List Event → Option Anchor → ℤ → Type 0
IsNearInForce stream open_at reach events None number = Unit {0}
IsNearInForce stream open_at reach events (Some a) number = IsNear reach (next_number stream a (time_of open_at events)) (number -ℤ shift_of stream open_at events a)

-- each of these arrivals, after the events before it, has a number within this reach
abbrev pub AreNear : Stream → Anchor → ℤ → ℕ → List Event → List SentEvent → Type 0
AreNear stream first open_at reach before [] = Unit {0}
AreNear stream first open_at reach before (Arrives path packet ∷ sent) =
    IsNearInForce stream open_at reach before (anchor_of stream open_at before) packet.number × AreNear stream first open_at reach (before ++ Arrive path (wire_packet stream first packet) ∷ []) sent
AreNear stream first open_at reach before (Ticks u ∷ sent) = AreNear stream first open_at reach (before ++ Tick u ∷ []) sent
AreNear stream first open_at reach before (Closes ∷ sent) = AreNear stream first open_at reach (before ++ Close ∷ []) sent
