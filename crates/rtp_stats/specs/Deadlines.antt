-- The deadlines of packets that are in step, from the deadline of one of them.
use Rattle.std.specs.Prelude.{◌≡◌, ◌⊎◌, ℕ, ◌^◌, ◌<◌, Bool, true, false, ℤ, pos, ◌+ℤ◌, ◌-ℤ◌, ◌*ℤ◌, ◌≤ℤ◌, ◌<ℤ◌, neg_ℤ, Option, Some, None, IfSome, MatchOption}
use Rattle.rtp_stream.specs.Anchor.{deadline_of}
use Rattle.rtp_stream.specs.Grid.{expected_timestamp, is_on_grid}
use Rattle.rtp_stream.specs.declared.anchor.Anchor.{Anchor}
use Rattle.rtp_stream.specs.declared.fate.Fate.{Fate}
use Rattle.rtp_stream.specs.declared.fate.Fate.TheVariants.{Closed, CountersFull, WrongSource, OffGrid, Late, Ahead, Taken, Double, Unlike, Restarted}
use Rattle.rtp_stream.specs.declared.stream_spec.Stream.{Stream}

-- a packet's timestamp, and its deadline
pub record KnownDeadline : Type 0 where
  pub ts : ℕ
  pub at : ℤ

-- a time so small that the sum of a few of them fits 64 bits
pub record IsShortTime (time : ℤ) : Type 0 where
  pub low : neg_ℤ (pos (2 ^ 62)) ≤ℤ time
  pub high : time ≤ℤ pos (2 ^ 62)

-- the timestamp and the deadline are those of this number under this anchor
pub record IsDeadlineOf (stream : Stream) (anchor : Anchor) (number : ℕ) (known : KnownDeadline) : Type 0 where
  pub ts : known.ts ≡ expected_timestamp stream anchor number
  pub at : known.at ≡ deadline_of stream anchor number
  pub short : IsShortTime known.at

-- two numbers whose media times are less than 2^31 sampling instants (12 hours) apart
pub record IsNearby (stream : Stream) (before number : ℕ) : Type 0 where
  pub low : neg_ℤ (pos (2 ^ 31)) ≤ℤ ((pos number -ℤ pos before) *ℤ pos stream.frames)
  pub high : ((pos number -ℤ pos before) *ℤ pos stream.frames) <ℤ pos (2 ^ 31)

-- the packet is an epoch's first, as far as is known
abbrev pub is_opening : Option KnownDeadline → Fate → Bool
is_opening known Restarted = true
is_opening None Taken = true
is_opening (Some known) Taken = false
is_opening known Closed = false
is_opening known CountersFull = false
is_opening known WrongSource = false
is_opening known OffGrid = false
is_opening known Late = false
is_opening known Ahead = false
is_opening known Double = false
is_opening known Unlike = false

-- the packet came in time, and is in step
abbrev pub is_placed : Fate → Bool
is_placed Taken = true
is_placed Double = true
is_placed Unlike = true
is_placed Restarted = true
is_placed Closed = false
is_placed CountersFull = false
is_placed WrongSource = false
is_placed OffGrid = false
is_placed Late = false
is_placed Ahead = false

-- what is known once an epoch's first packet was taken, from the next deadline then
abbrev pub known_from : ℕ → Option ℤ → Option KnownDeadline
known_from ts None = None
known_from ts (Some at) = Some (record { ts = ts; at = at })

-- the deadline is `spare` sampling instants after this time
pub record IsSpareBefore (deadline now : ℤ) (spare : ℕ) : Type 0 where
  pub some : 0 < spare
  pub until : (now +ℤ pos spare) ≡ deadline

-- the arrival margin: the time from a clock reading to a deadline; none if the deadline has come, or if 32 bits are not
-- enough
abbrev pub HasMargin : ℤ → ℤ → Option ℕ → Type 0
HasMargin deadline now spare = MatchOption spare ((deadline ≤ℤ now) ⊎ ((now +ℤ pos (2 ^ 32)) ≤ℤ deadline)) (IsSpareBefore deadline now)

-- the arrival margin of a packet, by its fate and timestamp: for an epoch's first packet to the next deadline, for a
-- later packet to the deadline of its number; a packet that did not come in time or is not in step has none
pub record IsMarginOf (known : Option KnownDeadline) (fate : Fate) (ts : ℕ) (due : Option ℤ) (now : ℤ) (spare : Option ℕ) : Type 0 where
  pub opening : is_opening known fate ≡ true → MatchOption due (spare ≡ None) (λ deadline. HasMargin deadline now spare)
  pub in_step : (stream : Stream) (anchor : Anchor) (before number : ℕ) (last : KnownDeadline)
      → known ≡ Some last → IsDeadlineOf stream anchor before last → is_opening known fate ≡ false → is_placed fate ≡ true
      → is_on_grid stream anchor number ts ≡ true → IsNearby stream before number → IsShortTime (deadline_of stream anchor number)
      → HasMargin (deadline_of stream anchor number) now spare
  pub unplaced : is_placed fate ≡ false → spare ≡ None
  pub unknown : known ≡ None → is_opening known fate ≡ false → spare ≡ None

-- the deadline that is known after a packet: that of the last packet that was taken
pub record IsKnownAfter (known : Option KnownDeadline) (fate : Fate) (ts : ℕ) (due : Option ℤ) (next : Option KnownDeadline) : Type 0 where
  pub opening : is_opening known fate ≡ true → next ≡ known_from ts due
  pub taken : (stream : Stream) (anchor : Anchor) (before number : ℕ) (last : KnownDeadline)
      → known ≡ Some last → IsDeadlineOf stream anchor before last → fate ≡ Taken
      → is_on_grid stream anchor number ts ≡ true → IsNearby stream before number → IsShortTime (deadline_of stream anchor number)
      → IfSome next (IsDeadlineOf stream anchor number)
  pub kept : is_opening known fate ≡ false → (fate ≡ Taken → ⊥) → next ≡ known
