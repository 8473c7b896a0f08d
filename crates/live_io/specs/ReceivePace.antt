-- The wait after a socket was found empty.
use Rattle.std.specs.Prelude.{ℕ, ◌/◌, min, max, Bool, true, false, ℤ, pos, ◌+ℤ◌, ◌<ℤ◌, Option, Some, None}

-- the pause of a receiver of a stream with this latency while packets flow, in sampling instants: a tenth of the
-- latency, at least 10 and at most 192
abbrev pub pause_for : ℕ → ℕ
pause_for latency = min 192 (max 10 (latency / 10))

-- the sampling instants without a datagram after which a socket is quiet: 20 ms
abbrev pub quiet_after : ℕ
quiet_after = 960

-- packets flow at this time: it is less than 20 ms after the clock reading that followed the last datagram
abbrev pub FlowsAt : Option ℤ → ℤ → Type 0
FlowsAt None now = ⊥
FlowsAt (Some last) now = now <ℤ (last +ℤ pos quiet_after)

-- the clock reading after the last datagram, given whether a datagram arrived before the reading `now`
abbrev pub last_with : Bool → ℤ → Option ℤ → Option ℤ
last_with true now last = Some now
last_with false now last = last
