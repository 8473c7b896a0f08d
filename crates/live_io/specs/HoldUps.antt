-- The hold-up of a feed, after which it leaves out what its socket has.
use Rattle.std.specs.Prelude.{◌≡◌, ◌⊎◌, ℕ, ◌-◌, ◌/◌, min, max, true, ℤ, pos, ◌+ℤ◌, ◌<ℤ◌, Option, Some, None}
use Rattle.rtp_stream.specs.declared.stream_spec.Stream.{Stream}
use Rattle.studio_io.specs.declared.feed.FeedAnswer.{FeedAnswer}
use Rattle.studio_io.specs.declared.feed.FeedAnswer.TheVariants.{Datagram, Nothing, Fault, Ended}
use Rattle.live_io.specs.MixSpans.{span_of}
use Rattle.live_io.specs.MixTimes.{IsStale, IsWithin}
use Rattle.live_io.specs.declared.sockets.hold_up.HoldUp.{HoldUp}
use Rattle.live_io.specs.declared.sockets.mix_times.MixDue.{MixDue}

-- the longest time between two calls of a feed, in sampling instants: a second, or the latency of its stream or what the
-- stream's window spans, if that is more
abbrev pub longest_gap : Stream → ℕ
longest_gap stream = max 48000 (max stream.latency (span_of stream))

-- the mix has caught up if it is overdue by no more than half of what the window spans beyond the latency, but at least
-- 5 ms and at most 20 ms
abbrev pub tolerance : Stream → ℕ
tolerance stream = max 240 (min 960 ((span_of stream - stream.latency) / 2))

-- the last call was longer ago than the longest gap
abbrev pub IsGap : Option ℤ → ℕ → ℤ → Type 0
IsGap None longest now = ⊥
IsGap (Some last) longest now = (last +ℤ pos longest) <ℤ now

-- a feed is held up by a call at this time: after a gap, or while the next datagram of the mix is stale; and from then on
-- until the mix has caught up
abbrev pub IsHeldUp : HoldUp → MixDue → ℤ → Type 0
IsHeldUp old due now =
    IsGap old.last_at old.longest now ⊎ (IsStale due now ⊎ ((old.is_held ≡ true) × (IsWithin old.tolerance due now → ⊥)))

-- a feed returned no datagram
abbrev pub IsNoDatagram : FeedAnswer → Type 0
IsNoDatagram (Datagram count) = ⊥
IsNoDatagram Nothing = Unit {0}
IsNoDatagram Fault = Unit {0}
IsNoDatagram Ended = Unit {0}
