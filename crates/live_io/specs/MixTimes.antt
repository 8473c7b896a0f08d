-- When the datagrams of the mix are due, and how long they are useful.
use Rattle.std.specs.Prelude.{◌≡◌, ℕ, ◌+◌, ℤ, pos, ◌+ℤ◌, ◌<ℤ◌, ◌≤ℤ◌}
use Rattle.std.specs.Int.{int_max}
use Rattle.mix_packets.specs.Block.{block_start}
use Rattle.studio_config.specs.Studio.{Studio}
use Rattle.live_io.specs.MixSpans.{greatest_latency, greatest_span}
use Rattle.live_io.specs.declared.sockets.mix_times.MixDue.{MixDue}
use Rattle.live_io.specs.declared.sockets.mix_times.MixTimes.{MixTimes}

-- the times of a studio's mix before its first block
pub record BeginMix (studio : Studio) (times : MixTimes) : Type 0 where
  pub end : times.end ≡ block_start studio.output 1
  pub frames : times.frames ≡ studio.output.frames
  pub open_at : times.open_at ≡ studio.open_at
  pub latency : times.latency ≡ greatest_latency studio.streams
  pub span : times.span ≡ greatest_span studio.streams

-- the time at which the datagram of the next block is due: at the end of the block, or the opening if that is later, and
-- the greatest latency later
abbrev pub due_at : MixTimes → ℤ
due_at times = int_max times.end times.open_at +ℤ pos times.latency

-- it is useful for as long as the greatest window spans, and a second more
abbrev pub due_of : MixTimes → MixDue
due_of times = record { at = due_at times; useful = times.span + 48000 }

-- the same for a copy that waits for so long
abbrev pub due_after : ℕ → MixTimes → MixDue
due_after delay times = record { at = due_at times +ℤ pos delay; useful = times.span + 48000 }

-- a datagram that is handed out later is useless to every receiver
abbrev pub IsStale : MixDue → ℤ → Type 0
IsStale due now = (due.at +ℤ pos due.useful) <ℤ now

-- it is overdue by no more than this
abbrev pub IsWithin : ℕ → MixDue → ℤ → Type 0
IsWithin tolerance due now = now ≤ℤ (due.at +ℤ pos tolerance)
