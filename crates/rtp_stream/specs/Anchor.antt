-- The first packet of an epoch, and the times and numbers that it fixes.
use Rattle.std.specs.Prelude.{ℕ, suc, ◌+◌, ◌*◌, ◌/◌, ◌^◌, Bool, true, ◌&&◌, nat_eq, ℤ, pos, negsuc, ◌+ℤ◌, ◌-ℤ◌, ◌*ℤ◌, int_lt, int_le, Option, Some, None, if◌then◌else◌, unsigned_abs}
use Rattle.std.specs.Int.{int_rem_euclid}
use Rattle.rtp_stream.specs.Nearest.{nearest_number}
use Rattle.rtp_stream.specs.declared.stream_spec.Stream.{Stream}
use Rattle.rtp_stream.specs.declared.stream_spec.StreamClock.{StreamClock}
use Rattle.rtp_stream.specs.declared.stream_spec.StreamClock.TheVariants.{Media, Arrival, Follow}
use Rattle.rtp_stream.specs.declared.anchor.Anchor.{Anchor}
use Rattle.rtp_stream.specs.declared.packet.Packet.{Packet}

-- the stream asks for this source, or for none
abbrev pub is_source_wanted : Option ℕ → ℕ → Bool
is_source_wanted None source = true
is_source_wanted (Some wanted) source = nat_eq source wanted

-- the media time of a packet that would be the first of the stream, if it arrived at this time
abbrev pub first_media_time : StreamClock → ℕ → ℤ → ℤ
first_media_time (Media offset) ts time = nearest_number 2147483648 (unsigned_abs (int_rem_euclid (pos ts -ℤ pos offset) (pos (2 ^ 32)))) time
first_media_time Arrival ts time = time
first_media_time Follow ts time = time

-- a first packet with this media time may open an epoch: its deadline is still to come, and it is within the window
abbrev pub is_first_in_reach : Stream → ℤ → ℤ → Bool
is_first_in_reach stream time media = int_lt (time -ℤ pos stream.latency) media && int_lt media (time -ℤ pos stream.latency +ℤ pos (stream.window * stream.frames))

-- the packet may be the first of the stream, if it arrives at this time
abbrev pub can_anchor : Stream → ℤ → Packet → Bool
can_anchor stream time packet = is_source_wanted stream.ssrc packet.ssrc && is_first_in_reach stream time (first_media_time stream.clock packet.ts time)

-- the anchor that this packet makes; extended numbers start in the second cycle, so that none is below 0
abbrev pub anchor_from : Stream → ℤ → Packet → Anchor
anchor_from stream time packet = record {
  epoch = 0;
  number = 65536 + packet.seq;
  timestamp = packet.ts;
  media = first_media_time stream.clock packet.ts time;
  source = packet.ssrc;
}

-- the media time of a number's first sampling instant, and its playout deadline
abbrev pub media_time_of : Stream → Anchor → ℕ → ℤ
media_time_of stream anchor number = anchor.media +ℤ (pos number -ℤ pos anchor.number) *ℤ pos stream.frames

abbrev pub deadline_of : Stream → Anchor → ℕ → ℤ
deadline_of stream anchor number = media_time_of stream anchor number +ℤ pos stream.latency

-- the number of the times 0, step, 2 * step .. that are at most `since`
abbrev pub steps_until : ℤ → ℕ → ℕ
steps_until (pos since) step = suc (since / step)
steps_until (negsuc since) step = 0

-- the least number from the anchor's on whose deadline is still to come
abbrev pub next_number : Stream → Anchor → ℤ → ℕ
next_number stream anchor time = anchor.number + steps_until (time -ℤ (anchor.media +ℤ pos stream.latency)) stream.frames

-- the media time of a packet that would restart the stream: by a clock of arrivals, not before the end of the last slot
abbrev pub restart_media_time : StreamClock → ℕ → ℤ → ℤ → ℤ
restart_media_time (Media offset) ts time due = first_media_time (Media offset) ts time
restart_media_time Arrival ts time due = if int_lt due time then time else due
restart_media_time Follow ts time due = if int_lt due time then time else due

-- a packet with this media time may restart the stream: it is in reach, and media time doesn't go back
abbrev pub is_restart_in_reach : Stream → ℤ → ℤ → ℤ → Bool
is_restart_in_reach stream time due media = is_first_in_reach stream time media && int_le due media

-- the anchor of the next epoch, if `next` is the number due next in the old one
abbrev pub restart_from : Stream → ℤ → Anchor → ℕ → Packet → Anchor
restart_from stream time old next packet = record {
  epoch = old.epoch + 1;
  number = 65536 + packet.seq;
  timestamp = packet.ts;
  media = restart_media_time stream.clock packet.ts time (media_time_of stream old next);
  source = packet.ssrc;
}
