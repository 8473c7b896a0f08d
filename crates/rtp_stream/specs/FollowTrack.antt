-- The record that a merge keeps of a path's arrivals: which of the last 256 were astray or beyond, as bits, the end of
-- its copies in time, the time of the last arrival, and since when the path is astray.
use Rattle.std.specs.Prelude.{ℕ, zero, suc, Bool, true, false, not, ◌&&◌, max, List, [], ◌∷◌, ℤ, Option, Some, None, if◌then◌else◌}
use Rattle.rtp_stream.specs.ArrivalBits.{are_often, bits_with, no_bits}
use Rattle.rtp_stream.specs.declared.stream_spec.Stream.{Stream}
use Rattle.rtp_stream.specs.Anchor.{is_source_wanted}
use Rattle.rtp_stream.specs.declared.follow.Standing.{Standing}
use Rattle.rtp_stream.specs.Follow.{empties, end_since, has_wire_size, is_astray, is_following, is_for_long, is_silent, standing_of, time_or}
use Rattle.rtp_stream.specs.declared.anchor.Anchor.{Anchor}
use Rattle.rtp_stream.specs.declared.follow.Track.{Track}
use Rattle.rtp_stream.specs.declared.packet.Packet.{Packet}

abbrev pub no_track : Track
no_track = record { astray = no_bits; early = no_bits; end = 0; last = None; since = None }

-- the record of a path whose arrivals are too long ago to count: the end of its copies in time is left
abbrev pub silenced : Track → Track
silenced t = record { astray = no_bits; early = no_bits; end = t.end; last = None; since = None }

-- the time since which a path is astray, after one more arrival
abbrev pub since_after : Option ℤ → Bool → ℤ → Option ℤ
since_after since often time = if often then Some (time_or time since) else None

abbrev pub track_with : Track → Standing → Track
track_with t s = record {
  astray = bits_with t.astray (is_astray s);
  early = bits_with t.early s.beyond;
  end = max t.end s.end;
  last = Some s.time;
  since = since_after t.since (are_often (bits_with t.astray (is_astray s))) s.time;
}

-- the record after one more arrival
abbrev pub track_after : Track → Standing → Track
track_after t s = track_with (if is_silent t.last s.time then silenced t else t) s

abbrev pub track_from : Track → List Standing → Track
track_from t [] = t
track_from t (s ∷ standings) = track_from (track_after t s) standings

-- the record after all arrivals of a path
abbrev pub track_of : List Standing → Track
track_of standings = track_from no_track standings

-- the record of a path, by its number
abbrev pub track_at : List Track → ℕ → Track
track_at [] path = no_track
track_at (t ∷ tracks) zero = t
track_at (t ∷ tracks) (suc path) = track_at tracks path

-- a path brings packets beyond again and again at this time
abbrev pub is_early : Track → ℤ → Bool
is_early t time = not (is_silent t.last time) && are_often t.early

-- the width of the window in force, by the records of its paths
abbrev pub width_by : Stream → Anchor → ℕ → ℤ → List Track → ℕ
width_by stream anchor next time tracks =
    if is_following stream.clock && empties anchor next (λ path. is_early (track_at tracks path) time) (λ path. (track_at tracks path).end) then 0 else stream.window

-- the standing of an arrival at this time, by the records of the paths
abbrev pub standing_by : Stream → Anchor → ℕ → ℤ → List Track → ℕ → Packet → Standing
standing_by stream anchor next time tracks path packet =
    standing_of stream anchor next time (width_by stream anchor next time tracks) (end_since anchor (λ on. (track_at tracks on).end)) path packet

-- the record of a path after an arrival on it; arrivals of a source that the stream doesn't ask for change nothing,
-- and by another clock than `Follow` no arrival does
abbrev pub track_heard : Stream → Anchor → ℕ → ℤ → List Track → ℕ → Packet → Track
track_heard stream anchor next time tracks path packet =
    if is_following stream.clock && is_source_wanted stream.ssrc packet.ssrc then track_after (track_at tracks path) (standing_by stream anchor next time tracks path packet) else track_at tracks path

-- this arrival shows that its sender is astray
abbrev pub is_slip_by : Stream → Anchor → ℕ → ℤ → List Track → ℕ → Packet → Bool
is_slip_by stream anchor next time tracks path packet =
    is_following stream.clock
    && (has_wire_size packet
    && (is_astray (standing_by stream anchor next time tracks path packet)
    && is_for_long (track_after (track_at tracks path) (standing_by stream anchor next time tracks path packet)).since time))
