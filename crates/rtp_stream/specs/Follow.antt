-- The standing of arrivals by the clock `Follow`: in time, behind or beyond; and the arrivals whose sender is astray.
use Rattle.std.specs.Prelude.{ℕ, suc, ◌+◌, ◌^◌, Bool, true, false, not, ◌&&◌, ◌||◌, nat_eq, nat_le, nat_lt, max, List, [], ◌∷◌, ◌++◌, count_by, reverse, take, drop, ℤ, pos, ◌+ℤ◌, int_lt, int_le, Option, Some, None, if◌then◌else◌}
use Rattle.rtp_stream.specs.declared.stream_spec.Stream.{Stream}
use Rattle.rtp_stream.specs.declared.stream_spec.StreamClock.{StreamClock}
use Rattle.rtp_stream.specs.declared.stream_spec.StreamClock.TheVariants.{Media, Arrival, Follow}
use Rattle.rtp_stream.specs.declared.anchor.Anchor.{Anchor}
use Rattle.rtp_stream.specs.declared.packet.Packet.{Packet}
use Rattle.rtp_stream.specs.declared.follow.Standing.{Standing}
use Rattle.rtp_stream.specs.declared.event.Event.{Event}
use Rattle.rtp_stream.specs.declared.event.Event.TheVariants.{Arrive, Tick, Close}
use Rattle.rtp_stream.specs.History.{time_of, is_counting}
use Rattle.rtp_stream.specs.Anchor.{is_source_wanted, next_number}
use Rattle.rtp_stream.specs.Grid.{extended_number, of_width, is_in_time}
use Rattle.rtp_stream.specs.Probation.{is_off}

-- the clock follows a sender that is astray
abbrev pub is_following : StreamClock → Bool
is_following (Media offset) = false
is_following Arrival = false
is_following Follow = true

abbrev pub is_astray : Standing → Bool
is_astray s = s.behind || s.beyond

abbrev pub is_beyond : Standing → Bool
is_beyond s = s.beyond

-- the standings of the arrivals on a path
abbrev pub standings_on : ℕ → List Standing → List Standing
standings_on path [] = []
standings_on path (s ∷ standings) = if nat_eq s.path path then s ∷ standings_on path standings else standings_on path standings

-- one past the greatest number with a copy in time among these, or 0
abbrev pub end_of_standings : List Standing → ℕ
end_of_standings [] = 0
end_of_standings (s ∷ standings) = max s.end (end_of_standings standings)

-- more than a second, 48,000 sample periods, before this time
abbrev pub is_silent : Option ℤ → ℤ → Bool
is_silent None time = false
is_silent (Some last) time = int_lt (last +ℤ pos 48000) time

-- the time of the latest of these arrivals, which are in order with the latest first
abbrev pub latest_time : List Standing → Option ℤ
latest_time [] = None
latest_time (s ∷ earlier) = Some s.time

-- the latest arrivals, up to the first that came more than a second before the one after it
abbrev pub run_of : List Standing → List Standing
run_of [] = []
run_of (s ∷ earlier) = s ∷ (if is_silent (latest_time earlier) s.time then [] else run_of earlier)

-- those that count at this time: none if the latest came more than a second before it
abbrev pub run_at : ℤ → List Standing → List Standing
run_at time latest = if is_silent (latest_time latest) time then [] else run_of latest

-- at least 8 of the last 256 of these pass the test
abbrev pub are_many : (Standing → Bool) → List Standing → Bool
are_many test latest = nat_le 8 (count_by test (take 256 latest))

-- at this time, at least 8 of the last 256 arrivals that count pass the test
abbrev pub are_many_at : (Standing → Bool) → ℤ → List Standing → Bool
are_many_at test time standings = are_many test (run_at time (reverse standings))

-- the time since which many of these arrivals were astray at each arrival, and are at the latest
abbrev pub time_or : ℤ → Option ℤ → ℤ
time_or time None = time
time_or time (Some since) = since

abbrev pub astray_since : List Standing → Option ℤ
astray_since [] = None
astray_since (s ∷ earlier) = if are_many is_astray (s ∷ earlier) then Some (time_or s.time (astray_since earlier)) else None

-- at least 20 ms, 960 sample periods, before this time
abbrev pub is_for_long : Option ℤ → ℤ → Bool
is_for_long None time = false
is_for_long (Some since) time = int_le (since +ℤ pos 960) time

-- one past the greatest number with a copy in time, the anchor's own included; `end` has that of each path, or 0
abbrev pub end_since : Anchor → (ℕ → ℕ) → ℕ
end_since anchor end = max (suc anchor.number) (max (end 0) (max (end 1) (max (end 2) (end 3))))

-- a path doesn't keep the stream from emptying: it often brings packets beyond, or nothing that it brought is held
abbrev pub may_empty : ℕ → Bool → ℕ → Bool
may_empty next early end = early || nat_le end next

-- the test passes for some path; and for each path
abbrev pub any_path : (ℕ → Bool) → Bool
any_path test = test 0 || (test 1 || (test 2 || test 3))

abbrev pub all_paths : (ℕ → Bool) → Bool
all_paths test = test 0 && (test 1 && (test 2 && test 3))

-- the first packet of the epoch was passed on, some path often brings packets beyond, and so does each path that
-- brought something that is held
abbrev pub empties : Anchor → ℕ → (ℕ → Bool) → (ℕ → ℕ) → Bool
empties anchor next early end = nat_lt anchor.number next && (any_path early && all_paths (λ path. may_empty next (early path) (end path)))

-- the stream is emptying: what is held is passed on, and nothing more is taken
abbrev pub is_emptying : Anchor → ℕ → ℤ → List Standing → Bool
is_emptying anchor next time standings = empties anchor next (λ path. are_many_at is_beyond time (standings_on path standings)) (λ path. end_of_standings (standings_on path standings))

-- the number of packets, from the number due next on, that are in time: the window, or 0 while the stream is emptying
abbrev pub width_after : Stream → Anchor → ℕ → ℤ → List Standing → ℕ
width_after stream anchor next time standings = if is_following stream.clock && is_emptying anchor next time standings then 0 else stream.window

-- the standing of a packet at this time, if `next` is due next, in a window of this width, and copies in time end at `end`: it is
-- behind if it is late and neither its number nor a greater one has a copy in time, and beyond if its number is past this width
abbrev pub standing_of : Stream → Anchor → ℕ → ℤ → ℕ → ℕ → ℕ → Packet → Standing
standing_of stream anchor next time width end path packet = record {
  path = path;
  time = time;
  end = if is_in_time (of_width stream width) anchor next packet then suc (extended_number packet next) else 0;
  behind = not (is_off stream anchor next packet) && (nat_lt (extended_number packet next) next && nat_le end (extended_number packet next));
  beyond = not (is_off stream anchor next packet) && (nat_le next (extended_number packet next) && nat_le (next + width) (extended_number packet next));
}

-- the standing of an arrival at this time after these arrivals
abbrev pub standing_after : Stream → Anchor → ℕ → ℤ → List Standing → ℕ → Packet → Standing
standing_after stream anchor next time standings path packet =
    standing_of stream anchor next time (width_after stream anchor next time standings) (end_since anchor (λ on. end_of_standings (standings_on on standings))) path packet

-- the standing of an arrival that counts, as it comes; an arrival doesn't count if the stream asks for another source
abbrev pub standings_at : Stream → Anchor → ℤ → List Standing → List Event → Event → List Standing
standings_at stream anchor open_at given before (Arrive path packet) =
    if is_following stream.clock && (is_counting before && is_source_wanted stream.ssrc packet.ssrc)
    then standing_after stream anchor (next_number stream anchor (time_of open_at before)) (time_of open_at before) given path packet ∷ [] else []
standings_at stream anchor open_at given before (Tick u) = []
standings_at stream anchor open_at given before Close = []

unfoldable pub standings_from : Stream → Anchor → ℤ → List Standing → List Event → List Event → List Standing
standings_from stream anchor open_at given before [] = given
standings_from stream anchor open_at given before (event ∷ events) =
    standings_from stream anchor open_at (given ++ standings_at stream anchor open_at given before event) (before ++ event ∷ []) events

-- the standings of all arrivals after the anchor's; by another clock than `Follow` there are none
abbrev pub standings_since : Stream → ℤ → ℕ → Anchor → List Event → List Standing
standings_since stream open_at place anchor events = standings_from stream anchor open_at [] (take (suc place) events) (drop (suc place) events)

-- the width of the window after a history, if this anchor is in force since its place
abbrev pub width_since : Stream → ℤ → ℕ → Anchor → List Event → ℕ
width_since stream open_at place anchor events = width_after stream anchor (next_number stream anchor (time_of open_at events)) (time_of open_at events) (standings_since stream open_at place anchor events)

-- a packet's sequence number has 16 bits, and its timestamp 32
abbrev pub has_wire_size : Packet → Bool
has_wire_size packet = nat_lt packet.seq (2 ^ 16) && nat_lt packet.ts (2 ^ 32)

-- the sender is astray with this arrival: the arrival is behind or beyond, and for at least 20 ms so were at least 8 of its
-- path's last 256 at each arrival of the path, itself included
abbrev pub is_slip : Stream → ℤ → ℕ → Anchor → List Event → ℕ → Packet → Bool
is_slip stream open_at place anchor before path packet =
    is_following stream.clock
    && (has_wire_size packet
    && (is_astray (standing_after stream anchor (next_number stream anchor (time_of open_at before)) (time_of open_at before) (standings_since stream open_at place anchor before) path packet)
    && is_for_long (astray_since (run_of (reverse (standings_on path (standings_since stream open_at place anchor (before ++ Arrive path packet ∷ [])))))) (time_of open_at before)))
