-- The drift of a path's arrival margin: the least-squares slope over the least margins of the seconds of a minute.
use Rattle.std.specs.Prelude.{ℕ, ◌+◌, ◌-◌, ◌*◌, ◌/◌, ◌^◌, ◌≤◌, min, nat_eq, nat_lt, List, [], ◌∷◌, ◌++◌, length, drop, fold, ℤ, pos, neg_ℤ, Option, Some, None, if◌then◌else◌}
use Rattle.rtp_stats.specs.declared.drift.Drift.{Drift}
use Rattle.rtp_stats.specs.declared.drift.sums.Sums.{Sums}
use Rattle.rtp_stats.specs.declared.arrival_margin.ArrivalMargin.{ArrivalMargin}

-- the place of a second in the minute before another second: 0 for a minute before it, 59 for the second just before it
abbrev pub place_in : ℕ → ℕ → Option ℕ
place_in now second = if nat_lt second now then (if nat_lt 60 (now - second) then None else Some (60 - (now - second))) else None

-- what a least-squares slope is computed from: the number of points, the sums of their places and of their margins, of
-- the products of both, and of the squares of the places
abbrev pub no_sums : Sums
no_sums = record { count = 0; places = 0; margins = 0; products = 0; squares = 0 }

-- the sums with one more point
abbrev pub with_point : ℕ → ℕ → Sums → Sums
with_point place margin s = record {
  count = s.count + 1;
  places = s.places + place;
  margins = s.margins + margin;
  products = s.products + place * margin;
  squares = s.squares + place * place;
}

-- the sums with the least margin of a second, if the second is in the minute
abbrev pub with_place : Option ℕ → ℕ → Sums → Sums
with_place None margin s = s
with_place (Some place) margin s = with_point place margin s

abbrev pub with_second : ℕ → Sums → ArrivalMargin → Sums
with_second now s margin = with_place (place_in now margin.second) margin.least s

-- the sums over the seconds of the minute before a second
abbrev pub sums_of : ℕ → List ArrivalMargin → Sums
sums_of now margins = fold (with_second now) no_sums margins

-- the slope is a fraction, (n sum xy - sum x sum y) / (n sum xx - sum x sum x), in sampling instants a second
abbrev pub up_of : Sums → ℕ
up_of s = s.count * s.products

abbrev pub down_of : Sums → ℕ
down_of s = s.places * s.margins

abbrev pub run_of : Sums → ℕ
run_of s = s.count * s.squares - s.places * s.places

-- a slope in parts per million, rounded to the nearest whole number: a second has 48,000 sampling instants, and
-- 1,000,000 / 48,000 is 125 / 6
abbrev pub millionths : ℕ → ℕ → ℕ
millionths rise run = (125 * rise + 3 * run) / (6 * run)

-- a slope in parts per million with its sign: positive if packets come earlier and earlier
abbrev pub ppm_of : ℕ → ℕ → ℕ → ℤ
ppm_of up down run = if nat_lt up down then neg_ℤ (pos (millionths (down - up) run)) else pos (millionths (up - down) run)

-- a year, in seconds: the greatest time left that is reported
abbrev pub year : ℕ
year = 31536000

-- the seconds, rounded down, in which a margin is used up
abbrev pub time_of : ℕ → ℕ → ℕ → ℕ
time_of margin rise run = min (margin * run / rise) year

-- the time until packets will be late or too early at this rate: the least margin falls to 0, or the greatest rises to
-- the span of the window; a year if neither happens before
abbrev pub left_of : ℕ → ℕ → ℕ → ℕ → ArrivalMargin → ℕ
left_of up down run window_span newest =
    if nat_lt up down then time_of newest.least (down - up) run
    else (if nat_lt down up then time_of (window_span - newest.greatest) (up - down) run else year)

-- the drift by these sums, if the newest second has these margins; there is none by fewer than ten points, or if all
-- points have the same place
abbrev pub drift_by : Sums → ℕ → ArrivalMargin → Option Drift
drift_by s window_span newest =
    if nat_lt s.count 10 then None
    else (if nat_eq (run_of s) 0 then None
    else Some (record { ppm = ppm_of (up_of s) (down_of s) (run_of s); left = left_of (up_of s) (down_of s) (run_of s) window_span newest }))

-- the last of these margins
abbrev pub newest_of : List ArrivalMargin → Option ArrivalMargin
newest_of margins = fold (λ last margin. Some margin) None margins

abbrev pub drift_with : Sums → ℕ → Option ArrivalMargin → Option Drift
drift_with s window_span None = None
drift_with s window_span (Some newest) = drift_by s window_span newest

-- the drift in a second, by the margins of the seconds before it in their order; `window_span` is the window in sampling
-- instants
abbrev pub drift_of : ℕ → ℕ → List ArrivalMargin → Option Drift
drift_of now window_span margins = drift_with (sums_of now margins) window_span (newest_of margins)

-- what is kept of a path's seconds: the least second that may come, and the margins of the last sixty, in their order
pub record MinuteState : Type 0 where
  pub next : ℕ
  pub margins : List ArrivalMargin

-- the last sixty margins, with one more
abbrev pub with_last : ArrivalMargin → List ArrivalMargin → List ArrivalMargin
with_last margin margins = drop (length margins + 1 - 60) margins ++ margin ∷ []

-- the state after a second's margins, unless they are known already or the second is before the epoch
abbrev pub minute_after : ArrivalMargin → MinuteState → MinuteState
minute_after margin m =
    if nat_lt margin.second m.next then m
    else record { next = min (margin.second + 1) (2 ^ 64 - 1); margins = with_last margin m.margins }

-- the state after an epoch began in this second: the second has margins of the epoch before, so it is left out too
abbrev pub minute_from : ℕ → MinuteState
minute_from second = record { next = min (second + 1) (2 ^ 64 - 1); margins = [] }

-- sums over at most `n` points, with places below 60 and margins of 32 bits
pub record IsSmall (n : ℕ) (s : Sums) : Type 0 where
  pub count : s.count ≤ n
  pub places : s.places ≤ 59 * n
  pub margins : s.margins ≤ 4294967296 * n
  pub products : s.products ≤ 253403070464 * n
  pub squares : s.squares ≤ 3481 * n
