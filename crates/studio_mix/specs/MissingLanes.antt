-- The streams that are missing in a block, by the lanes from which it was read.
use Rattle.std.specs.Prelude.{ℕ, ◌+◌, Bool, true, false, not, ◌&&◌, ◌||◌, nat_lt, ℤ, pos, ◌+ℤ◌, List, [], ◌∷◌, length, slice_index_or, if◌then◌else◌}
use Rattle.std.specs.Ordering.{int_eq}
use Rattle.std.specs.List.{list_all, list_any, range_with_len}
use Rattle.lane_align.specs.Lane.{LaneState}
use Rattle.gain_mix.specs.Changes.{Changes, matrix_at}
use Rattle.gain_mix.specs.Gain.{are_used}
use Rattle.studio_io.specs.declared.mixed_block.Missing.{Missing}

-- the stream is present in each frame of the lane's block
abbrev pub is_whole : LaneState → Bool
is_whole lane = list_all (λ presence. int_eq presence (pos 1)) lane.present

-- the two are the same
abbrev pub agrees : Bool → Bool → Bool
agrees true came = came
agrees false came = not came

-- `count` channels from `at` on are used in one of the frames from a time on in which the stream is present, or in one in
-- which it is not
abbrev pub is_used_where : Bool → List ℤ → Changes → ℤ → ℕ → ℕ → Bool
is_used_where came present schedule t at count =
    list_any (λ f. agrees came (int_eq (slice_index_or present f (pos 0)) (pos 1)) && are_used (matrix_at schedule (t +ℤ pos f)) at count) (range_with_len 0 (length present))

-- how many of the lanes' streams are missing; the first lane's first channel is `at`
abbrev pub missing_lanes : Changes → ℤ → ℕ → List LaneState → ℕ
missing_lanes schedule t at [] = 0
missing_lanes schedule t at (lane ∷ lanes) =
    (if is_used_where false lane.present schedule t at lane.format.channels then 1 else 0) + missing_lanes schedule t (at + lane.format.channels) lanes

-- one of the lanes' streams is heard
abbrev pub heard_lanes : Changes → ℤ → ℕ → List LaneState → Bool
heard_lanes schedule t at [] = false
heard_lanes schedule t at (lane ∷ lanes) =
    is_used_where true lane.present schedule t at lane.format.channels || heard_lanes schedule t (at + lane.format.channels) lanes

-- what is missing in the block
abbrev pub missing_among : List LaneState → Changes → ℤ → Missing
missing_among lanes schedule t = record {
  streams = missing_lanes schedule t 0 lanes;
  is_empty = nat_lt 0 (missing_lanes schedule t 0 lanes) && not (heard_lanes schedule t 0 lanes);
}
