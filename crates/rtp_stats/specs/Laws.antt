-- The numbers that a path misses, counted from each number on, in a list of offers with the earliest first.
use Rattle.std.specs.Prelude.{◌≡◌, ℕ, ◌+◌, ◌%◌, Bool, true, false, not, ◌&&◌, nat_eq, List, [], ◌∷◌, if◌then◌else◌}
use Rattle.rtp_stream.specs.Counts.{is_taken_fate}
use Rattle.rtp_stats.specs.Missed.{is_copy_on, takes}
use Rattle.rtp_stats.specs.Offer.{Offer}

-- after a number was taken, another number is taken at its place before the path brings a copy of the first
abbrev pub is_given_up : ℕ → ℕ → ℕ → ℕ → List Offer → Bool
is_given_up window place path seq [] = false
is_given_up window place path seq (o ∷ after) =
    if takes window place o then true
    else if is_copy_on path seq o then false
    else is_given_up window place path seq after

-- the offer is taken from another path, and this path never brings its number while it is kept
abbrev pub is_left : ℕ → ℕ → Offer → List Offer → Bool
is_left window path o after = is_taken_fate o.fate && (not (nat_eq o.path path) && is_given_up window (o.seq % window) path o.seq after)

-- how many numbers the path never brings while they are kept
abbrev pub left_of : ℕ → ℕ → List Offer → ℕ
left_of window path [] = 0
left_of window path (o ∷ after) = (if is_left window path o after then 1 else 0) + left_of window path after

-- the path brings every number while it is kept
abbrev pub BringsEach : ℕ → ℕ → List Offer → Type 0
BringsEach window path [] = Unit {0}
BringsEach window path (o ∷ after) = (is_left window path o after ≡ false) × BringsEach window path after
