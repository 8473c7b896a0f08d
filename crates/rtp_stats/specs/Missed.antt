-- The numbers that a path missed: it brought no copy while one could still be used, in a list of offers with the latest first.
use Rattle.std.specs.Prelude.{ℕ, ◌+◌, ◌%◌, Bool, true, false, not, ◌&&◌, ◌||◌, nat_eq, List, [], ◌∷◌, Option, Some, None, if◌then◌else◌}
use Rattle.rtp_stream.specs.declared.fate.Fate.{Fate}
use Rattle.rtp_stream.specs.Counts.{is_double, is_late, is_taken_fate, is_unlike}
use Rattle.rtp_stats.specs.Offer.{Offer}

-- the packet has one of the stream's numbers: it is the first copy or a further one, or comes too late
abbrev pub is_copy_fate : Fate → Bool
is_copy_fate fate = is_taken_fate fate || (is_double fate || (is_unlike fate || is_late fate))

-- the offer is a copy of this number, on this path
abbrev pub is_copy_on : ℕ → ℕ → Offer → Bool
is_copy_on path seq o = nat_eq o.path path && (nat_eq o.seq seq && is_copy_fate o.fate)

-- numbers whole windows apart have one place; the offer was taken, and has this place
abbrev pub takes : ℕ → ℕ → Offer → Bool
takes window place o = is_taken_fate o.fate && nat_eq (o.seq % window) place

-- the number that was taken last at a place
abbrev pub taken_last : ℕ → ℕ → List Offer → Option ℕ
taken_last window place [] = None
taken_last window place (o ∷ before) = if takes window place o then Some o.seq else taken_last window place before

-- the path brought a copy of this number, which is the last number that was taken at its place
abbrev pub has_brought : ℕ → ℕ → ℕ → ℕ → List Offer → Bool
has_brought window place path seq [] = false
has_brought window place path seq (o ∷ before) =
    if is_copy_on path seq o then true
    else if takes window place o then false
    else has_brought window place path seq before

-- a number was taken at this place, and the path brought no copy of it
abbrev pub is_without : ℕ → ℕ → ℕ → Option ℕ → List Offer → Bool
is_without window place path None before = false
is_without window place path (Some seq) before = not (has_brought window place path seq before)

-- an offer that is taken replaces the number before it at its place, and this path brought no copy of that number
abbrev pub ends_missed : ℕ → ℕ → Offer → List Offer → Bool
ends_missed window path o before =
    is_taken_fate o.fate && is_without window (o.seq % window) path (taken_last window (o.seq % window) before) before

-- the numbers that were taken without a copy by this path until the next number at their place was taken
abbrev pub missed_of : ℕ → ℕ → List Offer → ℕ
missed_of window path [] = 0
missed_of window path (o ∷ before) = (if ends_missed window path o before then 1 else 0) + missed_of window path before
