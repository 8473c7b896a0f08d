-- The copies that are kept of the last number that was taken at a place.
use Rattle.std.specs.Prelude.{◌≡◌, ℕ, ◌<◌, Bool, true, false, not, ◌&&◌, nat_eq, List, [], ◌∷◌, length, slice_index_or, slice_set, Option, Some, None, if◌then◌else◌}
use Rattle.rtp_stream.specs.declared.fate.Fate.{Fate}
use Rattle.rtp_stream.specs.Counts.{is_taken_fate}
use Rattle.rtp_stats.specs.declared.tally.window_copies.WindowCopies.{WindowCopies}
use Rattle.rtp_stats.specs.Offer.{Offer}
use Rattle.rtp_stats.specs.Missed.{has_brought, is_copy_fate, taken_last}

abbrev pub no_path : List Bool
no_path = false ∷ false ∷ false ∷ false ∷ []

-- nothing was taken
abbrev pub empty_entry : WindowCopies
empty_entry = record { taken = false; seq = 0; brought = no_path }

-- a number was taken from this path
abbrev pub entry_of : ℕ → ℕ → WindowCopies
entry_of path seq = record { taken = true; seq = seq; brought = slice_set no_path path true }

-- the entry after one more copy of a number, if this is the number that is kept
abbrev pub with_copy : ℕ → ℕ → WindowCopies → WindowCopies
with_copy path seq entry = if entry.taken && nat_eq entry.seq seq then record entry { brought = slice_set entry.brought path true } else entry

-- the entry after one more offer at its place
abbrev pub entry_after : ℕ → Fate → ℕ → WindowCopies → WindowCopies
entry_after path fate seq entry =
    if is_taken_fate fate then entry_of path seq
    else if is_copy_fate fate then with_copy path seq entry
    else entry

-- the path brought no copy of the number that is kept
abbrev pub misses : WindowCopies → ℕ → Bool
misses entry path = entry.taken && not (slice_index_or entry.brought path false)

abbrev pub number_kept : WindowCopies → Option ℕ
number_kept entry = if entry.taken then Some entry.seq else None

-- what is kept at a place after these offers
pub record HasEntry (window place : ℕ) (offers : List Offer) (entry : WindowCopies) : Type 0 where
  pub four : length entry.brought ≡ 4
  pub number : number_kept entry ≡ taken_last window place offers
  pub brought : (path : ℕ) → path < 4 → entry.taken ≡ true → slice_index_or entry.brought path false ≡ has_brought window place path entry.seq offers
