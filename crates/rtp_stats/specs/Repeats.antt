-- The packets that repeat numbers that were received in time, in a list of offers with the latest first.
use Rattle.std.specs.Prelude.{ℕ, ◌+◌, ◌-◌, ◌%◌, ◌^◌, Bool, true, false, nat_eq, nat_lt, List, [], ◌∷◌, slice_set, Option, Some, None, if◌then◌else◌}
use Rattle.rtp_stream.specs.declared.fate.Fate.{Fate}
use Rattle.rtp_stream.specs.declared.fate.Fate.TheVariants.{Closed, CountersFull, WrongSource, OffGrid, Late, Ahead, Taken, Double, Unlike, Restarted}
use Rattle.rtp_stats.specs.Counts.{one_more}
use Rattle.rtp_stats.specs.Deadlines.{KnownDeadline}
use Rattle.rtp_stats.specs.Offer.{Offer}

-- the timestamp is that of the last packet taken, or before it; timestamps wrap, so half of their cycle is before it
abbrev pub is_again : Option KnownDeadline → ℕ → Bool
is_again None ts = false
is_again (Some known) ts = nat_lt ((known.ts + 2 ^ 32 - ts) % 2 ^ 32) (2 ^ 31)

-- the row of a path after one more packet: a packet that is late and repeats a number adds to the row, a packet of
-- another source or after the counts end leaves it, and any other ends it
abbrev pub row_after : Fate → Bool → ℕ → ℕ
row_after Late true row = row + 1
row_after Late false row = 0
row_after Closed again row = row
row_after CountersFull again row = row
row_after WrongSource again row = row
row_after OffGrid again row = 0
row_after Ahead again row = 0
row_after Taken again row = 0
row_after Double again row = 0
row_after Unlike again row = 0
row_after Restarted again row = 0

-- the packet opens a new epoch
abbrev pub is_restart : Fate → Bool
is_restart Restarted = true
is_restart _ = false

-- the row of a path after one more offer: a new epoch ends the rows of all paths
abbrev pub row_with : ℕ → Offer → ℕ → ℕ
row_with path o row = if is_restart o.fate then 0 else if nat_eq o.path path then row_after o.fate o.again row else row

-- the number of packets that a path brought last, in a row, that repeat numbers
abbrev pub repeats_of : ℕ → List Offer → ℕ
repeats_of path [] = 0
repeats_of path (o ∷ before) = row_with path o (repeats_of path before)

-- the rows of four paths after one more packet of a path
abbrev pub rows_after : ℕ → Fate → Bool → List ℕ → List ℕ
rows_after path Late true rows = one_more path rows
rows_after path Late false rows = slice_set rows path 0
rows_after path Closed again rows = rows
rows_after path CountersFull again rows = rows
rows_after path WrongSource again rows = rows
rows_after path OffGrid again rows = slice_set rows path 0
rows_after path Ahead again rows = slice_set rows path 0
rows_after path Taken again rows = slice_set rows path 0
rows_after path Double again rows = slice_set rows path 0
rows_after path Unlike again rows = slice_set rows path 0
rows_after path Restarted again rows = 0 ∷ 0 ∷ 0 ∷ 0 ∷ []
