-- The counts of a history.
use Rattle.std.specs.Prelude.{ℕ, Bool, true, false, ◌&&◌, nat_eq, List, [], ◌∷◌, count_by, length, ℤ, if◌then◌else◌}
use Rattle.rtp_stream.specs.declared.stream_spec.Stream.{Stream}
use Rattle.rtp_stream.specs.MarkFacts.{MarkView}
use Rattle.rtp_stream.specs.CountsFacts.{Tally}
use Rattle.rtp_stream.specs.declared.counts.Counts.{Counts}
use Rattle.rtp_stream.specs.declared.fate.Fate.{Fate}
use Rattle.rtp_stream.specs.declared.fate.Fate.TheVariants.{Closed, CountersFull, WrongSource, OffGrid, Late, Ahead, Taken, Double, Unlike, Restarted}
use Rattle.rtp_stream.specs.declared.mark.Body.{Body}
use Rattle.rtp_stream.specs.declared.mark.Body.TheVariants.{Got, Lost}
use Rattle.rtp_stream.specs.declared.mark.MarkKind.{MarkKind}
use Rattle.rtp_stream.specs.declared.mark.MarkKind.TheVariants.{Slot, Quiet, End}
use Rattle.rtp_stream.specs.declared.event.Event.{Event}
use Rattle.rtp_stream.specs.declared.event.Event.TheVariants.{Arrive, Tick, Close}
use Rattle.rtp_stream.specs.History.{is_counting, at_places}
use Rattle.rtp_stream.specs.Fate.{fate_of}

-- the numbers in a value of the code
abbrev pub tally_of : Counts → Tally
tally_of c = record {
  arrived = c.arrived;
  taken = c.taken;
  taken_by = c.taken_by;
  double = c.double;
  unlike = c.unlike;
  off_grid = c.off_grid;
  late = c.late;
  ahead = c.ahead;
  wrong_source = c.wrong_source;
  got = c.got;
  lost = c.lost;
  restarts = c.restarts;
}

-- arrivals after a close are not counted, and neither are those after 2^62 arrivals
abbrev pub is_counted_fate : Fate → Bool
is_counted_fate Closed = false
is_counted_fate CountersFull = false
is_counted_fate _ = true

abbrev pub is_wrong_source : Fate → Bool
is_wrong_source WrongSource = true
is_wrong_source _ = false

abbrev pub is_off_grid : Fate → Bool
is_off_grid OffGrid = true
is_off_grid _ = false

abbrev pub is_late : Fate → Bool
is_late Late = true
is_late _ = false

abbrev pub is_ahead : Fate → Bool
is_ahead Ahead = true
is_ahead _ = false

-- the packet is kept: it is the first copy of its number, or it opens an epoch
abbrev pub is_taken_fate : Fate → Bool
is_taken_fate Taken = true
is_taken_fate Restarted = true
is_taken_fate _ = false

abbrev pub is_restarted : Fate → Bool
is_restarted Restarted = true
is_restarted _ = false

abbrev pub is_double : Fate → Bool
is_double Double = true
is_double _ = false

abbrev pub is_unlike : Fate → Bool
is_unlike Unlike = true
is_unlike _ = false

-- the path and the fate of an arrival, if it counts
abbrev pub fates_at : Stream → ℤ → List Event → Event → List (ℕ × Fate)
fates_at stream open_at before (Arrive path packet) = if is_counting before then (path, fate_of stream open_at before path packet) ∷ [] else []
fates_at stream open_at before (Tick u) = []
fates_at stream open_at before Close = []

unfoldable pub fates_of : Stream → ℤ → List Event → List (ℕ × Fate)
fates_of stream open_at events = at_places (fates_at stream open_at) [] events

abbrev pub is_got_body : Body → Bool
is_got_body (Got payload) = true
is_got_body Lost = false

abbrev pub is_got : MarkKind → Bool
is_got (Slot epoch number media body) = is_got_body body
is_got (Quiet until) = false
is_got End = false

abbrev pub is_lost_body : Body → Bool
is_lost_body (Got payload) = false
is_lost_body Lost = true

abbrev pub is_lost : MarkKind → Bool
is_lost (Slot epoch number media body) = is_lost_body body
is_lost (Quiet until) = false
is_lost End = false

-- the number of arrivals whose fate passes the test
abbrev pub fate_count : (Fate → Bool) → List (ℕ × Fate) → ℕ
fate_count test fates = count_by (λ f. test f.1) fates

-- the number of arrivals on a path that were taken
abbrev pub taken_on : List (ℕ × Fate) → ℕ → ℕ
taken_on fates path = count_by (λ f. nat_eq f.0 path && is_taken_fate f.1) fates

-- the numbers of these arrivals, and of the slots among these marks
abbrev pub tally_of_fates : List (ℕ × Fate) → List MarkView → Tally
tally_of_fates fates given = record {
  arrived = length fates;
  taken = fate_count is_taken_fate fates;
  taken_by = taken_on fates 0 ∷ taken_on fates 1 ∷ taken_on fates 2 ∷ taken_on fates 3 ∷ [];
  double = fate_count is_double fates;
  unlike = fate_count is_unlike fates;
  off_grid = fate_count is_off_grid fates;
  late = fate_count is_late fates;
  ahead = fate_count is_ahead fates;
  wrong_source = fate_count is_wrong_source fates;
  got = count_by (λ mark. is_got mark.kind) given;
  lost = count_by (λ mark. is_lost mark.kind) given;
  restarts = fate_count is_restarted fates;
}

-- the counts of a history that has produced these marks so far
abbrev pub counts_of : Stream → ℤ → List Event → List MarkView → Tally
counts_of stream open_at events given = tally_of_fates (fates_of stream open_at events) given
