-- The history of a stream: what arrived, the readings and the close, the earliest first.
use Rattle.std.specs.Prelude.{ℕ, suc, ◌+◌, ◌^◌, Bool, true, false, not, ◌&&◌, nat_lt, List, [], ◌∷◌, ◌++◌, ℤ, pos, int_le, Option, Some, None, if◌then◌else◌}
use Rattle.std.specs.Option.{option_map}
use Rattle.rtp_stream.specs.declared.event.Event.{Event}
use Rattle.rtp_stream.specs.declared.event.Event.TheVariants.{Arrive, Tick, Close}

-- the value of the last clock reading, or the opening time
abbrev pub time_of : ℤ → List Event → ℤ
time_of open_at [] = open_at
time_of open_at (Arrive path packet ∷ events) = time_of open_at events
time_of open_at (Tick u ∷ events) = time_of u events
time_of open_at (Close ∷ events) = time_of open_at events

abbrev pub is_closed : List Event → Bool
is_closed [] = false
is_closed (Arrive path packet ∷ events) = is_closed events
is_closed (Tick u ∷ events) = is_closed events
is_closed (Close ∷ events) = true

abbrev pub arrival_count : List Event → ℕ
arrival_count [] = 0
arrival_count (Arrive path packet ∷ events) = 1 + arrival_count events
arrival_count (Tick u ∷ events) = arrival_count events
arrival_count (Close ∷ events) = arrival_count events

-- an arrival after these events counts: nothing is closed, and fewer than 2^62 came before it
abbrev pub is_counting : List Event → Bool
is_counting before = not (is_closed before) && nat_lt (arrival_count before) (2 ^ 62)

-- what `f` returns for each event and the events before it, put together in order
unfoldable pub at_places : {A : Type 0} → (List Event → Event → List A) → List Event → List Event → List A
at_places f before [] = []
at_places f before (event ∷ events) = f before event ++ at_places f (before ++ event ∷ []) events

-- a clock reading is in order if the stream is not closed, the time doesn't go back, and it is at most 2^60
abbrev pub is_tick_in_order : ℤ → Bool → ℤ → Bool
is_tick_in_order time closed u = not closed && int_le time u && int_le u (pos (2 ^ 60))

-- each clock reading is in order
abbrev pub is_well_timed_from : ℤ → Bool → List Event → Bool
is_well_timed_from time closed [] = true
is_well_timed_from time closed (Arrive path packet ∷ events) = is_well_timed_from time closed events
is_well_timed_from time closed (Tick u ∷ events) = is_tick_in_order time closed u && is_well_timed_from u closed events
is_well_timed_from time closed (Close ∷ events) = is_well_timed_from time true events

abbrev pub is_well_timed : ℤ → List Event → Bool
is_well_timed open_at events = is_well_timed_from open_at false events

-- the time after an event, and whether the stream is closed then; none for a clock reading that is out of order
abbrev pub clock_after : ℤ → Bool → Event → Option (ℤ × Bool)
clock_after time closed (Arrive path packet) = Some (time, closed)
clock_after time closed (Tick u) = if is_tick_in_order time closed u then Some (u, closed) else None
clock_after time closed Close = Some (time, true)

-- the place of the first clock reading that is out of order
abbrev pub first_clock_fault_from : ℤ → Bool → List Event → Option ℕ
first_clock_fault_from time closed [] = None
first_clock_fault_from time closed (Arrive path packet ∷ events) = option_map suc (first_clock_fault_from time closed events)
first_clock_fault_from time closed (Tick u ∷ events) = if is_tick_in_order time closed u then option_map suc (first_clock_fault_from u closed events) else Some 0
first_clock_fault_from time closed (Close ∷ events) = option_map suc (first_clock_fault_from time true events)

abbrev pub first_clock_fault : ℤ → List Event → Option ℕ
first_clock_fault open_at events = first_clock_fault_from open_at false events

-- the events before the first close
abbrev pub events_until_close : List Event → List Event
events_until_close [] = []
events_until_close (Arrive path packet ∷ events) = Arrive path packet ∷ events_until_close events
events_until_close (Tick u ∷ events) = Tick u ∷ events_until_close events
events_until_close (Close ∷ events) = []
