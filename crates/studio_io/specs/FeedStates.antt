-- The state of reading a feed, and how each result of the feed changes it.
use Rattle.std.specs.Prelude.{◌≡◌, ◌⊎◌, ℕ, ◌+◌, ◌<◌, ◌≤◌, true, false}
use Rattle.studio_io.specs.declared.feed.FeedAnswer.{FeedAnswer}
use Rattle.studio_io.specs.declared.feed.FeedAnswer.TheVariants.{Datagram, Nothing, Fault, Ended}
use Rattle.studio_io.specs.declared.feed_state.FeedState.{FeedState}

-- the state of a feed before its first call
abbrev pub new_state : FeedState
new_state = record { in_a_row = 0; faults = 0; ended = false }

-- a fault after fewer than 999 in a row adds one to `in_a_row`, and the 1,000th in a row ends the feed
abbrev pub NotesFault : FeedState → FeedState → Type 0
NotesFault old new =
    ((old.in_a_row < 999) × (new.in_a_row ≡ old.in_a_row + 1) × (new.ended ≡ old.ended))
    ⊎ ((999 ≤ old.in_a_row) × (new.in_a_row ≡ old.in_a_row) × (new.ended ≡ true))

-- the states before and after a result of the feed; the count of all faults is not part of it, see `faults_in`
abbrev pub Notes : FeedAnswer → FeedState → FeedState → Type 0
Notes (Datagram n) old new = (new.in_a_row ≡ 0) × (new.ended ≡ old.ended)
Notes Nothing old new = (new.in_a_row ≡ 0) × (new.ended ≡ old.ended)
Notes Fault old new = NotesFault old new
Notes Ended old new = (new.in_a_row ≡ old.in_a_row) × (new.ended ≡ true)

-- the number of faults that a result adds to the count
abbrev pub faults_in : FeedAnswer → ℕ
faults_in (Datagram n) = 0
faults_in Nothing = 0
faults_in Fault = 1
faults_in Ended = 0
