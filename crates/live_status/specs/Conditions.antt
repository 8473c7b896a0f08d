-- The conditions of streams, by the times at which their packets were taken.
use Rattle.std.specs.Prelude.{◌≡◌, ℕ, ℤ, Bool, List, slice_get, ◌≢◌, MatchOption, length, option_map, ◌==◌, if◌then◌else◌}
use Rattle.live_status.specs.SignalPresence.{condition_of, is_silent}
use Rattle.live_status.specs.declared.signal_presence.SignalPresence.{SignalPresence}
use Rattle.status_page.specs.declared.snapshot.StreamState.{StreamState}
use Rattle.live_status.specs.declared.stream_status.StreamStatus.{StreamStatus}

-- the time since which the number of taken packets is this one: the time before if it did not change, or else now
abbrev pub since_of : SignalPresence → ℕ → ℤ → ℤ
since_of presence taken now = if taken == presence.taken then presence.since else now

-- the status of a stream that has taken this many packets by now
abbrev pub updated : ℕ → ℤ → StreamStatus → StreamStatus
updated taken now status = record status { presence = record { taken = taken; since = since_of status.presence taken now } }

-- a stream with its condition at this time
abbrev pub with_condition : SignalPresence → ℤ → Bool → StreamState → StreamState
with_condition presence now has_ended stream =
    record stream { condition = condition_of has_ended stream.counts.taken (is_silent (since_of presence stream.counts.taken now) now) }

-- the stream at a place has the condition by the status at that place; nothing else of it changed
abbrev pub SetsCondition : List StreamStatus → ℤ → Bool → ℕ → StreamState → StreamState → Type 0
SetsCondition statuses now has_ended place old new = MatchOption (slice_get statuses place) (new ≡ old) (λ one. new ≡ with_condition one.presence now has_ended old)

-- the status at a place was updated by the stream at that place
abbrev pub Updates : List StreamState → ℤ → ℕ → StreamStatus → StreamStatus → Type 0
Updates streams now place old new = MatchOption (slice_get streams place) (new ≡ old) (λ stream. new ≡ updated stream.counts.taken now old)

-- only the status at this place was updated
pub record UpdatesAt (number taken : ℕ) (now : ℤ) (old new : List StreamStatus) : Type 0 where
  pub length_is : length new ≡ length old
  pub here : slice_get new number ≡ option_map (updated taken now) (slice_get old number)
  pub elsewhere : (place : ℕ) → place ≢ number → slice_get new place ≡ slice_get old place
