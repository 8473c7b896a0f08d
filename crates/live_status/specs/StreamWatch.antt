-- The watches of streams.
use Rattle.std.specs.Prelude.{◌≡◌, ℕ, ◌*◌, Bool, not, ◌==◌, List, [], ◌∷◌, slice_get, ℤ, MatchOption}
use Rattle.rtp_stream.specs.declared.stream_spec.Stream.{Stream}
use Rattle.status_page.specs.declared.snapshot.StreamState.{StreamState}
use Rattle.live_status.specs.Conditions.{SetsCondition}
use Rattle.live_status.specs.Each.{AreEach}
use Rattle.live_status.specs.Watch.{NotesPath, ShowsPath, any_in_time, most_left, new_arrival_watch}
use Rattle.live_status.specs.declared.reception_watch.stream_watch.StreamWatch.{StreamWatch}
use Rattle.live_status.specs.declared.stream_status.StreamStatus.{StreamStatus}

-- the watch of a stream if nothing was taken by this time; its `window_span` is the window in sampling instants
pub record IsNewWatch (now : ℤ) (stream : Stream) (watch : StreamWatch) : Type 0 where
  pub window_span_is : watch.window_span ≡ stream.window * stream.frames
  pub restarts_are : watch.restarts ≡ 0
  pub paths_are : watch.paths ≡ new_arrival_watch now ∷ new_arrival_watch now ∷ new_arrival_watch now ∷ new_arrival_watch now ∷ []

abbrev pub IsNewWatchAt : ℤ → ℕ → Stream → StreamWatch → Type 0
IsNewWatchAt now place stream watch = IsNewWatch now stream watch

-- the state of a stream was noted: an epoch began if the number of restarts changed
pub record NotesStream (now : ℤ) (stream : StreamState) (old new : StreamWatch) : Type 0 where
  pub window_span_is : new.window_span ≡ old.window_span
  pub restarts_are : new.restarts ≡ stream.counts.restarts
  pub paths_are : AreEach (NotesPath now old.window_span (not (stream.counts.restarts == old.restarts)) stream.paths.items) old.paths new.paths

-- the watch at a place noted the stream at that place, if there is one
abbrev pub NotesStreamAt : ℤ → List StreamState → ℕ → StreamWatch → StreamWatch → Type 0
NotesStreamAt now streams place old new = MatchOption (slice_get streams place) (new ≡ old) (λ stream. NotesStream now stream old new)

-- the watch is shown in a stream: the time that is left, and each path; the rest did not change
pub record ShowsWatch (has_ended : Bool) (watch : StreamWatch) (old new : StreamState) : Type 0 where
  pub name_is : new.name ≡ old.name
  pub condition_is : new.condition ≡ old.condition
  pub latency_is : new.latency ≡ old.latency
  pub counts_are : new.counts ≡ old.counts
  pub left_is : new.seconds_left ≡ most_left watch.paths
  pub paths_are : AreEach (ShowsPath has_ended (any_in_time watch.paths) watch.paths) old.paths.items new.paths.items

-- the watch at a place is shown in the stream at that place, if there is one
abbrev pub ShowsWatchAt : Bool → List StreamWatch → ℕ → StreamState → StreamState → Type 0
ShowsWatchAt has_ended watches place old new = MatchOption (slice_get watches place) (new ≡ old) (λ watch. ShowsWatch has_ended watch old new)

-- the streams with their conditions at this time, and with their watches, which have noted these streams
pub record ShowsStreams (watches : List StreamWatch) (statuses : List StreamStatus) (now : ℤ) (has_ended : Bool) (given shown : List StreamState) : Type 0 where
  pub set : List StreamState
  pub noting : List StreamWatch
  pub conditions : AreEach (SetsCondition statuses now has_ended) given set
  pub noted : AreEach (NotesStreamAt now set) watches noting
  pub shows : AreEach (ShowsWatchAt has_ended noting) set shown
