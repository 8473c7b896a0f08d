-- The status of a stream, in addition to its counts.
use Rattle.std.specs.Prelude.{◌≡◌, ℕ, ℤ, List, Option, None, slice_index_or}
use Rattle.arrayvec.specs.ArrayString.{ArrayString}
use Rattle.rtp_stream.specs.declared.stream_spec.Stream.{Stream}
use Rattle.status_page.specs.Blank.{IsBlank}
use Rattle.status_page.specs.declared.snapshot.StreamState.{StreamState}
use Rattle.live_status.specs.declared.stream_status.StreamStatus.{StreamStatus}

-- the status of a stream with this name, if nothing was taken by this time
pub record IsNewStatus (name : Option ArrayString) (now : ℤ) (stream : Stream) (status : StreamStatus) : Type 0 where
  pub name_is : status.name ≡ name
  pub latency_is : status.latency ≡ stream.latency
  pub paths_are : status.paths ≡ stream.paths
  pub taken_is : status.presence.taken ≡ 0
  pub since_is : status.presence.since ≡ now

-- the status of the stream at a place among these names
abbrev pub IsNewStatusAt : List (Option ArrayString) → ℤ → ℕ → Stream → StreamStatus → Type 0
IsNewStatusAt names now place stream status = IsNewStatus (slice_index_or names place None) now stream status

-- a stream in a snapshot with its name, its latency and its paths, and all counts 0
abbrev pub IsBlankOf : ℕ → StreamStatus → StreamState → Type 0
IsBlankOf place status stream = IsBlank status.name status.latency status.paths stream
