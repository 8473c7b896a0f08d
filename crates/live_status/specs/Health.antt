-- The health of a run in a snapshot: what its source says, and the parts that do not change when it is filled in.
use Rattle.std.specs.Prelude.{◌≡◌, ℕ, List, Option, Some, slice_get}
use Rattle.status_page.specs.declared.snapshot.PathState.{PathState}
use Rattle.status_page.specs.declared.snapshot.Snapshot.{Snapshot}
use Rattle.status_page.specs.declared.snapshot.SocketState.{SocketState}
use Rattle.status_page.specs.declared.snapshot.StreamState.{StreamState}
use Rattle.studio_io.specs.declared.output_states.OutputStates.{OutputStates}
use Rattle.live_status.specs.Each.{AreEach}

-- what a source of health says: of the socket of a path of a stream, of the datagrams of each copy of the mix that were
-- not sent, of those that were stale, of those in which a stream was missing, that were sent late or left out, or of the
-- run's outputs
pub data Said : Type 0 where
  OfSocket : ℕ → ℕ → Option SocketState → Said
  OfFailed : List ℕ → Said
  OfStale : ℕ → Said
  OfIncomplete : ℕ → Said
  OfSentLate : ℕ → Said
  OfLeftOut : ℕ → Said
  OfOutputs : OutputStates → Said

-- the state of a path's socket is what the source says of this path; nothing else of the path changed
abbrev pub FillsSocket : (Said → Type 0) → ℕ → ℕ → PathState → PathState → Type 0
FillsSocket Says number place old new = (new ≡ record old { socket = new.socket }) × Says (OfSocket number place new.socket)

-- the states of the sockets of a stream's paths are what the source says of them; nothing else of the stream changed
pub record FillsSockets (Says : Said → Type 0) (number : ℕ) (old new : StreamState) : Type 0 where
  pub name_is : new.name ≡ old.name
  pub condition_is : new.condition ≡ old.condition
  pub latency_is : new.latency ≡ old.latency
  pub left_is : new.seconds_left ≡ old.seconds_left
  pub counts_are : new.counts ≡ old.counts
  pub paths_are : AreEach (FillsSocket Says number) old.paths.items new.paths.items

-- the health in a snapshot is what a source says: of the socket of each path of each stream, and of the rest
pub record HasHealth (Says : Said → Type 0) (snapshot : Snapshot) : Type 0 where
  pub sockets : (number place : ℕ) (stream : StreamState) (path : PathState) → slice_get snapshot.streams.items number ≡ Some stream → slice_get stream.paths.items place ≡ Some path → Says (OfSocket number place path.socket)
  pub failed : Says (OfFailed snapshot.failed_sends)
  pub stale : Says (OfStale snapshot.stale)
  pub incomplete : Says (OfIncomplete snapshot.incomplete)
  pub sent_late : Says (OfSentLate snapshot.sent_late)
  pub left_out : Says (OfLeftOut snapshot.left_out)
  pub outputs : Says (OfOutputs snapshot.run_outputs)
