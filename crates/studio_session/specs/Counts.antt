-- The datagrams that a stream received on its paths, among a list of events.
use Rattle.std.specs.Prelude.{◌≡◌, ℕ, zero, suc, nat_eq, List, [], ◌∷◌, ◌++◌, Some, slice_get, if◌then◌else◌}
use Rattle.rtp_stream.specs.declared.stream_spec.Stream.{Stream}
use Rattle.rtp_stream.specs.PathCounts.{PathTally, with_reception}
use Rattle.rtp_stream.specs.Reception.{is_any, is_bad, is_sent, is_wrong_length, is_wrong_type}
use Rattle.studio_session.specs.Event.{TraceEvent}
use Rattle.studio_session.specs.Session.{Step, Other, Datagram, Clock, End, received_on}

-- the counts of the datagrams that a stream received on a path. `full` is 0, since no datagram in a list of events
-- meets a full ring
abbrev pub path_counts_of : Stream → ℕ → ℕ → List TraceEvent → PathTally
path_counts_of stream number path events = record {
  offered = received_on is_any stream number path events;
  sent = received_on is_sent stream number path events;
  bad = received_on is_bad stream number path events;
  wrong_type = received_on is_wrong_type stream number path events;
  wrong_length = received_on is_wrong_length stream number path events;
  full = 0;
}

-- the counts of a path after one more step of its stream, which adds to them if it is a datagram on this path
abbrev pub with_step : PathTally → ℕ → Step → PathTally
with_step t path (Datagram p reception) = if nat_eq p path then with_reception t reception else t
with_step t path Other = t
with_step t path (Clock time) = t
with_step t path End = t

-- the counts of the datagrams that a stream received on each of its first `count` paths
abbrev pub path_tallies : Stream → ℕ → List TraceEvent → ℕ → List PathTally
path_tallies stream number events zero = []
path_tallies stream number events (suc count) = path_tallies stream number events count ++ path_counts_of stream number count events ∷ []

-- each path's new tally is its old one after this step of the stream
abbrev pub HasCounted : Step → List PathTally → List PathTally → Type 0
HasCounted step old new = (path : ℕ) (tally : PathTally) → slice_get new path ≡ Some tally
    → (before : PathTally) × (slice_get old path ≡ Some before) × (tally ≡ with_step before path step)

-- each path's tally counts the datagrams that the stream received on it
abbrev pub AreTallies : Stream → ℕ → List TraceEvent → List PathTally → Type 0
AreTallies stream number events tallies = (path : ℕ) (tally : PathTally) → slice_get tallies path ≡ Some tally → tally ≡ path_counts_of stream number path events
