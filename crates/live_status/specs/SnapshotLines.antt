-- The lines of a snapshot on standard error, in their order, and what of them is written.
use Rattle.std.specs.Prelude.{◌≡◌, ◌⊎◌, ℕ, suc, ℤ, ◌++◌, ◌∷◌, [], List, length, Option, Some, None, slice_index}
use Rattle.std.specs.Io.KnownBytes.{Appends}
use Rattle.rtp_stream.specs.Counts.{tally_of}
use Rattle.status_page.specs.declared.snapshot.PathState.{PathState}
use Rattle.status_page.specs.declared.snapshot.Snapshot.{Snapshot}
use Rattle.status_page.specs.declared.snapshot.StreamState.{StreamState}
use Rattle.live_status.specs.DriftLines.{drift_line, left_line}
use Rattle.live_status.specs.Lines.{run_line, running_line, socket_line}
use Rattle.live_status.specs.declared.lines.running.MixCounts.{MixCounts}

-- a line, if what it says is known
abbrev pub line_if : {T : Type 0} → Option T → (T → List ℕ) → List (List ℕ)
line_if None line = []
line_if (Some it) line = line it ∷ []

-- the line of a path's drift, if its packets are counted
abbrev pub drift_lines : ℕ → ℕ → ℤ → PathState → List (List ℕ)
drift_lines number place time path = line_if path.copies (λ copies. drift_line number place time path)

-- the line of a path's socket, if its state is known
abbrev pub socket_lines : ℕ → ℕ → ℤ → PathState → List (List ℕ)
socket_lines number place time path = line_if path.socket (socket_line number place time)

-- the lines of a path: that of its drift, and that of its socket
abbrev pub path_lines : ℕ → ℕ → ℤ → PathState → List (List ℕ)
path_lines number place time path = drift_lines number place time path ++ socket_lines number place time path

-- the lines of a stream's paths, from this one on
abbrev pub paths_lines : ℕ → ℕ → ℤ → List PathState → List (List ℕ)
paths_lines number place time [] = []
paths_lines number place time (path ∷ more) = path_lines number place time path ++ paths_lines number (suc place) time more

-- the line of a stream's counts
abbrev pub counts_line : ℕ → ℤ → StreamState → List ℕ
counts_line number time stream = running_line number (length stream.paths.items) time (tally_of stream.counts)

-- the lines of a stream: that of its counts, that of its time left, and those of its paths
abbrev pub stream_lines : ℕ → ℤ → StreamState → List (List ℕ)
stream_lines number time stream = (counts_line number time stream ∷ left_line number time stream.seconds_left ∷ []) ++ paths_lines number 0 time stream.paths.items

-- the lines of streams, from this one on
abbrev pub streams_lines : ℕ → ℤ → List StreamState → List (List ℕ)
streams_lines number time [] = []
streams_lines number time (stream ∷ more) = stream_lines number time stream ++ streams_lines (suc number) time more

-- the counts of the mix's datagrams in a snapshot
abbrev pub mix_counts_in : Snapshot → MixCounts
mix_counts_in snapshot = record { failed_a = slice_index snapshot.failed_sends 0; failed_b = slice_index snapshot.failed_sends 1; stale = snapshot.stale; incomplete = snapshot.incomplete; sent_late = snapshot.sent_late; left_out = snapshot.left_out }

-- the lines of a snapshot: those of each stream, and that of the run
abbrev pub snapshot_lines : ℤ → Snapshot → List (List ℕ)
snapshot_lines time snapshot = streams_lines 0 time snapshot.streams.items ++ run_line time (mix_counts_in snapshot) snapshot.run_outputs ∷ []

-- the text is that of some of these lines, whole and in their order; the others were left out
abbrev pub AreSomeOf : List (List ℕ) → List ℕ → Type 0
AreSomeOf [] text = text ≡ []
AreSomeOf (line ∷ lines) text = AreSomeOf lines text ⊎ ((rest : List ℕ) × (text ≡ line ++ rest) × AreSomeOf lines rest)

-- some of these lines were written
abbrev pub WritesSome : Option (List ℕ) → List (List ℕ) → Option (List ℕ) → Type 0
WritesSome written lines written_then = (text : List ℕ) × AreSomeOf lines text × Appends written written_then text

-- a prefix of some of these lines was written
abbrev pub WritesPart : Option (List ℕ) → List (List ℕ) → Option (List ℕ) → Type 0
WritesPart written lines written_then = (text : List ℕ) × (rest : List ℕ) × AreSomeOf lines (text ++ rest) × Appends written written_then text

-- some of these lines were written; only if a write failed, a prefix of that
abbrev pub WritesLines : Type 0 → Option (List ℕ) → List (List ℕ) → Option (List ℕ) → Type 0
WritesLines Failed written lines written_then = WritesSome written lines written_then ⊎ (Failed × WritesPart written lines written_then)
