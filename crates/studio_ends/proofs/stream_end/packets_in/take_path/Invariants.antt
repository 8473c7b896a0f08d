use Rattle.std.proofs.Common.{◌-◌, ◌≡◌, ◌≤◌, List, length}
use Rattle.rtp_stream.specs.declared.packet.Packet.{Packet}
use Rattle.studio_ends.specs.Fitting.{fitting}
use Rattle.studio_ends.specs.Stats.{NotesAll}
use Rattle.studio_ends.specs.StreamTurns.{Joins, TakesSoFar, arrivals_by}
use Rattle.studio_ends.proofs.stream_end.packets_in.take_path.Given as goal

abbrev pub invariant-loop-taken : goal.invariant-loop-taken
invariant-loop-taken g l = (l.taken ≤ 64) × ((packets : List Packet) × TakesSoFar l.initial.side l.side packets × (length packets ≡ l.taken)
    × Joins l.initial.merge l.merge (λ stream. arrivals_by l.path (fitting stream packets))
    × NotesAll l.initial.merge (λ stream. arrivals_by l.path (fitting stream packets)) l.initial.sender l.sender)

abbrev pub decreases-loop-taken : goal.decreases-loop-taken
decreases-loop-taken g l = 64 - l.taken
