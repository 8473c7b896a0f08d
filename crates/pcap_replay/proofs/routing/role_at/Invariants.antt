use Rattle.std.proofs.Common.{◌≡◌, ◌≤◌, drop, length}
use Rattle.pcap_replay.specs.Routing.{role_at}
use Rattle.pcap_replay.proofs.routing.role_at.Given as goal

-- the role is that of the remaining place, among the remaining streams
abbrev pub invariant-loop-number : goal.invariant-loop-number
invariant-loop-number l = record {
  role : role_at l.changes 0 l.streams l.place ≡ role_at l.changes l.number (drop l.number l.streams) l.left;
  within : l.number ≤ length l.streams;
}
