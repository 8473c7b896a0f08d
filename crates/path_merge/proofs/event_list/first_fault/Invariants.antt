use Rattle.std.proofs.Common.{◌≡◌, false, drop}
use Rattle.rtp_stream.specs.History.{first_clock_fault_from}
use Rattle.path_merge.proofs.RunLemmas.{shifted_by}
use Rattle.path_merge.proofs.event_list.first_fault.Given as goal

-- the first fault is that of the events that are left
abbrev pub invariant-loop-place : goal.invariant-loop-place
invariant-loop-place l = first_clock_fault_from l.open_at false l.events ≡ shifted_by l.place (first_clock_fault_from l.time l.closed (drop l.place l.events))
