use Rattle.std.proofs.Common.{◌≡◌, ◌≤◌, ◌*◌, take}
use Rattle.live_io.specs.Paths.{path_total}
use Rattle.live_run.proofs.path_order.first_place.Given as goal

-- the paths of the streams so far, at most 4 each
abbrev pub invariant-loop-number : goal.invariant-loop-number
invariant-loop-number l = record {
  total : l.place ≡ path_total (take l.number l.streams);
  few : l.place ≤ 4 * l.number;
}
