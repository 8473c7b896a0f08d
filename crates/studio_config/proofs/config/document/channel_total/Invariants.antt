use Rattle.std.proofs.Common.{◌≡◌, ◌≤◌, ◌*◌, take}
use Rattle.studio_config.specs.Studio.{channel_total}
use Rattle.studio_config.proofs.config.document.channel_total.Given as goal

-- the channels so far, 1 to 64 of each stream
abbrev pub invariant-loop-stream : goal.invariant-loop-stream
invariant-loop-stream l = record {
  so_far : l.total ≡ channel_total (take l.stream-index l.streams);
  some : l.stream-index ≤ l.total;
  few : l.total ≤ 64 * l.stream-index;
}
