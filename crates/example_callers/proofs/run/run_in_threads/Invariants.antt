use Rattle.std.proofs.Common.{◌≡◌, length, map, take, drop}
use Rattle.studio_io.specs.Memory.{told_of}
use Rattle.studio_io.specs.declared.memory_clock.MemoryClock.{MemoryClock}
use Rattle.example_callers.proofs.run.run_in_threads.Given as goal

-- a feed for each list of datagrams so far
abbrev pub invariant-loop-path : goal.invariant-loop-path
invariant-loop-path g l = record {
  told : l.feeds.items ≡ map (λ path. told_of path.items) (take l.path-index l.datagrams);
  count : length l.feeds.items ≡ l.path-index;
}

-- a clock for each stream so far, with all readings
abbrev pub invariant-loop : goal.invariant-loop
invariant-loop g l = record {
  told : map (λ (clock : MemoryClock). drop clock.next clock.readings.now) l.clocks.items ≡ map (λ _. l.readings) l.clocks.items;
  count : length l.clocks.items ≡ l.counter;
}
