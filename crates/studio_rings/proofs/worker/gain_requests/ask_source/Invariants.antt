use Rattle.std.proofs.Common.{◌≡◌, length}
use Rattle.studio_rings.specs.GainRequests.{TakesChanges}
use Rattle.studio_rings.proofs.worker.gain_requests.ask_source.Given as goal

-- the changes that were taken so far
abbrev pub invariant-loop : goal.invariant-loop
invariant-loop g l = record {
  space : length l.buffer ≡ 8192;
  takes : TakesChanges l.fn.end l.end (g.G.GainSource.taken l.fn.source) (g.G.GainSource.taken l.source);
}
