use Rattle.std.proofs.Common.{◌≡◌, take}
use Rattle.std.specs.List.{fold}
use Rattle.live_run.specs.RingPlaces.{places_with}
use Rattle.live_run.proofs.workers.rings.most_places.Given as goal

abbrev pub invariant-loop-stream : goal.invariant-loop-stream
invariant-loop-stream l = l.most ≡ fold (places_with l.greatest) 256 (take l.stream-index l.streams)
