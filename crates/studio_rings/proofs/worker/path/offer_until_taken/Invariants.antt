use Rattle.std.proofs.Common.{◌≡◌, ◌+◌, ◌<◌, ◌≤◌, true}
use Rattle.rtrb.specs.Ring.{sent, SameProducer}
use Rattle.rtp_stream.specs.Reception.{is_sent, reception_of}
use Rattle.studio_rings.proofs.worker.path.offer_until_taken.Given as goal

-- each offer so far returned `Full`
abbrev pub invariant-loop : goal.invariant-loop
invariant-loop g l = record {
  ring : SameProducer l.initial.end.ring l.end.ring;
  spec : l.end.spec ≡ l.initial.end.spec;
  same : sent l.end.ring ≡ sent l.initial.end.ring;
  full : l.end.counts.full ≡ l.initial.end.counts.full + l.counter;
  bad : l.end.counts.bad ≡ l.initial.end.counts.bad;
  wrong_type : l.end.counts.wrong_type ≡ l.initial.end.counts.wrong_type;
  wrong_length : l.end.counts.wrong_length ≡ l.initial.end.counts.wrong_length;
  packet : 0 < l.counter → is_sent (reception_of l.initial.end.spec l.datagram) ≡ true;
  offered : l.initial.end.counts.offered ≤ l.end.counts.offered;
  few : l.end.counts.offered ≤ l.initial.end.counts.offered + l.counter;
}
