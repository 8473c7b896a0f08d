use Rattle.std.proofs.Common.{List, ℤ}
use Rattle.rtrb.specs.Ring.{SameProducer}
use Rattle.rtp_stream.specs.declared.stream_spec.Stream.{Stream}
use Rattle.rtp_stream.specs.declared.event.Event.{Event}
use Rattle.studio_ends.specs.Streams.{StreamHasHistory}
use Rattle.studio_rings.proofs.worker.stream.drain.Given as goal

abbrev pub invariant-loop : goal.invariant-loop
invariant-loop g l = record {
  marks : SameProducer l.initial.end.marks l.end.marks;
  stands : (stream : Stream) (open_at : ℤ) (events : List Event) → StreamHasHistory stream open_at l.initial.end events → StreamHasHistory stream open_at l.end events;
}
