use Rattle.std.proofs.Common.{◌≡◌, ◌≤◌, length, true}
use Rattle.rtrb.specs.Ring.{SameProducer}
use Rattle.studio_io.specs.Answers.{reaches_end}
use Rattle.studio_io.specs.FaultCounts.{CountsFaults}
use Rattle.studio_rings.proofs.FeedLemmas.{Sends}
use Rattle.studio_rings.proofs.worker.path.send_feed.Given as goal

abbrev pub invariant-loop : goal.invariant-loop
invariant-loop g l = record {
  few : l.state.in_a_row ≤ 999;
  space : length l.buf ≡ 2048;
  ring : SameProducer l.initial.end.ring l.end.ring;
  spec : l.end.spec ≡ l.initial.end.spec;
  sends : reaches_end 0 (g.F.Feed.told l.initial.feed) ≡ true → Sends (g.F.Feed.told l.initial.feed) l.initial.end (g.F.Feed.told l.feed) l.state l.end;
  faults : CountsFaults (g.F.Feed.told l.initial.feed) l.state (g.F.Feed.told l.feed);
}
