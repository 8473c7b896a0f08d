use Rattle.status_page.specs.Blank.{IsBlank}
use Rattle.live_status.proofs.stream_status.StreamStatus.blank.Given as goal

abbrev pub invariant-loop : goal.invariant-loop
invariant-loop l = IsBlank l.self.name l.self.latency l.counter l.stream
