use Rattle.std.proofs.Common.{◌≡◌, ◌-◌, ◌≤◌, List, length}
use Rattle.studio_session.specs.Event.{TraceEvent}
use Rattle.studio_run.specs.Reader.{HasRead}
use Rattle.studio_run.proofs.trace.reader.TraceReader.next.Given as goal

abbrev pub invariant-loop-self : goal.invariant-loop-self
invariant-loop-self l = record {
  read : (before : List TraceEvent) → HasRead l.initial.self before → HasRead l.self before;
  text : l.self.text.now ≡ l.initial.self.text.now;
  further : l.initial.self.at ≤ l.self.at;
}

abbrev pub decreases-loop-self : goal.decreases-loop-self
decreases-loop-self l = length l.self.text.now - l.self.at
