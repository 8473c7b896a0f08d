use Rattle.std.proofs.Common.{◌≡◌, ◌-◌, length}
use Rattle.std.specs.Prelude.{map}
use Rattle.studio_session.specs.Event.{said_by}
use Rattle.studio_run.specs.Reader.{HasRead}
use Rattle.studio_run.proofs.trace.events.read_trace.Given as goal

abbrev pub invariant-loop-events : goal.invariant-loop-events
invariant-loop-events l = record {
  text : l.reader.text.now ≡ l.text;
  read : HasRead l.reader (map said_by l.events.items);
}

abbrev pub decreases-loop-events : goal.decreases-loop-events
decreases-loop-events l = length l.reader.text.now - l.reader.at
