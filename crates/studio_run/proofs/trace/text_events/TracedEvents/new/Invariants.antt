use Rattle.std.proofs.Common.{◌≡◌, ◌-◌, length}
use Rattle.std.specs.Prelude.{map, All}
use Rattle.studio_run.specs.Places.{event_at, IsPlace}
use Rattle.studio_run.specs.Reader.{HasRead}
use Rattle.studio_run.proofs.trace.text_events.TracedEvents.new.Given as goal

-- the events so far are those of the places
abbrev pub invariant-loop-places : goal.invariant-loop-places
invariant-loop-places l = record {
  text : l.reader.text.now ≡ l.text;
  read : HasRead l.reader (map (event_at l.text) l.places.items);
  sound : All (IsPlace l.text) l.places.items;
}

abbrev pub decreases-loop-places : goal.decreases-loop-places
decreases-loop-places l = length l.reader.text.now - l.reader.at
