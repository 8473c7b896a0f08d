-- The part of a trace that was read.
use Rattle.std.specs.Prelude.{List, take}
use Rattle.studio_session.specs.Event.{TraceEvent}
use Rattle.studio_run.specs.Trace.{GivesEvents}
use Rattle.studio_run.specs.declared.trace.reader.TraceReader.{TraceReader}

-- the text before a reader's place has these events and no fault, whatever follows it
abbrev pub HasRead : TraceReader → List TraceEvent → Type 0
HasRead reader events = GivesEvents (take reader.at reader.text.now) reader.line reader.events events
