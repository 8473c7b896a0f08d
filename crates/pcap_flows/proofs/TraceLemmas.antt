-- A trace with the lines of one more item.
use Rattle.std.proofs.Common.{ℕ, ◌+◌, ◌≡◌, List, [], ◌∷◌, ◌++◌, Err, refl, append_assoc}
use Rattle.pcap_file.specs.declared.fault.CaptureFault.{CaptureFault}
use Rattle.pcap_file.specs.Capture.{Item}
use Rattle.pcap_flows.specs.declared.routes.Route.{Route}
use Rattle.pcap_flows.specs.declared.import.clock.CaptureClock.{CaptureClock}
use Rattle.pcap_flows.specs.TraceLines.{close_line}
use Rattle.pcap_flows.specs.Trace.{events_from, item_clock, item_events, item_text, text_from}

pub text_from_none : (routes : List Route) (clock : CaptureClock) → text_from routes clock [] ≡ close_line
unfolding text_from
text_from_none routes clock = refl

-- the lines of one more item are before those of the items after it
pub text_from_next : (routes : List Route) (clock then : CaptureClock) (item : Item) (items : List Item) (text longer : List ℕ) → longer ≡ text ++ item_text routes clock item → then ≡ item_clock routes clock item → longer ++ text_from routes then items ≡ text ++ text_from routes clock (item ∷ items)
unfolding text_from
text_from_next routes clock then item items text longer is at =
    rw is (rw at (append_assoc text (item_text routes clock item) (text_from routes (item_clock routes clock item) items)))

-- a fault has no line
pub text_of_fault : (routes : List Route) (clock : CaptureClock) (fault : CaptureFault) → text_from routes clock (Err fault ∷ []) ≡ close_line
unfolding text_from item_text item_clock
text_of_fault routes clock fault = refl

pub events_from_none : (routes : List Route) (clock : CaptureClock) → events_from routes clock [] ≡ 1
unfolding events_from
events_from_none routes clock = refl

-- the events of one more item
pub events_from_next : (routes : List Route) (clock then : CaptureClock) (item : Item) (items : List Item) → then ≡ item_clock routes clock item → events_from routes clock (item ∷ items) ≡ item_events routes clock item + events_from routes then items
unfolding events_from
events_from_next routes clock then item items at = rw at refl

-- a fault is no event
pub events_of_fault : (routes : List Route) (clock : CaptureClock) (fault : CaptureFault) → events_from routes clock (Err fault ∷ []) ≡ 1
unfolding events_from item_events item_clock
events_of_fault routes clock fault = refl
