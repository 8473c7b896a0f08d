-- The events of one packet more.
use Rattle.std.proofs.Common.{◌≡◌, ◌⊎◌, inl, inr, ℕ, ◌+◌, Bool, true, false, nat_lt, List, [], ◌∷◌, ◌++◌, ℤ, pos, if◌then◌else◌, Option, Some, None, refl, sym, ap, subst, ◌∙◌, append_assoc, append-nil}
use Rattle.std.specs.Ordering.{int_eq}
use Rattle.pcap_file.specs.Packet.{PacketView}
use Rattle.pcap_flows.specs.declared.import.clock.CaptureClock.{CaptureClock}
use Rattle.pcap_flows.specs.Clock.{clock_with}
use Rattle.pcap_flows.specs.Trace.{octets_of}
use Rattle.studio_session.specs.Event.{TraceEvent, Arrival, Tick}
use Rattle.studio_session.specs.Fault.{closed_at, time_at}
use Rattle.studio_engine.specs.Session.{turned}
use Rattle.studio_session.proofs.FaultLemmas.{closed_more}
use Rattle.studio_engine.proofs.EngineLemmas.{turned_same}
use Rattle.pcap_replay.specs.Events.{AreFirst, clock_after, events_after, events_with, read_at}
use Rattle.pcap_replay.specs.Routing.{PlanView, clock_past, opening_of, role_of}
use Rattle.pcap_replay.specs.declared.routing.PacketRole.{PacketRole}
use Rattle.pcap_replay.specs.declared.routing.PacketRole.TheVariants as role

pub events_more : (open_at : ℤ) (plan : PlanView) (clock : CaptureClock) (events : List TraceEvent) (packets : List PacketView) (packet : PacketView)
    → events_after open_at plan clock events (packets ++ packet ∷ [])
    ≡ events_with open_at (opening_of plan) (clock_after plan clock packets) (events_after open_at plan clock events packets) packet (role_of plan packet)
events_more open_at plan clock events [] packet = refl
events_more open_at plan clock events (p ∷ packets) packet =
    events_more open_at plan (clock_past clock p (role_of plan p)) (events_with open_at (opening_of plan) clock events p (role_of plan p)) packets packet

pub clock_more : (plan : PlanView) (clock : CaptureClock) (packets : List PacketView) (packet : PacketView)
    → clock_after plan clock (packets ++ packet ∷ []) ≡ clock_past (clock_after plan clock packets) packet (role_of plan packet)
clock_more plan clock [] packet = refl
clock_more plan clock (p ∷ packets) packet = clock_more plan (clock_past clock p (role_of plan p)) packets packet

-- some events are the first of themselves, and of more
pub first_same : (events : List TraceEvent) → AreFirst events events
first_same events = record { later = []; whole = append-nil events }

pub first_more : (events more : List TraceEvent) → AreFirst events (events ++ more)
first_more events more = record { later = more; whole = refl }

pub first_longer : (a b c : List TraceEvent) → AreFirst a b → AreFirst b c → AreFirst a c
first_longer a b c p q = record { later = p.later ++ q.later; whole = sym (append_assoc a p.later q.later) ∙ ap (λ l. l ++ q.later) p.whole ∙ q.whole }

first_by : (b : Bool) (events more : List TraceEvent) → AreFirst events (if b then events else events ++ more)
first_by true events more = first_same events
first_by false events more = first_more events more

pub first_turned : (old new : ℤ) (events : List TraceEvent) → AreFirst events (turned old new events)
first_turned old new events = first_by (int_eq old new) events (Tick new ∷ [])

pub turned_alike : (old new t u : ℤ) (events : List TraceEvent) → old ≡ t → new ≡ u → turned old new events ≡ turned t u events
turned_alike old new t u events e f = ap (λ x. turned x new events) e ∙ ap (λ y. turned t y events) f

-- a turn that broke off didn't go on, or came to its reading
pub first_turning : (old new now t u : ℤ) (events : List TraceEvent) → (new ≡ old) ⊎ (new ≡ now) → old ≡ t → now ≡ u → AreFirst (turned old new events) (turned t u events)
first_turning old new now t u events (inl stays) e f = subst (λ l. AreFirst l (turned t u events)) (turned_same old new events stays) (first_turned t u events)
first_turning old new now t u events (inr comes) e f = subst (AreFirst (turned old new events)) (turned_alike old new t u events e (comes ∙ f)) (first_same (turned old new events))

first_if : (b : Bool) (events more : List TraceEvent) → AreFirst events more → AreFirst events (if b then more else events)
first_if true events more p = p
first_if false events more p = first_same events

pub first_read : (open_at : ℤ) (from : ℕ) (events : List TraceEvent) (earlier reading : ℕ) → AreFirst events (read_at open_at from events earlier reading)
first_read open_at from events earlier reading =
    first_if (nat_lt earlier reading) events (turned (time_at open_at events) (pos (from + reading)) events) (first_turned (time_at open_at events) (pos (from + reading)) events)

pub first_with : (open_at : ℤ) (from : ℕ) (clock : CaptureClock) (events : List TraceEvent) (packet : PacketView) (o : PacketRole) → AreFirst events (events_with open_at from clock events packet o)
first_with open_at from clock events packet role.Passed = first_same events
first_with open_at from clock events packet (role.Arrival target) =
    first_longer events (read_at open_at from events clock.reading (clock_with clock packet.time).reading) _ (first_read open_at from events clock.reading (clock_with clock packet.time).reading)
    (first_more (read_at open_at from events clock.reading (clock_with clock packet.time).reading) (Arrival target.stream target.path (octets_of packet.ip.body) ∷ []))
first_with open_at from clock events packet role.Change = first_read open_at from events clock.reading (clock_with clock packet.time).reading

-- no event is a close
open_by : (b : Bool) (events : List TraceEvent) (time : ℤ) → closed_at false events ≡ false → closed_at false (if b then events else events ++ Tick time ∷ []) ≡ false
open_by true events time e = e
open_by false events time e = closed_more false events (Tick time) ∙ e

pub open_turned : (old new : ℤ) (events : List TraceEvent) → closed_at false events ≡ false → closed_at false (turned old new events) ≡ false
open_turned old new events e = open_by (int_eq old new) events new e
