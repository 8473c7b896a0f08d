-- The end of a replay.
use Rattle.std.proofs.Common.{◌≡◌, inl, inr, ◌<◌, ℕ, Bool, true, false, List, [], ◌∷◌, ◌++◌, length, take, Option, IfSome, refl, sym, subst, ◌∙◌}
use Rattle.std.specs.Io.KnownBytes.{Appends}
use Rattle.std.proofs.KnownBytes.{Appends-nil}
use Rattle.std.proofs.lemmas.Bool.{false≢true}
use Rattle.pcap_file.specs.Capture.{packets_of}
use Rattle.pcap_file.specs.Entries.{entries_of}
use Rattle.pcap_file.specs.declared.fault.ReaderFault.{ReaderFault}
use Rattle.pcap_file.specs.declared.fault.ReaderFault.TheVariants as reader
use Rattle.pcap_file.specs.Reader.{IsOpenFault}
use Rattle.studio_config.specs.Studio.{Studio}
use Rattle.studio_session.specs.Event.{TraceEvent, Closing}
use Rattle.studio_session.specs.Run.{AreDatagrams}
use Rattle.studio_engine.specs.Session.{HasSession, shut}
use Rattle.studio_engine.specs.Engine.{EngineState}
use Rattle.studio_engine.proofs.CountsLemmas.{settled_ready}
use Rattle.studio_mix.proofs.FirstBlockLemmas.{first_all}
use Rattle.studio_session.specs.Play.{IsRunnableBy, feeds_of}
use Rattle.studio_run.specs.Buffer.{BreaksOff, PassesOn}
use Rattle.studio_run.specs.Listing.{counts_text_of, datagrams_text}
use Rattle.studio_run.specs.Play.{WritesEvents}
use Rattle.studio_run.specs.StudioReport.{IsReport}
use Rattle.studio_run.proofs.BufferLemmas.{BreaksOff-finished, BreaksOff-later, PassesOn-finished, PassesOn-trans}
use Rattle.studio_run.proofs.StudioReportLemmas.{report_alone}
use Rattle.pcap_replay.specs.declared.fault.ReplayFault.{ReplayFault}
use Rattle.pcap_replay.specs.declared.fault.ReplayFault.TheVariants.{Memory, Capture, Run as RunOf, Change, Jump, TooManyEvents, Write}
use Rattle.pcap_replay.specs.declared.state.ReplayState.{ReplayState}
use Rattle.pcap_replay.specs.Lines.{Hearing}
use Rattle.pcap_replay.specs.Events.{events_told, file_events}
use Rattle.pcap_replay.specs.Routing.{PlanView}
use Rattle.pcap_replay.specs.Causes.{IsCauseBehind}
use Rattle.pcap_replay.specs.RecordChanges.{changed_by, changes_of}
use Rattle.pcap_replay.specs.Replay.{BreaksOffReplay, BreaksReport, EndsBehind, HasHeardAll, HasReplayed, IsReason, StopsAt, StopsFile, WritesFront}
use Rattle.pcap_replay.proofs.CaseLemmas.{some_maps}
use Rattle.pcap_replay.proofs.EventLemmas.{first_longer, first_more}
use Rattle.pcap_replay.proofs.ReasonLemmas.{first_fault_changed, first_fault_longer}
use Rattle.pcap_replay.proofs.ReplayLemmas.{broke_part, broke_whole, heard_first}

-- a file was not opened
open_reason : (file : List ℕ) (fault : ReaderFault) → IsOpenFault file fault → IsReason file [] (Capture fault)
open_reason file reader.ReadFailed is = tt
open_reason file (reader.Capture fault) is = is
open_reason file (reader.TooLong place) is = tt
open_reason file reader.Memory is = tt

pub unopened : (studio : Studio) (plan : PlanView) (first a : Option (List ℕ)) (H : Hearing) (run : ReplayState) (fault : ReaderFault) → HasReplayed studio [] a run a H → IfSome first (λ file. IsOpenFault file fault)
    → BreaksOffReplay studio plan first a a H (Capture fault)
unopened studio plan first a H run fault r is = record {
  entries = [];
  told = some_maps first _ _ (λ file why. (record { items = packets_of file; packets = refl; later = entries_of file; all = refl }, open_reason file fault why)) is;
  reason = tt;
  events = [];
  first = record { later = file_events studio plan []; whole = refl };
  changed = [];
  among = inl refl;
  cause = tt;
  front = inl (record { datagrams = r.datagrams; first = r.session.given.first; count = 0; wrote = Appends-nil a; told = heard_first studio [] a a H run r });
}

-- the cause of a fault, with the engine that refused a change
cause_behind : (studio : Studio) (plan : PlanView) (first a b : Option (List ℕ)) (H : Hearing) (run : ReplayState) (fault : ReplayFault) (s : StopsFile studio plan first a run b H fault)
    → IsCauseBehind studio plan s.entries s.changed s.stops.events fault
cause_behind studio plan first a b H run Memory s = tt
cause_behind studio plan first a b H run (Capture fault) s = tt
cause_behind studio plan first a b H run (RunOf fault) s = tt
cause_behind studio plan first a b H run (Change number why) s = record { engine = run.engine; datagrams = s.stops.at.datagrams; session = s.stops.at.session; refuses = s.cause }
cause_behind studio plan first a b H run (Jump place seconds) s = s.cause
cause_behind studio plan first a b H run TooManyEvents s = tt
cause_behind studio plan first a b H run Write s = tt

-- a fault came before the end, and the lines that were held are written
ends_front : (studio : Studio) (plan : PlanView) (first a b c : Option (List ℕ)) (H : Hearing) (run : ReplayState) (fault : ReplayFault) (s : StopsFile studio plan first a run b H fault)
    → BreaksReport (changed_by studio plan s.changed) s.stops.events a c H → WritesFront studio plan first a c H fault
ends_front studio plan first a b c H run fault s front = record {
  entries = s.entries;
  told = s.told;
  reason = first_fault_longer studio (events_told studio plan s.entries) (file_events studio plan s.entries) fault (first_more (events_told studio plan s.entries) (Closing ∷ []))
      (first_fault_changed studio (changes_of plan s.changed) (events_told studio plan s.entries) fault s.stops.reason);
  events = s.stops.events;
  first = first_longer s.stops.events (events_told studio plan s.entries) (file_events studio plan s.entries) s.stops.first (first_more (events_told studio plan s.entries) (Closing ∷ []));
  changed = s.changed;
  among = s.among;
  cause = cause_behind studio plan first a b H run fault s;
  front = front;
}

ends_whole : (studio : Studio) (plan : PlanView) (first a b c : Option (List ℕ)) (H : Hearing) (run : ReplayState) (fault : ReplayFault) → (fault ≡ Write → ⊥) → StopsFile studio plan first a run b H fault
    → Appends b c run.text → BreaksOffReplay studio plan first a c H fault
ends_whole studio plan first a b c H run Memory other s rest = absurd s.stops.at
ends_whole studio plan first a b c H run (Capture fault) other s rest = ends_front studio plan first a b c H run (Capture fault) s (inl (broke_whole (changed_by studio plan s.changed) s.stops.events a b c H run s.stops.at rest))
ends_whole studio plan first a b c H run (RunOf fault) other s rest = ends_front studio plan first a b c H run (RunOf fault) s (inl (broke_whole (changed_by studio plan s.changed) s.stops.events a b c H run s.stops.at rest))
ends_whole studio plan first a b c H run (Change number why) other s rest =
    ends_front studio plan first a b c H run (Change number why) s (inl (broke_whole (changed_by studio plan s.changed) s.stops.events a b c H run s.stops.at rest))
ends_whole studio plan first a b c H run (Jump place seconds) other s rest =
    ends_front studio plan first a b c H run (Jump place seconds) s (inl (broke_whole (changed_by studio plan s.changed) s.stops.events a b c H run s.stops.at rest))
ends_whole studio plan first a b c H run TooManyEvents other s rest = ends_front studio plan first a b c H run TooManyEvents s (inl (broke_whole (changed_by studio plan s.changed) s.stops.events a b c H run s.stops.at rest))
ends_whole studio plan first a b c H run Write other s rest = absurd (other refl)

-- before any fault but a failed write, all lines were written or held
held_at : (studio : Studio) (events : List TraceEvent) (a b : Option (List ℕ)) (H : Hearing) (run : ReplayState) (fault : ReplayFault) → (fault ≡ Write → ⊥) → StopsAt studio events a run b H fault → HasReplayed studio events a run b H
held_at studio events a b H run Memory other at = absurd at
held_at studio events a b H run (Capture fault) other at = at
held_at studio events a b H run (RunOf fault) other at = at
held_at studio events a b H run (Change number why) other at = at
held_at studio events a b H run (Jump place seconds) other at = at
held_at studio events a b H run TooManyEvents other at = at
held_at studio events a b H run Write other at = absurd (other refl)

as_write : (studio : Studio) (plan : PlanView) (first a c : Option (List ℕ)) (H : Hearing) (fault : ReplayFault) → WritesFront studio plan first a c H fault → BreaksOffReplay studio plan first a c H Write
as_write studio plan first a c H fault w = record {
  entries = w.entries;
  told = some_maps first _ _ (λ file both. (both.0, tt)) w.told;
  reason = tt;
  events = w.events;
  first = w.first;
  changed = w.changed;
  among = w.among;
  cause = tt;
  front = w.front;
}

ends_part : (studio : Studio) (plan : PlanView) (first a b c : Option (List ℕ)) (H : Hearing) (run : ReplayState) (fault : ReplayFault) → (fault ≡ Write → ⊥) → StopsFile studio plan first a run b H fault
    → (n : ℕ) × (n < length run.text) × Appends b c (take n run.text) → BreaksOffReplay studio plan first a c H Write
ends_part studio plan first a b c H run fault other s part =
    as_write studio plan first a c H fault (ends_front studio plan first a b c H run fault s
    (inl (broke_part (changed_by studio plan s.changed) s.stops.events a b c H run (held_at (changed_by studio plan s.changed) s.stops.events a b H run fault other s.stops.at) part)))

ends_write : (studio : Studio) (plan : PlanView) (first a c : Option (List ℕ)) (H : Hearing) (run : ReplayState) (fault : ReplayFault) → fault ≡ Write → StopsFile studio plan first a run c H fault
    → BreaksOffReplay studio plan first a c H Write
ends_write studio plan first a c H run fault is s =
    as_write studio plan first a c H fault (ends_front studio plan first a c c H run fault s (inl (subst (StopsAt (changed_by studio plan s.changed) s.stops.events a run c H) is s.stops.at)))

-- an observer received all events and datagrams
pub heard_all : (studio : Studio) (events : List TraceEvent) (datagrams : List (List ℕ)) (H : Hearing) → IsRunnableBy studio events → AreDatagrams studio events datagrams → H events datagrams → HasHeardAll studio events H
heard_all studio events datagrams H runs ready told = record { runs = runs; datagrams = datagrams; given = ready; told = told }

pub ends_behind : (studio : Studio) (plan : PlanView) (first a b c : Option (List ℕ)) (H : Hearing) (run : ReplayState) (fault result : ReplayFault) → EndsBehind run.text b c fault result
    → StopsFile studio plan first a run b H fault → BreaksOffReplay studio plan first a c H result
ends_behind studio plan first a b c H run fault result (inl write) s =
    subst (BreaksOffReplay studio plan first a c H) (sym write.1) (ends_write studio plan first a c H run fault write.0 (subst (λ o. StopsFile studio plan first a run o H fault) (sym write.2) s))
ends_behind studio plan first a b c H run fault result (inr (other, inl whole)) s =
    subst (BreaksOffReplay studio plan first a c H) (sym whole.0) (ends_whole studio plan first a b c H run fault other s whole.1)
ends_behind studio plan first a b c H run fault result (inr (other, inr part)) s =
    subst (BreaksOffReplay studio plan first a c H) (sym part.0) (ends_part studio plan first a b c H run fault other s part.1)

-- the report of all events: the lines of its datagrams, and its counts
pub report_is : (studio : Studio) (events : List TraceEvent) (datagrams : List (List ℕ)) → AreDatagrams studio events datagrams
    → IsReport studio events (datagrams_text datagrams ++ counts_text_of studio events)
report_is studio events datagrams ready = record { datagrams = datagrams; ready = ready; whole = refl }

pub report_held : (studio : Studio) (events : List TraceEvent) (datagrams : List (List ℕ)) (a b c : Option (List ℕ)) (h i : List ℕ) → PassesOn a [] b h (datagrams_text datagrams)
    → PassesOn b h c i (counts_text_of studio events) → PassesOn a [] c i (datagrams_text datagrams ++ counts_text_of studio events)
report_held studio events datagrams a b c h i first second = PassesOn-trans a b c [] h i (datagrams_text datagrams) (counts_text_of studio events) first second

pub report_written : (studio : Studio) (events : List TraceEvent) (datagrams : List (List ℕ)) (a b c : Option (List ℕ)) (h : List ℕ) → AreDatagrams studio events datagrams
    → PassesOn a [] b h (datagrams_text datagrams ++ counts_text_of studio events) → Appends b c h → WritesEvents studio IsReport events a c
report_written studio events datagrams a b c h ready passes rest = record {
  text = datagrams_text datagrams ++ counts_text_of studio events;
  is = report_is studio events datagrams ready;
  wrote = PassesOn-finished a b c h (datagrams_text datagrams ++ counts_text_of studio events) passes rest;
}

pub report_unwritten : (studio : Studio) (events : List TraceEvent) (datagrams : List (List ℕ)) (a b c : Option (List ℕ)) (h : List ℕ) (H : Hearing) → IsRunnableBy studio events → AreDatagrams studio events datagrams → H events datagrams
    → PassesOn a [] b h (datagrams_text datagrams ++ counts_text_of studio events) → (n : ℕ) × (n < length h) × Appends b c (take n h) → BreaksReport studio events a c H
report_unwritten studio events datagrams a b c h H runs ready told passes part = inr (
  (λ report is.
      subst (BreaksOff a [] c) (report_alone studio events (datagrams_text datagrams ++ counts_text_of studio events) report (report_is studio events datagrams ready) is)
      (BreaksOff-finished a b c h (datagrams_text datagrams ++ counts_text_of studio events) passes part)),
  heard_all studio events datagrams H runs ready told,
)

pub report_uncounted : (studio : Studio) (events : List TraceEvent) (datagrams : List (List ℕ)) (a b c : Option (List ℕ)) (h : List ℕ) (H : Hearing) → IsRunnableBy studio events → AreDatagrams studio events datagrams → H events datagrams
    → PassesOn a [] b h (datagrams_text datagrams) → BreaksOff b h c (counts_text_of studio events) → BreaksReport studio events a c H
report_uncounted studio events datagrams a b c h H runs ready told passes broken = inr (
  (λ report is.
      subst (BreaksOff a [] c) (report_alone studio events (datagrams_text datagrams ++ counts_text_of studio events) report (report_is studio events datagrams ready) is)
      (BreaksOff-later a b c [] h (datagrams_text datagrams) (counts_text_of studio events) passes broken)),
  heard_all studio events datagrams H runs ready told,
)

-- a first close is an event
pub shut_open : (closed : Bool) (events : List TraceEvent) → closed ≡ false → shut closed events ≡ events ++ Closing ∷ []
shut_open true events e = absurd (false≢true (sym e))
shut_open false events e = refl

-- a run that is closed has its events, and the close
pub closed_session : (studio : Studio) (run : ReplayState) (engine : EngineState) (events : List TraceEvent) (a b : Option (List ℕ)) (H : Hearing) (r : HasReplayed studio events a run b H)
    → HasSession studio engine (shut run.engine.closed events) r.datagrams → HasSession studio engine (events ++ Closing ∷ []) r.datagrams
closed_session studio run engine events a b H r s =
    subst (λ l. HasSession studio engine l r.datagrams) (shut_open run.engine.closed events (r.session.closed ∙ r.open_yet)) s

-- a settled engine has returned all datagrams of its events
pub settled_datagrams : (studio : Studio) (engine : EngineState) (events : List TraceEvent) (datagrams : List (List ℕ)) → HasSession studio engine events datagrams → engine.settled ≡ true
    → AreDatagrams studio events datagrams
settled_datagrams studio engine events datagrams s settled = first_all studio (feeds_of studio events) datagrams s.given.first (settled_ready studio engine events datagrams s settled)
