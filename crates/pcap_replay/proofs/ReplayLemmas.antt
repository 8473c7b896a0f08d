-- The part of a report that was written so far.
use Rattle.std.proofs.Common.{◌≡◌, ◌⊎◌, inl, inr, ◌+◌, ◌-◌, ◌^◌, ◌<◌, ◌≤◌, min, ℕ, Bool, List, [], ◌∷◌, ◌++◌, length, map, take, Option, Some, None, option_map, IfSome, Result, Ok, Err, IfErr, refl, sym, ap, subst, ◌∙◌, append-nil, append_assoc, arith}
use Rattle.std.specs.Prelude.{⊤}
use Rattle.std.specs.Io.KnownBytes.{Appends}
use Rattle.std.proofs.Math.Seq.{take-length}
use Rattle.std.proofs.lemmas.List.{length-map}
use Rattle.pcap_file.specs.declared.block_parser.BlockParser.{BlockParser}
use Rattle.pcap_file.specs.declared.block_parser.CaptureBlock.{CaptureBlock}
use Rattle.pcap_file.specs.Entries.{Entry, entries_at, entries_in}
use Rattle.pcap_file.specs.declared.decode.record_mark.RecordMark.{RecordMark}
use Rattle.pcap_file.specs.declared.decode.record_mark.RecordMark.TheVariants.{Opened, Closed}
use Rattle.std.specs.Option.{option_to_list}
use Rattle.pcap_file.specs.Packet.{PacketView, packet_view}
use Rattle.pcap_file.specs.BlockParser.{items_at}
use Rattle.pcap_file.specs.declared.fault.ReaderFault.{ReaderFault}
use Rattle.pcap_file.specs.declared.fault.ReaderFault.TheVariants as reader
use Rattle.pcap_file.specs.Reader.{HasEntries, HasReturned, IsCutBehind, IsLong, packets_among, packets_in, part_entries}
use Rattle.pcap_file.proofs.ReaderEntryLemmas.{among_more}
use Rattle.pcap_flows.specs.declared.import.clock.CaptureClock.{CaptureClock}
use Rattle.pcap_flows.specs.Clock.{clock_with}
use Rattle.studio_mix.specs.Feed.{Feed}
use Rattle.studio_config.specs.Studio.{Studio}
use Rattle.studio_session.specs.Event.{TraceEvent}
use Rattle.studio_engine.specs.Engine.{EngineState}
use Rattle.studio_engine.specs.Session.{HasSession}
use Rattle.studio_run.specs.Buffer.{BreaksOff, PassesOn}
use Rattle.studio_run.specs.Listing.{datagrams_text}
use Rattle.studio_run.proofs.BufferLemmas.{BreaksOff-finished, BreaksOff-later, PassesOn-none, PassesOn-finished, PassesOn-trans}
use Rattle.pcap_replay.specs.declared.fault.ReplayFault.{ReplayFault}
use Rattle.pcap_replay.specs.declared.fault.ReplayFault.TheVariants.{Memory, Capture, Run as RunOf, Change, Jump, TooManyEvents, Write}
use Rattle.pcap_replay.specs.declared.state.ReplayState.{ReplayState}
use Rattle.pcap_replay.specs.Lines.{BreaksLines, Hearing}
use Rattle.pcap_replay.specs.Replay.{BeginsWith, BreaksAt, EndsAt, HasBegun, HasComeToClose, HasGoneOver, HasHeardFirst, HasReplayed, HasTaken, IsAt, IsCloseAt, IsPacketAt, IsReason, IsReplaying, IsRun, IsOwn, Stops, StopsAt, StopsFile}
use Rattle.pcap_replay.specs.Events.{AreFirst, clock_after, clock_of, closed_events, events_of, events_told, events_with, read_at}
use Rattle.pcap_replay.specs.Routing.{PlanView, Flows, Interfaces, clock_before, clock_past, closing_of, longest_of, opening_of, role_of}
use Rattle.pcap_replay.specs.Steady.{AreSteady, IsSteady}
use Rattle.pcap_replay.specs.Record.{closing_in, closing_with, place_with}
use Rattle.pcap_replay.specs.Reasons.{IsCount, IsFirstFault}
use Rattle.studio_mix.specs.Changed.{with_changes}
use Rattle.pcap_replay.specs.RecordChanges.{changed_by, changes_of, changes_with}
use Rattle.pcap_replay.specs.Causes.{IsCause, IsLongStep, IsPacketFault, IsReadingFault, count_on, rule_at}
use Rattle.pcap_replay.specs.declared.routing.ReadingRule.{ReadingRule}
use Rattle.studio_mix.specs.Mixer.{MixerState}
use Rattle.pcap_replay.proofs.CauseLemmas.{counted_more, packet_cause}
use Rattle.pcap_replay.proofs.ChangedLemmas.{all_but_last, changed_more}
use Rattle.pcap_replay.proofs.CaseLemmas.{some_both, some_maps, some_when}
use Rattle.pcap_replay.proofs.EventLemmas.{clock_more, events_more, first_longer, first_read, first_same}
use Rattle.pcap_replay.proofs.LineLemmas.{lines_more}
use Rattle.pcap_replay.proofs.ReasonLemmas.{first_fault_longer}
use Rattle.pcap_replay.proofs.RecordLemmas.{closing_more}

-- lines of more datagrams follow
pub wrote_more : (a b c : Option (List ℕ)) (h i : List ℕ) (datagrams more : List (List ℕ)) → PassesOn a [] b h (datagrams_text datagrams) → PassesOn b h c i (datagrams_text more)
    → PassesOn a [] c i (datagrams_text (datagrams ++ more))
wrote_more a b c h i datagrams more first second =
    subst (PassesOn a [] c i) (sym (lines_more datagrams more)) (PassesOn-trans a b c [] h i (datagrams_text datagrams) (datagrams_text more) first second)

pub broke_more : (studio : Studio) (engine : EngineState) (events earlier : List TraceEvent) (a b c : Option (List ℕ)) (h : List ℕ) (H K : Hearing) (datagrams : List (List ℕ)) → PassesOn a [] b h (datagrams_text datagrams)
    → AreFirst earlier events → H earlier datagrams → BreaksLines studio engine events datagrams b h c H K → BreaksAt studio events a c K
broke_more studio engine events earlier a b c h H K datagrams first early told broken =
    let both = subst (BreaksOff a [] c) (sym (lines_more datagrams broken.more)) (BreaksOff-later a b c [] h (datagrams_text datagrams) (datagrams_text broken.more) first broken.broke) in
    record {
      datagrams = datagrams ++ broken.more;
      first = broken.stands.given.first;
      count = both.count;
      wrote = both.wrote;
      told = record { runs = broken.stands.runnable; earlier = earlier; early = early; datagrams = datagrams ++ broken.more; first = broken.stands.given.first; told = broken.told earlier told };
    }

-- the events and datagrams that an observer received so far
pub heard_first : (studio : Studio) (events : List TraceEvent) (a b : Option (List ℕ)) (H : Hearing) (run : ReplayState) → HasReplayed studio events a run b H → HasHeardFirst studio events H
heard_first studio events a b H run r = record { runs = r.session.runnable; earlier = events; early = first_same events; datagrams = r.datagrams; first = r.session.given.first; told = r.told }

-- before the first event
pub begun_replayed : (studio : Studio) (a : Option (List ℕ)) (H : Hearing) (run : ReplayState) → HasBegun studio run → H [] [] → HasReplayed studio [] a run a H
begun_replayed studio a H run b told = record {
  datagrams = [];
  session = b.session;
  idle = b.idle;
  open_yet = refl;
  counted = b.counted;
  wrote = subst (λ h. PassesOn a [] a h []) (sym b.none) (PassesOn-none a []);
  told = told;
}

-- whoever listens
pub unheard : (studio : Studio) (events : List TraceEvent) (a b : Option (List ℕ)) (H : Hearing) (run : ReplayState) → HasReplayed studio events a run b H → HasReplayed studio events a run b (λ _ _. ⊤)
unheard studio events a b H run r = record { datagrams = r.datagrams; session = r.session; idle = r.idle; open_yet = r.open_yet; counted = r.counted; wrote = r.wrote; told = tt }

-- the lines that were held are written
pub broke_whole : (studio : Studio) (events : List TraceEvent) (a b c : Option (List ℕ)) (H : Hearing) (run : ReplayState) → HasReplayed studio events a run b H → Appends b c run.text → BreaksAt studio events a c H
broke_whole studio events a b c H run r rest = record {
  datagrams = r.datagrams;
  first = r.session.given.first;
  count = length (datagrams_text r.datagrams);
  wrote = subst (Appends a c) (sym (take-length (datagrams_text r.datagrams))) (PassesOn-finished a b c run.text (datagrams_text r.datagrams) r.wrote rest);
  told = heard_first studio events a b H run r;
}

pub broke_part : (studio : Studio) (events : List TraceEvent) (a b c : Option (List ℕ)) (H : Hearing) (run : ReplayState) → HasReplayed studio events a run b H
    → (n : ℕ) × (n < length run.text) × Appends b c (take n run.text) → BreaksAt studio events a c H
broke_part studio events a b c H run r part =
    let broken = BreaksOff-finished a b c run.text (datagrams_text r.datagrams) r.wrote part in
    record { datagrams = r.datagrams; first = r.session.given.first; count = broken.count; wrote = broken.wrote; told = heard_first studio events a b H run r }

-- a fault of an event, if all lines so far are written or held
pub stops_at_run : (studio : Studio) (events : List TraceEvent) (a b : Option (List ℕ)) (H : Hearing) (run : ReplayState) (fault : ReplayFault) → IsRun fault → HasReplayed studio events a run b H → StopsAt studio events a run b H fault
stops_at_run studio events a b H run Memory kind r = absurd kind
stops_at_run studio events a b H run (Capture fault) kind r = absurd kind
stops_at_run studio events a b H run (RunOf fault) kind r = r
stops_at_run studio events a b H run (Change number why) kind r = r
stops_at_run studio events a b H run (Jump place seconds) kind r = r
stops_at_run studio events a b H run TooManyEvents kind r = r
stops_at_run studio events a b H run Write kind r = absurd kind

-- a change of gains changes neither what was written nor what an observer received
pub gains_replayed : (studio changed : Studio) (events : List TraceEvent) (a b : Option (List ℕ)) (H : Hearing) (old new : ReplayState) → new.text ≡ old.text → new.engine.turning ≡ old.engine.turning
    → new.count ≡ old.count → changed.open_at ≡ studio.open_at → (r : HasReplayed studio events a old b H) → HasSession changed new.engine events r.datagrams → HasReplayed changed events a new b H
gains_replayed studio changed events a b H old new text turning count opening r session = record {
  datagrams = r.datagrams;
  session = session;
  idle = turning ∙ r.idle;
  open_yet = r.open_yet;
  counted = subst (λ t. IsCount t events new.count) (sym opening) (subst (IsCount studio.open_at events) (sym count) r.counted);
  wrote = subst (λ h. PassesOn a [] b h (datagrams_text r.datagrams)) (sym text) r.wrote;
  told = r.told;
}

-- such a fault is the replay's own
own_of : (fault : ReplayFault) → IsRun fault → IsOwn fault
own_of Memory kind = absurd kind
own_of (Capture fault) kind = absurd kind
own_of (RunOf fault) kind = tt
own_of (Change number why) kind = tt
own_of (Jump place seconds) kind = tt
own_of TooManyEvents kind = tt
own_of Write kind = absurd kind

pub own_run : {X : Type 0} (result : Result X ReplayFault) → IfErr result (λ fault. IsRun fault) → IfErr result (λ fault. IsOwn fault)
own_run (Ok x) kind = tt
own_run (Err fault) kind = own_of fault kind

-- a fault before some events is a fault before more events
pub stops_longer : (studio : Studio) (all longer : List TraceEvent) (a c : Option (List ℕ)) (H : Hearing) (run : ReplayState) (fault : ReplayFault) → AreFirst all longer
    → Stops studio all a run c H fault → Stops studio longer a run c H fault
stops_longer studio all longer a c H run fault first stops = record { events = stops.events; first = first_longer stops.events all longer stops.first first; at = stops.at; reason = first_fault_longer studio all longer fault first stops.reason }

-- a stream for each cursor
pub streams_of_session : (studio : Studio) (engine : EngineState) (events : List TraceEvent) (datagrams : List (List ℕ)) → HasSession studio engine events datagrams
    → length studio.streams ≡ length engine.cursors
streams_of_session studio engine events datagrams s =
    let played = s.given.played in
    ap length (sym played.fed.streams) ∙ length-map played.feeds (λ (feed : Feed). feed.stream) ∙ sym played.count

-- a file begins with the entries that were returned
pub begins : (file : List ℕ) (entries : List Entry) (left : Option (List ℕ)) (parts : BlockParser) (held : List ℕ) (ended : Bool) → HasReturned file entries left parts held ended → BeginsWith file entries
begins file entries left parts held ended told = record { items = items_at parts (held ++ told.rest); packets = told.packets; later = entries_at parts (held ++ told.rest); all = told.all }

pub begins_whole : (file : List ℕ) (entries : List Entry) → HasEntries file entries → BeginsWith file entries
begins_whole file entries whole = record {
  items = [];
  packets = whole.packets ∙ sym (append-nil (map Ok (packets_among entries)));
  later = [];
  all = whole.all ∙ sym (append-nil entries);
}

pub begins_cut : (file : List ℕ) (entries : List Entry) → IsCutBehind file entries → BeginsWith file entries
begins_cut file entries is = record {
  items = items_at is.parts is.left;
  packets = is.packets;
  later = entries_at is.parts is.left;
  all = is.all;
}

pub begins_ended : (plan : PlanView) (file : List ℕ) (entries : List Entry) → EndsAt plan file entries → BeginsWith file entries
begins_ended (Flows routes) file entries whole = begins_whole file entries whole
begins_ended (Interfaces streams open_at changes longest) file entries (inl whole) = begins_whole file entries whole
begins_ended (Interfaces streams open_at changes longest) file entries (inr cut) = begins_cut file entries cut

-- the entries before a record or a block
pub is_at : (file : List ℕ) (entries : List Entry) (left : Option (List ℕ)) (parts : BlockParser) (held : List ℕ) (ended : Bool) → HasReturned file entries left parts held ended → IsAt file entries parts.place
is_at file entries left parts held ended told = record { parts = parts; left = held ++ told.rest; here = refl; packets = told.packets; all = told.all }

-- the entries with one packet
one_packet : (o : Option PacketView) (packet : PacketView) → option_to_list o ≡ packet ∷ [] → o ≡ Some packet
one_packet None packet is = absurd (let f : [] ≡ packet ∷ [] = is in cc)
one_packet (Some other) packet is = ap Some (let f : other ∷ [] ≡ packet ∷ [] = is in let e : other ≡ packet = cc in e)

-- the reason of a packet's fault
pub packet_reason : (file : List ℕ) (entries : List Entry) (part : CaptureBlock) (plan : PlanView) (place : ℕ) (clock : CaptureClock) (count : ℕ) (mixer : MixerState) (fault : ReplayFault)
    → (packet : PacketView) × (packets_in part ≡ packet ∷ []) × IsPacketFault (rule_at plan place) clock count mixer packet (role_of plan packet) fault
    → IsOwn fault → IsAt file entries place → IsReason file (entries ++ part_entries part) fault
packet_reason file entries part plan place clock count mixer Memory why kind at = tt
packet_reason file entries part plan place clock count mixer (Capture fault) why kind at = absurd kind
packet_reason file entries part plan place clock count mixer (RunOf fault) why kind at = tt
packet_reason file entries part plan place clock count mixer (Change number word) why kind at = tt
packet_reason file entries part plan place clock count mixer (Jump there seconds) why kind at = inl (record {
  before = entries;
  at = subst (IsAt file entries) (sym why.2.0) at;
  packet = why.0;
  mark = part.mark;
  whole = ap (λ o. entries ++ entries_in o part.mark) (one_packet (option_map packet_view part.packet) why.0 why.1);
})
packet_reason file entries part plan place clock count mixer TooManyEvents why kind at = tt
packet_reason file entries part plan place clock count mixer Write why kind at = tt

-- the reason of the fault of a close, which is a time that jumps only if there is a time
no_closing : (plan : PlanView) → closing_of plan None ≡ None
no_closing (Flows routes) = refl
no_closing (Interfaces streams open_at changes longest) = refl

no_step : (longest seconds : ℕ) (clock : CaptureClock) → IsLongStep longest clock (clock_with clock None) seconds → ⊥
unfolding clock_with
no_step longest seconds clock step = let long = step.long in omega (arith, long)

pub close_reason : (plan : PlanView) (first : Option (List ℕ)) (entries : List Entry) (told closing : Option ℕ) (rule : ReadingRule) (earlier : CaptureClock) (fault : ReplayFault) → IsOwn fault → closing ≡ closing_of plan told
    → ((time : ℕ) → told ≡ Some time → IfSome first (λ file. IsCloseAt file entries rule.place)) → IsReadingFault rule earlier (clock_with earlier closing) fault → IfSome first (λ file. IsReason file entries fault)
close_reason plan first entries told closing rule earlier Memory kind closes placed is = absurd kind
close_reason plan first entries told closing rule earlier (Capture fault) kind closes placed is = absurd kind
close_reason plan first entries told closing rule earlier (RunOf fault) kind closes placed is = some_when first _ (λ file _. tt)
close_reason plan first entries told closing rule earlier (Change number word) kind closes placed is = absurd is
close_reason plan first entries told closing rule earlier (Jump place seconds) kind closes placed is = by_told told closes placed
  where
    by_told : (told : Option ℕ) → closing ≡ closing_of plan told → ((time : ℕ) → told ≡ Some time → IfSome first (λ file. IsCloseAt file entries rule.place)) → IfSome first (λ file. IsPacketAt file entries place ⊎ IsCloseAt file entries place)
    by_told None none at = absurd (no_step rule.longest seconds earlier (subst (λ (o : Option ℕ). IsLongStep rule.longest earlier (clock_with earlier o) seconds) (none ∙ no_closing plan) is.1))
    by_told (Some time) some at = some_maps first _ _ (λ file close. inr (subst (IsCloseAt file entries) (sym is.0) close)) (at time refl)
close_reason plan first entries told closing rule earlier TooManyEvents kind closes placed is = absurd is
close_reason plan first entries told closing rule earlier Write kind closes placed is = some_when first _ (λ file _. tt)

-- the first mark of a close is that of more entries
close_longer : (file : List ℕ) (entries more : List Entry) (place : ℕ) → IsCloseAt file entries place → IsCloseAt file (entries ++ more) place
close_longer file entries more place is =
    let here = entries_in is.packet (Some (Closed is.time)) in
    record {
      before = is.before;
      at = is.at;
      none = is.none;
      packet = is.packet;
      time = is.time;
      later = is.later ++ more;
      whole = ap (λ l. l ++ more) is.whole ∙ append_assoc (is.before ++ here) is.later more;
    }

close_here : (file : List ℕ) (entries : List Entry) (packet : Option PacketView) (time place : ℕ) → None ≡ closing_in entries → IsAt file entries place → IsCloseAt file (entries ++ entries_in packet (Some (Closed time))) place
close_here file entries packet time place none at = record {
  before = entries;
  at = at;
  none = sym none;
  packet = packet;
  time = time;
  later = [];
  whole = sym (append-nil (entries ++ entries_in packet (Some (Closed time))));
}

close_more : (first : Option (List ℕ)) (entries : List Entry) (packet : Option PacketView) (mark : Option RecordMark) (closing : Option ℕ) (close_place place : ℕ) → closing ≡ closing_in entries
    → IfSome first (λ file. IsAt file entries place) → ((time : ℕ) → closing ≡ Some time → IfSome first (λ file. IsCloseAt file entries close_place))
    → (time : ℕ) → closing_with closing mark ≡ Some time → IfSome first (λ file. IsCloseAt file (entries ++ entries_in packet mark) (place_with closing close_place place))
close_more first entries packet mark (Some earlier) close_place place closes at placed time is = some_maps first _ _ (λ file close. close_longer file entries (entries_in packet mark) close_place close) (placed earlier refl)
close_more first entries packet None None close_place place closes at placed time is = absurd (let f : None ≡ Some time = is in cc)
close_more first entries packet (Some (Opened open_at)) None close_place place closes at placed time is = absurd (let f : None ≡ Some time = is in cc)
close_more first entries packet (Some (Closed then)) None close_place place closes at placed time is = some_maps first _ _ (λ file here. close_here file entries packet then place closes here) at

pub long_reason : (file : List ℕ) (entries : List Entry) (fault : ReaderFault) → IsLong fault → IsReason file entries (Capture fault)
long_reason file entries reader.ReadFailed kind = tt
long_reason file entries (reader.Capture fault) kind = absurd kind
long_reason file entries (reader.TooLong place) kind = tt
long_reason file entries reader.Memory kind = absurd kind

-- one packet more was taken
next_events : (studio : Studio) (plan : PlanView) (packets : List PacketView) (packet : PacketView) (clock : CaptureClock) → clock ≡ clock_after plan (clock_before plan) packets
    → events_with studio.open_at (opening_of plan) clock (events_of studio plan packets) packet (role_of plan packet) ≡ events_of studio plan (packets ++ packet ∷ [])
next_events studio plan packets packet clock is =
    ap (λ k. events_with studio.open_at (opening_of plan) k (events_of studio plan packets) packet (role_of plan packet)) is
    ∙ sym (events_more studio.open_at plan (clock_before plan) [] packets packet)

-- and the clock moved on by a step that is not too long
steady_more : (plan : PlanView) (clock : CaptureClock) (packets : List PacketView) (packet : PacketView) → AreSteady plan clock packets
    → (clock_past (clock_after plan clock packets) packet (role_of plan packet)).reading ≤ (clock_after plan clock packets).reading + longest_of plan
    → AreSteady plan clock (packets ++ packet ∷ [])
steady_more plan clock [] packet are step = (step, tt)
steady_more plan clock (next ∷ packets) packet are step = (are.0, steady_more plan (clock_past clock next (role_of plan next)) packets packet are.1 step)

pub taken_more : (studio : Studio) (plan : PlanView) (packets : List PacketView) (packet : PacketView) (a b c : Option (List ℕ)) (H K : Hearing) (old new : ReplayState) → HasTaken studio plan packets a old b H
    → new.clock ≡ clock_past old.clock packet (role_of plan packet)
    → (clock_past old.clock packet (role_of plan packet)).reading ≤ old.clock.reading + longest_of plan
    → new.changes ≡ count_on old.changes (changes_with (opening_of plan) packet (role_of plan packet))
    → HasReplayed (with_changes (changed_by studio plan packets) (changes_with (opening_of plan) packet (role_of plan packet)))
    (events_with studio.open_at (opening_of plan) old.clock (events_of studio plan packets) packet (role_of plan packet)) a new c K
    → HasTaken studio plan (packets ++ packet ∷ []) a new c K
taken_more studio plan packets packet a b c H K old new taken clock step counts replayed = record {
  clock = clock ∙ ap (λ k. clock_past k packet (role_of plan packet)) taken.clock ∙ sym (clock_more plan (clock_before plan) packets packet);
  changes = counted_more plan packets packet old.changes new.changes taken.changes counts;
  steady = steady_more plan (clock_before plan) packets packet taken.steady
      (subst (λ (k : CaptureClock). (clock_past k packet (role_of plan packet)).reading ≤ k.reading + longest_of plan) taken.clock step);
  replayed = subst (λ (s : Studio). HasReplayed s (events_of studio plan (packets ++ packet ∷ [])) a new c K) (changed_more studio plan packets packet)
      (subst (λ l. HasReplayed (with_changes (changed_by studio plan packets) (changes_with (opening_of plan) packet (role_of plan packet))) l a new c K)
      (next_events studio plan packets packet old.clock taken.clock) replayed);
}

pub stops_more : (studio : Studio) (plan : PlanView) (packets : List PacketView) (packet : PacketView) (a b c : Option (List ℕ)) (H K : Hearing) (old new : ReplayState) (fault : ReplayFault) → HasTaken studio plan packets a old b H
    → Stops (changed_by studio plan packets) (events_with studio.open_at (opening_of plan) old.clock (events_of studio plan packets) packet (role_of plan packet)) a new c K fault
    → Stops (changed_by studio plan packets) (events_of studio plan (packets ++ packet ∷ [])) a new c K fault
stops_more studio plan packets packet a b c H K old new fault taken stops = subst (λ l. Stops (changed_by studio plan packets) l a new c K fault) (next_events studio plan packets packet old.clock taken.clock) stops

pub taken_same : (studio : Studio) (plan : PlanView) (packets : List PacketView) (a c : Option (List ℕ)) (H : Hearing) (run : ReplayState) → HasTaken studio plan packets a run c H → HasTaken studio plan (packets ++ []) a run c H
taken_same studio plan packets a c H run taken = subst (λ l. HasTaken studio plan l a run c H) (sym (append-nil packets)) taken

-- the entries of a file stay the same as more of it is read
pub replaying_read : (studio : Studio) (plan : PlanView) (first a : Option (List ℕ)) (run : ReplayState) (parts : BlockParser) (held held' : List ℕ) (ended ended' : Bool) (left left' c : Option (List ℕ)) (H : Hearing) (closing : Option ℕ) (close_place : ℕ)
    → ((file : List ℕ) (entries : List Entry) → HasReturned file entries left parts held ended → HasReturned file entries left' parts held' ended')
    → IsReplaying studio plan first a run parts held ended left c H closing close_place → IsReplaying studio plan first a run parts held' ended' left' c H closing close_place
replaying_read studio plan first a run parts held held' ended ended' left left' c H closing close_place reads r = record {
  entries = r.entries;
  told = some_maps first _ _ (λ file told. reads file r.entries told) r.told;
  taken = r.taken;
  closes = r.closes;
  placed = r.placed;
}

-- before the first entry
pub replaying_none : (studio : Studio) (plan : PlanView) (first a : Option (List ℕ)) (run : ReplayState) (parts : BlockParser) (held : List ℕ) (ended : Bool) (left : Option (List ℕ)) (H : Hearing)
    → IfSome first (λ file. HasReturned file [] left parts held ended) → run.clock ≡ clock_before plan → run.changes ≡ 0 → HasReplayed studio [] a run a H → IsReplaying studio plan first a run parts held ended left a H None 0
replaying_none studio plan first a run parts held ended left H told clock none replayed = record {
  entries = [];
  told = told;
  taken = record { clock = clock; changes = none; steady = tt; replayed = replayed };
  closes = refl;
  placed = λ time is. absurd (let f : None ≡ Some time = is in cc);
}

-- a reading at the time of the close, behind all packets
pub closing_same : (plan : PlanView) (entries : List Entry) (told closing : Option ℕ) → closing ≡ closing_of plan told → told ≡ closing_in entries → closing ≡ closing_of plan (closing_in entries)
closing_same plan entries told closing same closes = same ∙ ap (closing_of plan) closes

pub come_to_close : (studio : Studio) (plan : PlanView) (told closing : Option ℕ) (close_place from longest : ℕ) (first a b c : Option (List ℕ)) (H K : Hearing) (old new : ReplayState) → from ≡ opening_of plan → longest ≡ longest_of plan
    → closing ≡ closing_of plan told → (clock_with old.clock closing).reading ≤ old.clock.reading + longest → (gone : HasGoneOver studio plan first a old b H told close_place)
    → ((changed : Studio) (events : List TraceEvent) → HasReplayed changed events a old b H → HasReplayed changed (read_at changed.open_at from events old.clock.reading (clock_with old.clock closing).reading) a new c K)
    → HasComeToClose studio plan first a new c K
come_to_close studio plan told closing close_place from longest first a b c H K old new same limit closes step gone reads =
    let packets = packets_among gone.entries in
    let events = events_of studio plan packets in
    let changed = changed_by studio plan packets in
    record {
      entries = gone.entries;
      told = gone.told;
      steady = record {
        each = gone.taken.steady;
        close = subst (λ (o : Option ℕ). (clock_with (clock_of plan packets) o).reading ≤ (clock_of plan packets).reading + longest_of plan) (closing_same plan gone.entries told closing closes gone.closes)
            (subst (λ (n : ℕ). (clock_with (clock_of plan packets) closing).reading ≤ (clock_of plan packets).reading + n) limit
            (subst (λ (k : CaptureClock). (clock_with k closing).reading ≤ k.reading + longest) gone.taken.clock step));
      };
      replayed = subst (λ o. HasReplayed changed (closed_events studio plan packets o) a new c K) (closing_same plan gone.entries told closing closes gone.closes)
          (subst (λ n. HasReplayed changed (read_at studio.open_at n events (clock_of plan packets).reading (clock_with (clock_of plan packets) closing).reading) a new c K) same
          (subst (λ k. HasReplayed changed (read_at studio.open_at from events k.reading (clock_with k closing).reading) a new c K) gone.taken.clock (reads changed events gone.taken.replayed)));
    }

pub stops_at_close : (studio : Studio) (plan : PlanView) (told closing : Option ℕ) (close_place from : ℕ) (first a b c : Option (List ℕ)) (H K : Hearing) (old new : ReplayState) (fault : ReplayFault) → from ≡ opening_of plan → closing ≡ closing_of plan told
    → (gone : HasGoneOver studio plan first a old b H told close_place) → IfSome first (λ file. IsReason file gone.entries fault) → IsCause plan gone.entries (packets_among gone.entries) new.engine.mixer fault
    → ((changed : Studio) (events : List TraceEvent) → HasReplayed changed events a old b H → Stops changed (read_at changed.open_at from events old.clock.reading (clock_with old.clock closing).reading) a new c K fault)
    → StopsFile studio plan first a new c K fault
stops_at_close studio plan told closing close_place from first a b c H K old new fault same closes gone reason cause reads =
    let packets = packets_among gone.entries in
    let events = events_of studio plan packets in
    let changed = changed_by studio plan packets in
    record {
      entries = gone.entries;
      told = some_both first _ _ _ (λ file whole why. (begins_ended plan file gone.entries whole, why)) gone.told reason;
      changed = packets;
      among = inl refl;
      stops = subst (λ o. Stops changed (closed_events studio plan packets o) a new c K fault) (closing_same plan gone.entries told closing closes gone.closes)
          (subst (λ n. Stops changed (read_at studio.open_at n events (clock_of plan packets).reading (clock_with (clock_of plan packets) closing).reading) a new c K fault) same
          (subst (λ k. Stops changed (read_at studio.open_at from events k.reading (clock_with k closing).reading) a new c K fault) gone.taken.clock (reads changed events gone.taken.replayed)));
      cause = cause;
    }

-- the events of packets are the first of those up to a close
pub before_close : (studio : Studio) (plan : PlanView) (entries : List Entry) → AreFirst (events_of studio plan (packets_among entries)) (events_told studio plan entries)
before_close studio plan entries =
    let packets = packets_among entries in
    first_read studio.open_at (opening_of plan) (events_of studio plan packets) (clock_of plan packets).reading (clock_with (clock_of plan packets) (closing_of plan (closing_in entries))).reading

-- a fault is behind the entries that were returned
pub stops_behind : (studio : Studio) (plan : PlanView) (first a : Option (List ℕ)) (run : ReplayState) (parts : BlockParser) (held : List ℕ) (ended : Bool) (left c : Option (List ℕ)) (H : Hearing) (closing : Option ℕ) (close_place : ℕ) (fault : ReplayFault)
    (r : IsReplaying studio plan first a run parts held ended left c H closing close_place) → ((file : List ℕ) → HasReturned file r.entries left parts held ended → IsReason file r.entries fault)
    → ((changed : Studio) (events : List TraceEvent) → IsFirstFault changed events fault) → ((changed : Studio) (events : List TraceEvent) → HasReplayed changed events a run c H → StopsAt changed events a run c H fault) → IsCause plan r.entries (packets_among r.entries) run.engine.mixer fault
    → StopsFile studio plan first a run c H fault
stops_behind studio plan first a run parts held ended left c H closing close_place fault r reason none at cause = record {
  entries = r.entries;
  told = some_maps first _ _ (λ file told. (begins file r.entries left parts held ended told, reason file told)) r.told;
  changed = packets_among r.entries;
  among = inl refl;
  stops = record {
    events = events_of studio plan (packets_among r.entries);
    first = before_close studio plan r.entries;
    at = at (changed_by studio plan (packets_among r.entries)) (events_of studio plan (packets_among r.entries)) r.taken.replayed;
    reason = none (changed_by studio plan (packets_among r.entries)) (events_told studio plan r.entries);
  };
  cause = cause;
}

-- a record or a block more was returned
pub replaying_more : (studio : Studio) (plan : PlanView) (first a : Option (List ℕ)) (run : ReplayState) (parts : BlockParser) (held : List ℕ) (ended : Bool) (left c : Option (List ℕ)) (H : Hearing) (closing : Option ℕ) (close_place place : ℕ) (entries : List Entry) (part : CaptureBlock)
    → IfSome first (λ file. HasReturned file (entries ++ part_entries part) left parts held ended) → HasTaken studio plan (packets_among entries ++ packets_in part) a run c H → closing ≡ closing_in entries
    → IfSome first (λ file. IsAt file entries place) → ((time : ℕ) → closing ≡ Some time → IfSome first (λ file. IsCloseAt file entries close_place))
    → IsReplaying studio plan first a run parts held ended left c H (closing_with closing part.mark) (place_with closing close_place place)
replaying_more studio plan first a run parts held ended left c H closing close_place place entries part told taken closes at placed = record {
  entries = entries ++ part_entries part;
  told = told;
  taken = subst (λ l. HasTaken studio plan l a run c H) (sym (among_more entries (option_map packet_view part.packet) part.mark)) taken;
  closes = ap (λ o. closing_with o part.mark) closes ∙ sym (closing_more entries (option_map packet_view part.packet) part.mark);
  placed = close_more first entries (option_map packet_view part.packet) part.mark closing close_place place closes at placed;
}

-- or the events of its packet stopped at a fault
pub stops_among : (studio : Studio) (plan : PlanView) (first a : Option (List ℕ)) (run : ReplayState) (c : Option (List ℕ)) (H : Hearing) (fault : ReplayFault) (entries : List Entry) (part : CaptureBlock) (place : ℕ) (clock : CaptureClock) (count : ℕ)
    → clock ≡ clock_of plan (packets_among entries) → count ≡ min (length (changes_of plan (packets_among entries))) (2 ^ 64 - 1)
    → (packet : PacketView) × (packets_in part ≡ packet ∷ []) × IsPacketFault (rule_at plan place) clock count run.engine.mixer packet (role_of plan packet) fault
    → IfSome first (λ file. BeginsWith file (entries ++ part_entries part) × IsReason file (entries ++ part_entries part) fault) → Stops (changed_by studio plan (packets_among entries)) (events_of studio plan (packets_among entries ++ packets_in part)) a run c H fault
    → StopsFile studio plan first a run c H fault
stops_among studio plan first a run c H fault entries part place clock count now are why begins stops =
    let all = entries ++ part_entries part in
    record {
      entries = all;
      told = begins;
      changed = packets_among entries;
      among = all_but_last (packets_among entries) (packets_among all) (option_map packet_view part.packet) (among_more entries (option_map packet_view part.packet) part.mark);
      stops = stops_longer (changed_by studio plan (packets_among entries)) (events_of studio plan (packets_among all)) (events_told studio plan all) a c H run fault (before_close studio plan all)
          (subst (λ l. Stops (changed_by studio plan (packets_among entries)) (events_of studio plan l) a run c H fault) (sym (among_more entries (option_map packet_view part.packet) part.mark)) stops);
      cause = packet_cause plan entries all place clock count run.engine.mixer why.0 fault (among_more entries (option_map packet_view part.packet) part.mark ∙ ap (λ l. packets_among entries ++ l) why.1) now are why.2;
    }
