-- The report of a capture, and how far it was written.
use Rattle.std.specs.Prelude.{◌≡◌, ◌≢◌, ◌⊎◌, ◌<◌, ◌-◌, ◌^◌, ℕ, ◌++◌, Bool, false, List, [], ◌∷◌, length, min, take, map, Option, Some, None, Ok, Err, IfSome, ⊤}
use Rattle.std.specs.Io.KnownBytes.{Appends}
use Rattle.pcap_file.specs.declared.block_parser.BlockParser.{BlockParser}
use Rattle.pcap_file.specs.declared.decode.record_mark.RecordMark.{RecordMark}
use Rattle.pcap_file.specs.declared.decode.record_mark.RecordMark.TheVariants.{Closed}
use Rattle.pcap_file.specs.BlockParser.{items_at}
use Rattle.pcap_file.specs.Entries.{Entry, entries_at, entries_in, entries_of}
use Rattle.pcap_file.specs.Packet.{PacketView}
use Rattle.pcap_file.specs.Capture.{Item, packets_of}
use Rattle.pcap_file.specs.declared.fault.ReaderFault.{ReaderFault}
use Rattle.pcap_file.specs.declared.fault.ReaderFault.TheVariants as reader
use Rattle.pcap_file.specs.Reader.{HasEntries, HasReturned, IsCutBehind, packets_among}
use Rattle.rtp_stream.specs.declared.stream_spec.Stream.{Stream}
use Rattle.studio_config.specs.Studio.{Studio}
use Rattle.studio_mix.specs.Blocks.{AreFirstBlocks}
use Rattle.studio_session.specs.Event.{TraceEvent}
use Rattle.studio_session.specs.Fault.{closed_at}
use Rattle.studio_session.specs.Play.{IsRunnableBy, feeds_of}
use Rattle.studio_session.specs.Run.{AreDatagrams}
use Rattle.studio_engine.specs.Session.{HasSession}
use Rattle.studio_run.specs.Buffer.{BreaksOff, PassesOn}
use Rattle.studio_run.specs.Listing.{datagrams_text}
use Rattle.studio_run.specs.Play.{WritesEvents}
use Rattle.studio_run.specs.StudioReport.{IsReport}
use Rattle.pcap_replay.specs.declared.fault.ReplayFault.{ReplayFault}
use Rattle.pcap_replay.specs.declared.fault.ReplayFault.TheVariants.{Memory, Capture, Run as RunOf, Change, Jump, TooManyEvents, Write}
use Rattle.pcap_replay.specs.declared.state.ReplayState.{ReplayState}
use Rattle.pcap_replay.specs.Lines.{Hearing}
use Rattle.pcap_replay.specs.Events.{AreFirst, clock_of, events_of, events_told, file_events}
use Rattle.pcap_replay.specs.Routing.{PlanView, Flows, Interfaces, clock_before, closing_of}
use Rattle.pcap_replay.specs.Steady.{AreSteady, IsSteady}
use Rattle.pcap_replay.specs.Record.{closing_in}
use Rattle.pcap_replay.specs.RecordChanges.{AreAllButLast, changed_by, changes_of}
use Rattle.pcap_replay.specs.Reasons.{IsCount, IsFirstFault}
use Rattle.pcap_replay.specs.Causes.{IsCause, IsCauseBehind}

-- the engine took these events, which are counted, the lines of the datagrams that it returned are written or held, and
-- the observer received both
pub record HasReplayed (studio : Studio) (events : List TraceEvent) (written : Option (List ℕ)) (run : ReplayState) (written_then : Option (List ℕ)) (heard : Hearing) : Type 0 where
  pub datagrams : List (List ℕ)
  pub session : HasSession studio run.engine events datagrams
  pub idle : run.engine.turning ≡ false
  pub open_yet : closed_at false events ≡ false
  pub counted : IsCount studio.open_at events run.count
  pub wrote : PassesOn written [] written_then run.text (datagrams_text datagrams)
  pub told : heard events datagrams

-- the run before the first event
pub record HasBegun (studio : Studio) (run : ReplayState) : Type 0 where
  pub session : HasSession studio run.engine [] []
  pub idle : run.engine.turning ≡ false
  pub counted : IsCount studio.open_at [] run.count
  pub none : run.text ≡ []

-- the observer received a prefix of these events, whose clock readings are in order, and some of the datagrams of all
-- of them
pub record HasHeardFirst (studio : Studio) (events : List TraceEvent) (heard : Hearing) : Type 0 where
  pub runs : IsRunnableBy studio events
  pub earlier : List TraceEvent
  pub early : AreFirst earlier events
  pub datagrams : List (List ℕ)
  pub first : AreFirstBlocks studio (feeds_of studio events) datagrams
  pub told : heard earlier datagrams

-- a prefix of the lines of these events' datagrams was written
pub record BreaksAt (studio : Studio) (events : List TraceEvent) (written written_then : Option (List ℕ)) (heard : Hearing) : Type 0 where
  pub datagrams : List (List ℕ)
  pub first : AreFirstBlocks studio (feeds_of studio events) datagrams
  pub count : ℕ
  pub wrote : Appends written written_then (take count (datagrams_text datagrams))
  pub told : HasHeardFirst studio events heard

-- a fault came after these events: a failed write left a prefix of the lines, and after any other fault the lines
-- written and held are whole
abbrev pub StopsAt : Studio → List TraceEvent → Option (List ℕ) → ReplayState → Option (List ℕ) → Hearing → ReplayFault → Type 0
StopsAt studio events written run written_then heard Memory = ⊥
StopsAt studio events written run written_then heard (Capture fault) = HasReplayed studio events written run written_then heard
StopsAt studio events written run written_then heard (RunOf fault) = HasReplayed studio events written run written_then heard
StopsAt studio events written run written_then heard (Change number kind) = HasReplayed studio events written run written_then heard
StopsAt studio events written run written_then heard (Jump place seconds) = HasReplayed studio events written run written_then heard
StopsAt studio events written run written_then heard TooManyEvents = HasReplayed studio events written run written_then heard
StopsAt studio events written run written_then heard Write = BreaksAt studio events written written_then heard

-- a fault came before all of these events were taken; that of an event is their first
pub record Stops (studio : Studio) (all : List TraceEvent) (written : Option (List ℕ)) (run : ReplayState) (written_then : Option (List ℕ)) (heard : Hearing) (fault : ReplayFault) : Type 0 where
  pub events : List TraceEvent
  pub first : AreFirst events all
  pub at : StopsAt studio events written run written_then heard fault
  pub reason : IsFirstFault studio all fault

-- a file begins with these entries
pub record BeginsWith (file : List ℕ) (entries : List Entry) : Type 0 where
  pub items : List Item
  pub packets : packets_of file ≡ map Ok (packets_among entries) ++ items
  pub later : List Entry
  pub all : entries_of file ≡ entries ++ later

-- the studio with the changes in these packets took their events and counted the changes, and the clock is the one after
-- them; no step of it was too long
pub record HasTaken (studio : Studio) (plan : PlanView) (packets : List PacketView) (written : Option (List ℕ)) (run : ReplayState) (written_then : Option (List ℕ)) (heard : Hearing) : Type 0 where
  pub clock : run.clock ≡ clock_of plan packets
  pub changes : run.changes ≡ min (length (changes_of plan packets)) (2 ^ 64 - 1)
  pub steady : AreSteady plan (clock_before plan) packets
  pub replayed : HasReplayed (changed_by studio plan packets) (events_of studio plan packets) written run written_then heard

-- the file has these entries before the record or block at this place
pub record IsAt (file : List ℕ) (entries : List Entry) (place : ℕ) : Type 0 where
  pub parts : BlockParser
  pub left : List ℕ
  pub here : parts.place ≡ place
  pub packets : packets_of file ≡ map Ok (packets_among entries) ++ items_at parts left
  pub all : entries_of file ≡ entries ++ entries_at parts left

-- the last packet of these entries is in the record or block at this place
pub record IsPacketAt (file : List ℕ) (entries : List Entry) (place : ℕ) : Type 0 where
  pub before : List Entry
  pub at : IsAt file before place
  pub packet : PacketView
  pub mark : Option RecordMark
  pub whole : entries ≡ before ++ entries_in (Some packet) mark

-- the first mark of a close among these entries is in the record or block at this place
pub record IsCloseAt (file : List ℕ) (entries : List Entry) (place : ℕ) : Type 0 where
  pub before : List Entry
  pub at : IsAt file before place
  pub none : closing_in before ≡ None
  pub packet : Option PacketView
  pub time : ℕ
  pub later : List Entry
  pub whole : entries ≡ before ++ entries_in packet (Some (Closed time)) ++ later

-- the packets among the file's entries so far were replayed, and `closing` is the time of the close among these entries,
-- in the record or block at `close_place`
pub record IsReplaying (studio : Studio) (plan : PlanView) (first : Option (List ℕ)) (written : Option (List ℕ)) (run : ReplayState) (parts : BlockParser) (held : List ℕ) (ended : Bool) (left written_then : Option (List ℕ)) (heard : Hearing) (closing : Option ℕ) (close_place : ℕ) : Type 0 where
  pub entries : List Entry
  pub told : IfSome first (λ file. HasReturned file entries left parts held ended)
  pub taken : HasTaken studio plan (packets_among entries) written run written_then heard
  pub closes : closing ≡ closing_in entries
  pub placed : (time : ℕ) → closing ≡ Some time → IfSome first (λ file. IsCloseAt file entries close_place)

-- a file ends behind these entries: it has no fault, or it is a record whose last block is cut
abbrev pub EndsAt : PlanView → List ℕ → List Entry → Type 0
EndsAt (Flows routes) file entries = HasEntries file entries
EndsAt (Interfaces streams open_at changes longest) file entries = HasEntries file entries ⊎ IsCutBehind file entries

-- the packets of a whole file were replayed
pub record HasGoneOver (studio : Studio) (plan : PlanView) (first : Option (List ℕ)) (written : Option (List ℕ)) (run : ReplayState) (written_then : Option (List ℕ)) (heard : Hearing) (closing : Option ℕ) (close_place : ℕ) : Type 0 where
  pub entries : List Entry
  pub told : IfSome first (λ file. EndsAt plan file entries)
  pub taken : HasTaken studio plan (packets_among entries) written run written_then heard
  pub closes : closing ≡ closing_in entries
  pub placed : (time : ℕ) → closing ≡ Some time → IfSome first (λ file. IsCloseAt file entries close_place)

-- the packets of a whole file and a clock reading at the time of the close, if the marks have one, were replayed
pub record HasComeToClose (studio : Studio) (plan : PlanView) (first : Option (List ℕ)) (written : Option (List ℕ)) (run : ReplayState) (written_then : Option (List ℕ)) (heard : Hearing) : Type 0 where
  pub entries : List Entry
  pub told : IfSome first (λ file. EndsAt plan file entries)
  pub steady : IsSteady plan (packets_among entries) (closing_of plan (closing_in entries))
  pub replayed : HasReplayed (changed_by studio plan (packets_among entries)) (events_told studio plan entries) written run written_then heard

-- a fault of the file is the one behind these entries
abbrev pub IsFileFault : List ℕ → List Entry → ReaderFault → Type 0
IsFileFault file entries reader.ReadFailed = Unit {0}
IsFileFault file entries (reader.Capture fault) = packets_of file ≡ map Ok (packets_among entries) ++ Err fault ∷ []
IsFileFault file entries (reader.TooLong place) = Unit {0}
IsFileFault file entries reader.Memory = Unit {0}

-- a fault of the file is the one behind these entries, and a time that jumps is in the record or block at its place: the
-- last packet's, or that of the close
abbrev pub IsReason : List ℕ → List Entry → ReplayFault → Type 0
IsReason file entries Memory = Unit {0}
IsReason file entries (Capture fault) = IsFileFault file entries fault
IsReason file entries (RunOf fault) = Unit {0}
IsReason file entries (Change number kind) = Unit {0}
IsReason file entries (Jump place seconds) = IsPacketAt file entries place ⊎ IsCloseAt file entries place
IsReason file entries TooManyEvents = Unit {0}
IsReason file entries Write = Unit {0}

-- a fault came among the events of a file's first entries; the changes in all of these packets were taken, or in all
-- but the last, which may be its cause
pub record StopsFile (studio : Studio) (plan : PlanView) (first : Option (List ℕ)) (written : Option (List ℕ)) (run : ReplayState) (written_then : Option (List ℕ)) (heard : Hearing) (fault : ReplayFault) : Type 0 where
  pub entries : List Entry
  pub told : IfSome first (λ file. BeginsWith file entries × IsReason file entries fault)
  pub changed : List PacketView
  pub among : AreAllButLast changed (packets_among entries)
  pub stops : Stops (changed_by studio plan changed) (events_told studio plan entries) written run written_then heard fault
  pub cause : IsCause plan entries changed run.engine.mixer fault

-- the observer received all these events, whose clock readings are in order, and exactly their datagrams
pub record HasHeardAll (studio : Studio) (events : List TraceEvent) (heard : Hearing) : Type 0 where
  pub runs : IsRunnableBy studio events
  pub datagrams : List (List ℕ)
  pub given : AreDatagrams studio events datagrams
  pub told : heard events datagrams

-- the report of a file's events was written, by the studio with the changes in its packets, and the observer received
-- the events and their datagrams; the file ends behind them, and no step of its clock is too long
pub record WritesReplay (studio : Studio) (plan : PlanView) (left : Option (List ℕ)) (written written_then : Option (List ℕ)) (heard : Hearing) : Type 0 where
  pub entries : List Entry
  pub told : IfSome left (λ file. EndsAt plan file entries)
  pub steady : IsSteady plan (packets_among entries) (closing_of plan (closing_in entries))
  pub writes : WritesEvents (changed_by studio plan (packets_among entries)) IsReport (file_events studio plan entries) written written_then
  pub hears : HasHeardAll (changed_by studio plan (packets_among entries)) (file_events studio plan entries) heard

-- a prefix of the report of these events was written: of the lines of its datagrams, or of the whole report
abbrev pub BreaksReport : Studio → List TraceEvent → Option (List ℕ) → Option (List ℕ) → Hearing → Type 0
BreaksReport studio events written written_then heard =
    BreaksAt studio events written written_then heard
    ⊎ (((report : List ℕ) → IsReport studio events report → BreaksOff written [] written_then report) × HasHeardAll studio events heard)

-- a prefix of the report of a file's first events was written; the fault of an event is the first of the events of its
-- first entries, and the changes in all packets of these were taken, or in all but the last, which may be the cause
pub record WritesFront (studio : Studio) (plan : PlanView) (left : Option (List ℕ)) (written written_then : Option (List ℕ)) (heard : Hearing) (fault : ReplayFault) : Type 0 where
  pub entries : List Entry
  pub told : IfSome left (λ file. BeginsWith file entries × IsReason file entries fault)
  pub reason : IsFirstFault studio (file_events studio plan entries) fault
  pub events : List TraceEvent
  pub first : AreFirst events (file_events studio plan entries)
  pub changed : List PacketView
  pub among : AreAllButLast changed (packets_among entries)
  pub cause : IsCauseBehind studio plan entries changed events fault
  pub front : BreaksReport (changed_by studio plan changed) events written written_then heard

-- what was written before a fault: nothing if an allocation failed at the start, else a prefix of the report
abbrev pub BreaksOffReplay : Studio → PlanView → Option (List ℕ) → Option (List ℕ) → Option (List ℕ) → Hearing → ReplayFault → Type 0
BreaksOffReplay studio plan left written written_then heard Memory = (written_then ≡ written) × heard [] []
BreaksOffReplay studio plan left written written_then heard (Capture fault) = WritesFront studio plan left written written_then heard (Capture fault)
BreaksOffReplay studio plan left written written_then heard (RunOf fault) = WritesFront studio plan left written written_then heard (RunOf fault)
BreaksOffReplay studio plan left written written_then heard (Change number kind) = WritesFront studio plan left written written_then heard (Change number kind)
BreaksOffReplay studio plan left written written_then heard (Jump place seconds) = WritesFront studio plan left written written_then heard (Jump place seconds)
BreaksOffReplay studio plan left written written_then heard TooManyEvents = WritesFront studio plan left written written_then heard TooManyEvents
BreaksOffReplay studio plan left written written_then heard Write = WritesFront studio plan left written written_then heard Write

-- after a fault the lines that are held are written: all of them, or a part, which is a fault of its own; nothing after
-- a failed write
abbrev pub EndsBehind : List ℕ → Option (List ℕ) → Option (List ℕ) → ReplayFault → ReplayFault → Type 0
EndsBehind held written written_then fault result =
    ((fault ≡ Write) × (result ≡ Write) × (written_then ≡ written))
    ⊎ ((fault ≢ Write) × (((result ≡ fault) × Appends written written_then held)
    ⊎ ((result ≡ Write) × ((n : ℕ) × (n < length held) × Appends written written_then (take n held)))))

-- the fault is that of an event, of a change of gains or of a time, or there are too many events
abbrev pub IsRun : ReplayFault → Type 0
IsRun Memory = ⊥
IsRun (Capture fault) = ⊥
IsRun (RunOf fault) = Unit {0}
IsRun (Change number kind) = Unit {0}
IsRun (Jump place seconds) = Unit {0}
IsRun TooManyEvents = Unit {0}
IsRun Write = ⊥

-- the fault is that of an event, of a change of gains or of a time, there are too many events, or a write failed
abbrev pub IsOwn : ReplayFault → Type 0
IsOwn Memory = ⊥
IsOwn (Capture fault) = ⊥
IsOwn (RunOf fault) = Unit {0}
IsOwn (Change number kind) = Unit {0}
IsOwn (Jump place seconds) = Unit {0}
IsOwn TooManyEvents = Unit {0}
IsOwn Write = Unit {0}

-- some studio with these streams took some events, and may be closed
pub record CanClose (streams : List Stream) (run : ReplayState) (written_then : Option (List ℕ)) : Type 0 where
  pub studio : Studio
  pub same : studio.streams ≡ streams
  pub events : List TraceEvent
  pub written : Option (List ℕ)
  pub replayed : HasReplayed studio events written run written_then (λ _ _. ⊤)
