-- A file of few octets has few events.
use Rattle.std.proofs.Common.{◌≡◌, ◌<◌, ◌≤◌, ◌+◌, ◌-◌, ◌*◌, ◌^◌, ℕ, zero, suc, Bool, true, false, nat_lt, List, [], ◌∷◌, ◌++◌, length, map, drop, ℤ, pos, Option, Some, None, IfSome, Result, Ok, Err, if◌then◌else◌, ap, subst, arith}
use Rattle.std.specs.Ordering.{int_eq}
use Rattle.std.proofs.lemmas.List.{length-append, length-map}
use Rattle.pcap_file.specs.declared.cursor.Format.TheVariants as format
use Rattle.pcap_file.specs.declared.decode.pcap.Pcap.{Pcap}
use Rattle.pcap_file.specs.declared.fault.CaptureFaultKind.{CaptureFaultKind}
use Rattle.pcap_file.specs.Capture.{Item, State, is_pcapng, items_after, packets_behind, packets_from, packets_of, packets_past, part_of, with_packet}
use Rattle.pcap_file.specs.Entries.{Entry}
use Rattle.pcap_file.specs.Packet.{PacketView}
use Rattle.pcap_file.specs.Pcap.{pcap_of}
use Rattle.pcap_file.specs.Reader.{packets_among}
use Rattle.pcap_file.specs.Section.{Block, no_section}
use Rattle.pcap_flows.specs.declared.import.clock.CaptureClock.{CaptureClock}
use Rattle.pcap_flows.specs.Clock.{clock_with}
use Rattle.pcap_flows.specs.Trace.{octets_of}
use Rattle.studio_config.specs.Studio.{Studio}
use Rattle.studio_session.specs.Event.{TraceEvent, Arrival, Closing, Tick}
use Rattle.studio_session.specs.Fault.{time_at}
use Rattle.studio_engine.specs.Session.{turned}
use Rattle.pcap_replay.specs.Events.{clock_of, closed_events, events_after, events_of, events_with, file_events, read_at}
use Rattle.pcap_replay.specs.Lines.{Hearing}
use Rattle.pcap_replay.specs.Record.{closing_in}
use Rattle.pcap_replay.specs.Replay.{BeginsWith, BreaksOffReplay, WritesFront}
use Rattle.pcap_replay.specs.Routing.{PlanView, clock_before, clock_past, closing_of, opening_of, role_of}
use Rattle.pcap_replay.specs.declared.fault.ReplayFault.{ReplayFault}
use Rattle.pcap_replay.specs.declared.fault.ReplayFault.TheVariants.{TooManyEvents}
use Rattle.pcap_replay.specs.declared.routing.PacketRole.{PacketRole}
use Rattle.pcap_replay.specs.declared.routing.PacketRole.TheVariants as role
use Rattle.pcap_replay.proofs.CaseLemmas.{some_maps}

one_more : (events : List TraceEvent) (event : TraceEvent) → length (events ++ event ∷ []) ≡ length events + 1
one_more events event = length-append events (event ∷ [])

-- a reading is at most one event
turned_few : (b : Bool) (events : List TraceEvent) (event : TraceEvent) → length (if b then events else events ++ event ∷ []) ≤ length events + 1
turned_few true events event = omega arith
turned_few false events event = let more = one_more events event in omega (arith, more)

read_by : (b : Bool) (events more : List TraceEvent) → length more ≤ length events + 1 → length (if b then more else events) ≤ length events + 1
read_by true events more few = few
read_by false events more few = omega arith

read_few : (open_at : ℤ) (from : ℕ) (events : List TraceEvent) (earlier reading : ℕ) → length (read_at open_at from events earlier reading) ≤ length events + 1
read_few open_at from events earlier reading =
    read_by (nat_lt earlier reading) events (turned (time_at open_at events) (pos (from + reading)) events) (turned_few (int_eq (time_at open_at events) (pos (from + reading))) events (Tick (pos (from + reading))))

-- a packet has at most two events
with_few : (open_at : ℤ) (from : ℕ) (clock : CaptureClock) (events : List TraceEvent) (packet : PacketView) (part : PacketRole) → length (events_with open_at from clock events packet part) ≤ length events + 2
with_few open_at from clock events packet role.Passed = omega arith
with_few open_at from clock events packet (role.Arrival target) =
    let before = read_at open_at from events clock.reading (clock_with clock packet.time).reading in
    let few = read_few open_at from events clock.reading (clock_with clock packet.time).reading in
    let more = one_more before (Arrival target.stream target.path (octets_of packet.ip.body)) in
    omega (arith, few, more)
with_few open_at from clock events packet role.Change =
    let few = read_few open_at from events clock.reading (clock_with clock packet.time).reading in
    omega (arith, few)

after_few : (open_at : ℤ) (plan : PlanView) (clock : CaptureClock) (events : List TraceEvent) (packets : List PacketView) → length (events_after open_at plan clock events packets) ≤ length events + 2 * length packets
after_few open_at plan clock events [] = omega arith
after_few open_at plan clock events (packet ∷ packets) =
    let next = events_with open_at (opening_of plan) clock events packet (role_of plan packet) in
    let rest = after_few open_at plan (clock_past clock packet (role_of plan packet)) next packets in
    let few = with_few open_at (opening_of plan) clock events packet (role_of plan packet) in
    omega (arith, rest, few)

-- with a reading at the close, and the close
file_few : (studio : Studio) (plan : PlanView) (entries : List Entry) → length (file_events studio plan entries) ≤ 2 * length (packets_among entries) + 2
file_few studio plan entries =
    let packets = packets_among entries in
    let closing = closing_of plan (closing_in entries) in
    let all = after_few studio.open_at plan (clock_before plan) [] packets in
    let read = read_few studio.open_at (opening_of plan) (events_of studio plan packets) (clock_of plan packets).reading (clock_with (clock_of plan packets) closing).reading in
    let more = one_more (closed_events studio plan packets closing) Closing in
    omega (arith, all, read, more)

-- each record or block has at most one packet or the fault
with_packet_few : (o : Option PacketView) (items : List Item) → length (with_packet o items) ≤ length items + 1
with_packet_few None items = omega arith
with_packet_few (Some packet) items = omega arith

items_few : (place : ℕ) (rest : Block → List Item) (r : Result Block CaptureFaultKind) (count : ℕ) → ((block : Block) → length (rest block) ≤ count) → length (items_after place rest r) ≤ count + 1
items_few place rest (Ok block) count few =
    let here = with_packet_few block.part.packet (rest block) in
    let behind = few block in
    omega (arith, here, behind)
items_few place rest (Err kind) count few = omega arith

past_few : (count : ℕ) (state : State) (place : ℕ) (octets : List ℕ) → length (packets_past count state place octets) ≤ length octets
unfolding packets_past
past_few count state place [] = omega arith
past_few (suc count) state place (octet ∷ octets) = let rest = past_few count state place octets in omega (arith, rest)
past_few zero state place (octet ∷ octets) =
    let items = items_few place
    (λ block. packets_past (block.part.len - 1) (record { format = state.format; section = block.section }) (place + block.part.len) octets)
    (part_of state (octet ∷ octets)) (length octets)
    (λ block. past_few (block.part.len - 1) (record { format = state.format; section = block.section }) (place + block.part.len) octets) in
    omega (arith, items)

dropped_few : (count : ℕ) (octets : List ℕ) → length (drop count octets) ≤ length octets
dropped_few zero octets = omega arith
dropped_few (suc count) [] = omega arith
dropped_few (suc count) (octet ∷ octets) = let rest = dropped_few count octets in omega (arith, rest)

behind_few : (octets : List ℕ) (r : Result Pcap CaptureFaultKind) → length (packets_behind octets r) ≤ length octets + 1
behind_few octets (Ok pcap) =
    let items = past_few 0 (record { format = format.Pcap pcap; section = no_section }) 24 (drop 24 octets) in
    let less = dropped_few 24 octets in
    omega (arith, items, less)
behind_few octets (Err kind) = omega arith

of_few : (octets : List ℕ) → length (packets_of octets) ≤ length octets + 1
unfolding packets_of
of_few octets = by_format (is_pcapng octets)
  where
    by_format : (b : Bool) → length (if b then packets_from (record { format = format.Pcapng; section = no_section }) 0 octets else packets_behind octets (pcap_of octets)) ≤ length octets + 1
    by_format true = let items = past_few 0 (record { format = format.Pcapng; section = no_section }) 0 octets in omega (arith, items)
    by_format false = behind_few octets (pcap_of octets)

-- a file has at most one packet for each octet
packets_few : (file : List ℕ) (entries : List Entry) → BeginsWith file entries → length (packets_among entries) ≤ length file + 1
packets_few file entries begins =
    let all = of_few file in
    let is = ap length begins.packets in
    let both = length-append (map Ok (packets_among entries)) begins.items in
    let own = length-map (packets_among entries) (λ (packet : PacketView). let item : Item = Ok packet in item) in
    omega (arith, all, is, both, own)

-- a file with too many events has many octets
pub many_octets : (studio : Studio) (plan : PlanView) (first a c : Option (List ℕ)) (H : Hearing) (fault : ReplayFault) → BreaksOffReplay studio plan first a c H fault → fault ≡ TooManyEvents → IfSome first (λ file. 2 ^ 60 ≤ length file)
many_octets studio plan first a c H fault breaks is =
    let front : WritesFront studio plan first a c H TooManyEvents = subst (BreaksOffReplay studio plan first a c H) is breaks in
    let many = front.reason in
    let few = file_few studio plan front.entries in
    some_maps first _ _ (λ file both. let packets = packets_few file front.entries both.0 in omega (arith, many, few, packets)) front.told
