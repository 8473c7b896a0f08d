-- The lines that an import writes, read as the events that a replay takes.
use Rattle.std.proofs.Common.{◌≡◌, ◌<◌, ◌≤◌, ◌+◌, ◌-◌, ◌^◌, ℕ, zero, suc, Bool, true, false, eqb, nat_lt, not, ◌&&◌, ◌||◌, List, [], ◌∷◌, ◌++◌, All, length, map, ℤ, pos, if◌then◌else◌, Option, Some, None, IfSome, unwrap_or, Ok, Err, codes, refl, sym, ap, subst, ◌∙◌, arith, append_assoc, length-append, lit<, lit≤}
use Rattle.std.specs.Fmt.{decimal}
use Rattle.std.specs.Str.Parse.{AllDigits}
use Rattle.std.specs.Result.{result_ok}
use Rattle.std.proofs.lemmas.Bool.{and_parts, ne_eqb}
use Rattle.std.proofs.lemmas.Bool.Decides.{nat_tests}
use Rattle.std.proofs.lemmas.Int.{ints}
use Rattle.std.proofs.lemmas.Fmt.{decimal_is_IsNumeral, length-decimal-le}
use Rattle.std.proofs.lemmas.List.Elements.{All-append, All-cons, All-head, All-nil, All-tail}
use Rattle.std.proofs.lemmas.List.Splits.{slice_split_at, slice_split_none}
use Rattle.std.proofs.lemmas.Str.Parse.{digit_from_value}
use Rattle.hex.specs.Hex.{IsBytes, decode_of, encode_lower, is_hex_digit, lower_digits}
use Rattle.hex.proofs.HexLemmas.{IsDigits-lower_digits, decode_of-encode_lower, decode_pairs-encode_with, decode_pairs-ok, length-encode_with}
use Rattle.pcap_file.specs.Packet.{PacketView}
use Rattle.pcap_flows.specs.declared.import.clock.CaptureClock.{CaptureClock}
use Rattle.pcap_flows.specs.declared.routes.Route.{Route}
use Rattle.pcap_flows.specs.Clock.{clock_begun, clock_with, instants_in}
use Rattle.pcap_flows.specs.TraceLines.{arrival_line}
use Rattle.pcap_flows.specs.Trace.{event_count, events_from, item_clock, item_events, item_text, octets_of as datagram_octets, packet_clock, packet_events, packet_text, route_of, text_from, trace_of}
use Rattle.studio_config.specs.Studio.{Studio}
use Rattle.studio_session.specs.Fault.{time_at}
use Rattle.studio_session.proofs.FaultLemmas.{time_more}
use Rattle.studio_engine.specs.Session.{turned}
use Rattle.studio_engine.proofs.EngineLemmas.{turned_on}
use Rattle.studio_session.specs.Event.{TraceEvent, Arrival, Closing, Tick}
use Rattle.studio_run.specs.Trace.{arrival, arrival_of, fault_in, fields_said, is_silent, line_said, lines_of, lines_said, octets_of, prepend, reading, trace_events, with_event}
use Rattle.studio_run.specs.declared.trace.fault.TraceFaultKind.TheVariants.{TooMany}
use Rattle.studio_run.specs.Fields.{fields_of}
use Rattle.studio_run.proofs.NumberLemmas.{number_of-decimal}
use Rattle.pcap_replay.specs.Events.{clock_of, events_after, events_with, read_at, replay_events}
use Rattle.pcap_replay.specs.ImportLines.{AreLines, IsLineOf, IsPathRoute}
use Rattle.pcap_replay.specs.Routing.{Flows, clock_past, path_of, role_of_route}
use Rattle.studio_run.proofs.ReadLineLemmas.{IsLine, reads-event}

-- an octet is none of these
abbrev NotIn : ℕ → List ℕ → Type 0
NotIn c xs = All (λ (o : ℕ). eqb o c ≡ false) xs

-- a test of some octets, which computes
abbrev are_others : ℕ → List ℕ → Bool
are_others c [] = true
are_others c (x ∷ xs) = not (eqb x c) && are_others c xs

untrue : (b : Bool) → not b ≡ true → b ≡ false
untrue true e = cc e
untrue false e = refl

tested : (c : ℕ) (xs : List ℕ) → are_others c xs ≡ true → NotIn c xs
tested c [] e = All-nil (λ (o : ℕ). eqb o c ≡ false)
tested c (x ∷ xs) e =
    let parts = and_parts (not (eqb x c)) (are_others c xs) e in
    All-cons (λ (o : ℕ). eqb o c ≡ false) x xs (untrue (eqb x c) parts.0) (tested c xs parts.1)

digits_not : (c : ℕ) (ds : List ℕ) → c < 48 → AllDigits 10 ds → NotIn c ds
digits_not c [] low d = All-nil (λ (o : ℕ). eqb o c ≡ false)
digits_not c (x ∷ ds) low d = All-cons (λ (o : ℕ). eqb o c ≡ false) x ds (ne_eqb x c (λ e. let v = digit_from_value x d.0 in omega (arith, e, v, low))) (digits_not c ds low d.1)

decimal_not : (c n : ℕ) → c < 48 → n < 2 ^ 64 → NotIn c (decimal n)
decimal_not c n low small = digits_not c (decimal n) low (decimal_is_IsNumeral n small).0.1

hex_not : (c : ℕ) (xs : List ℕ) → is_hex_digit c ≡ false → All (λ x. is_hex_digit x ≡ true) xs → NotIn c xs
hex_not c [] none h = All-nil (λ (o : ℕ). eqb o c ≡ false)
hex_not c (x ∷ xs) none h =
    let first = All-head (λ x. is_hex_digit x ≡ true) x xs h in
    All-cons (λ (o : ℕ). eqb o c ≡ false) x xs (ne_eqb x c (λ e. let f : true ≡ false = sym first ∙ ap is_hex_digit e ∙ none in cc))
    (hex_not c xs none (All-tail (λ x. is_hex_digit x ≡ true) x xs h))

encoded_not : (c : ℕ) (octets : List ℕ) → is_hex_digit c ≡ false → IsBytes octets → NotIn c (encode_lower octets)
encoded_not c octets none bytes =
    hex_not c (encode_lower octets) none (decode_pairs-ok 0 (encode_lower octets) octets (decode_pairs-encode_with lower_digits IsDigits-lower_digits 0 octets bytes)).0

-- the line of a reading
silent_not : (x : ℕ) (line : List ℕ) → eqb x 35 ≡ false → is_silent (x ∷ line) ≡ false
silent_not x line e = ap (λ b. b || eqb x 35) (ne_eqb (length (x ∷ line)) 0 (λ z. omega (arith, z))) ∙ e

tick_fields : (n : ℕ) → n < 2 ^ 64 → fields_of (codes "tick " ++ decimal n) ≡ codes "tick" ∷ decimal n ∷ []
tick_fields n small =
    let p = λ (o : ℕ). eqb o 32 in
    slice_split_at p (codes "tick") 32 (decimal n) (tested 32 (codes "tick") refl) refl ∙ ap (λ l. codes "tick" ∷ l) (slice_split_none p (decimal n) (decimal_not 32 n (omega arith) small))

pub tick_said : (n : ℕ) → n < 2 ^ 50 → line_said (codes "tick " ++ decimal n) ≡ Ok (Some (Tick (pos n)))
tick_said n small =
    let line = codes "tick " ++ decimal n in
    ap (λ b. if b then Ok None else with_event (fields_said (fields_of line))) (silent_not 116 (codes "ick " ++ decimal n) refl)
    ∙ ap (λ fs. with_event (fields_said fs)) (tick_fields n (omega arith))
    ∙ ap (λ r. with_event (reading r)) (number_of-decimal (2 ^ 63 - 1) n (omega arith) (omega arith))

-- the line of a datagram
arrival_fields : (letter s : ℕ) (octets : List ℕ) → 97 ≤ letter → s < 2 ^ 64 → IsBytes octets
    → fields_of (letter ∷ codes " " ++ decimal s ++ codes " " ++ encode_lower octets) ≡ (letter ∷ []) ∷ decimal s ∷ encode_lower octets ∷ []
arrival_fields letter s octets low small bytes =
    let p = λ (o : ℕ). eqb o 32 in
    let hex = encode_lower octets in
    let word : NotIn 32 (letter ∷ []) = All-cons (λ (o : ℕ). eqb o 32 ≡ false) letter [] (ne_eqb letter 32 (λ e. omega (arith, e, low))) (All-nil (λ (o : ℕ). eqb o 32 ≡ false)) in
    ap (λ l. fields_of (letter ∷ 32 ∷ l)) (append_assoc (decimal s) (32 ∷ []) hex)
    ∙ slice_split_at p (letter ∷ []) 32 (decimal s ++ 32 ∷ hex) word refl
    ∙ ap (λ l. (letter ∷ []) ∷ l) (slice_split_at p (decimal s) 32 hex (decimal_not 32 s (omega arith) small) refl
    ∙ ap (λ l. decimal s ∷ l) (slice_split_none p hex (encoded_not 32 octets refl bytes)))

word_by : (k : ℕ) (rest : List (List ℕ)) → k < 4 → fields_said (((97 + k) ∷ []) ∷ rest) ≡ arrival_of k rest
word_by zero rest less = refl
word_by (suc zero) rest less = refl
word_by (suc (suc zero)) rest less = refl
word_by (suc (suc (suc zero))) rest less = refl
word_by (suc (suc (suc (suc k)))) rest less = absurd (omega (arith, less))

word_said : (letter : ℕ) (rest : List (List ℕ)) → 97 ≤ letter → letter ≤ 100 → fields_said ((letter ∷ []) ∷ rest) ≡ arrival_of (letter - 97) rest
word_said letter rest low high =
    let same : letter ≡ 97 + (letter - 97) = omega (arith, low) in
    ap (λ l. fields_said ((l ∷ []) ∷ rest)) same ∙ word_by (letter - 97) rest (omega (arith, low, high))

spelled : (octets : List ℕ) → 0 < length octets → IsBytes octets → octets_of (encode_lower octets) ≡ Some octets
spelled octets some bytes =
    let long = length-encode_with lower_digits octets in
    ap (λ b. if b then None else result_ok (decode_of (encode_lower octets))) (ne_eqb (length (encode_lower octets)) 0 (λ e. omega (arith, e, long, some)))
    ∙ ap result_ok (decode_of-encode_lower octets bytes)

pub arrival_said : (letter s : ℕ) (octets : List ℕ) → 97 ≤ letter → letter ≤ 100 → s ≤ 15 → 0 < length octets → IsBytes octets
    → line_said (letter ∷ codes " " ++ decimal s ++ codes " " ++ encode_lower octets) ≡ Ok (Some (Arrival s (letter - 97) octets))
arrival_said letter s octets low high few some bytes =
    let line = letter ∷ codes " " ++ decimal s ++ codes " " ++ encode_lower octets in
    let path = letter - 97 in
    ap (λ b. if b then Ok None else with_event (fields_said (fields_of line))) (silent_not letter (codes " " ++ decimal s ++ codes " " ++ encode_lower octets) (ne_eqb letter 35 (λ e. omega (arith, e, low))))
    ∙ ap (λ fs. with_event (fields_said fs)) (arrival_fields letter s octets low (omega (arith, few)) bytes)
    ∙ ap with_event (word_said letter (decimal s ∷ encode_lower octets ∷ []) low high)
    ∙ ap (λ n. with_event (arrival path n (octets_of (encode_lower octets)))) (number_of-decimal 15 s few (omega (arith, few)))
    ∙ ap (λ o. with_event (arrival path (Some s) o)) (spelled octets some bytes)

-- each is a line
pub tick_line : (n : ℕ) → n < 2 ^ 50 → IsLine (codes "tick " ++ decimal n)
tick_line n small =
    let long = length-append (codes "tick ") (decimal n) in
    let few = length-decimal-le 20 n (omega arith) (omega arith) (omega arith) in
    let q = λ (o : ℕ). eqb o 10 ≡ false in
    record {
      short = omega (arith, long, few);
      whole = All-append q (codes "tick ") (decimal n)
          (tested 10 (codes "tick ") refl) (decimal_not 10 n (omega arith) (omega arith));
    }

pub arrival_is_line : (letter s : ℕ) (octets : List ℕ) → 97 ≤ letter → s ≤ 15 → length octets ≤ 2000 → IsBytes octets → IsLine (letter ∷ codes " " ++ decimal s ++ codes " " ++ encode_lower octets)
arrival_is_line letter s octets low few short bytes =
    let q = λ (o : ℕ). eqb o 10 ≡ false in
    let hex = encode_lower octets in
    let front = letter ∷ codes " " ++ decimal s in
    let a = length-append (letter ∷ codes " ") (decimal s) in
    let b = length-append front (codes " ") in
    let c = length-append (front ++ codes " ") hex in
    let d = length-decimal-le 20 s (omega arith) (omega (arith, few)) (omega (arith, few)) in
    let e = length-encode_with lower_digits octets in
    record {
      short = omega (arith, a, b, c, d, e, short);
      whole = All-append q (front ++ codes " ") hex
          (All-append q front (codes " ") (All-append q (letter ∷ codes " ") (decimal s) (All-cons q letter (codes " ") (ne_eqb letter 10 (λ e. omega (arith, e, low))) (tested 10 (codes " ") refl))
          (decimal_not 10 s (omega arith) (omega (arith, few)))) (tested 10 (codes " ") refl))
          (encoded_not 10 octets refl bytes);
    }

-- the clock stays within the range of a trace, and never goes back
instants_few : (t origin : ℕ) → t < 2 ^ 64 → instants_in (t - origin) < 2 ^ 50
instants_few t origin small = omega (arith, small)

clock_few : (clock : CaptureClock) (time : Option ℕ) → clock.reading < 2 ^ 50 → IfSome time (λ t. t < 2 ^ 64) → (clock_with clock time).reading < 2 ^ 50
unfolding clock_with
clock_few clock None few small = few
clock_few clock (Some t) few small = let i = instants_few t (unwrap_or clock.origin t) small in omega (arith, few, i)

clock_late : (clock : CaptureClock) (time : Option ℕ) → clock.reading ≤ (clock_with clock time).reading
unfolding clock_with
clock_late clock None = omega arith
clock_late clock (Some t) = omega arith

-- one line more
says_first : (line rest : List ℕ) (event : TraceEvent) (number count : ℕ) (more : List TraceEvent) → IsLine line → line_said line ≡ Ok (Some event) → count < 1000000
    → lines_said (number + 1) (count + 1) (lines_of rest) ≡ Ok more → lines_said number count (lines_of (line ++ 10 ∷ [] ++ rest)) ≡ Ok (event ∷ more)
says_first line rest event number count more is said space later =
    ap (λ l. lines_said number count (lines_of l)) (append_assoc line (10 ∷ []) rest) ∙ reads-event line is event said count space number rest ∙ ap (prepend (event ∷ [])) later

-- a text that follows some events has the remaining events of `all`
record IsSaid (events : List TraceEvent) (text : List ℕ) (all : List TraceEvent) : Type 0 where
  pub more : List TraceEvent
  pub said : (number : ℕ) → lines_said number (length events) (lines_of text) ≡ Ok more
  pub whole : events ++ more ≡ all

abbrev Said : List Route → List PacketView → CaptureClock → List TraceEvent → Type 0
Said routes packets clock events = IsSaid events (text_from routes clock (map Ok packets)) (events_after (pos 0) (Flows routes) clock events packets ++ Closing ∷ [])

close_said : line_said (codes "close") ≡ Ok (Some Closing)
close_said =
    let fields : fields_of (codes "close") ≡ codes "close" ∷ [] = slice_split_none (λ (o : ℕ). eqb o 32) (codes "close") (tested 32 (codes "close") refl) in
    ap (λ fs. with_event (fields_said fs)) fields

close_line_is : IsLine (codes "close")
close_line_is = record { short = lit≤ tt; whole = tested 10 (codes "close") refl }

said_none : (routes : List Route) (clock : CaptureClock) (events : List TraceEvent) → length events + 1 ≤ 1000000 → Said routes [] clock events
unfolding text_from
said_none routes clock events space = record {
  more = Closing ∷ [];
  said = λ number. says_first (codes "close") [] Closing number (length events) [] close_line_is close_said (omega (arith, space)) refl;
  whole = refl;
}

-- the line of a datagram, behind which these events follow
one_arrival : (events all : List TraceEvent) (route : Route) (packet : PacketView) (text : List ℕ) → IsPathRoute route → IsLineOf packet → length events + 1 ≤ 1000000
    → IsSaid (events ++ Arrival route.stream (path_of route.letter) (datagram_octets packet.ip.body) ∷ []) text all
    → IsSaid events (arrival_line route (datagram_octets packet.ip.body) ++ text) all
one_arrival events all route packet text path is space later =
    let octets = datagram_octets packet.ip.body in
    let event : TraceEvent = Arrival route.stream (path_of route.letter) octets in
    let long : length (events ++ event ∷ []) ≡ length events + 1 = length-append events (event ∷ []) in
    record {
      more = event ∷ later.more;
      said = λ number. says_first (route.letter ∷ codes " " ++ decimal route.stream ++ codes " " ++ encode_lower octets) text event number (length events) later.more
          (arrival_is_line route.letter route.stream octets path.low path.stream is.few is.bytes) (arrival_said route.letter route.stream octets path.low path.high path.stream is.some is.bytes)
          (omega (arith, space)) (ap (λ n. lines_said (number + 1) n (lines_of text)) (sym long) ∙ later.said (number + 1));
      whole = sym (append_assoc events (event ∷ []) later.more) ∙ later.whole;
    }

-- the line of a reading
one_tick : (events all : List TraceEvent) (n : ℕ) (text : List ℕ) → n < 2 ^ 50 → length events + 1 ≤ 1000000
    → IsSaid (events ++ Tick (pos n) ∷ []) text all → IsSaid events (codes "tick " ++ decimal n ++ 10 ∷ [] ++ text) all
one_tick events all n text small space later =
    let event : TraceEvent = Tick (pos n) in
    let long : length (events ++ event ∷ []) ≡ length events + 1 = length-append events (event ∷ []) in
    record {
      more = event ∷ later.more;
      said = λ number. says_first (codes "tick " ++ decimal n) text event number (length events) later.more (tick_line n small) (tick_said n small) (omega (arith, space))
          (ap (λ k. lines_said (number + 1) k (lines_of text)) (sym long) ∙ later.said (number + 1));
      whole = sym (append_assoc events (event ∷ []) later.more) ∙ later.whole;
    }

-- a datagram with a route, whether its reading is a later one or not
abbrev text_by : Bool → ℕ → Route → List ℕ → List ℕ → List ℕ
text_by b n route octets text = (if b then codes "tick " ++ decimal n ++ 10 ∷ [] else []) ++ arrival_line route octets ++ text

abbrev events_by : Bool → List TraceEvent → ℕ → TraceEvent → List TraceEvent
events_by b events n event = (if b then turned (time_at (pos 0) events) (pos (0 + n)) events else events) ++ event ∷ []

one_packet : (b : Bool) (events : List TraceEvent) (earlier n rest : ℕ) (route : Route) (packet : PacketView) (text : List ℕ) (all : List TraceEvent → List TraceEvent) → nat_lt earlier n ≡ b
    → IsPathRoute route → IsLineOf packet → n < 2 ^ 50 → earlier ≤ n → time_at (pos 0) events ≡ pos earlier → length events + ((if b then 2 else 1) + rest) ≤ 1000000
    → ((events : List TraceEvent) → time_at (pos 0) events ≡ pos n → length events + rest ≤ 1000000 → IsSaid events text (all events))
    → IsSaid events (text_by b n route (datagram_octets packet.ip.body) text) (all (events_by b events n (Arrival route.stream (path_of route.letter) (datagram_octets packet.ip.body))))
one_packet true events earlier n rest route packet text all e path is small late time space later =
    let event : TraceEvent = Arrival route.stream (path_of route.letter) (datagram_octets packet.ip.body) in
    let less : earlier < n = grind (arith, nat_tests, e) in
    let on : events ++ Tick (pos n) ∷ [] ≡ turned (time_at (pos 0) events) (pos (0 + n)) events =
    let zero : n ≡ 0 + n = omega arith in ap (λ k. events ++ Tick (pos k) ∷ []) zero ∙ turned_on (time_at (pos 0) events) (pos (0 + n)) events (omega (arith, ints, time, less)) in
    let first = events ++ Tick (pos n) ∷ [] in
    let long : length first ≡ length events + 1 = length-append events (Tick (pos n) ∷ []) in
    let longer : length (first ++ event ∷ []) ≡ length first + 1 = length-append first (event ∷ []) in
    let at : time_at (pos 0) (first ++ event ∷ []) ≡ pos n = time_more (pos 0) first event ∙ time_more (pos 0) events (Tick (pos n)) in
    let said = one_arrival first (all (first ++ event ∷ [])) route packet text path is (omega (arith, space, long)) (later (first ++ event ∷ []) at (omega (arith, space, long, longer))) in
    let both = one_tick events (all (first ++ event ∷ [])) n (arrival_line route (datagram_octets packet.ip.body) ++ text) small (omega (arith, space)) said in
    subst (λ l. IsSaid events (text_by true n route (datagram_octets packet.ip.body) text) (all (l ++ event ∷ []))) on
    (subst (λ t. IsSaid events t (all (first ++ event ∷ []))) (sym (append_assoc (codes "tick " ++ decimal n ++ 10 ∷ []) (arrival_line route (datagram_octets packet.ip.body)) text)) both)
one_packet false events earlier n rest route packet text all e path is small late time space later =
    let event : TraceEvent = Arrival route.stream (path_of route.letter) (datagram_octets packet.ip.body) in
    let same : pos earlier ≡ pos n = ap pos (grind (arith, nat_tests, e, late)) in
    let longer : length (events ++ event ∷ []) ≡ length events + 1 = length-append events (event ∷ []) in
    one_arrival events (all (events ++ event ∷ [])) route packet text path is (omega (arith, space))
    (later (events ++ event ∷ []) (time_more (pos 0) events event ∙ time ∙ same) (omega (arith, space, longer)))

-- the lines of a packet, by its route
abbrev SaidWith : List Route → CaptureClock → List TraceEvent → PacketView → Option Route → List PacketView → Type 0
SaidWith routes clock events packet o packets = IsSaid events (packet_text clock packet o ++ text_from routes (packet_clock clock packet o) (map Ok packets))
    (events_after (pos 0) (Flows routes) (clock_past clock packet (role_of_route o)) (events_with (pos 0) 0 clock events packet (role_of_route o)) packets ++ Closing ∷ [])

said_with : (routes : List Route) (clock : CaptureClock) (events : List TraceEvent) (packet : PacketView) (packets : List PacketView)
    → SaidWith routes clock events packet (route_of routes packet) packets → Said routes (packet ∷ packets) clock events
unfolding text_from item_text item_clock
said_with routes clock events packet packets s = s

space_with : (routes : List Route) (clock : CaptureClock) (n : ℕ) (packet : PacketView) (packets : List PacketView) → n + events_from routes clock (map Ok (packet ∷ packets)) ≤ 1000000
    → n + (packet_events clock packet (route_of routes packet) + events_from routes (packet_clock clock packet (route_of routes packet)) (map Ok packets)) ≤ 1000000
unfolding events_from item_events item_clock
space_with routes clock n packet packets space = space

space_end : (routes : List Route) (clock : CaptureClock) (n : ℕ) → n + events_from routes clock [] ≤ 1000000 → n + 1 ≤ 1000000
unfolding events_from
space_end routes clock n space = space

-- by the route of a packet, if the lines of the others are known
by_route : (routes : List Route) (clock : CaptureClock) (events : List TraceEvent) (packet : PacketView) (packets : List PacketView) (o : Option Route)
    → ((route : Route) → o ≡ Some route → IsPathRoute route × IsLineOf packet) → clock.reading < 2 ^ 50 → time_at (pos 0) events ≡ pos clock.reading
    → length events + (packet_events clock packet o + events_from routes (packet_clock clock packet o) (map Ok packets)) ≤ 1000000
    → ((clock : CaptureClock) (events : List TraceEvent) → clock.reading < 2 ^ 50 → time_at (pos 0) events ≡ pos clock.reading → length events + events_from routes clock (map Ok packets) ≤ 1000000 → Said routes packets clock events)
    → SaidWith routes clock events packet o packets
by_route routes clock events packet packets None is few time enough later =
    let none : length events + events_from routes clock (map Ok packets) ≤ 1000000 = omega (arith, enough) in later clock events few time none
by_route routes clock events packet packets (Some route) is few time enough later =
    let next = clock_with clock packet.time in
    let both = is route refl in
    let small = clock_few clock packet.time few both.1.time in
    one_packet (nat_lt clock.reading next.reading) events clock.reading next.reading (events_from routes next (map Ok packets)) route packet (text_from routes next (map Ok packets))
    (λ (events : List TraceEvent). events_after (pos 0) (Flows routes) next events packets ++ Closing ∷ []) refl both.0 both.1 small (clock_late clock packet.time) time enough
    (λ events at space. later next events small at space)

-- the lines of all packets
all_said : (routes : List Route) (packets : List PacketView) (clock : CaptureClock) (events : List TraceEvent) → clock.reading < 2 ^ 50 → time_at (pos 0) events ≡ pos clock.reading
    → AreLines routes packets → length events + events_from routes clock (map Ok packets) ≤ 1000000 → Said routes packets clock events
all_said routes [] clock events few time lines space = said_none routes clock events (space_end routes clock (length events) space)
all_said routes (packet ∷ packets) clock events few time lines space =
    said_with routes clock events packet packets
    (by_route routes clock events packet packets (route_of routes packet) lines.0 few time (space_with routes clock (length events) packet packets space)
    (λ clock events few time space. all_said routes packets clock events few time lines.1 space))

-- no reading follows the last datagram
closed_none : (open_at : ℤ) (from : ℕ) (events : List TraceEvent) (clock : CaptureClock) → read_at open_at from events clock.reading (clock_with clock None).reading ≡ events
unfolding clock_with
closed_none open_at from events clock =
    let same : nat_lt clock.reading clock.reading ≡ false = grind (arith, nat_tests) in
    ap (λ b. if b then turned (time_at open_at events) (pos (from + clock.reading)) events else events) same

pub import_said : (studio : Studio) (routes : List Route) (packets : List PacketView) → studio.open_at ≡ pos 0 → AreLines routes packets → event_count routes (map Ok packets) ≤ 1000000
    → length (trace_of routes (map Ok packets)) ≤ 67108864 → trace_events (trace_of routes (map Ok packets)) ≡ Ok (replay_events studio (Flows routes) packets None)
import_said studio routes packets opened lines space short =
    let text = trace_of routes (map Ok packets) in
    let none : 0 + events_from routes clock_begun (map Ok packets) ≤ 1000000 = omega (arith, space) in
    let said = all_said routes packets clock_begun [] (lit< tt) refl lines none in
    let within : nat_lt 67108864 (length text) ≡ false = grind (arith, nat_tests, short) in
    let events = events_after studio.open_at (Flows routes) clock_begun [] packets in
    let all : said.more ≡ replay_events studio (Flows routes) packets None =
    said.whole ∙ ap (λ t. events_after t (Flows routes) clock_begun [] packets ++ Closing ∷ []) (sym opened)
    ∙ ap (λ l. l ++ Closing ∷ []) (sym (closed_none studio.open_at 0 events (clock_of (Flows routes) packets))) in
    ap (λ b. if b then Err (fault_in 0 TooMany) else lines_said 1 0 (lines_of text)) within ∙ said.said 1 ∙ ap Ok all
