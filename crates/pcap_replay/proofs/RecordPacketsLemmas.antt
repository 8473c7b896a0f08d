-- The events of a record, packet by packet, are those of its run.
use Rattle.std.proofs.Common.{◌≡◌, ◌<◌, ◌≤◌, ◌+◌, ◌-◌, ℕ, zero, suc, Bool, true, false, nat_lt, List, [], ◌∷◌, ◌++◌, map, Option, Some, None, slice_get, unwrap_or, max, ℤ, pos, negsuc, ◌+ℤ◌, ◌-ℤ◌, ◌≤ℤ◌, ◌<ℤ◌, if◌then◌else◌, refl, sym, ap, subst, ◌∙◌, arith, append_assoc, append-nil}
use Rattle.std.specs.Ordering.{int_eq}
use Rattle.std.proofs.lemmas.Bool.{false≢true}
use Rattle.std.proofs.lemmas.Bool.Decides.{nat_tests}
use Rattle.std.proofs.lemmas.Int.{ints}
use Rattle.pcap_file.specs.Packet.{PacketView}
use Rattle.pcap_flows.specs.declared.import.clock.CaptureClock.{CaptureClock}
use Rattle.pcap_flows.specs.Clock.{clock_begun, clock_with, instants_in}
use Rattle.pcap_flows.specs.Trace.{octets_of}
use Rattle.rtp_stream.specs.declared.stream_spec.Stream.{Stream}
use Rattle.lane_align.specs.Lane.{natural}
use Rattle.studio_config.specs.Studio.{Studio}
use Rattle.studio_session.specs.Event.{TraceEvent, Arrival, Tick, Closing}
use Rattle.studio_session.specs.Fault.{event_fault, path_fault, session_fault_from, session_fault_of, time_at}
use Rattle.studio_session.specs.Pruned.{begin_with_tick, pruned_events}
use Rattle.studio_session.specs.declared.fault.StudioFault.TheVariants.{Path as NoPath, Stream as NoStream}
use Rattle.studio_session.proofs.FaultLemmas.{first_none, later_none, time_more}
use Rattle.studio_engine.specs.Session.{turned}
use Rattle.pcap_replay.specs.Events.{events_after, events_with, read_at, replay_events, clock_after}
use Rattle.pcap_replay.specs.RecordChanges.{changes_by, changes_of, changes_with}
use Rattle.pcap_replay.specs.Routing.{clock_past, places_of, role_at}
use Rattle.pcap_replay.specs.RecordPackets.{AreRecorded, AreRising, Changes, Happens, IsAt, IsPacketOf, Step, changes_in, events_in, kept_events, path_total, place_of, takes_tick}
use Rattle.pcap_replay.specs.declared.changes.RecordedChanges.TheVariants.{Taken}
use Rattle.pcap_replay.specs.declared.routing.PacketRole.{PacketRole}
use Rattle.pcap_replay.specs.declared.routing.PacketRole.TheVariants as role

-- the path at a path's place is that path
record HasPath (streams : List Stream) (stream path : ℕ) : Type 0 where
  its : Stream
  at : slice_get streams stream ≡ Some its
  within : path < its.paths

has_path : (place : ℕ) (streams : List Stream) (stream path : ℕ) → path_fault place (slice_get streams stream) path ≡ None → HasPath streams stream path
has_path place streams stream path none = by_found (slice_get streams stream) refl none
  where
    by_found : (found : Option Stream) → slice_get streams stream ≡ found → path_fault place found path ≡ None → HasPath streams stream path
    by_found None is e = absurd (let f : Some (NoStream place) ≡ None = e in cc)
    by_found (Some s) is e = by_test (nat_lt path s.paths) refl e
      where
        by_test : (b : Bool) → nat_lt path s.paths ≡ b → (if b then None else Some (NoPath place)) ≡ None → HasPath streams stream path
        by_test true less e = record { its = s; at = is; within = grind (arith, nat_tests, less) }
        by_test false less e = absurd (let f : Some (NoPath place) ≡ None = e in cc)

role_of_place : (n : ℕ) (streams : List Stream) (stream path : ℕ) (s : Stream) → slice_get streams stream ≡ Some s → path < s.paths → role_at Taken n streams (place_of streams stream path) ≡ role.Arrival (record { stream = n + stream; path = path })
unfolding role_at
role_of_place n [] stream path s at less = absurd (cc)
role_of_place n (x ∷ streams) zero path s at less =
    let is : x ≡ s = here x s at in
    let within : path < x.paths = subst (λ (y : Stream). path < y.paths) (sym is) less in
    let test : nat_lt path x.paths ≡ true = grind (arith, nat_tests, within) in
    let same : n ≡ n + 0 = omega arith in
    ap (λ b. if b then role.Arrival (record { stream = n; path = path }) else role_at Taken (n + 1) streams (path - x.paths)) test ∙ ap (λ (m : ℕ). role.Arrival (record { stream = m; path = path })) same
  where
    here : (a b : Stream) → Some a ≡ Some b → a ≡ b
    here a b e = cc
role_of_place n (x ∷ streams) (suc stream) path s at less =
    let test : nat_lt (x.paths + place_of streams stream path) x.paths ≡ false = grind (arith, nat_tests) in
    let left : x.paths + place_of streams stream path - x.paths ≡ place_of streams stream path = omega arith in
    let up : n + 1 + stream ≡ n + suc stream = omega arith in
    ap (λ b. if b then role.Arrival (record { stream = n; path = x.paths + place_of streams stream path }) else role_at Taken (n + 1) streams (x.paths + place_of streams stream path - x.paths)) test
    ∙ ap (role_at Taken (n + 1) streams) left
    ∙ role_of_place (n + 1) streams stream path s at less
    ∙ ap (λ (m : ℕ). role.Arrival (record { stream = m; path = path })) up

-- behind all paths are the changes
role_of_total : (n : ℕ) (streams : List Stream) → role_at Taken n streams (path_total streams) ≡ role.Change
unfolding role_at
role_of_total n [] = refl
role_of_total n (x ∷ streams) =
    let test : nat_lt (x.paths + path_total streams) x.paths ≡ false = grind (arith, nat_tests) in
    let left : x.paths + path_total streams - x.paths ≡ path_total streams = omega arith in
    ap (λ b. if b then role.Arrival (record { stream = n; path = x.paths + path_total streams }) else role_at Taken (n + 1) streams (x.paths + path_total streams - x.paths)) test
    ∙ ap (role_at Taken (n + 1) streams) left
    ∙ role_of_total (n + 1) streams

-- a reading that goes on, as a step
abbrev going : ℤ → ℤ → List Step
going old new = if int_eq old new then [] else Happens (Tick new) ∷ []

turned_behind : (old new : ℤ) (events : List TraceEvent) → turned old new events ≡ events ++ turned old new []
turned_behind old new events = by_test (int_eq old new)
  where
    by_test : (b : Bool) → (if b then events else events ++ Tick new ∷ []) ≡ events ++ (if b then [] else Tick new ∷ [])
    by_test true = sym (append-nil events)
    by_test false = refl

turned_same : (old new : ℤ) → old ≡ new → turned old new [] ≡ []
turned_same old new e = by_test (int_eq old new) (grind (arith, ints, nat_tests, e))
  where
    by_test : (b : Bool) → b ≡ true → (if b then [] else Tick new ∷ []) ≡ []
    by_test true h = refl
    by_test false h = absurd (false≢true h)

going_same : (old new : ℤ) → old ≡ new → going old new ≡ []
going_same old new e = by_test (int_eq old new) (grind (arith, ints, nat_tests, e))
  where
    by_test : (b : Bool) → b ≡ true → (if b then [] else Happens (Tick new) ∷ []) ≡ []
    by_test true h = refl
    by_test false h = absurd (false≢true h)

going_later : (old new : ℤ) → old <ℤ new → going old new ≡ Happens (Tick new) ∷ []
going_later old new less = by_test (int_eq old new) (grind (arith, ints, nat_tests, less))
  where
    by_test : (b : Bool) → b ≡ false → (if b then [] else Happens (Tick new) ∷ []) ≡ Happens (Tick new) ∷ []
    by_test true h = absurd (false≢true (sym h))
    by_test false h = refl

-- a reading is kept if no reading follows
going_stays : (old new : ℤ) (step : Step) (steps : List Step) (kept : List TraceEvent) → takes_tick (step ∷ steps) ≡ false → kept_events (step ∷ steps) ≡ kept
    → kept_events (going old new ++ step ∷ steps) ≡ turned old new [] ++ kept
going_stays old new step steps kept other is = by_test (int_eq old new)
  where
    by_test : (b : Bool) → kept_events ((if b then [] else Happens (Tick new) ∷ []) ++ step ∷ steps) ≡ (if b then [] else Tick new ∷ []) ++ kept
    by_test true = is
    by_test false = ap (λ b. if b then kept_events (step ∷ steps) else Tick new ∷ kept_events (step ∷ steps)) other ∙ ap (λ l. Tick new ∷ l) is

going_left_out : (old new u : ℤ) (steps : List Step) → kept_events (going old new ++ Happens (Tick u) ∷ steps) ≡ kept_events (Happens (Tick u) ∷ steps)
going_left_out old new u steps = by_test (int_eq old new)
  where
    by_test : (b : Bool) → kept_events ((if b then [] else Happens (Tick new) ∷ []) ++ Happens (Tick u) ∷ steps) ≡ kept_events (Happens (Tick u) ∷ steps)
    by_test true = refl
    by_test false = refl

time_going : (time old new : ℤ) (events : List TraceEvent) → time_at time events ≡ old → time_at time (events ++ turned old new []) ≡ new
time_going time old new events is = by_test (int_eq old new) refl
  where
    by_test : (b : Bool) → int_eq old new ≡ b → time_at time (events ++ (if b then [] else Tick new ∷ [])) ≡ new
    by_test true e = let same : old ≡ new = grind (arith, ints, nat_tests, e) in ap (time_at time) (append-nil events) ∙ is ∙ same
    by_test false e = time_more time events (Tick new)

-- a clock that counts from time 0, at the time of a reading
module _ (clock : CaptureClock) (origin : clock.origin ≡ Some 0) (n : ℕ) (not_back : clock.reading ≤ instants_in n) where
  reads : (clock_with clock (Some n)).reading ≡ instants_in n
  unfolding clock_with
  reads =
      let since : n - 0 ≡ n = omega arith in
      let greater : max clock.reading (instants_in n) ≡ instants_in n = omega (arith, not_back) in
      ap (λ o. max clock.reading (instants_in (n - unwrap_or o n))) origin ∙ ap (λ m. max clock.reading (instants_in m)) since ∙ greater

  counts_on : (clock_with clock (Some n)).origin ≡ Some 0
  unfolding clock_with
  counts_on = ap (λ o. Some (unwrap_or o n)) origin

module _ (studio : Studio) (longest : ℕ) (low : pos 0 ≤ℤ studio.open_at) where
  opening : pos (natural studio.open_at) ≡ studio.open_at
  opening = its studio.open_at low
    where
      its : (t : ℤ) → pos 0 ≤ℤ t → pos (natural t) ≡ t
      its (pos n) h = refl
      its (negsuc n) h = absurd (omega (arith, ints, h))

  -- the recorded reading follows some events, if it is later
  read_is : (events : List TraceEvent) (r i : ℕ) → r ≤ i → time_at studio.open_at events ≡ studio.open_at +ℤ pos r
      → read_at studio.open_at (natural studio.open_at) events r i ≡ events ++ turned (studio.open_at +ℤ pos r) (studio.open_at +ℤ pos i) []
  read_is events r i le is = by_test (nat_lt r i) refl
    where
      by_test : (b : Bool) → nat_lt r i ≡ b → (if b then turned (time_at studio.open_at events) (pos (natural studio.open_at + i)) events else events) ≡ events ++ turned (studio.open_at +ℤ pos r) (studio.open_at +ℤ pos i) []
      by_test true less =
          let now : pos (natural studio.open_at + i) ≡ studio.open_at +ℤ pos i = omega (arith, ints, opening) in
          ap (λ t. turned t (pos (natural studio.open_at + i)) events) is ∙ ap (λ t. turned (studio.open_at +ℤ pos r) t events) now ∙ turned_behind (studio.open_at +ℤ pos r) (studio.open_at +ℤ pos i) events
      by_test false less =
          let same : r ≡ i = grind (arith, nat_tests, le, less) in
          sym (ap (λ l. events ++ l) (turned_same (studio.open_at +ℤ pos r) (studio.open_at +ℤ pos i) (ap (λ n. studio.open_at +ℤ pos n) same)) ∙ append-nil events)

  -- the events of packets and a close, after some
  abbrev said_after : CaptureClock → List TraceEvent → List PacketView → Option ℕ → List TraceEvent
  said_after clock events packets closing =
      read_at studio.open_at (natural studio.open_at) (events_after studio.open_at (places_of studio Taken longest) clock events packets) (clock_after (places_of studio Taken longest) clock packets).reading (clock_with (clock_after (places_of studio Taken longest) clock packets) closing).reading ++ Closing ∷ []

  -- one packet more, of a role
  one_more : (clock : CaptureClock) (events : List TraceEvent) (packet : PacketView) (packets : List PacketView) (closing : Option ℕ) (its : PacketRole) → role_at Taken 0 studio.streams packet.interface ≡ its
      → said_after clock events (packet ∷ packets) closing
      ≡ said_after (clock_past clock packet its) (events_with studio.open_at (natural studio.open_at) clock events packet its) packets closing
  one_more clock events packet packets closing its is =
      ap (λ o. said_after (clock_past clock packet o) (events_with studio.open_at (natural studio.open_at) clock events packet o) packets closing) is

  -- the close behind all packets
  closes : (time : ℤ) (before : List TraceEvent) (clock : CaptureClock) (closing : Option ℕ) → clock.origin ≡ Some 0 → time_at studio.open_at before ≡ studio.open_at +ℤ pos clock.reading
      → (studio.open_at +ℤ pos clock.reading) ≤ℤ time → IsAt studio.open_at time closing → (steps : List Step) (packets : List PacketView) → steps ≡ [] → packets ≡ []
      → said_after clock before packets closing ≡ before ++ kept_events (going (studio.open_at +ℤ pos clock.reading) time ++ Happens Closing ∷ steps)
  closes time before clock closing origin is le at (e ∷ steps) packets gone none = absurd (cc)
  closes time before clock closing origin is le at [] (q ∷ packets) gone none = absurd (cc)
  closes time before clock closing origin is le at [] [] gone none =
      let not_back : clock.reading ≤ instants_in at.nanoseconds = omega (arith, ints, le, at.instants) in
      let now : (clock_with clock closing).reading ≡ instants_in at.nanoseconds = ap (λ o. (clock_with clock o).reading) at.told_is ∙ reads clock origin at.nanoseconds not_back in
      ap (λ i. read_at studio.open_at (natural studio.open_at) before clock.reading i ++ Closing ∷ []) now
      ∙ ap (λ l. l ++ Closing ∷ []) (read_is before clock.reading (instants_in at.nanoseconds) not_back is)
      ∙ append_assoc before (turned (studio.open_at +ℤ pos clock.reading) (studio.open_at +ℤ pos (instants_in at.nanoseconds)) []) (Closing ∷ [])
      ∙ ap (λ t. before ++ (turned (studio.open_at +ℤ pos clock.reading) t [] ++ Closing ∷ [])) (sym at.instants)
      ∙ ap (λ l. before ++ l) (sym (going_stays (studio.open_at +ℤ pos clock.reading) time (Happens Closing) [] (Closing ∷ []) refl refl))

  -- the packet of a path's datagram
  role_is : (p : ℕ) (time : ℤ) (stream path : ℕ) (octets : List ℕ) (events : List TraceEvent) (packet : PacketView) → session_fault_from studio.streams p time false (Arrival stream path octets ∷ events) ≡ None
      → IsPacketOf studio time stream path octets packet → role_at Taken 0 studio.streams packet.interface ≡ role.Arrival (record { stream = stream; path = path })
  role_is p time stream path octets events packet none its =
      let found = has_path p studio.streams stream path (first_none (event_fault studio.streams p time false (Arrival stream path octets)) _ none) in
      let whole : 0 + stream ≡ stream = omega arith in
      ap (role_at Taken 0 studio.streams) its.interface ∙ role_of_place 0 studio.streams stream path found.its found.at found.within ∙ ap (λ (m : ℕ). role.Arrival (record { stream = m; path = path })) whole

  said : (steps : List Step) (packets : List PacketView) (closing : Option ℕ) (p : ℕ) (time : ℤ) (before : List TraceEvent) (clock : CaptureClock)
      → session_fault_from studio.streams p time false (events_in steps) ≡ None → AreRising time (events_in steps) → AreRecorded studio time steps packets closing
      → clock.origin ≡ Some 0 → time_at studio.open_at before ≡ studio.open_at +ℤ pos clock.reading → (studio.open_at +ℤ pos clock.reading) ≤ℤ time
      → said_after clock before packets closing ≡ before ++ kept_events (going (studio.open_at +ℤ pos clock.reading) time ++ steps)
  said [] packets closing p time before clock none rising recorded origin is le = absurd recorded
  said (Happens (Tick u) ∷ steps) packets closing p time before clock none rising recorded origin is le =
      let later : (studio.open_at +ℤ pos clock.reading) <ℤ u = omega (arith, ints, le, rising.0) in
      said steps packets closing (suc p) u before clock (later_none (event_fault studio.streams p time false (Tick u)) _ none) rising.1 recorded origin is (omega (arith, ints, later))
      ∙ ap (λ l. before ++ kept_events (l ++ steps)) (going_later (studio.open_at +ℤ pos clock.reading) u later)
      ∙ ap (λ l. before ++ l) (sym (going_left_out (studio.open_at +ℤ pos clock.reading) time u steps))
  said (Happens Closing ∷ steps) packets closing p time before clock none rising recorded origin is le = closes time before clock closing origin is le recorded.2 steps packets recorded.0 recorded.1
  said (Happens (Arrival stream path octets) ∷ steps) [] closing p time before clock none rising recorded origin is le = absurd recorded
  said (Happens (Arrival stream path octets) ∷ steps) (packet ∷ packets) closing p time before clock none rising recorded origin is le =
      let its = recorded.0 in
      let at = its.time_is in
      let not_back : clock.reading ≤ instants_in at.nanoseconds = omega (arith, ints, le, at.instants) in
      let now : (clock_with clock packet.time).reading ≡ instants_in at.nanoseconds = ap (λ o. (clock_with clock o).reading) at.told_is ∙ reads clock origin at.nanoseconds not_back in
      let counts : (clock_with clock packet.time).origin ≡ Some 0 = ap (λ o. (clock_with clock o).origin) at.told_is ∙ counts_on clock origin at.nanoseconds not_back in
      let taken : read_at studio.open_at (natural studio.open_at) before clock.reading (clock_with clock packet.time).reading ++ Arrival stream path (octets_of packet.ip.body) ∷ []
      ≡ (before ++ turned (studio.open_at +ℤ pos clock.reading) time []) ++ Arrival stream path octets ∷ [] =
      ap (λ l. read_at studio.open_at (natural studio.open_at) before clock.reading (clock_with clock packet.time).reading ++ Arrival stream path l ∷ []) its.octets_are
      ∙ ap (λ n. read_at studio.open_at (natural studio.open_at) before clock.reading n ++ Arrival stream path octets ∷ []) now
      ∙ ap (λ l. l ++ Arrival stream path octets ∷ []) (read_is before clock.reading (instants_in at.nanoseconds) not_back is ∙ ap (λ t. before ++ turned (studio.open_at +ℤ pos clock.reading) t []) (sym at.instants)) in
      let reached : time ≡ studio.open_at +ℤ pos (clock_with clock packet.time).reading = at.instants ∙ ap (λ n. studio.open_at +ℤ pos n) (sym now) in
      let there : time_at studio.open_at ((before ++ turned (studio.open_at +ℤ pos clock.reading) time []) ++ Arrival stream path octets ∷ []) ≡ studio.open_at +ℤ pos (clock_with clock packet.time).reading =
      time_more studio.open_at (before ++ turned (studio.open_at +ℤ pos clock.reading) time []) (Arrival stream path octets)
      ∙ time_going studio.open_at (studio.open_at +ℤ pos clock.reading) time before is ∙ reached in
      one_more clock before packet packets closing (role.Arrival (record { stream = stream; path = path })) (role_is p time stream path octets (events_in steps) packet none its)
      ∙ ap (λ l. said_after (clock_with clock packet.time) l packets closing) taken
      ∙ said steps packets closing (suc p) time ((before ++ turned (studio.open_at +ℤ pos clock.reading) time []) ++ Arrival stream path octets ∷ []) (clock_with clock packet.time)
      (later_none (event_fault studio.streams p time false (Arrival stream path octets)) _ none) rising recorded.1 counts there (omega (arith, ints, reached))
      ∙ ap (λ l. ((before ++ turned (studio.open_at +ℤ pos clock.reading) time []) ++ Arrival stream path octets ∷ []) ++ kept_events (l ++ steps)) (going_same (studio.open_at +ℤ pos (clock_with clock packet.time).reading) time (sym reached))
      ∙ append_assoc (before ++ turned (studio.open_at +ℤ pos clock.reading) time []) (Arrival stream path octets ∷ []) (kept_events steps)
      ∙ append_assoc before (turned (studio.open_at +ℤ pos clock.reading) time []) (Arrival stream path octets ∷ kept_events steps)
      ∙ ap (λ l. before ++ l) (sym (going_stays (studio.open_at +ℤ pos clock.reading) time (Happens (Arrival stream path octets)) steps (Arrival stream path octets ∷ kept_events steps) refl refl))
  said (Changes when gains ∷ steps) [] closing p time before clock none rising recorded origin is le = absurd recorded
  said (Changes when gains ∷ steps) (packet ∷ packets) closing p time before clock none rising recorded origin is le =
      let its = recorded.0 in
      let at = its.time_is in
      let not_back : clock.reading ≤ instants_in at.nanoseconds = omega (arith, ints, le, at.instants) in
      let now : (clock_with clock packet.time).reading ≡ instants_in at.nanoseconds = ap (λ o. (clock_with clock o).reading) at.told_is ∙ reads clock origin at.nanoseconds not_back in
      let counts : (clock_with clock packet.time).origin ≡ Some 0 = ap (λ o. (clock_with clock o).origin) at.told_is ∙ counts_on clock origin at.nanoseconds not_back in
      let taken : read_at studio.open_at (natural studio.open_at) before clock.reading (clock_with clock packet.time).reading ≡ before ++ turned (studio.open_at +ℤ pos clock.reading) time [] =
      ap (read_at studio.open_at (natural studio.open_at) before clock.reading) now
      ∙ read_is before clock.reading (instants_in at.nanoseconds) not_back is ∙ ap (λ t. before ++ turned (studio.open_at +ℤ pos clock.reading) t []) (sym at.instants) in
      let reached : time ≡ studio.open_at +ℤ pos (clock_with clock packet.time).reading = at.instants ∙ ap (λ n. studio.open_at +ℤ pos n) (sym now) in
      let there : time_at studio.open_at (before ++ turned (studio.open_at +ℤ pos clock.reading) time []) ≡ studio.open_at +ℤ pos (clock_with clock packet.time).reading =
      time_going studio.open_at (studio.open_at +ℤ pos clock.reading) time before is ∙ reached in
      one_more clock before packet packets closing role.Change (ap (role_at Taken 0 studio.streams) its.interface ∙ role_of_total 0 studio.streams)
      ∙ ap (λ l. said_after (clock_with clock packet.time) l packets closing) taken
      ∙ said steps packets closing p time (before ++ turned (studio.open_at +ℤ pos clock.reading) time []) (clock_with clock packet.time)
      none rising recorded.1 counts there (omega (arith, ints, reached))
      ∙ ap (λ l. (before ++ turned (studio.open_at +ℤ pos clock.reading) time []) ++ kept_events (l ++ steps)) (going_same (studio.open_at +ℤ pos (clock_with clock packet.time).reading) time (sym reached))
      ∙ append_assoc before (turned (studio.open_at +ℤ pos clock.reading) time []) (kept_events steps)
      ∙ ap (λ l. before ++ l) (sym (going_stays (studio.open_at +ℤ pos clock.reading) time (Changes when gains) steps (kept_events steps) refl refl))

  pub run_said : (steps : List Step) (packets : List PacketView) (closing : Option ℕ) → session_fault_of studio (events_in steps) ≡ None → AreRising studio.open_at (events_in steps) → AreRecorded studio studio.open_at steps packets closing
      → replay_events studio (places_of studio Taken longest) packets closing ≡ kept_events steps
  unfolding clock_with
  run_said steps packets closing none rising recorded =
      let start : studio.open_at ≡ studio.open_at +ℤ pos 0 = omega (arith, ints) in
      said steps packets closing 0 studio.open_at [] (clock_with clock_begun (Some 0)) none rising recorded refl start (omega (arith, ints))
      ∙ ap (λ l. kept_events (l ++ steps)) (going_same (studio.open_at +ℤ pos 0) studio.open_at (sym start))

  -- the changes of the packets
  nothing_left : (steps : List Step) (packets : List PacketView) → steps ≡ [] → packets ≡ [] → changes_of (places_of studio Taken longest) packets ≡ changes_in steps
  nothing_left steps packets e f = ap (changes_of (places_of studio Taken longest)) f ∙ sym (ap changes_in e)

  changes_after : (steps : List Step) (packets : List PacketView) (closing : Option ℕ) (p : ℕ) (time : ℤ) → session_fault_from studio.streams p time false (events_in steps) ≡ None
      → AreRecorded studio time steps packets closing → changes_of (places_of studio Taken longest) packets ≡ changes_in steps
  changes_after [] packets closing p time none recorded = absurd recorded
  changes_after (Happens (Tick u) ∷ steps) packets closing p time none recorded =
      changes_after steps packets closing (suc p) u (later_none (event_fault studio.streams p time false (Tick u)) _ none) recorded
  changes_after (Happens Closing ∷ steps) packets closing p time none recorded = nothing_left steps packets recorded.0 recorded.1
  changes_after (Happens (Arrival stream path octets) ∷ steps) [] closing p time none recorded = absurd recorded
  changes_after (Happens (Arrival stream path octets) ∷ steps) (packet ∷ packets) closing p time none recorded =
      ap (λ o. changes_with (natural studio.open_at) packet o ++ changes_of (places_of studio Taken longest) packets) (role_is p time stream path octets (events_in steps) packet none recorded.0)
      ∙ changes_after steps packets closing (suc p) time (later_none (event_fault studio.streams p time false (Arrival stream path octets)) _ none) recorded.1
  changes_after (Changes when gains ∷ steps) [] closing p time none recorded = absurd recorded
  changes_after (Changes when gains ∷ steps) (packet ∷ packets) closing p time none recorded =
      let its = recorded.0 in
      let rest = changes_of (places_of studio Taken longest) packets in
      let same : pos (natural studio.open_at) +ℤ (when -ℤ studio.open_at) ≡ when = omega (arith, ints, opening) in
      ap (λ o. changes_with (natural studio.open_at) packet o ++ rest) (ap (role_at Taken 0 studio.streams) its.interface ∙ role_of_total 0 studio.streams)
      ∙ ap (λ o. changes_by (natural studio.open_at) o ++ rest) its.payload
      ∙ ap (λ (t : ℤ). (t, gains) ∷ rest) same
      ∙ ap (λ l. (when, gains) ∷ l) (changes_after steps packets closing p time none recorded.1)

  pub changes_said : (steps : List Step) (packets : List PacketView) (closing : Option ℕ) → session_fault_of studio (events_in steps) ≡ None → AreRecorded studio studio.open_at steps packets closing
      → changes_of (places_of studio Taken longest) packets ≡ changes_in steps
  changes_said steps packets closing none recorded = changes_after steps packets closing 0 studio.open_at none recorded

-- events alone are steps
events_back : (events : List TraceEvent) → events_in (map Happens events) ≡ events
events_back [] = refl
events_back (event ∷ events) = ap (λ l. event ∷ l) (events_back events)

reading_back : (events : List TraceEvent) → takes_tick (map Happens events) ≡ begin_with_tick events
reading_back [] = refl
reading_back (Arrival stream path octets ∷ events) = refl
reading_back (Tick time ∷ events) = refl
reading_back (Closing ∷ events) = refl

kept_back : (events : List TraceEvent) → kept_events (map Happens events) ≡ pruned_events events
kept_back [] = refl
kept_back (Arrival stream path octets ∷ events) = ap (λ l. Arrival stream path octets ∷ l) (kept_back events)
kept_back (Tick time ∷ events) =
    ap (λ b. if b then kept_events (map Happens events) else Tick time ∷ kept_events (map Happens events)) (reading_back events)
    ∙ ap (λ l. if begin_with_tick events then l else Tick time ∷ l) (kept_back events)
kept_back (Closing ∷ events) = ap (λ l. Closing ∷ l) (kept_back events)

pub run_unchanged : (studio : Studio) (longest : ℕ) (events : List TraceEvent) (packets : List PacketView) (closing : Option ℕ) → pos 0 ≤ℤ studio.open_at → session_fault_of studio events ≡ None → AreRising studio.open_at events
    → AreRecorded studio studio.open_at (map Happens events) packets closing → replay_events studio (places_of studio Taken longest) packets closing ≡ pruned_events events
run_unchanged studio longest events packets closing low none rising recorded =
    run_said studio longest low (map Happens events) packets closing (subst (λ l. session_fault_of studio l ≡ None) (sym (events_back events)) none)
    (subst (AreRising studio.open_at) (sym (events_back events)) rising) recorded
    ∙ kept_back events

-- a change leaves a reading that another one follows
reading_events : (steps : List Step) → takes_tick steps ≡ true → begin_with_tick (events_in steps) ≡ true
reading_events [] e = absurd (false≢true e)
reading_events (Happens (Arrival stream path octets) ∷ steps) e = absurd (false≢true e)
reading_events (Happens (Tick time) ∷ steps) e = refl
reading_events (Happens Closing ∷ steps) e = absurd (false≢true e)
reading_events (Changes at gains ∷ steps) e = absurd (false≢true e)

begin_by : (b : Bool) (time : ℤ) (kept events : List TraceEvent) → begin_with_tick kept ≡ begin_with_tick events → (b ≡ true → begin_with_tick events ≡ true)
    → begin_with_tick (if b then kept else Tick time ∷ kept) ≡ true
begin_by true time kept events same leads = same ∙ leads refl
begin_by false time kept events same leads = refl

begin_alike : (steps : List Step) → begin_with_tick (kept_events steps) ≡ begin_with_tick (events_in steps)
begin_alike [] = refl
begin_alike (Happens (Arrival stream path octets) ∷ steps) = refl
begin_alike (Happens (Tick time) ∷ steps) = begin_by (takes_tick steps) time (kept_events steps) (events_in steps) (begin_alike steps) (reading_events steps)
begin_alike (Happens Closing ∷ steps) = refl
begin_alike (Changes at gains ∷ steps) = begin_alike steps

kept_by : (b : Bool) (time : ℤ) (kept events : List TraceEvent) → begin_with_tick kept ≡ begin_with_tick events → (b ≡ true → begin_with_tick events ≡ true) → pruned_events kept ≡ pruned_events events
    → pruned_events (if b then kept else Tick time ∷ kept) ≡ (if begin_with_tick events then pruned_events events else Tick time ∷ pruned_events events)
kept_by true time kept events same leads is =
    is ∙ sym (ap (λ b. if b then pruned_events events else Tick time ∷ pruned_events events) (leads refl))
kept_by false time kept events same leads is =
    ap (λ b. if b then pruned_events kept else Tick time ∷ pruned_events kept) same
    ∙ ap (λ l. if begin_with_tick events then l else Tick time ∷ l) is

pub kept_same : (steps : List Step) → pruned_events (kept_events steps) ≡ pruned_events (events_in steps)
kept_same [] = refl
kept_same (Happens (Arrival stream path octets) ∷ steps) = ap (λ l. Arrival stream path octets ∷ l) (kept_same steps)
kept_same (Happens (Tick time) ∷ steps) =
    kept_by (takes_tick steps) time (kept_events steps) (events_in steps) (begin_alike steps) (reading_events steps) (kept_same steps)
kept_same (Happens Closing ∷ steps) = ap (λ l. Closing ∷ l) (kept_same steps)
kept_same (Changes at gains ∷ steps) = kept_same steps
