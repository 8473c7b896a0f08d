-- One stream's datagrams, one after another.
use Rattle.std.proofs.Common.{◌≡◌, ℕ, zero, suc, ◌+◌, ◌-◌, ◌<◌, ◌≤◌, Bool, true, false, not, ◌&&◌, if◌then◌else◌, nat_lt, length-append, pos, ◌-ℤ◌, ◌≤ℤ◌, List, [], ◌∷◌, ◌++◌, length, take, drop, get_or, ℤ, Option, Some, None, refl, sym, ap, subst, ◌∙◌, arith, append-nil, append_assoc}
use Rattle.std.specs.List.{list_all}
use Rattle.std.proofs.lemmas.Bool.Decides.{nat_tests}
use Rattle.std.proofs.lemmas.Grind.{flat_map-append}
use Rattle.std.proofs.lemmas.List.{take-append-drop, take_more}
use Rattle.std.proofs.lemmas.List.Folds.{list_all-append, list_all_more}
use Rattle.std.specs.Prelude.{int_lt, Result, Ok, Err, IsErrAnd, IfErr}
use Rattle.std.proofs.lemmas.Int.{ints}
use Rattle.rtp_stream.specs.Anchor.{next_number}
use Rattle.rtp_stream.specs.Copies.{copies_of}
use Rattle.rtp_stream.specs.Epochs.{anchor_of}
use Rattle.rtp_stream.specs.Grid.{first_with}
use Rattle.rtp_stream.specs.History.{is_closed, is_well_timed, time_of}
use Rattle.rtp_stream.specs.Marks.{body_of, has_slot, is_past_quiet, is_past_quiets, is_quiet_new, is_slot, marks_of, quiet_mark, slot_mark, slots_between, slots_from, slots_or_quiet}
use Rattle.rtp_stream.specs.declared.anchor.Anchor.{Anchor}
use Rattle.path_merge.proofs.EpochLemmas.{heard_of-tick, standings_of-tick}
use Rattle.path_merge.proofs.JoinLemmas.{alike-trans, has_slot-append}
use Rattle.path_merge.proofs.StepLemmas.{marks_of-tick}
use Rattle.rtp_stream.specs.declared.stream_spec.Stream.{Stream}
use Rattle.rtp_stream.specs.declared.event.Event.{Event}
use Rattle.rtp_stream.specs.declared.event.Event.TheVariants.{Arrive, Close, Tick}
use Rattle.rtp_stream.specs.MarkFacts.{MarkView}
use Rattle.path_merge.proofs.HistoryLemmas.{anchor_of-tick, copies_of-tick, events_until_close-open, fates_of-tick, is_closed-append, is_well_timed_from-append, time_of-append}
use Rattle.path_merge.proofs.RunLemmas as run
use Rattle.path_merge.specs.Steps.{Advances, IsAlike, Moves, MovesBy, is_slot_mark, stop_at}
use Rattle.example_callers.specs.Receive.{IsFaultOf, are_on_paths, events_of, events_of_all, history_of}
use Rattle.example_callers.specs.declared.receive.ReceiveFault.{ReceiveFault}
use Rattle.rtp_wire.specs.Datagram.{wire_fault_of, head_at, payload_at}
use Rattle.rtp_wire.specs.declared.fault.WireFault.{WireFault}
use Rattle.rtp_stream.specs.StreamSpec.{admit_fault_of}
use Rattle.rtp_stream.specs.declared.packet.Packet.{Packet}
use Rattle.rtp_stream.specs.declared.stream_spec.AdmitFault.{AdmitFault}
use Rattle.rtp_stream.specs.declared.stream_spec.AdmitFault.TheVariants.{WrongType, WrongLength}
use Rattle.path_merge.specs.Clock.{clock_fault_of}
use Rattle.path_merge.specs.MergeState.{MergeState}
use Rattle.path_merge.specs.Run.{HasGiven}
use Rattle.path_merge.specs.declared.clock.ClockFault.{ClockFault}
use Rattle.studio_session.proofs.ReadingStepsLemmas.{in_time}
use Rattle.rtp_stream.specs.Reception.{packet_at, reception_by, reception_of}
use Rattle.studio_session.specs.Session.{Datagram, event_in}
use Rattle.example_callers.specs.declared.arrival.Arrival.{Arrival}

-- the packet of a datagram, if the merge receives one
abbrev pub packets_in : Stream → Arrival → List Event
packets_in stream a = event_in (Datagram a.path (reception_of stream a.datagram.now))

module _ (stream : Stream) (arrivals : List Arrival) (i : ℕ) (a : Arrival) (within : i < length arrivals) (is : a ≡ get_or arrivals i a) where
  one_more : take (i + 1) arrivals ≡ take i arrivals ++ a ∷ []
  one_more = take_more arrivals i a within ∙ ap (λ (x : Arrival). take i arrivals ++ x ∷ []) (sym is)

  -- the events of one datagram more
  pub events_more : events_of_all stream (take (i + 1) arrivals) ≡ (events_of_all stream (take i arrivals) ++ Tick a.time ∷ []) ++ packets_in stream a
  events_more =
      ap (events_of_all stream) one_more
      ∙ flat_map-append (events_of stream) (take i arrivals) (a ∷ [])
      ∙ ap (λ l. events_of_all stream (take i arrivals) ++ l) (append-nil (events_of stream a))
      ∙ sym (append_assoc (events_of_all stream (take i arrivals)) (Tick a.time ∷ []) (packets_in stream a))

  -- one more arrival on a path that the stream has
  pub paths_more : are_on_paths stream (take i arrivals) ≡ true → a.path < stream.paths → are_on_paths stream (take (i + 1) arrivals) ≡ true
  paths_more so_far on =
      let here : nat_lt a.path stream.paths ≡ true = grind (arith, nat_tests, on) in
      list_all_more (λ (x : Arrival). nat_lt x.path stream.paths) arrivals i a within
      ∙ ap (λ b. b && nat_lt (get_or arrivals i a).path stream.paths) so_far
      ∙ ap (λ (x : Arrival). nat_lt x.path stream.paths) (sym is)
      ∙ here

  no_more : (b c d : Bool) → c ≡ false → ((b && c) && d) ≡ false
  no_more true true d e = cc
  no_more false true d e = cc
  no_more true false d e = refl
  no_more false false d e = refl

  -- a path that the stream lacks
  pub off_paths : stream.paths ≤ a.path → are_on_paths stream arrivals ≡ false
  off_paths off =
      let p = λ (x : Arrival). nat_lt x.path stream.paths in
      let here : nat_lt a.path stream.paths ≡ false = grind (arith, nat_tests, off) in
      ap (list_all p) (sym (take-append-drop (i + 1) arrivals))
      ∙ list_all-append p (take (i + 1) arrivals) (drop (i + 1) arrivals)
      ∙ ap (λ b. b && list_all p (drop (i + 1) arrivals)) (list_all_more p arrivals i a within)
      ∙ no_more (list_all p (take i arrivals)) (p (get_or arrivals i a)) (list_all p (drop (i + 1) arrivals)) (ap p (sym is) ∙ here)

  -- the whole history begins with the events up to the reading
  rest : List Event
  rest = packets_in stream a ++ (events_of_all stream (drop (i + 1) arrivals) ++ Close ∷ [])

  whole : history_of stream arrivals ≡ (events_of_all stream (take i arrivals) ++ Tick a.time ∷ []) ++ rest
  unfolding rest
  whole =
      ap (λ l. events_of_all stream l ++ Close ∷ []) (sym (take-append-drop (i + 1) arrivals))
      ∙ ap (λ l. l ++ Close ∷ []) (flat_map-append (events_of stream) (take (i + 1) arrivals) (drop (i + 1) arrivals))
      ∙ append_assoc (events_of_all stream (take (i + 1) arrivals)) (events_of_all stream (drop (i + 1) arrivals)) (Close ∷ [])
      ∙ ap (λ l. l ++ (events_of_all stream (drop (i + 1) arrivals) ++ Close ∷ [])) events_more
      ∙ append_assoc (events_of_all stream (take i arrivals) ++ Tick a.time ∷ []) (packets_in stream a) (events_of_all stream (drop (i + 1) arrivals) ++ Close ∷ [])

  both_left : (a b : Bool) → (a && b) ≡ true → a ≡ true
  both_left true b e = refl
  both_left false b e = cc

  not_true : (b : Bool) → (b ≡ true → ⊥) → b ≡ false
  not_true b never = elim b as (λ v. (v ≡ true → ⊥) → v ≡ false) [ true ↦ λ f. absurd (f refl) | false ↦ λ f. refl ] never

  -- a reading that is refused is out of order
  pub out_of_order : (open_at : ℤ) (m : MergeState) (marks : List MarkView) (fault : ClockFault) → HasGiven stream open_at m (events_of_all stream (take i arrivals)) marks
      → clock_fault_of m.time m.closed a.time ≡ Some fault → is_well_timed open_at (history_of stream arrivals) ≡ false
  out_of_order open_at m marks fault given refused = not_true (is_well_timed open_at (history_of stream arrivals)) (λ timed.
      let first : is_well_timed open_at (events_of_all stream (take i arrivals) ++ Tick a.time ∷ []) ≡ true =
      both_left _ _ (sym (is_well_timed_from-append open_at false (events_of_all stream (take i arrivals) ++ Tick a.time ∷ []) rest) ∙ ap (is_well_timed open_at) (sym whole) ∙ timed) in
      let none : clock_fault_of m.time m.closed a.time ≡ None = in_time open_at m (events_of_all stream (take i arrivals)) a.time given.stands.time given.stands.closed first in
      let both : Some fault ≡ None = sym refused ∙ none in cc)

-- after a reading, no Quiet at its time is new
module _ (stream : Stream) (open_at : ℤ) (given : List MarkView) (u : ℤ) where
  past_no_self : (until : ℤ) (marks : List MarkView) → is_past_quiets until (marks ++ quiet_mark stream until ∷ []) ≡ false
  past_no_self until [] =
      let same : int_lt until until ≡ false = grind (arith, ints) in
      rw same refl
  past_no_self until (mark ∷ marks) = ap (λ b. is_past_quiet until mark.kind && b) (past_no_self until marks) ∙ no_second (is_past_quiet until mark.kind)
    where
      no_second : (b : Bool) → (b && false) ≡ false
      no_second false = refl
      no_second true = refl

  silent : (new : Bool) → is_quiet_new stream open_at given (u -ℤ pos stream.latency) ≡ new
      → is_quiet_new stream open_at (given ++ (if new then quiet_mark stream (u -ℤ pos stream.latency) ∷ [] else [])) (u -ℤ pos stream.latency) ≡ false
  silent false is = ap (λ l. is_quiet_new stream open_at l (u -ℤ pos stream.latency)) (append-nil given) ∙ is
  silent true is = no_third (not (has_slot (given ++ quiet_mark stream (u -ℤ pos stream.latency) ∷ []))) (int_lt (open_at -ℤ pos stream.latency) (u -ℤ pos stream.latency)) _ (past_no_self (u -ℤ pos stream.latency) given)
    where
      no_third : (a b c : Bool) → c ≡ false → (a && (b && c)) ≡ false
      no_third false b c e = refl
      no_third true false c e = refl
      no_third true true c e = e

  told : (copies : List (ℕ × Packet)) (o : Option Anchor) (time : ℤ)
      → is_quiet_new stream open_at (given ++ slots_or_quiet stream open_at given u (slots_between stream copies o time u)) (u -ℤ pos stream.latency) ≡ false
  told copies None time = silent _ refl
  told copies (Some a) time = by_count (next_number stream a u - next_number stream a time)
    where
      by_count : (count : ℕ) → is_quiet_new stream open_at (given ++ slots_or_quiet stream open_at given u (slots_from stream a copies (next_number stream a time) count)) (u -ℤ pos stream.latency) ≡ false
      by_count zero = silent _ refl
      by_count (suc count) = rw (has_slot-append given (slot_mark stream a (next_number stream a time) (body_of (first_with (next_number stream a time) copies))) (slots_from stream a copies (suc (next_number stream a time)) count) refl) refl

-- a reading that comes twice is as once
module _ (stream : Stream) (open_at : ℤ) (before : List Event) (u : ℤ) (open_yet : is_closed before ≡ false) (well_timed : is_well_timed open_at (before ++ Tick u ∷ []) ≡ true) where
  abbrev once : List Event
  once = before ++ Tick u ∷ []

  open_then : is_closed (before ++ Tick u ∷ []) ≡ false
  open_then = is_closed-append before (Tick u ∷ []) ∙ rw open_yet refl

  none_between : (o : Option Anchor) (copies : List (ℕ × Packet)) → slots_between stream copies o u u ≡ []
  none_between None copies = refl
  none_between (Some a) copies =
      let none : next_number stream a u - next_number stream a u ≡ 0 = omega arith in
      ap (slots_from stream a copies (next_number stream a u)) none

  same_marks : marks_of stream open_at ((before ++ Tick u ∷ []) ++ Tick u ∷ []) ≡ marks_of stream open_at (before ++ Tick u ∷ [])
  same_marks =
      let given = marks_of stream open_at once in
      let quiet : is_quiet_new stream open_at given (u -ℤ pos stream.latency) ≡ false =
      ap (λ l. is_quiet_new stream open_at l (u -ℤ pos stream.latency)) (marks_of-tick stream open_at before u open_yet) ∙ told stream open_at (marks_of stream open_at before) u (copies_of stream open_at before) (anchor_of stream open_at before) (time_of open_at before) in
      marks_of-tick stream open_at once u open_then
      ∙ ap (λ t. given ++ slots_or_quiet stream open_at given u (slots_between stream (copies_of stream open_at once) (anchor_of stream open_at once) t u)) (time_of-append open_at before (Tick u ∷ []))
      ∙ ap (λ l. given ++ slots_or_quiet stream open_at given u l) (none_between (anchor_of stream open_at once) (copies_of stream open_at once))
      ∙ rw quiet (append-nil given)

  pub twice_alike : IsAlike stream open_at ((before ++ Tick u ∷ []) ++ Tick u ∷ []) (before ++ Tick u ∷ [])
  twice_alike = record {
    well_timed = λ _. well_timed;
    time = time_of-append open_at once (Tick u ∷ []) ∙ sym (time_of-append open_at before (Tick u ∷ []));
    closed = is_closed-append once (Tick u ∷ []) ∙ rw open_then refl;
    fates = fates_of-tick stream open_at once u;
    anchor = anchor_of-tick stream open_at once u;
    heard = heard_of-tick stream open_at once u;
    standings = standings_of-tick stream open_at once u;
    copies = copies_of-tick stream open_at once u;
    marks = same_marks;
    before_close = rw (events_until_close-open (once ++ Tick u ∷ []) (is_closed-append once (Tick u ∷ []) ∙ rw open_then refl), events_until_close-open once open_then) same_marks;
  }

-- a list that goes on after one mark more
longer : (marks given all rest : List MarkView) (mark : MarkView) → given ≡ marks ++ mark ∷ [] → all ≡ given ++ rest → length all - length (marks ++ mark ∷ []) < length all - length marks
longer marks given all rest mark more is =
    let whole : length all ≡ length given + length rest = ap length is ∙ length-append given rest in
    let one : length given ≡ length (marks ++ mark ∷ []) = ap length more in
    let size : length (marks ++ mark ∷ []) ≡ length marks + 1 = length-append marks (mark ∷ []) in
    omega (arith, whole, one, size)

module _ (stream : Stream) (open_at : ℤ) (old new : MergeState) (now : ℤ) (events so_far : List Event) (marks : List MarkView) (before : HasGiven stream open_at old so_far marks)
    (same : IsAlike stream open_at (so_far ++ Tick now ∷ []) (events ++ Tick now ∷ [])) (free : clock_fault_of old.time old.closed now ≡ None) where
  abbrev stop : ℤ
  stop = stop_at stream old.anchor old.base now

  open_yet : is_closed so_far ≡ false
  open_yet = sym before.stands.closed ∙ (run.no_fault old.time old.closed now free).2

  -- the time after a step, with any mark
  moved : (mark : Option MarkView) → Moves old new now mark → (new.time ≤ℤ now) × (new.closed ≡ old.closed)
  moved mark moves = by_slot (is_slot_mark mark) moves
    where
      by_slot : (b : Bool) → MovesBy old new now b → (new.time ≤ℤ now) × (new.closed ≡ old.closed)
      by_slot true m = (m.1, m.2)
      by_slot false m = (let there = m.0 in omega (arith, ints, there), m.1)

  -- the rest of the reading comes after a mark
  goes_on : (mark : MarkView) (slot : Bool) → is_slot mark.kind ≡ slot → MovesBy old new now slot → Advances stream open_at old new so_far (length marks) now (Some mark)
      → IsAlike stream open_at ((so_far ++ Tick stop ∷ []) ++ Tick now ∷ []) (so_far ++ Tick now ∷ [])
  goes_on mark true is moves step = step.joins is
  goes_on mark false is moves step =
      let there : stop ≡ now = sym step.time ∙ moves.0 in
      subst (λ t. IsAlike stream open_at ((so_far ++ Tick t ∷ []) ++ Tick now ∷ []) (so_far ++ Tick now ∷ [])) (sym there)
      (twice_alike stream open_at so_far now open_yet (subst (λ t. is_well_timed open_at (so_far ++ Tick t ∷ []) ≡ true) there step.stands.well_timed))

  -- one mark more
  pub mark_more : (mark : MarkView) → Moves old new now (Some mark) → Advances stream open_at old new so_far (length marks) now (Some mark)
      → (h : List Event) × HasGiven stream open_at new h (marks ++ mark ∷ []) × IsAlike stream open_at (h ++ Tick now ∷ []) (events ++ Tick now ∷ [])
  mark_more mark moves step = (
    so_far ++ Tick stop ∷ [],
    record { stands = rw (length-append marks (mark ∷ [])) step.stands; all = ap (λ l. l ++ mark ∷ []) before.all ∙ sym step.gained },
    alike-trans stream open_at ((so_far ++ Tick stop ∷ []) ++ Tick now ∷ []) (so_far ++ Tick now ∷ []) (events ++ Tick now ∷ []) (goes_on mark (is_slot mark.kind) refl moves step) same,
  )

  -- the reading is still in order
  pub still_free : (mark : MarkView) → Moves old new now (Some mark) → (clock_fault_of new.time new.closed now ≡ None) × (new.closed ≡ old.closed)
  still_free mark moves =
      let no = run.no_fault old.time old.closed now free in
      let to = moved (Some mark) moves in
      (run.still_no_fault new.time new.closed now to.0 no.1 (to.1 ∙ no.2), to.1)

  -- fewer are left of all the marks to the reading
  pub fewer_left : (mark : MarkView) → Moves old new now (Some mark) → Advances stream open_at old new so_far (length marks) now (Some mark)
      → length (marks_of stream open_at (events ++ Tick now ∷ [])) - length (marks ++ mark ∷ []) < length (marks_of stream open_at (events ++ Tick now ∷ [])) - length marks
  fewer_left mark moves step =
      let shut : is_closed (so_far ++ Tick stop ∷ []) ≡ false = is_closed-append so_far (Tick stop ∷ []) ∙ rw open_yet refl in
      longer marks (marks_of stream open_at (so_far ++ Tick stop ∷ [])) _ _ mark (step.gained ∙ ap (λ l. l ++ mark ∷ []) (sym before.all))
      (sym same.marks ∙ sym (goes_on mark (is_slot mark.kind) refl moves step).marks ∙ marks_of-tick stream open_at (so_far ++ Tick stop ∷ []) now shut)

  -- the reading is reached
  pub reached : Moves old new now None → Advances stream open_at old new so_far (length marks) now None → HasGiven stream open_at new (events ++ Tick now ∷ []) marks × (new.closed ≡ old.closed)
  reached moves step = (rw append-nil at (run.last_step stream open_at old new now events so_far marks before same None moves.0 step), moves.1)

-- the fault that is returned
pub told_fault : {T : Type 0} (stream : Stream) (open_at : ℤ) (arrivals : List Arrival) (fault : ReceiveFault) (r : Result T ReceiveFault) → IsErrAnd r (λ e. e ≡ fault)
    → IsFaultOf stream open_at arrivals fault → IfErr r (IsFaultOf stream open_at arrivals)
told_fault stream open_at arrivals fault (Ok x) e is = tt
told_fault stream open_at arrivals fault (Err x) e is = subst (IsFaultOf stream open_at arrivals) (sym e) is

pub no_event : (events more : List Event) → more ≡ [] → events ++ more ≡ events
no_event events more none = ap (λ l. events ++ l) none ∙ append-nil events

module _ (stream : Stream) (a : Arrival) where
  -- no RTP packet
  pub refused_read : {V : Type 0} (r : Result V WireFault) → ((x : V) → r ≡ Ok x → ⊥) → IfErr r (λ f. wire_fault_of a.datagram.now ≡ Some f) → packets_in stream a ≡ []
  refused_read (Ok x) never fault = absurd (never x refl)
  refused_read (Err f) never fault = ap (λ w. event_in (Datagram a.path (reception_by a.datagram.now w (admit_fault_of stream (head_at a.datagram.now).pt (length (payload_at a.datagram.now)))))) fault

  by_admit : wire_fault_of a.datagram.now ≡ None → packets_in stream a ≡ event_in (Datagram a.path (reception_by a.datagram.now None (admit_fault_of stream (head_at a.datagram.now).pt (length (payload_at a.datagram.now)))))
  by_admit fine = ap (λ w. event_in (Datagram a.path (reception_by a.datagram.now w (admit_fault_of stream (head_at a.datagram.now).pt (length (payload_at a.datagram.now)))))) fine

  same : (p : Packet) → p.seq ≡ (head_at a.datagram.now).seq → p.ts ≡ (head_at a.datagram.now).ts → p.ssrc ≡ (head_at a.datagram.now).ssrc → p.payload.items ≡ payload_at a.datagram.now → p ≡ packet_at a.datagram.now
  same p seq ts ssrc octets =
      ap (λ n. record p { seq = n }) seq
      ∙ ap (λ n. record p { seq = (head_at a.datagram.now).seq; ts = n }) ts
      ∙ ap (λ n. record p { seq = (head_at a.datagram.now).seq; ts = (head_at a.datagram.now).ts; ssrc = n }) ssrc
      ∙ ap (λ l. record { seq = (head_at a.datagram.now).seq; ts = (head_at a.datagram.now).ts; ssrc = (head_at a.datagram.now).ssrc; payload = record { items = l } }) octets

  by_fault : (f : AdmitFault) → event_in (Datagram a.path (reception_by a.datagram.now None (Some f))) ≡ []
  by_fault WrongType = refl
  by_fault WrongLength = refl

  -- a packet of another stream
  pub refused_admit : {P : Type 0} (r : Result P AdmitFault) (pt : ℕ) (payload : List ℕ) → ((x : P) → r ≡ Ok x → ⊥) → wire_fault_of a.datagram.now ≡ None
      → pt ≡ (head_at a.datagram.now).pt → payload ≡ payload_at a.datagram.now → IfErr r (λ f. admit_fault_of stream pt (length payload) ≡ Some f) → packets_in stream a ≡ []
  refused_admit (Ok x) pt payload never fine pt_is payload_is fault = absurd (never x refl)
  refused_admit (Err f) pt payload never fine pt_is payload_is fault =
      by_admit fine
      ∙ ap (λ w. event_in (Datagram a.path (reception_by a.datagram.now None w))) (sym (ap (λ n. admit_fault_of stream n (length payload)) pt_is ∙ ap (λ l. admit_fault_of stream (head_at a.datagram.now).pt (length l)) payload_is) ∙ fault)
      ∙ by_fault f

  -- a packet of the stream
  pub admitted : (p : Packet) (pt : ℕ) (payload : List ℕ) → p.seq ≡ (head_at a.datagram.now).seq → p.ts ≡ (head_at a.datagram.now).ts → p.ssrc ≡ (head_at a.datagram.now).ssrc → p.payload.items ≡ payload
      → wire_fault_of a.datagram.now ≡ None → pt ≡ (head_at a.datagram.now).pt → payload ≡ payload_at a.datagram.now → admit_fault_of stream pt (length payload) ≡ None → packets_in stream a ≡ Arrive a.path p ∷ []
  admitted p pt payload seq ts ssrc octets fine pt_is payload_is none =
      by_admit fine
      ∙ ap (λ w. event_in (Datagram a.path (reception_by a.datagram.now None w))) (sym (ap (λ n. admit_fault_of stream n (length payload)) pt_is ∙ ap (λ l. admit_fault_of stream (head_at a.datagram.now).pt (length l)) payload_is) ∙ none)
      ∙ ap (λ (x : Packet). Arrive a.path x ∷ []) (sym (same p seq ts ssrc (octets ∙ payload_is)))
