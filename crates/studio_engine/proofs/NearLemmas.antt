-- The marks of a studio's streams lie near one another: while a block is not ready, the lanes have space for all marks.
use Rattle.std.proofs.Common.{◌≡◌, ℕ, suc, ◌+◌, ◌-◌, ◌<◌, ◌≤◌, Bool, true, false, not, ◌&&◌, ◌||◌, List, [], ◌∷◌, ◌++◌, length, set, Option, Some, None, slice_get, ℤ, pos, negsuc, ◌+ℤ◌, ◌-ℤ◌, ◌≤ℤ◌, ◌<ℤ◌, All, refl, sym, ap, subst, ◌∙◌, arith, if◌then◌else◌}
use Rattle.std.specs.Prelude.{nat_eq, nat_le, option_map}
use Rattle.std.specs.Int.{int_max}
use Rattle.std.specs.Option.{option_or}
use Rattle.std.proofs.lemmas.Bool.Decides.{nat_tests}
use Rattle.std.proofs.lemmas.Int.{by_lt_z, clamps, ints}
use Rattle.std.proofs.lemmas.List.{take_all}
use Rattle.std.proofs.lemmas.List.Elements.{All-head, All-tail, All-weaker}
use Rattle.std.proofs.lemmas.Option.{slice_get-map}
use Rattle.rtp_stream.specs.declared.stream_spec.Stream.{Stream}
use Rattle.rtp_stream.specs.declared.event.Event.{Event}
use Rattle.rtp_stream.specs.declared.event.Event.TheVariants.{Tick as StreamTick}
use Rattle.rtp_stream.specs.declared.mark.PacketFormat.{PacketFormat}
use Rattle.rtp_stream.specs.declared.mark.MarkKind.{MarkKind}
use Rattle.rtp_stream.specs.declared.mark.MarkKind.TheVariants.{End, Quiet, Slot}
use Rattle.rtp_stream.specs.declared.reception.Reception.{Reception}
use Rattle.rtp_stream.specs.declared.reception.Reception.TheVariants.{Bad, Sent, WrongLength, WrongType}
use Rattle.rtp_stream.specs.Epochs.{last_of}
use Rattle.rtp_stream.specs.History.{is_closed, time_of}
use Rattle.rtp_stream.specs.MarkFacts.{MarkView}
use Rattle.rtp_stream.specs.MarkList.{has_end, is_end}
use Rattle.rtp_stream.specs.Reception.{reception_of}
use Rattle.rtp_stream.specs.StreamSpecFacts.{format_of}
use Rattle.path_merge.specs.ClockLag.{IsDue, KeepUp, LastReaches}
use Rattle.path_merge.specs.Goal.{next_to}
use Rattle.path_merge.specs.MergeState.{MergeState}
use Rattle.path_merge.specs.NextMark.{next_left}
use Rattle.path_merge.proofs.HistoryLemmas.{time_of-append}
use Rattle.path_merge.proofs.ClockLagLemmas.{keep_up}
use Rattle.path_merge.proofs.LentLemmas.{lent_is_due}
use Rattle.lane_align.specs.Cover.{cover_of, cover_to, covers, last_quiet, last_slot, quiet_of, slot_of, time_reached}
use Rattle.lane_align.specs.Lane.{LaneState, frames_to, has_space_for, natural}
use Rattle.lane_align.specs.declared.last_slot.LastSlot.{LastSlot}
use Rattle.mix_packets.specs.Block.{block_start}
use Rattle.studio_config.specs.Studio.{Studio}
use Rattle.studio_mix.specs.Feed.{Feed}
use Rattle.studio_mix.specs.Mixer.{HasFeeds, MixerState, has_space_of, holds_of}
use Rattle.studio_mix.specs.Ready.{are_covered, have_ended}
use Rattle.studio_mix.specs.LaneCapacity.{greatest_lag, lag_of, capacity_for, capacity_of}
use Rattle.studio_mix.proofs.MixerLemmas.{next_start}
use Rattle.studio_session.specs.Cursor.{CursorState, IsRunnable, goal_of, next_of}
use Rattle.studio_session.specs.Event.{Arrival, Closing, Tick, TraceEvent}
use Rattle.studio_session.specs.Fault.{closed_at, time_at}
use Rattle.studio_session.specs.Play.{Plays, feeds_from, feeds_of, stream_marks}
use Rattle.studio_session.specs.ReadingSteps.{IsOnWay}
use Rattle.studio_session.specs.Session.{Datagram, Other, event_in, stream_history}
use Rattle.studio_session.proofs.PlayLemmas.{set_here, stream_at}
use Rattle.studio_engine.specs.Near.{HasCapacities, IsAwaited, MarksAreNear}

-- a datagram is no reading and no close
datagram_time : (time : ℤ) (path : ℕ) (reception : Reception) (history : List Event) → time_of time (event_in (Datagram path reception) ++ history) ≡ time_of time history
datagram_time time path (Sent packet) history = refl
datagram_time time path (Bad fault) history = refl
datagram_time time path WrongType history = refl
datagram_time time path WrongLength history = refl

datagram_open : (path : ℕ) (reception : Reception) (history : List Event) → is_closed (event_in (Datagram path reception) ++ history) ≡ is_closed history
datagram_open path (Sent packet) history = refl
datagram_open path (Bad fault) history = refl
datagram_open path WrongType history = refl
datagram_open path WrongLength history = refl

-- every stream's time is that of the events
pub stream_time : (stream : Stream) (number : ℕ) (time : ℤ) (events : List TraceEvent) → time_of time (stream_history stream number events) ≡ time_at time events
stream_time stream number time [] = refl
stream_time stream number time (Tick u ∷ events) = stream_time stream number u events
stream_time stream number time (Closing ∷ events) = stream_time stream number time events
stream_time stream number time (Arrival s path octets ∷ events) = by_test (nat_eq s number) ∙ stream_time stream number time events
  where
    by_test : (b : Bool) → time_of time (event_in (if b then Datagram path (reception_of stream octets) else Other) ++ stream_history stream number events) ≡ time_of time (stream_history stream number events)
    by_test true = datagram_time time path (reception_of stream octets) (stream_history stream number events)
    by_test false = refl

stays_closed : (events : List TraceEvent) → closed_at true events ≡ true
stays_closed [] = refl
stays_closed (Tick u ∷ events) = stays_closed events
stays_closed (Closing ∷ events) = stays_closed events
stays_closed (Arrival s path octets ∷ events) = stays_closed events

-- every stream is open if the events have no close
pub stream_open : (stream : Stream) (number : ℕ) (events : List TraceEvent) → closed_at false events ≡ false → is_closed (stream_history stream number events) ≡ false
stream_open stream number [] open_yet = refl
stream_open stream number (Tick u ∷ events) open_yet = stream_open stream number events open_yet
stream_open stream number (Closing ∷ events) open_yet = absurd (let shut = stays_closed events in cc)
stream_open stream number (Arrival s path octets ∷ events) open_yet = by_test (nat_eq s number) ∙ stream_open stream number events open_yet
  where
    by_test : (b : Bool) → is_closed (event_in (if b then Datagram path (reception_of stream octets) else Other) ++ stream_history stream number events) ≡ is_closed (stream_history stream number events)
    by_test true = datagram_open path (reception_of stream octets) (stream_history stream number events)
    by_test false = refl

-- the marks of a stream keep up with the time of the events
kept : (stream : Stream) (number : ℕ) (open_at : ℤ) (events : List TraceEvent) → IsRunnable stream number open_at events → closed_at false events ≡ false → KeepUp stream open_at (time_at open_at events) (stream_marks stream number open_at events)
kept stream number open_at events runs open_yet =
    subst (λ time. KeepUp stream open_at time (stream_marks stream number open_at events)) (stream_time stream number open_at events)
    (keep_up stream open_at (stream_history stream number events) runs.some_frames (record { well_timed = runs.well_timed; open_yet = stream_open stream number events open_yet }))

-- the marks reached this time
abbrev IsReached : ℤ → Option ℤ → Type 0
IsReached t None = ⊥
IsReached t (Some u) = t ≤ℤ u

reached_more : (frames : ℕ) (t : ℤ) (slot earlier : Option LastSlot) (quiet before : Option ℤ) → IsReached t (time_reached frames slot quiet) → IsReached t (time_reached frames (option_or slot earlier) (option_or quiet before))
reached_more frames t (Some s) earlier (Some q) before reached = reached
reached_more frames t (Some s) earlier None None reached = reached
reached_more frames t (Some s) earlier None (Some q) reached =
    let top = int_max (s.media +ℤ pos frames) q in
    omega (arith, ints, clamps)
reached_more frames t None None (Some q) before reached = reached
reached_more frames t None (Some s) (Some q) before reached =
    let top = int_max (s.media +ℤ pos frames) q in
    omega (arith, ints, clamps)
reached_more frames t None earlier None before reached = absurd reached

last_reached : (frames : ℕ) (t : ℤ) (marks : List MarkView) → LastReaches frames t (last_of marks) → IsReached t (time_reached frames (last_slot marks) (last_quiet marks))
last_reached frames t [] reaches = reaches
last_reached frames t (mark ∷ []) reaches = by_kind mark.kind reaches
  where
    by_kind : (kind : MarkKind) → LastReaches frames t (Some (record { format = mark.format; kind = kind })) → IsReached t (time_reached frames (slot_of kind) (quiet_of kind))
    by_kind (Slot epoch number media body) reaches = reaches
    by_kind (Quiet until) reaches = reaches
    by_kind End reaches = reaches
last_reached frames t (mark ∷ next ∷ marks) reaches =
    reached_more frames t (last_slot (next ∷ marks)) (slot_of mark.kind) (last_quiet (next ∷ marks)) (quiet_of mark.kind) (last_reached frames t (next ∷ marks) reaches)

-- marks that reached a time cover every time up to it
covered : (format : PacketFormat) (t limit : ℤ) (marks : List MarkView) → t ≤ℤ limit → LastReaches format.frames limit (last_of marks) → covers (cover_of format marks) t ≡ true
covered format t limit marks le reaches = by_end (has_end marks) (time_reached format.frames (last_slot marks) (last_quiet marks)) (last_reached format.frames limit marks reaches)
  where
    by_end : (ended : Bool) (reached : Option ℤ) → IsReached limit reached → covers (cover_to ended reached) t ≡ true
    by_end true reached is = refl
    by_end false None is = absurd is
    by_end false (Some u) is = grind (arith, ints, is, le)

-- every stream covers what is before the time of the events less the greatest lag
all_covered : (open_at : ℤ) (events : List TraceEvent) (number : ℕ) (streams : List Stream) (t : ℤ) → ((i : ℕ) (stream : Stream) → slice_get streams i ≡ Some stream → IsRunnable stream (number + i) open_at events)
    → closed_at false events ≡ false → open_at <ℤ time_at open_at events → t ≤ℤ (time_at open_at events -ℤ pos (greatest_lag streams)) → are_covered (feeds_from open_at events number streams) t ≡ true
all_covered open_at events number [] t runs open_yet past le = refl
all_covered open_at events number (stream ∷ streams) t runs open_yet past le =
    let here : number + 0 ≡ number = omega arith in
    let run : IsRunnable stream number open_at events = subst (λ n. IsRunnable stream n open_at events) here (runs 0 stream refl) in
    let first = (kept stream number open_at events run open_yet).last past in
    let top : lag_of stream ≤ greatest_lag (stream ∷ streams) = omega arith in
    let rest_top : greatest_lag streams ≤ greatest_lag (stream ∷ streams) = omega arith in
    let rest = all_covered open_at events (suc number) streams t (λ i s at. let n : number + suc i ≡ suc number + i = omega arith in subst (λ n. IsRunnable s n open_at events) n (runs (suc i) s at)) open_yet past (omega (arith, ints, le, rest_top)) in
    ap (λ b. b && are_covered (feeds_from open_at events (suc number) streams) t)
    (covered (format_of stream) t (time_at open_at events -ℤ pos (lag_of stream)) (stream_marks stream number open_at events) (omega (arith, ints, le, top)) first)
    ∙ rest

-- marks that are due have no end among them
no_end : (stream : Stream) (from to : ℤ) (marks : List MarkView) → All (λ mark. IsDue stream from to mark.kind) marks → has_end marks ≡ false
no_end stream from to [] due = refl
no_end stream from to (mark ∷ marks) due = rw (no_end stream from to marks (All-tail (λ mark. IsDue stream from to mark.kind) mark marks due)) (by_kind mark.kind (All-head (λ mark. IsDue stream from to mark.kind) mark marks due))
  where
    by_kind : (kind : MarkKind) → IsDue stream from to kind → (is_end kind || false) ≡ false
    by_kind (Slot epoch number media body) d = refl
    by_kind (Quiet until) d = refl
    by_kind End d = absurd d

not_ended : (open_at : ℤ) (events : List TraceEvent) (streams : List Stream) (i : ℕ) (stream : Stream) → slice_get streams i ≡ Some stream → ((i : ℕ) (stream : Stream) → slice_get streams i ≡ Some stream → IsRunnable stream i open_at events)
    → closed_at false events ≡ false → have_ended (feeds_from open_at events 0 streams) ≡ false
not_ended open_at events [] i stream at runs open_yet = absurd (let f : None ≡ Some stream = at in cc)
not_ended open_at events (first ∷ streams) i stream at runs open_yet =
    let due = (kept first 0 open_at events (runs 0 first refl) open_yet).due in
    ap (λ b. b && have_ended (feeds_from open_at events 1 streams)) (no_end first open_at (time_at open_at events) (stream_marks first 0 open_at events) due)

waiting : (all some more : Bool) → some ≡ false → (all && (not some || more)) ≡ false → all ≡ false
waiting false some more none e = refl
waiting true true more none e = cc
waiting true false more none e = cc

-- the natural number of an integer is at most `n` if the integer is
at_most : (z : ℤ) (n : ℕ) → z ≤ℤ pos n → natural z ≤ n
at_most (pos k) n le = omega (arith, ints, le)
at_most (negsuc k) n le = omega arith

-- a lane that lags by no more than its capacity allows has space for a mark that is due
space_for : (stream : Stream) (lane : LaneState) (lag block : ℕ) (open_at time begins : ℤ) (mark : MarkView) → lane.format ≡ format_of stream → lane.position ≡ begins → lane.capacity ≡ capacity_for lag block stream
    → (time -ℤ pos lag) <ℤ (begins +ℤ pos block) → IsDue stream open_at time mark.kind → has_space_for lane mark ≡ true
space_for stream lane lag block open_at time begins mark format position capacity near due = by_kind mark.kind due
  where
    frames : lane.format.frames ≡ stream.frames
    frames = ap (λ (f : PacketFormat). f.frames) format

    by_kind : (kind : MarkKind) → IsDue stream open_at time kind → nat_le (frames_to lane kind) lane.capacity ≡ true
    by_kind (Slot epoch number media body) d =
        let split : lag ≤ (lag - stream.latency) + stream.latency = omega arith in
        let le : ((media +ℤ pos lane.format.frames) -ℤ lane.position) ≤ℤ pos lane.capacity = omega (arith, ints, frames, position, capacity, near, d.not_after, split) in
        let short = at_most ((media +ℤ pos lane.format.frames) -ℤ lane.position) lane.capacity le in
        grind (arith, nat_tests, short)
    by_kind (Quiet until) d = grind (arith, nat_tests)
    by_kind End d = absurd d

module _ (studio : Studio) (events : List TraceEvent) (mixer : MixerState) (feeds : List Feed) (next : ℕ) (awaited : IsAwaited studio events next) (fed : HasFeeds studio mixer feeds next) (sized : HasCapacities studio mixer) where
  -- once the time is past the opening, the block ends after what all streams cover
  ends_later : (i : ℕ) (stream : Stream) → slice_get studio.streams i ≡ Some stream → studio.open_at <ℤ time_at studio.open_at events → (time_at studio.open_at events -ℤ pos (greatest_lag studio.streams)) <ℤ (block_start studio.output next +ℤ pos studio.output.frames)
  ends_later i stream at past = by_lt_z _ (block_start studio.output next +ℤ pos studio.output.frames) (λ lt. lt) (λ ge. absurd (
      let going = not_ended studio.open_at events studio.streams i stream at awaited.runs.each awaited.open_yet in
      let uncovered = waiting (are_covered (feeds_of studio events) (block_start studio.output (next + 1))) (have_ended (feeds_of studio events)) _ going awaited.unready in
      let e = next_start studio.output next in
      let all = all_covered studio.open_at events 0 studio.streams (block_start studio.output (next + 1)) (λ j s there. let n : j ≡ 0 + j = omega arith in subst (λ n. IsRunnable s n studio.open_at events) n (awaited.runs.each j s there)) awaited.open_yet past (omega (arith, ints, ge, e)) in
      cc))

  -- so the lane of a stream has space for each of its marks
  has_space : (i : ℕ) (stream : Stream) → slice_get studio.streams i ≡ Some stream → (mark : MarkView) → IsDue stream studio.open_at (time_at studio.open_at events) mark.kind → has_space_of mixer i mark ≡ true
  has_space i stream at mark due = by_lane (slice_get mixer.lanes i) refl (slice_get feeds i) refl
      (sym (slice_get-map (λ (lane : LaneState). lane.capacity) mixer.lanes i) ∙ ap (λ l. slice_get l i) sized.capacities ∙ slice_get-map (capacity_of studio) studio.streams i ∙ ap (option_map (capacity_of studio)) at)
      (sym (slice_get-map (λ (feed : Feed). feed.stream) feeds i) ∙ ap (λ l. slice_get l i) fed.streams ∙ at)
    where
      past : (kind : MarkKind) → IsDue stream studio.open_at (time_at studio.open_at events) kind → studio.open_at <ℤ time_at studio.open_at events
      past (Slot epoch number media body) d = omega (arith, ints, d.after, d.not_after)
      past (Quiet until) d = omega (arith, ints, d.after, d.not_after)
      past End d = absurd d

      by_lane : (o : Option LaneState) → slice_get mixer.lanes i ≡ o → (f : Option Feed) → slice_get feeds i ≡ f → option_map (λ (lane : LaneState). lane.capacity) o ≡ Some (capacity_of studio stream) → option_map (λ (feed : Feed). feed.stream) f ≡ Some stream → holds_of (λ lane. has_space_for lane mark) o ≡ true
      by_lane None lane_at f feed_at capacity is = absurd (let e : None ≡ Some (capacity_of studio stream) = capacity in cc)
      by_lane (Some lane) lane_at None feed_at capacity is = absurd (let e : None ≡ Some stream = is in cc)
      by_lane (Some lane) lane_at (Some feed) feed_at capacity is =
          let stands = fed.lanes.each i lane feed lane_at feed_at in
          let same : feed.stream ≡ stream = cc in
          let has : lane.capacity ≡ capacity_of studio stream = cc in
          space_for stream lane (greatest_lag studio.streams) studio.output.frames studio.open_at (time_at studio.open_at events) (block_start studio.output next) mark
          (stands.format ∙ ap format_of same) stands.position has (ends_later i stream at (past mark.kind due)) due

  pub near : MarksAreNear studio events mixer
  near = record {
    each = λ i stream at. All-weaker (λ mark. IsDue stream studio.open_at (time_at studio.open_at events) mark.kind) (λ mark. has_space_of mixer i mark ≡ true) (has_space i stream at)
        (stream_marks stream i studio.open_at events) (kept stream i studio.open_at events (awaited.runs.each i stream at) awaited.open_yet).due;
  }

-- the next mark of a cursor that took all events is due by their time
lent_due : (stream : Stream) (number : ℕ) (open_at : ℤ) (events : List TraceEvent) (merge : MergeState) (reading : Option ℤ) (k : ℕ) (mark : MarkView) → IsRunnable stream number open_at events → closed_at false events ≡ false
    → IsOnWay stream open_at merge reading (stream_history stream number events) k → next_to merge (goal_of reading) ≡ Some mark → IsDue stream open_at (time_at open_at events) mark.kind
lent_due stream number open_at events merge None k mark run open_yet way is = absurd (
    let shut : merge.closed ≡ false = way.closed ∙ stream_open stream number events open_yet in
    let left : next_left merge ≡ None = rw shut refl in
    let none : None ≡ Some mark = sym left ∙ is in
    cc)
lent_due stream number open_at events merge (Some u) k mark run open_yet way is =
    let there : u ≡ time_at open_at events = sym (time_of-append open_at way.0 (StreamTick u ∷ [])) ∙ way.3.time ∙ stream_time stream number open_at events in
    subst (λ time. IsDue stream open_at time mark.kind) there (lent_is_due stream open_at u merge way.0 k run.some_frames way.1 way.2 mark is)

-- the lane of a cursor that took all events has space for its next mark
pub lent_has_space : (studio : Studio) (events : List TraceEvent) (mixer : MixerState) (feeds : List Feed) (next number : ℕ) (cursor : CursorState) (mark : MarkView) → IsAwaited studio events next → HasCapacities studio mixer
    → number < length feeds → Plays studio events feeds next number mixer cursor → length events ≤ cursor.place → next_of cursor ≡ Some mark → has_space_of mixer number mark ≡ true
lent_has_space studio events mixer feeds next number cursor mark awaited sized within p taken is =
    let at = stream_at studio mixer (set feeds number p.feed) next number p.feed p.fed (set_here feeds number p.feed within) in
    let way : IsOnWay p.feed.stream studio.open_at cursor.merge cursor.reading (stream_history p.feed.stream number events) (length p.feed.marks) = subst (λ (es : List TraceEvent). IsOnWay p.feed.stream studio.open_at cursor.merge cursor.reading (stream_history p.feed.stream number es) (length p.feed.marks)) (take_all cursor.place events taken) p.given.pulled.stands in
    has_space studio events mixer (set feeds number p.feed) next awaited p.fed sized number p.feed.stream at mark
    (lent_due p.feed.stream number studio.open_at events cursor.merge cursor.reading (length p.feed.marks) mark (awaited.runs.each number p.feed.stream at) awaited.open_yet way is)
