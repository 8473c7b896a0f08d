-- Turns and looks of a stream's end, one after another.
use Rattle.std.proofs.Common.{◌≡◌, ℕ, suc, ◌+◌, ◌≤◌, ◌^◌, Bool, true, false, List, [], ◌∷◌, ◌++◌, length, ℤ, pos, ◌≤ℤ◌, Vec, IfSome, IsSomeAnd, MatchOption, Option, Some, None, refl, sym, ap, subst, ◌∙◌, append_assoc, append-nil, arith, ◌⊎◌, inl, inr}
use Rattle.rtrb.specs.Ring.{all_sent, known_free, producer_capacity, received, sent, SameConsumer, SameProducer}
use Rattle.rtrb.specs.declared.consumer.Consumer.{Consumer}
use Rattle.rtrb.specs.declared.finished.Finished.{Finished}
use Rattle.rtp_stream.specs.declared.stream_spec.Stream.{Stream}
use Rattle.rtp_stream.specs.declared.packet.Packet.{Packet}
use Rattle.rtp_stream.specs.declared.event.Event.{Event}
use Rattle.rtp_stream.specs.declared.event.Event.TheVariants.{Tick}
use Rattle.rtp_stream.specs.Marks.{marks_of}
use Rattle.path_merge.specs.MergeState.{MergeState}
use Rattle.path_merge.specs.Clock.{clock_fault_of}
use Rattle.path_merge.specs.declared.clock.ClockFault.{ClockFault}
use Rattle.path_merge.proofs.RunLemmas.{still_no_fault}
use Rattle.studio_ends.specs.Fitting.{fitting}
use Rattle.studio_ends.specs.DrainedRing.{IsDrained}
use Rattle.studio_ends.specs.DrainedRings.{AllDrained, AllLookAt}
use Rattle.studio_ends.specs.StopReasons.{StopsFor}
use Rattle.studio_ends.specs.StreamTurns.{AllTakePackets, turn_events}
use Rattle.studio_ends.specs.Streams.{AllDelivered, ReadsClock, StreamHasHistory, TakesTurn}
use Rattle.studio_ends.specs.declared.rings.TokenConsumer.{TokenConsumer}
use Rattle.studio_ends.specs.declared.stream_end.StreamEnd.{StreamEnd}
use Rattle.studio_ends.specs.declared.stream_end.marks_out.StopReason.{StopReason}
use Rattle.studio_ends.specs.declared.stream_end.marks_out.StopReason.TheVariants.{CaughtUp, Batch, NoRoom}
use Rattle.studio_ends.specs.declared.stream_end.marks_out.TurnNote.{TurnNote}
use Rattle.studio_ends.proofs.CloseLemmas.{delivered-looked}
use Rattle.studio_ends.proofs.TurnLemmas.{producers}
use Rattle.studio_io.specs.Clocks.{TellsTime, time_with}
use Rattle.studio_rings.specs.ClockTurns.{AreFew, GoByClock, IsTurnAt, events_in}
use Rattle.studio_rings.specs.Turns.{AreSameRings, CatchesUp, GoesOn, HaveArrived, HaveTold, KeepsTokens, ReadsFirst}
use Rattle.studio_rings.specs.declared.worker.clocked_stream.ClockedStream.{ClockedStream}

-- two rings that are the same as a third are the same
pub consumers : {T A P : Type 0} (a b c : Consumer T A P) → SameConsumer a b → SameConsumer b c → SameConsumer a c
consumers a b c f g = ((g.0.0 ∙ f.0.0, g.0.1 ∙ f.0.1, g.0.2 ∙ f.0.2, g.0.3 ∙ f.0.3), g.1 ∙ f.1)

module _ {T : Type 0} where
  pub rings-self : (sides : List (TokenConsumer T)) → AreSameRings sides sides
  rings-self [] = tt
  rings-self (side ∷ sides) = (((refl, refl, refl, refl), refl), rings-self sides)

  pub rings-still : (olds news : List (TokenConsumer T)) → news ≡ olds → AreSameRings olds news
  rings-still olds news same = subst (λ l. AreSameRings olds l) (sym same) (rings-self olds)

  pub tokens-still : (olds news : List (TokenConsumer T)) → news ≡ olds → KeepsTokens olds news
  tokens-still olds news same lists told = subst (λ l. HaveTold l lists) (sym same) told

  pub rings-trans : (xs ys zs : List (TokenConsumer T)) → AreSameRings xs ys → AreSameRings ys zs → AreSameRings xs zs
  rings-trans [] [] [] f g = tt
  rings-trans (x ∷ xs) (y ∷ ys) (z ∷ zs) f g = (consumers x.ring y.ring z.ring f.0 g.0, rings-trans xs ys zs f.1 g.1)
  rings-trans [] [] (z ∷ zs) f g = absurd g
  rings-trans [] (y ∷ ys) zs f g = absurd f
  rings-trans (x ∷ xs) [] zs f g = absurd f
  rings-trans (x ∷ xs) (y ∷ ys) [] f g = absurd g

  pub rings-looked : (olds news : List (TokenConsumer T)) → AllLookAt olds news → AreSameRings olds news
  rings-looked [] [] h = tt
  rings-looked (o ∷ os) (n ∷ ns) h = (h.0.ring, rings-looked os ns h.1)
  rings-looked [] (n ∷ ns) h = absurd h
  rings-looked (o ∷ os) [] h = absurd h

  -- looking at a ring does not change what its token reports
  told_looked : {A P : Type 0} (all : List T) (old new : Option (Finished T A P)) → MatchOption old (new ≡ None) (λ d. IsSomeAnd new (λ e. all_sent e ≡ all_sent d)) → IfSome old (λ d. all_sent d ≡ all) → IfSome new (λ e. all_sent e ≡ all)
  told_looked all None new m h = subst (λ o. IfSome o (λ e. all_sent e ≡ all)) (sym m) tt
  told_looked all (Some d) None m h = tt
  told_looked all (Some d) (Some e) m h = m ∙ h

  pub tokens-looked : (olds news : List (TokenConsumer T)) → AllLookAt olds news → KeepsTokens olds news
  tokens-looked [] [] l lists h = h
  tokens-looked [] (n ∷ ns) l lists h = absurd l
  tokens-looked (o ∷ os) [] l lists h = absurd l
  tokens-looked (o ∷ os) (n ∷ ns) l [] h = absurd h
  tokens-looked (o ∷ os) (n ∷ ns) l (all ∷ lists) h = (told_looked all o.done n.done l.0.done h.0, tokens-looked os ns l.1 lists h.1)

  done_self : {A P : Type 0} (done : Option (Finished T A P)) → MatchOption done (done ≡ None) (λ d. IsSomeAnd done (λ e. all_sent e ≡ all_sent d))
  done_self None = refl
  done_self (Some d) = refl

  looks_self : (sides : List (TokenConsumer T)) → AllLookAt sides sides
  looks_self [] = tt
  looks_self (side ∷ sides) = (record { ring = ((refl, refl, refl, refl), refl); received_is = refl; done = done_self side.done }, looks_self sides)

  -- a drained ring received what its token reports
  received_told : {A P : Type 0} (all : List T) (ring : Consumer T A P) (done : Option (Finished T A P)) → IsDrained ring done → IfSome done (λ d. all_sent d ≡ all) → received ring ≡ all
  received_told all ring None h told = absurd h
  received_told all ring (Some d) h told = h ∙ told

-- looking at the rings, or not looking at any
pub looked-either : (s t : StreamEnd) → AllLookAt s.sides.items t.sides.items ⊎ (t ≡ s) → AllLookAt s.sides.items t.sides.items
looked-either s t (inl looked) = looked
looked-either s t (inr same) = subst (λ (x : StreamEnd). AllLookAt s.sides.items x.sides.items) (sym same) (looks_self s.sides.items)

pub rings-taken : (olds news : List (TokenConsumer Packet)) (taken : List (List Packet)) → AllTakePackets olds news taken → AreSameRings olds news
rings-taken [] [] [] h = tt
rings-taken (o ∷ os) (n ∷ ns) (packets ∷ more) h = (h.0.ring, rings-taken os ns more h.1)
rings-taken [] (n ∷ ns) taken h = absurd h
rings-taken [] [] (packets ∷ more) h = absurd h
rings-taken (o ∷ os) [] taken h = absurd h
rings-taken (o ∷ os) (n ∷ ns) [] h = absurd h

-- the packets that were taken, if the rings were unchanged before
pub took-first : (s m t : StreamEnd) (taken : List (List Packet)) → m.sides ≡ s.sides → AllTakePackets m.sides.items t.sides.items taken → AllTakePackets s.sides.items t.sides.items taken
took-first s m t taken same took = subst (λ (v : Vec (TokenConsumer Packet) _). AllTakePackets v.items t.sides.items taken) same took

pub tokens-taken : (olds news : List (TokenConsumer Packet)) (taken : List (List Packet)) → AllTakePackets olds news taken → KeepsTokens olds news
tokens-taken [] [] [] h lists told = told
tokens-taken (o ∷ os) (n ∷ ns) (packets ∷ more) h [] told = absurd told
tokens-taken (o ∷ os) (n ∷ ns) (packets ∷ more) h (all ∷ lists) told =
    (subst (λ d. IfSome d (λ e. all_sent e ≡ all)) (sym h.0.done) told.0, tokens-taken os ns more h.1 lists told.1)
tokens-taken [] (n ∷ ns) taken h lists told = absurd h
tokens-taken [] [] (packets ∷ more) h lists told = absurd h
tokens-taken (o ∷ os) [] taken h lists told = absurd h
tokens-taken (o ∷ os) (n ∷ ns) [] h lists told = absurd h

pub events-joined : (xs ys : List (List Event)) → events_in (xs ++ ys) ≡ events_in xs ++ events_in ys
events-joined [] ys = refl
events-joined (x ∷ xs) ys = ap (λ l. x ++ l) (events-joined xs ys) ∙ sym (append_assoc x (events_in xs) (events_in ys))

-- a turn after one more clock reading, and the turns that follow it
one_more : (stream : Stream) (open_at : ℤ) (places : ℕ) (time answer now : ℤ) (told rest : List ℤ) (before turn : List Event) (later : List (List Event))
    → TellsTime told answer rest → now ≡ time_with time answer → IsTurnAt stream open_at places now before turn
    → GoByClock stream open_at places now rest (before ++ (turn ++ [])) later → GoByClock stream open_at places time told before (turn ∷ later)
one_more stream open_at places time answer now [] rest before turn later tells is at more = tt
one_more stream open_at places time answer now (next ∷ told) rest before turn later tells is at more =
    let same : now ≡ time_with time next = is ∙ ap (time_with time) tells.0 in (
      subst (λ t. IsTurnAt stream open_at places t before turn) same at,
      subst (λ t. GoByClock stream open_at places t told (before ++ turn) later) same
          (subst (λ l. GoByClock stream open_at places now l (before ++ turn) later) tells.1
          (subst (λ l. GoByClock stream open_at places now rest (before ++ l) later) (append-nil turn) more)),
    )

stopped : (why : StopReason) (reached now : ℤ) (marks free : ℕ) (A B : Type 0) → StopsFor why reached now marks free → (marks ≡ 64 → A) → (free ≡ 0 → B) → (reached ≡ now) ⊎ (A ⊎ B)
stopped CaughtUp reached now marks free A B h batch space = inl h
stopped Batch reached now marks free A B h batch space = inr (inl (batch h))
stopped NoRoom reached now marks free A B h batch space = inr (inr (space h))

-- all marks of an open stream's history were sent
sent_all : (stream : Stream) (open_at : ℤ) (s : StreamEnd) (events : List Event) → s.merge.closed ≡ false → StreamHasHistory stream open_at s events → length (sent s.marks) ≡ length (marks_of stream open_at events)
sent_all stream open_at s events shut h = h.merge.all_given (sym h.merge.closed ∙ shut)

-- before the packets there was no event, or a clock reading
pub first-none : (s : StreamEnd) (now : ℤ) → s.merge.closed ≡ false → s.merge.time ≤ℤ now → ReadsFirst s now s
first-none s now shut low = record {
  first = [];
  early = inl refl;
  sides = refl;
  ring = ((refl, refl, refl, refl), refl);
  more = omega arith;
  spec = refl;
  still_open = shut;
  not_after = low;
  stands = λ stream open_at events h. subst (StreamHasHistory stream open_at s) (sym (append-nil events)) h;
}

pub first-read : (s t : StreamEnd) (now : ℤ) (why : StopReason) → ReadsClock s now why t → ReadsFirst s now t
first-read s t now why r = record {
  first = Tick t.merge.time ∷ [];
  early = inr (t.merge.time, r.not_after, refl);
  sides = r.sides;
  ring = r.ring;
  more = let e = r.more in omega (arith, e);
  spec = r.spec;
  still_open = r.still_open;
  not_after = r.not_after;
  stands = r.stands;
}

-- of each path at most 64 packets were taken
few-taken : (olds news : List (TokenConsumer Packet)) (taken : List (List Packet)) → AllTakePackets olds news taken → AreFew taken
few-taken [] [] [] h = tt
few-taken (o ∷ os) (n ∷ ns) (packets ∷ more) h = (h.0.most, few-taken os ns more h.1)
few-taken [] (n ∷ ns) taken h = absurd h
few-taken [] [] (packets ∷ more) h = absurd h
few-taken (o ∷ os) [] taken h = absurd h
few-taken (o ∷ os) (n ∷ ns) [] h = absurd h

pub is-turn-at : (stream : Stream) (open_at : ℤ) (places : ℕ) (s m t : StreamEnd) (now : ℤ) (note : TurnNote) (events : List Event) (f : ReadsFirst s now m) (n : TakesTurn m now note t)
    → s.merge.closed ≡ false → producer_capacity s.marks ≡ places → StreamHasHistory stream open_at s events → IsTurnAt stream open_at places now events (f.first ++ turn_events stream n.taken note.reached)
is-turn-at stream open_at places s m t now note events f n shut space h =
    let turn = f.first ++ turn_events stream n.taken note.reached in
    let whole : (events ++ f.first) ++ turn_events stream n.taken note.reached ≡ events ++ turn = append_assoc events f.first (turn_events stream n.taken note.reached) in
    let stands : StreamHasHistory stream open_at t (events ++ turn) = subst (StreamHasHistory stream open_at t) whole (n.stands stream open_at (events ++ f.first) (f.stands stream open_at events h)) in
    let before : length (sent s.marks) ≡ length (marks_of stream open_at events) = sent_all stream open_at s events shut h in
    let after : length (sent t.marks) ≡ length (marks_of stream open_at (events ++ turn)) = sent_all stream open_at t (events ++ turn) n.still_open stands in
    let first : length (sent s.marks) ≤ length (sent m.marks) = f.more in
    let gained : length (sent t.marks) ≡ length (sent m.marks) + note.marks = n.marks in
    let same : t.marks.capacity ≡ s.marks.capacity = n.ring.1 ∙ f.ring.1 in
    let within : t.marks.capacity ≤ t.marks.end.limit = t.marks.counts.0 in
    record {
      first = f.first;
      early = f.early;
      taken = n.taken;
      few = few-taken m.sides.items t.sides.items n.taken n.took;
      reached = note.reached;
      ends = refl;
      most = n.not_after;
      caught_up = stopped note.why_stopped note.reached now note.marks (known_free t.marks) _ _ n.stop (λ e. omega (arith, e, before, after, first, gained)) (λ e. omega (arith, e, after, same, within, space));
    }

-- a reading without packets is a turn, wherever the turns before it stopped
pub is-reading-at : (stream : Stream) (open_at : ℤ) (places : ℕ) (s t : StreamEnd) (now : ℤ) (why : StopReason) (events : List Event) (r : ReadsClock s now why t)
    → s.merge.closed ≡ false → producer_capacity s.marks ≡ places → StreamHasHistory stream open_at s events → IsTurnAt stream open_at places now events (Tick t.merge.time ∷ [])
is-reading-at stream open_at places s t now why events r shut space h =
    let before : length (sent s.marks) ≡ length (marks_of stream open_at events) = sent_all stream open_at s events shut h in
    let after : length (sent t.marks) ≡ length (marks_of stream open_at (events ++ Tick t.merge.time ∷ [])) = sent_all stream open_at t (events ++ Tick t.merge.time ∷ []) r.still_open (r.stands stream open_at events h) in
    let gained : length (sent t.marks) ≡ length (sent s.marks) + r.marks = r.more in
    let same : t.marks.capacity ≡ s.marks.capacity = r.ring.1 in
    let within : t.marks.capacity ≤ t.marks.end.limit = t.marks.counts.0 in
    record {
      first = [];
      early = inl refl;
      taken = [];
      few = tt;
      reached = t.merge.time;
      ends = refl;
      most = r.not_after;
      caught_up = stopped why t.merge.time now r.marks (known_free t.marks) _ _ r.stop (λ e. omega (arith, e, before, after, gained)) (λ e. omega (arith, e, after, same, within, space));
    }

-- how far a reading without packets came
pub reads-up : (s t : StreamEnd) (now time : ℤ) (why : StopReason) → now ≡ time → ReadsClock s now why t → CatchesUp s time t
reads-up s t now time why same r =
    let gained = r.more in
    let stop : StopsFor why t.merge.time time r.marks (known_free t.marks) = subst (λ u. StopsFor why t.merge.time u r.marks (known_free t.marks)) same r.stop in
    stopped why t.merge.time time r.marks (known_free t.marks) (length (sent s.marks) + 64 ≤ length (sent t.marks)) (known_free t.marks ≡ 0) stop (λ e. omega (arith, e, gained)) (λ e. e)

-- how far a turn came, whatever came before its packets
pub catches-up : (s m t : StreamEnd) (first_at now time : ℤ) (note : TurnNote) → now ≡ time → ReadsFirst s first_at m → TakesTurn m now note t → CatchesUp s time t
catches-up s m t first_at now time note same f n =
    let first = f.more in
    let gained = n.marks in
    let stop : StopsFor note.why_stopped note.reached time note.marks (known_free t.marks) = subst (λ u. StopsFor note.why_stopped note.reached u note.marks (known_free t.marks)) same n.stop in
    subst (λ r. (r ≡ time) ⊎ ((length (sent s.marks) + 64 ≤ length (sent t.marks)) ⊎ (known_free t.marks ≡ 0))) n.reached
    (stopped note.why_stopped note.reached time note.marks (known_free t.marks) (length (sent s.marks) + 64 ≤ length (sent t.marks)) (known_free t.marks ≡ 0) stop (λ e. omega (arith, e, first, gained)) (λ e. e))

module _ {C : Type 0} (told : C → List ℤ) where
  -- the history, the clock and the time are as they were
  pub goes-still : (s t : ClockedStream C) → AreSameRings s.end.sides.items t.end.sides.items → SameProducer s.end.marks t.end.marks → t.end.spec ≡ s.end.spec → t.now ≡ s.now → t.clock ≡ s.clock
      → ((stream : Stream) (open_at : ℤ) (events : List Event) → StreamHasHistory stream open_at s.end events → StreamHasHistory stream open_at t.end events) → GoesOn told s t
  goes-still s t rings marks spec now clock stands = record {
    rings = rings;
    marks = marks;
    spec = spec;
    turns = λ stream. [];
    stands = λ stream open_at events h. subst (StreamHasHistory stream open_at t.end) (sym (append-nil events)) (stands stream open_at events h);
    timed = λ stream open_at events places later h space g.
        subst (λ es. GoByClock stream open_at places s.now (told s.clock) es later) (append-nil events)
        (subst (λ n. GoByClock stream open_at places n (told s.clock) (events ++ []) later) now
        (subst (λ (c : C). GoByClock stream open_at places t.now (told c) (events ++ []) later) clock g));
  }

  pub goes-none : (s : ClockedStream C) → GoesOn told s s
  goes-none s = goes-still s s (rings-self s.end.sides.items) ((refl, refl, refl, refl), refl) refl refl refl (λ stream open_at events h. h)

  pub goes-trans : (s t u : ClockedStream C) → GoesOn told s t → GoesOn told t u → GoesOn told s u
  goes-trans s t u f g = record {
    rings = rings-trans s.end.sides.items t.end.sides.items u.end.sides.items f.rings g.rings;
    marks = producers s.end.marks t.end.marks u.end.marks f.marks g.marks;
    spec = g.spec ∙ f.spec;
    turns = λ stream. f.turns stream ++ g.turns stream;
    stands = λ stream open_at events h. subst (StreamHasHistory stream open_at u.end) (whole stream events) (g.stands stream open_at (events ++ events_in (f.turns stream)) (f.stands stream open_at events h));
    timed = λ stream open_at events places later h space last.
        subst (λ l. GoByClock stream open_at places s.now (told s.clock) events l) (sym (append_assoc (f.turns stream) (g.turns stream) later))
        (f.timed stream open_at events places (g.turns stream ++ later) h space
        (g.timed stream open_at (events ++ events_in (f.turns stream)) places later (f.stands stream open_at events h) (f.marks.1 ∙ space)
        (subst (λ es. GoByClock stream open_at places u.now (told u.clock) es later) (sym (whole stream events)) last)));
  }
    where
      whole : (stream : Stream) (events : List Event) → (events ++ events_in (f.turns stream)) ++ events_in (g.turns stream) ≡ events ++ events_in (f.turns stream ++ g.turns stream)
      whole stream events = append_assoc events (events_in (f.turns stream)) (events_in (g.turns stream)) ∙ ap (λ l. events ++ l) (sym (events-joined (f.turns stream) (g.turns stream)))

  -- a stream went on by a turn at the clock's next reading, whatever came before its packets
  pub goes-turn : (s t : ClockedStream C) (m : StreamEnd) (answer first_at now : ℤ) (note : TurnNote) → TellsTime (told s.clock) answer (told t.clock) → t.now ≡ time_with s.now answer → first_at ≡ t.now → now ≡ t.now → ReadsFirst s.end first_at m → TakesTurn m now note t.end → GoesOn told s t
  goes-turn s t m answer first_at now note tells is first_same same first' n' =
      let f : ReadsFirst s.end t.now m = subst (λ u. ReadsFirst s.end u m) first_same first' in
      let n : TakesTurn m t.now note t.end = subst (λ u. TakesTurn m u note t.end) same n' in
      record {
        rings = rings-taken s.end.sides.items t.end.sides.items n.taken (took-first s.end m t.end n.taken f.sides n.took);
        marks = producers s.end.marks m.marks t.end.marks f.ring n.ring;
        spec = n.spec ∙ f.spec;
        turns = λ stream. (f.first ++ turn_events stream n.taken note.reached) ∷ [];
        stands = λ stream open_at events h.
            subst (StreamHasHistory stream open_at t.end) (append_assoc events f.first (turn_events stream n.taken note.reached) ∙ ap (λ l. events ++ l) (sym (append-nil (f.first ++ turn_events stream n.taken note.reached))))
            (n.stands stream open_at (events ++ f.first) (f.stands stream open_at events h));
        timed = λ stream open_at events places later h space last.
            one_more stream open_at places s.now answer t.now (told s.clock) (told t.clock) events (f.first ++ turn_events stream n.taken note.reached) later tells is
            (is-turn-at stream open_at places s.end m t.end t.now note events f n s.open_yet space h) last;
      }

  -- a stream went on by a reading of its clock without packets
  pub goes-reading : (s t : ClockedStream C) (answer now : ℤ) (why : StopReason) → TellsTime (told s.clock) answer (told t.clock) → t.now ≡ time_with s.now answer → now ≡ t.now → ReadsClock s.end now why t.end → GoesOn told s t
  goes-reading s t answer now why tells is same r' =
      let r : ReadsClock s.end t.now why t.end = subst (λ u. ReadsClock s.end u why t.end) same r' in
      record {
        rings = rings-still s.end.sides.items t.end.sides.items (ap (λ (v : Vec (TokenConsumer Packet) _). v.items) r.sides);
        marks = r.ring;
        spec = r.spec;
        turns = λ stream. (Tick t.end.merge.time ∷ []) ∷ [];
        stands = λ stream open_at events h. r.stands stream open_at events h;
        timed = λ stream open_at events places later h space last.
            one_more stream open_at places s.now answer t.now (told s.clock) (told t.clock) events (Tick t.end.merge.time ∷ []) later tells is
            (is-reading-at stream open_at places s.end t.end t.now why events r s.open_yet space h) last;
      }

  -- a stream went on by a look that found a path open
  pub goes-look : (s t : ClockedStream C) → AllLookAt s.end.sides.items t.end.sides.items → t.end.merge ≡ s.end.merge → t.end.marks ≡ s.end.marks → t.end.spec ≡ s.end.spec → t.now ≡ s.now → t.clock ≡ s.clock → GoesOn told s t
  goes-look s t looked merge marks spec now clock = goes-still s t (rings-looked s.end.sides.items t.end.sides.items looked) (rw marks (((refl, refl, refl, refl), refl))) spec now clock
      (λ stream open_at events h. record {
        some_frames = h.some_frames;
        merge = rw (merge, marks) h.merge;
        delivered = delivered-looked stream 0 s.end.sides.items t.end.sides.items events looked h.delivered;
        marks = rw marks h.marks;
      })

-- everything that the tokens report arrived, if all rings are drained
arrived : (stream : Stream) (path : ℕ) (olds news : List (TokenConsumer Packet)) (lists : List (List Packet)) (events : List Event)
    → AllLookAt olds news → AllDrained news → HaveTold olds lists → AllDelivered stream path olds events → HaveArrived stream path lists events
arrived stream path [] [] [] events l d told h = h
arrived stream path [] [] (all ∷ lists) events l d told h = absurd told
arrived stream path [] (n ∷ ns) lists events l d told h = absurd l
arrived stream path (o ∷ os) [] lists events l d told h = absurd l
arrived stream path (o ∷ os) (n ∷ ns) [] events l d told h = absurd told
arrived stream path (o ∷ os) (n ∷ ns) (all ∷ lists) events l d told h =
    let same : received n.ring ≡ all = received_told all n.ring n.done d.0 (told_looked all o.done n.done l.0.done told.0) in
    (h.0 ∙ ap (fitting stream) (sym l.0.received_is ∙ same), arrived stream (suc path) os ns lists events l.1 d.1 told.1 h.1)

pub arrived-drained : (s t : StreamEnd) → AllLookAt s.sides.items t.sides.items → AllDrained t.sides.items
    → (stream : Stream) (open_at : ℤ) (events : List Event) (lists : List (List Packet)) → HaveTold s.sides.items lists → StreamHasHistory stream open_at s events → HaveArrived stream 0 lists events
arrived-drained s t looked drained stream open_at events lists told h = arrived stream 0 s.sides.items t.sides.items lists events looked drained told h.delivered

pub never : (time now at : ℤ) (closed : Bool) (fault : ClockFault) → now ≡ at → clock_fault_of time closed now ≡ Some fault → time ≤ℤ at → at ≤ℤ pos (2 ^ 60) → closed ≡ false → ⊥
never time now at closed fault same is low high shut = none_some (clock_fault_of time closed at) (still_no_fault time closed at low high shut) (subst (λ t. clock_fault_of time closed t ≡ Some fault) same is)
  where
    none_some : (o : Option ClockFault) → o ≡ None → o ≡ Some fault → ⊥
    none_some o a b = let e : None ≡ Some fault = sym a ∙ b in absurd (cc)

pub same_marks : (s t : StreamEnd) → t.marks ≡ s.marks → SameProducer s.marks t.marks
same_marks s t same = rw same (((refl, refl, refl, refl), refl))

pub is_closed_by : (m w : MergeState) → w ≡ record m { closed = true } → w.closed ≡ true
is_closed_by m w same = ap (λ (x : MergeState). x.closed) same
