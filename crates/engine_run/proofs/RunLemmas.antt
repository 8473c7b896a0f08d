-- A run, from its first round to its report.
use Rattle.std.proofs.Common.{◌≡◌, ℕ, ◌+◌, ◌<◌, ◌^◌, true, false, List, [], ◌∷◌, ◌++◌, length, map, ℤ, Option, Result, Ok, Err, IfOk, OnOk, is_err, refl, sym, ap, subst, ◌∙◌, arith, append-nil, length-append}
use Rattle.std.specs.declared.vec.Vec.{Vec}
use Rattle.std.specs.declared.alloc.Global.{Global}
use Rattle.std.proofs.lemmas.Bool.{false≢true}
use Rattle.rtp_stream.specs.declared.stream_spec.Stream.{Stream}
use Rattle.studio_config.specs.Studio.{Studio}
use Rattle.studio_mix.proofs.FirstBlockLemmas.{first_all}
use Rattle.studio_session.specs.Event.{TraceEvent}
use Rattle.studio_session.specs.Play.{feeds_of}
use Rattle.studio_session.specs.Report.{AreCounts}
use Rattle.studio_engine.specs.Engine.{EngineState, HasAllMarks}
use Rattle.studio_engine.specs.Session.{HasSession, shut, turned}
use Rattle.studio_engine.proofs.CountsLemmas.{settled_ready}
use Rattle.studio_io.specs.Answers.{Answer}
use Rattle.studio_io.specs.Clocks.{TellsTime, time_with}
use Rattle.studio_io.specs.FaultCounts.{AreFaultNumbers}
use Rattle.studio_io.specs.Sinks.{Hands}
use Rattle.studio_io.specs.declared.report.WorkReport.{WorkReport}
use Rattle.engine_run.specs.Asked.{left_by, until_end}
use Rattle.engine_run.specs.Rounds.{AreNext, AreRounds, GivesByRounds, Round, answers_of, datagrams_on, events_by, events_of, time_by}
use Rattle.engine_run.specs.Grouping.{grouped}
use Rattle.engine_run.specs.Runs.{AreTakenByRounds, HaveAllArrived, IsDone, IsSettledRun, IsTurned, IsUnderWay}
use Rattle.engine_run.specs.Output.{HasSent}
use Rattle.engine_run.specs.Intake.{AllEnded, HasCome, HaveBegun, HaveGiven, TakesAll}
use Rattle.engine_run.specs.Observers.{Closed, Heard, Hears, heard_by}
use Rattle.engine_run.specs.declared.state.RunState.{RunState}
use Rattle.engine_run.specs.declared.feed_reader.FeedReader.{FeedReader}
use Rattle.engine_run.proofs.RoundLemmas.{answers-last, answers-more, last-takes, next-more, next-none, one-round, rounds-front, rounds-more, rounds-open, time-arrivals, time-more}
use Rattle.engine_run.proofs.TakeLemmas.{given-more, given-none, given-turned}
use Rattle.engine_run.proofs.TellLemmas.{adds_more, adds_none, heard_turned, hears_close, hears_on}

-- what a result ensures that is not an error
pub on-fine : {T E : Type 0} (r : Result T E) (P : Type 0) → is_err r ≡ false → OnOk r P → P
on-fine (Ok x) P fine p = p
on-fine (Err e) P fine p = absurd (false≢true (sym fine))

-- five facts of an `Ok` result together
pub if-five : {T E : Type 0} (r : Result T E) (A B C D F Q : T → Type 0) → IfOk r A → IfOk r B → IfOk r C → IfOk r D → IfOk r F → ((x : T) → A x → B x → C x → D x → F x → Q x) → IfOk r Q
if-five (Ok x) A B C D F Q a b c d f all = all x a b c d f
if-five (Err e) A B C D F Q a b c d f all = tt

-- one fact of an `Ok` result
pub if-one : {T E : Type 0} (r : Result T E) (A Q : T → Type 0) → IfOk r A → ((x : T) → A x → Q x) → IfOk r Q
if-one (Ok x) A Q a all = all x a
if-one (Err e) A Q a all = tt

-- the count after more datagrams were sent and counted
count-more : (old mid : ℕ) (xs ys : List (List ℕ)) → (length xs < 2 ^ 64 → old ≡ length xs) → (old + length ys < 2 ^ 64 → mid ≡ old + length ys) → length (xs ++ ys) < 2 ^ 64 → mid ≡ length (xs ++ ys)
count-more old mid xs ys h k few =
    let sum = length-append xs ys in
    let old_is = h (omega (arith, few, sum)) in
    let mid_is = k (omega (arith, few, sum, old_is)) in
    omega (arith, old_is, mid_is, sum)

module _ {F C K T : Type 0} (feed_told : F → List Answer) (clock_told : C → List ℤ) (sink_handed : K → Option (List (List ℕ))) (observer_heard : T → Option (List Heard))
    (studio : Studio) (all : List (List (List Answer))) (clock : List ℤ) (before : Option (List (List ℕ))) (earlier : Option (List Heard)) where
  -- a run before its first round is under way
  pub run-begins : (feeds : List F) (state : RunState F C K T) (streams : List Stream) → streams ≡ studio.streams → all ≡ grouped studio.streams (map feed_told feeds) → clock ≡ clock_told state.clock → before ≡ sink_handed state.sink → earlier ≡ observer_heard state.observer
      → HasSession studio state.engine [] [] → HaveBegun streams feeds state.readers.items → state.counts.blocks ≡ 0 → IsUnderWay feed_told clock_told sink_handed observer_heard studio all clock before earlier state
  run-begins feeds state streams streams_are all_is clock_is before_is earlier_is s begun none = record {
    rounds = [];
    datagrams = [];
    stands = s;
    time = s.time;
    bounded = tt;
    clocked = λ later next. subst (λ l. AreNext l later) (sym clock_is) next;
    given = subst (λ l. HaveGiven feed_told l state.readers.items [] []) (sym all_is) (given-none feed_told studio.streams feeds state.readers.items (subst (λ (l : List Stream). HaveBegun l feeds state.readers.items) streams_are begun));
    count = λ few. none;
    handed = subst (λ o. Hands o [] (sink_handed state.sink)) (sym before_is) (adds_none (sink_handed state.sink));
    heard = subst (λ o. Hears o [] (observer_heard state.observer)) (sym earlier_is) (adds_none (observer_heard state.observer));
  }

  -- a run after one more clock reading
  pub turn-more : (old new : RunState F C K T) (h : IsUnderWay feed_told clock_told sink_handed observer_heard studio all clock before earlier old) (answer now : ℤ)
      → now ≡ time_with old.engine.time answer → TellsTime (clock_told old.clock) answer (clock_told new.clock)
      → HasSent studio new.engine (turned old.engine.time now (events_by studio.open_at h.rounds)) h.datagrams (sink_handed old.sink) (sink_handed new.sink) old.counts.blocks new.counts.blocks
      → new.engine.time ≡ now → new.readers.items ≡ old.readers.items → new.observer ≡ old.observer
      → IsTurned feed_told clock_told sink_handed observer_heard studio all clock before earlier new
  turn-more old new h answer now now_is tells sent there readers observer =
      let round : Round = record { answer = answer; asked = false; arrivals = [] } in
      let before_it = events_by studio.open_at h.rounds in
      let turn = turned old.engine.time now before_it in
      let events : turn ≡ events_by studio.open_at (h.rounds ++ round ∷ []) = sym (append-nil turn) ∙ one-round studio.open_at h.rounds answer false [] old.engine.time now h.time now_is in
      record {
        run = record {
          rounds = h.rounds ++ round ∷ [];
          datagrams = h.datagrams ++ sent.more;
          stands = subst (λ l. HasSession studio new.engine l (h.datagrams ++ sent.more)) events sent.stands;
          time = there ∙ (now_is ∙ (ap (λ t. time_with t answer) h.time ∙ sym (time-more studio.open_at h.rounds round)));
          bounded = rounds-more h.rounds round h.bounded (record { arrive = tt; few = λ stream path. omega arith; none = λ _. refl }, tt);
          clocked = λ later next. subst (AreNext clock) (answers-more h.rounds answer false [] later) (h.clocked (answer ∷ later) (next-more (clock_told old.clock) (clock_told new.clock) answer later tells next));
          given = subst (λ l. HaveGiven feed_told all new.readers.items l (h.rounds ++ round ∷ [])) events (subst (λ l. HaveGiven feed_told all l turn (h.rounds ++ round ∷ [])) (sym readers) (given-turned feed_told all old.readers.items old.engine.time now before_it h.rounds answer h.given));
          count = count-more old.counts.blocks new.counts.blocks h.datagrams sent.more h.count sent.count;
          handed = adds_more before (sink_handed old.sink) (sink_handed new.sink) h.datagrams sent.more h.handed sent.handed;
          heard = subst (λ l. Hears earlier (heard_by studio.streams studio.open_at [] l) (observer_heard new.observer)) events
              (subst (λ (t : T). Hears earlier (heard_by studio.streams studio.open_at [] turn) (observer_heard t)) (sym observer)
              (subst (λ l. Hears earlier l (observer_heard old.observer)) (sym (heard_turned studio.streams studio.open_at old.engine.time now before_it)) h.heard));
        };
        front = h.rounds;
        answer = answer;
        last = refl;
      }

  -- a call of the observer that is no notification changes nothing
  pub looked : (old : RunState F C K T) (observer : T) → IsTurned feed_told clock_told sink_handed observer_heard studio all clock before earlier old → Hears (observer_heard old.observer) [] (observer_heard observer)
      → IsTurned feed_told clock_told sink_handed observer_heard studio all clock before earlier (record old { observer = observer })
  looked old observer h none =
      let run = h.run in
      let told = heard_by studio.streams studio.open_at [] (events_by studio.open_at run.rounds) in
      record {
        run = record {
          rounds = run.rounds;
          datagrams = run.datagrams;
          stands = run.stands;
          time = run.time;
          bounded = run.bounded;
          clocked = run.clocked;
          given = run.given;
          count = run.count;
          handed = run.handed;
          heard = subst (λ l. Hears earlier l (observer_heard observer)) (append-nil told) (adds_more earlier (observer_heard old.observer) (observer_heard observer) told [] run.heard none);
        };
        front = h.front;
        answer = h.answer;
        last = h.last;
      }

  -- a run after the datagrams that arrived since the last clock reading
  pub take-more : (old new : RunState F C K T) (h : IsTurned feed_told clock_told sink_handed observer_heard studio all clock before earlier old) (olds news : List (Vec (FeedReader F) Global)) (count : ℕ) → count ≡ length olds
      → old.readers.items ≡ olds → new.readers.items ≡ news → new.clock ≡ old.clock → new.sink ≡ old.sink → new.counts ≡ old.counts
      → TakesAll feed_told studio new.engine (events_by studio.open_at h.run.rounds) h.run.datagrams olds news (observer_heard old.observer) (observer_heard new.observer) count
      → IsUnderWay feed_told clock_told sink_handed observer_heard studio all clock before earlier new
  take-more old new h olds news count all_count olds_is news_is clock_is sink_is counts_is t =
      let run = h.run in
      let last : Round = record { answer = h.answer; asked = false; arrivals = [] } in
      let round : Round = record { answer = h.answer; asked = true; arrivals = t.arrivals } in
      let before_it = events_by studio.open_at run.rounds in
      let events : before_it ++ t.arrivals ≡ events_by studio.open_at (h.front ++ round ∷ []) = ap (λ l. events_by studio.open_at l ++ t.arrivals) h.last ∙ sym (last-takes studio.open_at h.front h.answer t.arrivals) in
      let times : time_by studio.open_at run.rounds ≡ time_by studio.open_at (h.front ++ round ∷ []) = ap (time_by studio.open_at) h.last ∙ (time-more studio.open_at h.front last ∙ sym (time-more studio.open_at h.front round)) in
      let answers : answers_of run.rounds ≡ answers_of (h.front ++ round ∷ []) = ap answers_of h.last ∙ answers-last h.front h.answer t.arrivals in
      record {
        rounds = h.front ++ round ∷ [];
        datagrams = run.datagrams;
        stands = subst (λ l. HasSession studio new.engine l run.datagrams) events t.stands;
        time = t.stands.time ∙ (time-arrivals studio.open_at before_it t.arrivals t.arrive ∙ (sym run.stands.time ∙ (run.time ∙ times)));
        bounded = rounds-more h.front round (rounds-front h.front (last ∷ []) (subst AreRounds h.last run.bounded)) (record { arrive = t.arrive; few = t.few; none = λ e. absurd (false≢true (sym e)) }, tt);
        clocked = λ later next. subst (λ l. AreNext clock (l ++ later)) answers (run.clocked later (subst (λ (c : C). AreNext (clock_told c) later) clock_is next));
        given = subst (λ l. HaveGiven feed_told all new.readers.items l (h.front ++ round ∷ [])) events (subst (λ l. HaveGiven feed_told all l (before_it ++ t.arrivals) (h.front ++ round ∷ [])) (sym news_is)
            (given-more feed_told studio new.engine all olds news before_it run.datagrams (observer_heard old.observer) (observer_heard new.observer) count h.front h.answer all_count
            (subst (HaveGiven feed_told all olds before_it) h.last (subst (λ l. HaveGiven feed_told all l before_it run.rounds) olds_is run.given)) t));
        count = λ few. ap (λ counts. counts.blocks) counts_is ∙ run.count few;
        handed = subst (λ (k : K). Hands before run.datagrams (sink_handed k)) (sym sink_is) run.handed;
        heard = subst (λ l. Hears earlier (heard_by studio.streams studio.open_at [] l) (observer_heard new.observer)) events
            (hears_on studio.streams studio.open_at before_it earlier (observer_heard old.observer) (observer_heard new.observer) t.arrivals run.heard t.heard);
      }

  -- a run that was closed, and whose datagrams were all sent, has come to its end
  pub run-ends : (old new : RunState F C K T) (mid : EngineState) (h : IsUnderWay feed_told clock_told sink_handed observer_heard studio all clock before earlier old) → AllEnded old.readers.items
      → HasSession studio mid (shut old.engine.closed (events_by studio.open_at h.rounds)) h.datagrams
      → ((events : List TraceEvent) → HasSession studio mid events h.datagrams → HasSent studio new.engine events h.datagrams (sink_handed old.sink) (sink_handed new.sink) old.counts.blocks new.counts.blocks)
      → Hears (observer_heard old.observer) (Closed mid.time ∷ []) (observer_heard new.observer) → new.engine.settled ≡ true → HasAllMarks new.engine → IsDone sink_handed observer_heard studio all clock before earlier new
  run-ends old new mid h ended stands sends told settled whole =
      let open_yet : old.engine.closed ≡ false = h.stands.closed ∙ rounds-open false studio.open_at h.rounds h.bounded in
      let closed : HasSession studio mid (events_of studio h.rounds) h.datagrams = subst (λ b. HasSession studio mid (shut b (events_by studio.open_at h.rounds)) h.datagrams) open_yet stands in
      let sent = sends (events_of studio h.rounds) closed in
      record {
        rounds = h.rounds;
        datagrams = h.datagrams ++ sent.more;
        stands = sent.stands;
        settled = settled;
        whole = whole;
        bounded = h.bounded;
        clocked = subst (AreNext clock) (append-nil (answers_of h.rounds)) (h.clocked [] (next-none (clock_told old.clock)));
        arrived = λ stream path own told at there whole.
            let found = h.given.each stream own at in
            let reader = found.2 path told there in
            let over = ended stream found.0 found.1 path reader.0 reader.1 in
            subst (λ b. HasCome told b reader.0.state.in_a_row (feed_told reader.0.feed) (datagrams_on stream path (events_by studio.open_at h.rounds))) over (reader.2 whole);
        taken = λ stream path own told at there whole.
            let found = h.given.each stream own at in
            let reader = found.2 path told there in
            let over = ended stream found.0 found.1 path reader.0 reader.1 in
            subst (λ b. GivesByRounds stream path (until_end 0 told) h.rounds (left_by b reader.0.state.in_a_row (feed_told reader.0.feed))) over (reader.3 whole).1;
        count = count-more old.counts.blocks new.counts.blocks h.datagrams sent.more h.count sent.count;
        handed = adds_more before (sink_handed old.sink) (sink_handed new.sink) h.datagrams sent.more h.handed sent.handed;
        heard = hears_close studio.streams studio.open_at (events_by studio.open_at h.rounds) earlier (observer_heard old.observer) (observer_heard new.observer) mid.time closed.time h.heard told;
      }

  -- the report of a run that has come to its end
  pub run-settled : (feeds : List (List Answer)) (state : RunState F C K T) (report : WorkReport) (after : Option (List (List ℕ))) (later : Option (List Heard)) (d : IsDone sink_handed observer_heard studio all clock before earlier state)
      → all ≡ grouped studio.streams feeds → AreCounts studio (events_of studio d.rounds) report.streams.items → AreFaultNumbers feeds report.feed_faults.items → report.blocks ≡ state.counts.blocks → after ≡ sink_handed state.sink → later ≡ observer_heard state.observer
      → IsSettledRun studio feeds clock report before after earlier later
  run-settled feeds state report after later d all_is counts faults blocks after_is later_is = record {
    rounds = d.rounds;
    bounded = d.bounded;
    clocked = d.clocked;
    arrived = subst (λ l. HaveAllArrived studio l d.rounds) all_is d.arrived;
    taken = subst (λ l. AreTakenByRounds l d.rounds) all_is d.taken;
    lawful = d.stands.lawful;
    datagrams = d.datagrams;
    given = first_all studio (feeds_of studio (events_of studio d.rounds)) d.datagrams d.stands.given.first (settled_ready studio state.engine (events_of studio d.rounds) d.datagrams d.stands d.settled);
    counts = counts;
    faults = faults;
    count = λ few. blocks ∙ d.count few;
    handed = subst (Hands before d.datagrams) (sym after_is) d.handed;
    heard = subst (Hears earlier (heard_by studio.streams studio.open_at [] (events_of studio d.rounds))) (sym later_is) d.heard;
  }
