-- The result of a run in one thread.
use Rattle.std.specs.Prelude.{◌≡◌, ℕ, ◌<◌, ◌^◌, true, false, None, List, [], ◌∷◌, ◌++◌, length, slice_get, ℤ, Option, Some}
use Rattle.studio_config.specs.Studio.{Studio}
use Rattle.studio_mix.specs.Changed.{with_changes}
use Rattle.studio_session.specs.Fault.{session_fault_of}
use Rattle.studio_session.specs.Report.{AreCounts}
use Rattle.studio_session.specs.Run.{AreDatagrams}
use Rattle.studio_engine.specs.Engine.{HasAllMarks}
use Rattle.studio_engine.specs.Session.{HasSession}
use Rattle.studio_io.specs.Answers.{Answer, reaches_end, told_datagrams}
use Rattle.studio_io.specs.FaultCounts.{AreFaultNumbers}
use Rattle.studio_io.specs.Sinks.{Hands}
use Rattle.studio_io.specs.declared.report.WorkReport.{WorkReport}
use Rattle.engine_run.specs.Asked.{until_end}
use Rattle.engine_run.specs.Rounds.{AreNext, AreRounds, GivesByRounds, Round, answers_of, datagrams_on, events_by, events_of, time_by}
use Rattle.engine_run.specs.Grouping.{grouped}
use Rattle.engine_run.specs.Intake.{HaveGiven}
use Rattle.engine_run.specs.Observers.{Heard, Hears, heard_by}
use Rattle.engine_run.specs.declared.state.RunState.{RunState}

-- for each feed whose results are known to its end, the events have exactly its datagrams on its path
abbrev pub HaveAllArrived : Studio → List (List (List Answer)) → List Round → Type 0
HaveAllArrived studio all rounds = (stream path : ℕ) (own : List (List Answer)) (told : List Answer) → slice_get all stream ≡ Some own → slice_get own path ≡ Some told
    → reaches_end 0 told ≡ true → datagrams_on stream path (events_by studio.open_at rounds) ≡ told_datagrams 0 told

-- each round that calls the feeds called each feed whose results are known to its end until it returned no datagram,
-- but at most 64 times: so each of its datagrams has the reading of the round in which it was taken
abbrev pub AreTakenByRounds : List (List (List Answer)) → List Round → Type 0
AreTakenByRounds all rounds = (stream path : ℕ) (own : List (List Answer)) (told : List Answer) → slice_get all stream ≡ Some own → slice_get own path ≡ Some told
    → reaches_end 0 told ≡ true → GivesByRounds stream path (until_end 0 told) rounds []

module _ {F C K T : Type 0} where
  -- a run that began with these known results of its feeds and readings of its clock is under way
  pub record IsUnderWay (feed_told : F → List Answer) (clock_told : C → List ℤ) (sink_handed : K → Option (List (List ℕ))) (observer_heard : T → Option (List Heard)) (studio : Studio) (all : List (List (List Answer))) (clock : List ℤ) (before : Option (List (List ℕ))) (earlier : Option (List Heard)) (state : RunState F C K T) : Type 0 where
    pub rounds : List Round
    pub datagrams : List (List ℕ)
    pub stands : HasSession studio state.engine (events_by studio.open_at rounds) datagrams
    pub time : state.engine.time ≡ time_by studio.open_at rounds
    pub bounded : AreRounds rounds
    pub clocked : (later : List ℤ) → AreNext (clock_told state.clock) later → AreNext clock (answers_of rounds ++ later)
    pub given : HaveGiven feed_told all state.readers.items (events_by studio.open_at rounds) rounds
    pub count : length datagrams < 2 ^ 64 → state.counts.blocks ≡ length datagrams
    pub handed : Hands before datagrams (sink_handed state.sink)
    pub heard : Hears earlier (heard_by studio.streams studio.open_at [] (events_by studio.open_at rounds)) (observer_heard state.observer)

  -- a run is under way, of the studio with exactly the changes of gains that its source took from `first` to `last`
  pub record IsUnderWayWith (feed_told : F → List Answer) (clock_told : C → List ℤ) (sink_handed : K → Option (List (List ℕ))) (observer_heard : T → Option (List Heard)) (studio : Studio) (all : List (List (List Answer))) (clock : List ℤ) (before : Option (List (List ℕ))) (earlier : Option (List Heard)) (state : RunState F C K T) (first last : List (ℤ × List ℤ)) : Type 0 where
    pub changes : List (ℤ × List ℤ)
    pub taken : last ≡ first ++ changes
    pub run : IsUnderWay feed_told clock_told sink_handed observer_heard (with_changes studio changes) all clock before earlier state

  -- a run is under way, and nothing has arrived since its last clock reading
  pub record IsTurned (feed_told : F → List Answer) (clock_told : C → List ℤ) (sink_handed : K → Option (List (List ℕ))) (observer_heard : T → Option (List Heard)) (studio : Studio) (all : List (List (List Answer))) (clock : List ℤ) (before : Option (List (List ℕ))) (earlier : Option (List Heard)) (state : RunState F C K T) : Type 0 where
    pub run : IsUnderWay feed_told clock_told sink_handed observer_heard studio all clock before earlier state
    pub front : List Round
    pub answer : ℤ
    pub last : run.rounds ≡ front ++ record { answer = answer; asked = false; arrivals = [] } ∷ []

  -- a run has come to its end: the engine was closed, and all its datagrams were returned
  pub record IsDone (sink_handed : K → Option (List (List ℕ))) (observer_heard : T → Option (List Heard)) (studio : Studio) (all : List (List (List Answer))) (clock : List ℤ) (before : Option (List (List ℕ))) (earlier : Option (List Heard)) (state : RunState F C K T) : Type 0 where
    pub rounds : List Round
    pub datagrams : List (List ℕ)
    pub stands : HasSession studio state.engine (events_of studio rounds) datagrams
    pub settled : state.engine.settled ≡ true
    pub whole : HasAllMarks state.engine
    pub bounded : AreRounds rounds
    pub clocked : AreNext clock (answers_of rounds)
    pub arrived : HaveAllArrived studio all rounds
    pub taken : AreTakenByRounds all rounds
    pub count : length datagrams < 2 ^ 64 → state.counts.blocks ≡ length datagrams
    pub handed : Hands before datagrams (sink_handed state.sink)
    pub heard : Hears earlier (heard_by studio.streams studio.open_at [] (events_of studio rounds)) (observer_heard state.observer)

-- the result of a settled run, whose feeds are ordered by stream and then by path. Its rounds have the clock readings
-- that were known, and all datagrams of the feeds that are known to their end, round by round. None of their events has
-- a fault. The report has the counts of `run_studio` for these events, and the number of faults of each feed that is
-- known to its end, if these are fewer than 2^64. If the contents of the sink are known at the end, it was passed the
-- datagrams of `run_studio`, in order. If the observer's notifications are known at the end, it was notified of each
-- arrival, with the reading before it and its outcome, and of the close
pub record IsSettledRun (studio : Studio) (all : List (List Answer)) (clock : List ℤ) (report : WorkReport) (before after : Option (List (List ℕ))) (earlier later : Option (List Heard)) : Type 0 where
  pub rounds : List Round
  pub bounded : AreRounds rounds
  pub clocked : AreNext clock (answers_of rounds)
  pub arrived : HaveAllArrived studio (grouped studio.streams all) rounds
  pub taken : AreTakenByRounds (grouped studio.streams all) rounds
  pub lawful : session_fault_of studio (events_of studio rounds) ≡ None
  pub datagrams : List (List ℕ)
  pub given : AreDatagrams studio (events_of studio rounds) datagrams
  pub counts : AreCounts studio (events_of studio rounds) report.streams.items
  pub faults : AreFaultNumbers all report.feed_faults.items
  pub count : length datagrams < 2 ^ 64 → report.blocks ≡ length datagrams
  pub handed : Hands before datagrams after
  pub heard : Hears earlier (heard_by studio.streams studio.open_at [] (events_of studio rounds)) later

-- a settled run that began with this studio, and ran the studio with exactly the changes of gains that its source took
pub record IsSettledRunWith (studio : Studio) (all : List (List Answer)) (clock : List ℤ) (report : WorkReport) (before after : Option (List (List ℕ))) (earlier later : Option (List Heard)) (first last : List (ℤ × List ℤ)) : Type 0 where
  pub changes : List (ℤ × List ℤ)
  pub taken : last ≡ first ++ changes
  pub run : IsSettledRun (with_changes studio changes) all clock report before after earlier later
