-- The datagrams that a run took from its feeds.
use Rattle.std.specs.Prelude.{◌≡◌, ◌≢◌, ℕ, ◌≤◌, ◌<◌, Bool, true, false, List, [], ◌++◌, flat_map, length, map, slice_get, Option, Some}
use Rattle.std.specs.declared.vec.Vec.{Vec}
use Rattle.std.specs.declared.alloc.Global.{Global}
use Rattle.rtp_stream.specs.declared.stream_spec.Stream.{Stream}
use Rattle.studio_config.specs.Studio.{Studio}
use Rattle.studio_session.specs.Event.{TraceEvent}
use Rattle.studio_engine.specs.Engine.{EngineState}
use Rattle.studio_engine.specs.Session.{HasSession}
use Rattle.studio_io.specs.Answers.{Answer, reaches_end, told_datagrams}
use Rattle.studio_io.specs.FeedStates.{new_state}
use Rattle.engine_run.specs.Grouping.{grouped}
use Rattle.engine_run.specs.Asked.{AreKnown, asked_datagrams, asked_left, left_by, until_end}
use Rattle.engine_run.specs.Rounds.{AreArrivals, GivesByRounds, Round, arrivals_on, datagrams_on}
use Rattle.engine_run.specs.Observers.{Heard, Hears, heard_by}
use Rattle.engine_run.specs.declared.feed_reader.FeedReader.{FeedReader}
use Rattle.engine_run.specs.declared.intake.FeedOutcome.{FeedOutcome}
use Rattle.engine_run.specs.declared.intake.FeedOutcome.TheVariants.{Datagram, Fault, Nothing}

-- the datagrams that one call of a feed returned: one or none
abbrev pub GaveBy : FeedOutcome → List (List ℕ) → Type 0
GaveBy Datagram given = length given ≡ 1
GaveBy Fault given = given ≡ []
GaveBy Nothing given = given ≡ []

-- the datagrams `given` came so far from a feed with the results `told`. If the feed has ended they are all. Otherwise
-- the others follow in `left`, the results up to its end that are left after `faults` faults in a row
abbrev pub HasCome : List Answer → Bool → ℕ → List Answer → List (List ℕ) → Type 0
HasCome told true faults left given = given ≡ told_datagrams 0 told
HasCome told false faults left given = (faults ≤ 999) × (reaches_end faults left ≡ true) × (given ++ told_datagrams faults left ≡ told_datagrams 0 told)

module _ {F : Type 0} where
  -- the reader of a feed before its first call
  abbrev pub new_reader : F → FeedReader F
  new_reader feed = record { feed = feed; state = new_state }

  -- each stream has the readers of its feeds, before the first call of any of them
  abbrev pub HaveBegun : List Stream → List F → List (Vec (FeedReader F) Global) → Type 0
  HaveBegun streams feeds readers = map (λ (own : Vec (FeedReader F) Global). own.items) readers ≡ grouped streams (map new_reader feeds)

  -- the number of faults that a feed returned
  abbrev pub fault_number : FeedReader F → ℕ
  fault_number reader = reader.state.faults

  -- the numbers of faults of all feeds, ordered by stream and then by path
  abbrev pub fault_numbers : List (Vec (FeedReader F) Global) → List ℕ
  fault_numbers readers = flat_map (λ (own : Vec (FeedReader F) Global). map fault_number own.items) readers

  -- all feeds of a stream have ended
  abbrev pub HaveEnded : List (FeedReader F) → Type 0
  HaveEnded readers = (path : ℕ) (reader : FeedReader F) → slice_get readers path ≡ Some reader → reader.state.ended ≡ true

  abbrev pub AllEnded : List (Vec (FeedReader F) Global) → Type 0
  AllEnded readers = (stream : ℕ) (own : Vec (FeedReader F) Global) → slice_get readers stream ≡ Some own → HaveEnded own.items

  -- if the results `all` of a feed are known to its end, exactly these of its datagrams came so far
  abbrev pub IsGiven : (F → List Answer) → List Answer → FeedReader F → List (List ℕ) → Type 0
  IsGiven feed_told all reader given = reaches_end 0 all ≡ true → HasCome all reader.state.ended reader.state.in_a_row (feed_told reader.feed) given

  -- between these two states of its reader, exactly these datagrams came from a feed
  abbrev pub GoesOn : (F → List Answer) → FeedReader F → FeedReader F → List (List ℕ) → Type 0
  GoesOn feed_told old new given = (all : List Answer) (before : List (List ℕ)) → IsGiven feed_told all old before → IsGiven feed_told all new (before ++ given)

  -- the results of a feed that are left until its end; `IsKnown` says that they are known
  abbrev pub left_in : (F → List Answer) → FeedReader F → List Answer
  left_in feed_told reader = left_by reader.state.ended reader.state.in_a_row (feed_told reader.feed)

  abbrev pub IsKnown : (F → List Answer) → FeedReader F → Type 0
  IsKnown feed_told reader = AreKnown reader.state.ended reader.state.in_a_row (feed_told reader.feed)

  -- a feed whose results are known to its end was called until it returned no datagram, but at most `most` times
  abbrev pub Asks : (F → List Answer) → ℕ → FeedReader F → FeedReader F → List (List ℕ) → Type 0
  Asks feed_told most old new given = IsKnown feed_told old
      → IsKnown feed_told new × (given ≡ asked_datagrams most (left_in feed_told old)) × (left_in feed_told new ≡ asked_left most (left_in feed_told old))

  -- if the results `all` of a feed are known to its end, the rounds took them in turn, and the reader has those that
  -- are left
  abbrev pub IsAsked : (F → List Answer) → ℕ → ℕ → List Answer → FeedReader F → List Round → Type 0
  IsAsked feed_told stream path all reader rounds = reaches_end 0 all ≡ true → IsKnown feed_told reader × GivesByRounds stream path (until_end 0 all) rounds (left_in feed_told reader)

  -- a feed was called, at most `most` of its datagrams arrived, and the observer was notified of them
  pub record Takes (feed_told : F → List Answer) (studio : Studio) (engine : EngineState) (events : List TraceEvent) (datagrams : List (List ℕ)) (stream path : ℕ) (old new : FeedReader F) (before after : Option (List Heard)) (most : ℕ) : Type 0 where
    pub given : List (List ℕ)
    pub few : length given ≤ most
    pub stands : HasSession studio engine (events ++ arrivals_on stream path given) datagrams
    pub heard : Hears before (heard_by studio.streams studio.open_at events (arrivals_on stream path given)) after
    pub goes_on : GoesOn feed_told old new given
    pub asks : Asks feed_told most old new given

  -- the first `count` feeds of a stream were called, at most 64 datagrams of each arrived, and the observer was
  -- notified of them
  pub record TakesStream (feed_told : F → List Answer) (studio : Studio) (engine : EngineState) (events : List TraceEvent) (datagrams : List (List ℕ)) (stream : ℕ) (olds news : List (FeedReader F)) (before after : Option (List Heard)) (count : ℕ) : Type 0 where
    pub arrivals : List TraceEvent
    pub stands : HasSession studio engine (events ++ arrivals) datagrams
    pub heard : Hears before (heard_by studio.streams studio.open_at events arrivals) after
    pub arrive : AreArrivals arrivals
    pub few : (path : ℕ) → length (datagrams_on stream path arrivals) ≤ 64
    pub later : (path : ℕ) → count ≤ path → datagrams_on stream path arrivals ≡ []
    pub others : (s path : ℕ) → s ≢ stream → datagrams_on s path arrivals ≡ []
    pub rest : (path : ℕ) (reader : FeedReader F) → count ≤ path → slice_get olds path ≡ Some reader → slice_get news path ≡ Some reader
    pub each : (path : ℕ) (old : FeedReader F) → slice_get olds path ≡ Some old
        → (new : FeedReader F) × (slice_get news path ≡ Some new) × GoesOn feed_told old new (datagrams_on stream path arrivals)
        × (path < count → Asks feed_told 64 old new (datagrams_on stream path arrivals))

  -- the feeds of the first `count` streams were called, at most 64 datagrams of each arrived, and the observer was
  -- notified of them
  pub record TakesAll (feed_told : F → List Answer) (studio : Studio) (engine : EngineState) (events : List TraceEvent) (datagrams : List (List ℕ)) (olds news : List (Vec (FeedReader F) Global)) (before after : Option (List Heard)) (count : ℕ) : Type 0 where
    pub arrivals : List TraceEvent
    pub stands : HasSession studio engine (events ++ arrivals) datagrams
    pub heard : Hears before (heard_by studio.streams studio.open_at events arrivals) after
    pub arrive : AreArrivals arrivals
    pub few : (stream path : ℕ) → length (datagrams_on stream path arrivals) ≤ 64
    pub later : (stream path : ℕ) → count ≤ stream → datagrams_on stream path arrivals ≡ []
    pub rest : (stream : ℕ) (own : Vec (FeedReader F) Global) → count ≤ stream → slice_get olds stream ≡ Some own → slice_get news stream ≡ Some own
    pub each : (stream : ℕ) (own : Vec (FeedReader F) Global) → slice_get olds stream ≡ Some own
        → (now : Vec (FeedReader F) Global) × (slice_get news stream ≡ Some now)
        × ((path : ℕ) (old : FeedReader F) → slice_get own.items path ≡ Some old
        → (new : FeedReader F) × (slice_get now.items path ≡ Some new) × GoesOn feed_told old new (datagrams_on stream path arrivals)
        × (stream < count → Asks feed_told 64 old new (datagrams_on stream path arrivals)))

  -- for each feed with its known results in `all`: its datagrams among the events are those that came from it, round by
  -- round
  pub record HaveGiven (feed_told : F → List Answer) (all : List (List (List Answer))) (readers : List (Vec (FeedReader F) Global)) (events : List TraceEvent) (rounds : List Round) : Type 0 where
    pub each : (stream : ℕ) (own : List (List Answer)) → slice_get all stream ≡ Some own
        → (now : Vec (FeedReader F) Global) × (slice_get readers stream ≡ Some now)
        × ((path : ℕ) (told : List Answer) → slice_get own path ≡ Some told
        → (reader : FeedReader F) × (slice_get now.items path ≡ Some reader) × IsGiven feed_told told reader (datagrams_on stream path events)
        × IsAsked feed_told stream path told reader rounds)
