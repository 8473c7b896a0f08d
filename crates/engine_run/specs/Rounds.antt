-- The rounds of a run: the clock readings, and the datagrams that arrived in each round.
use Rattle.std.specs.Prelude.{◌≡◌, ℕ, ◌≤◌, Bool, true, false, ◌&&◌, nat_eq, List, [], ◌∷◌, ◌++◌, length, map, flat_map, ℤ, if◌then◌else◌}
use Rattle.studio_config.specs.Studio.{Studio}
use Rattle.studio_session.specs.Event.{TraceEvent, Arrival, Tick, Closing}
use Rattle.studio_engine.specs.Session.{turned}
use Rattle.studio_io.specs.Answers.{Answer}
use Rattle.studio_io.specs.Clocks.{time_with}
use Rattle.engine_run.specs.Asked.{round_datagrams, round_left}

-- the datagram of an event, if it arrived on this path of this stream
abbrev pub datagram_in : ℕ → ℕ → TraceEvent → List (List ℕ)
datagram_in stream path (Arrival s p octets) = if nat_eq s stream && nat_eq p path then octets ∷ [] else []
datagram_in stream path (Tick time) = []
datagram_in stream path Closing = []

-- all datagrams that arrived on this path of this stream
abbrev pub datagrams_on : ℕ → ℕ → List TraceEvent → List (List ℕ)
datagrams_on stream path events = flat_map (λ event. datagram_in stream path event) events

-- the arrivals of these datagrams on one path
abbrev pub arrivals_on : ℕ → ℕ → List (List ℕ) → List TraceEvent
arrivals_on stream path datagrams = map (λ octets. Arrival stream path octets) datagrams

abbrev pub is_arrival : TraceEvent → Bool
is_arrival (Arrival stream path octets) = true
is_arrival (Tick time) = false
is_arrival Closing = false

-- all of these events are arrivals
abbrev pub AreArrivals : List TraceEvent → Type 0
AreArrivals [] = Unit {0}
AreArrivals (event ∷ events) = (is_arrival event ≡ true) × AreArrivals events

-- a round: the clock reading, whether the feeds were called after it, and the arrivals of the datagrams that they
-- returned
pub record Round : Type 0 where
  pub answer : ℤ
  pub asked : Bool
  pub arrivals : List TraceEvent

-- a round has at most 64 arrivals on each path and no other events, and none at all if the feeds were not called
pub record IsRound (round : Round) : Type 0 where
  pub arrive : AreArrivals round.arrivals
  pub few : (stream path : ℕ) → length (datagrams_on stream path round.arrivals) ≤ 64
  pub none : round.asked ≡ false → round.arrivals ≡ []

abbrev pub AreRounds : List Round → Type 0
AreRounds [] = Unit {0}
AreRounds (round ∷ rounds) = IsRound round × AreRounds rounds

-- the greatest of this time and the clock readings of these rounds; a reading beyond 2^60 counts as 2^60
abbrev pub time_by : ℤ → List Round → ℤ
time_by time [] = time
time_by time (round ∷ rounds) = time_by (time_with time round.answer) rounds

-- the events of rounds from this time on: for each round a reading, if the greatest clock reading rose, and its
-- arrivals
abbrev pub events_by : ℤ → List Round → List TraceEvent
events_by time [] = []
events_by time (round ∷ rounds) = turned time (time_with time round.answer) [] ++ (round.arrivals ++ events_by (time_with time round.answer) rounds)

-- the events of a whole run: those of its rounds, and a close
abbrev pub events_of : Studio → List Round → List TraceEvent
events_of studio rounds = events_by studio.open_at rounds ++ Closing ∷ []

abbrev pub answers_of : List Round → List ℤ
answers_of rounds = map (λ (round : Round). round.answer) rounds

-- the clock readings are the known ones, as far as these go
abbrev pub AreNext : List ℤ → List ℤ → Type 0
AreNext [] answers = Unit {0}
AreNext (next ∷ told) [] = Unit {0}
AreNext (next ∷ told) (answer ∷ answers) = (answer ≡ next) × AreNext told answers

-- the datagrams that arrived on this path in each round are those that a feed with the results `told` returns in the
-- round; the results `left` are left after the rounds
abbrev pub GivesByRounds : ℕ → ℕ → List Answer → List Round → List Answer → Type 0
GivesByRounds stream path told [] left = told ≡ left
GivesByRounds stream path told (round ∷ rounds) left =
    (datagrams_on stream path round.arrivals ≡ round_datagrams round.asked told) × GivesByRounds stream path (round_left round.asked told) rounds left
