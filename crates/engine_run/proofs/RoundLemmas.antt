-- The events of rounds, after one more round.
use Rattle.std.proofs.Common.{◌≡◌, ◌≢◌, ℕ, Bool, true, false, ◌&&◌, nat_eq, List, [], ◌∷◌, ◌++◌, ℤ, if◌then◌else◌, refl, sym, ap, ◌∙◌, arith, append_assoc, append-nil}
use Rattle.std.proofs.lemmas.Bool.{false≢true}
use Rattle.std.proofs.lemmas.Bool.Decides.{nat_tests}
use Rattle.std.proofs.lemmas.Grind.{flat_map-append}
use Rattle.std.specs.Ordering.{int_eq}
use Rattle.studio_session.specs.Event.{TraceEvent, Arrival, Tick, Closing}
use Rattle.studio_session.specs.Fault.{closed_at, time_at}
use Rattle.studio_engine.specs.Session.{turned}
use Rattle.studio_io.specs.Clocks.{TellsTime, time_with}
use Rattle.studio_io.specs.Answers.{Answer}
use Rattle.engine_run.specs.Asked.{round_datagrams, round_left}
use Rattle.engine_run.specs.Rounds.{AreArrivals, AreNext, AreRounds, GivesByRounds, Round, answers_of, arrivals_on, datagram_in, datagrams_on, events_by, time_by}

pub datagrams-append : (s p : ℕ) (xs ys : List TraceEvent) → datagrams_on s p (xs ++ ys) ≡ datagrams_on s p xs ++ datagrams_on s p ys
datagrams-append s p xs ys = flat_map-append (λ event. datagram_in s p event) xs ys

-- the datagrams on a path, among arrivals on this path
on_own : (s p : ℕ) (ds : List (List ℕ)) → datagrams_on s p (arrivals_on s p ds) ≡ ds
on_own s p [] = refl
on_own s p (d ∷ ds) =
    let stream : nat_eq s s ≡ true = grind (arith, nat_tests) in
    let path : nat_eq p p ≡ true = grind (arith, nat_tests) in
    rw (stream, path) (ap (λ l. d ∷ l) (on_own s p ds))

-- the datagrams on a path, among arrivals on another path
on_other : (s p t q : ℕ) (ds : List (List ℕ)) → (nat_eq s t && nat_eq p q) ≡ false → datagrams_on t q (arrivals_on s p ds) ≡ []
on_other s p t q [] e = refl
on_other s p t q (d ∷ ds) e = rw e (on_other s p t q ds e)

and_none : (a b : Bool) → b ≡ false → (a && b) ≡ false
and_none true b e = e
and_none false b e = refl

unlike : (a b : ℕ) → a ≢ b → nat_eq b a ≡ false
unlike a b ne = by_test (nat_eq b a) refl
  where
    by_test : (t : Bool) → nat_eq b a ≡ t → nat_eq b a ≡ false
    by_test false e = e
    by_test true e = absurd (ne (grind (arith, nat_tests, e)))

-- the datagrams on a path that had none, after arrivals on this path
pub more_here : (s p : ℕ) (events : List TraceEvent) (ds : List (List ℕ)) → datagrams_on s p events ≡ [] → datagrams_on s p (events ++ arrivals_on s p ds) ≡ ds
more_here s p events ds none = datagrams-append s p events (arrivals_on s p ds) ∙ (ap (λ l. l ++ datagrams_on s p (arrivals_on s p ds)) none ∙ on_own s p ds)

-- the datagrams on a path, after events that have none there
pub none_more : (t q : ℕ) (events more : List TraceEvent) → datagrams_on t q more ≡ [] → datagrams_on t q (events ++ more) ≡ datagrams_on t q events
none_more t q events more none = datagrams-append t q events more ∙ (ap (λ l. datagrams_on t q events ++ l) none ∙ append-nil (datagrams_on t q events))

-- the datagrams on a path, after arrivals on another path of the stream
pub more_beside : (s p q : ℕ) (events : List TraceEvent) (ds : List (List ℕ)) → q ≢ p → datagrams_on s q (events ++ arrivals_on s p ds) ≡ datagrams_on s q events
more_beside s p q events ds ne = none_more s q events (arrivals_on s p ds) (on_other s p s q ds (and_none (nat_eq s s) (nat_eq p q) (unlike q p ne)))

-- the datagrams on a path, after arrivals on a path of another stream
pub more_elsewhere : (s p t q : ℕ) (events : List TraceEvent) (ds : List (List ℕ)) → t ≢ s → datagrams_on t q (events ++ arrivals_on s p ds) ≡ datagrams_on t q events
more_elsewhere s p t q events ds ne = none_more t q events (arrivals_on s p ds) (on_other s p t q ds (ap (λ b. b && nat_eq p q) (unlike t s ne)))

pub none_before : (t q : ℕ) (events more : List TraceEvent) → datagrams_on t q events ≡ [] → datagrams_on t q (events ++ more) ≡ datagrams_on t q more
none_before t q events more none = datagrams-append t q events more ∙ ap (λ l. l ++ datagrams_on t q more) none

pub are_arrivals : (s p : ℕ) (ds : List (List ℕ)) → AreArrivals (arrivals_on s p ds)
are_arrivals s p [] = tt
are_arrivals s p (d ∷ ds) = (refl, are_arrivals s p ds)

pub arrivals-append : (xs ys : List TraceEvent) → AreArrivals xs → AreArrivals ys → AreArrivals (xs ++ ys)
arrivals-append [] ys h k = k
arrivals-append (x ∷ xs) ys h k = (h.0, arrivals-append xs ys h.1 k)

-- a reading, if there is one, comes after the events
turned-after : (old new : ℤ) (events : List TraceEvent) → turned old new events ≡ events ++ turned old new []
turned-after old new events = by_test (int_eq old new)
  where
    by_test : (b : Bool) → (if b then events else events ++ Tick new ∷ []) ≡ events ++ (if b then [] else [] ++ Tick new ∷ [])
    by_test true = sym (append-nil events)
    by_test false = refl

-- a reading adds no datagram
pub datagrams-turned : (s p : ℕ) (old new : ℤ) (events : List TraceEvent) → datagrams_on s p (turned old new events) ≡ datagrams_on s p events
datagrams-turned s p old new events = by_test (int_eq old new)
  where
    by_test : (b : Bool) → datagrams_on s p (if b then events else events ++ Tick new ∷ []) ≡ datagrams_on s p events
    by_test true = refl
    by_test false = none_more s p events (Tick new ∷ []) refl

more-rounds : (time : ℤ) (rounds : List Round) (round : Round)
    → events_by time (rounds ++ round ∷ []) ≡ events_by time rounds ++ (turned (time_by time rounds) (time_with (time_by time rounds) round.answer) [] ++ round.arrivals)
more-rounds time [] round = ap (λ l. turned time (time_with time round.answer) [] ++ l) (append-nil round.arrivals)
more-rounds time (first ∷ rounds) round =
    let t = time_with time first.answer in
    let rest = turned (time_by t rounds) (time_with (time_by t rounds) round.answer) [] ++ round.arrivals in
    ap (λ l. turned time t [] ++ (first.arrivals ++ l)) (more-rounds t rounds round)
    ∙ (ap (λ l. turned time t [] ++ l) (sym (append_assoc first.arrivals (events_by t rounds) rest))
    ∙ sym (append_assoc (turned time t []) (first.arrivals ++ events_by t rounds) rest))

-- the events after one more round
pub one-round : (open_at : ℤ) (rounds : List Round) (answer : ℤ) (asked : Bool) (arrivals : List TraceEvent) (old new : ℤ) → old ≡ time_by open_at rounds → new ≡ time_with old answer
    → turned old new (events_by open_at rounds) ++ arrivals ≡ events_by open_at (rounds ++ record { answer = answer; asked = asked; arrivals = arrivals } ∷ [])
one-round open_at rounds answer asked arrivals old new old_is new_is =
    let events = events_by open_at rounds in
    let last = time_by open_at rounds in
    ap (λ l. l ++ arrivals) (turned-after old new events)
    ∙ (append_assoc events (turned old new []) arrivals
    ∙ (ap (λ t. events ++ (turned t new [] ++ arrivals)) old_is
    ∙ (ap (λ t. events ++ (turned last t [] ++ arrivals)) (new_is ∙ ap (λ t. time_with t answer) old_is)
    ∙ sym (more-rounds open_at rounds (record { answer = answer; asked = asked; arrivals = arrivals })))))

-- what arrives after the last reading comes after all other events
pub last-takes : (time : ℤ) (front : List Round) (answer : ℤ) (arrivals : List TraceEvent)
    → events_by time (front ++ record { answer = answer; asked = true; arrivals = arrivals } ∷ []) ≡ events_by time (front ++ record { answer = answer; asked = false; arrivals = [] } ∷ []) ++ arrivals
last-takes time front answer arrivals =
    let events = events_by time front in
    let turn = turned (time_by time front) (time_with (time_by time front) answer) [] in
    more-rounds time front (record { answer = answer; asked = true; arrivals = arrivals })
    ∙ (sym (append_assoc events turn arrivals)
    ∙ ap (λ l. l ++ arrivals) (ap (λ l. events ++ l) (sym (append-nil turn)) ∙ sym (more-rounds time front (record { answer = answer; asked = false; arrivals = [] }))))

-- what arrives after the last reading changes no clock reading
pub answers-last : (front : List Round) (answer : ℤ) (arrivals : List TraceEvent)
    → answers_of (front ++ record { answer = answer; asked = false; arrivals = [] } ∷ []) ≡ answers_of (front ++ record { answer = answer; asked = true; arrivals = arrivals } ∷ [])
answers-last [] answer arrivals = refl
answers-last (round ∷ front) answer arrivals = ap (λ l. round.answer ∷ l) (answers-last front answer arrivals)

pub rounds-front : (front rounds : List Round) → AreRounds (front ++ rounds) → AreRounds front
rounds-front [] rounds h = tt
rounds-front (round ∷ front) rounds h = (h.0, rounds-front front rounds h.1)

pub time-more : (time : ℤ) (rounds : List Round) (round : Round) → time_by time (rounds ++ round ∷ []) ≡ time_with (time_by time rounds) round.answer
time-more time [] round = refl
time-more time (first ∷ rounds) round = time-more (time_with time first.answer) rounds round

pub rounds-more : (rounds : List Round) (round : Round) → AreRounds rounds → AreRounds (round ∷ []) → AreRounds (rounds ++ round ∷ [])
rounds-more [] round h k = k
rounds-more (first ∷ rounds) round h k = (h.0, rounds-more rounds round h.1 k)

-- arrivals do not change the time
pub time-arrivals : (time : ℤ) (xs ys : List TraceEvent) → AreArrivals ys → time_at time (xs ++ ys) ≡ time_at time xs
time-arrivals time [] [] h = refl
time-arrivals time [] (Arrival s p d ∷ ys) h = time-arrivals time [] ys h.1
time-arrivals time [] (Tick t ∷ ys) h = absurd (false≢true h.0)
time-arrivals time [] (Closing ∷ ys) h = absurd (false≢true h.0)
time-arrivals time (Arrival s p d ∷ xs) ys h = time-arrivals time xs ys h
time-arrivals time (Tick t ∷ xs) ys h = time-arrivals t xs ys h
time-arrivals time (Closing ∷ xs) ys h = time-arrivals time xs ys h

closed-arrivals : (closed : Bool) (xs ys : List TraceEvent) → AreArrivals xs → closed_at closed (xs ++ ys) ≡ closed_at closed ys
closed-arrivals closed [] ys h = refl
closed-arrivals closed (Arrival s p d ∷ xs) ys h = closed-arrivals closed xs ys h.1
closed-arrivals closed (Tick t ∷ xs) ys h = absurd (false≢true h.0)
closed-arrivals closed (Closing ∷ xs) ys h = absurd (false≢true h.0)

closed-turned : (closed : Bool) (old new : ℤ) (ys : List TraceEvent) → closed_at closed (turned old new [] ++ ys) ≡ closed_at closed ys
closed-turned closed old new ys = by_test (int_eq old new)
  where
    by_test : (b : Bool) → closed_at closed ((if b then [] else [] ++ Tick new ∷ []) ++ ys) ≡ closed_at closed ys
    by_test true = refl
    by_test false = refl

-- the events of rounds do not close the engine
pub rounds-open : (closed : Bool) (time : ℤ) (rounds : List Round) → AreRounds rounds → closed_at closed (events_by time rounds) ≡ closed
rounds-open closed time [] h = refl
rounds-open closed time (round ∷ rounds) h =
    let t = time_with time round.answer in
    closed-turned closed time t (round.arrivals ++ events_by t rounds)
    ∙ (closed-arrivals closed round.arrivals (events_by t rounds) h.0.arrive ∙ rounds-open closed t rounds h.1)

-- no readings agree with any known ones
pub next-none : (told : List ℤ) → AreNext told []
next-none [] = tt
next-none (next ∷ told) = tt

-- a reading that is the next known one, and readings that agree with those after it
pub next-more : (told left : List ℤ) (answer : ℤ) (later : List ℤ) → TellsTime told answer left → AreNext left later → AreNext told (answer ∷ later)
next-more [] left answer later tells next = tt
next-more (first ∷ told) left answer later tells next = (tells.0, rw tells.1 at next)

pub answers-more : (rounds : List Round) (answer : ℤ) (asked : Bool) (arrivals : List TraceEvent) (later : List ℤ)
    → answers_of rounds ++ answer ∷ later ≡ answers_of (rounds ++ record { answer = answer; asked = asked; arrivals = arrivals } ∷ []) ++ later
answers-more [] answer asked arrivals later = refl
answers-more (round ∷ rounds) answer asked arrivals later = ap (λ l. round.answer ∷ l) (answers-more rounds answer asked arrivals later)

-- the datagrams that a feed returned round by round, after one more round
pub by-rounds-more : (stream path : ℕ) (told mid left : List Answer) (rounds : List Round) (round : Round) → GivesByRounds stream path told rounds mid
    → datagrams_on stream path round.arrivals ≡ round_datagrams round.asked mid → left ≡ round_left round.asked mid → GivesByRounds stream path told (rounds ++ round ∷ []) left
by-rounds-more stream path told mid left [] round h given rest = (given ∙ ap (round_datagrams round.asked) (sym h), ap (round_left round.asked) h ∙ sym rest)
by-rounds-more stream path told mid left (first ∷ rounds) round h given rest = (h.0, by-rounds-more stream path (round_left first.asked told) mid left rounds round h.1 given rest)

-- the datagrams that a feed returned round by round, without a last round that did not call the feeds
pub by-rounds-front : (stream path : ℕ) (told left : List Answer) (front : List Round) (answer : ℤ)
    → GivesByRounds stream path told (front ++ record { answer = answer; asked = false; arrivals = [] } ∷ []) left → GivesByRounds stream path told front left
by-rounds-front stream path told left [] answer h = h.1
by-rounds-front stream path told left (first ∷ front) answer h = (h.0, by-rounds-front stream path (round_left first.asked told) left front answer h.1)
