-- The turns of a stream's worker.
use Rattle.std.specs.Prelude.{◌≡◌, ◌⊎◌, ℕ, suc, ◌+◌, ◌≤◌, true, false, List, [], ◌∷◌, ◌++◌, length, ℤ, pos, ◌≤ℤ◌, ◌<ℤ◌, ◌+ℤ◌, IfSome}
use Rattle.rtrb.specs.Ring.{all_sent, known_free, sent, producer_capacity, SameConsumer, SameProducer}
use Rattle.rtp_stream.specs.declared.stream_spec.Stream.{Stream}
use Rattle.rtp_stream.specs.declared.packet.Packet.{Packet}
use Rattle.rtp_stream.specs.declared.event.Event.{Event}
use Rattle.rtp_stream.specs.declared.event.Event.TheVariants.{Close}
use Rattle.studio_ends.specs.Fitting.{fitting}
use Rattle.studio_ends.specs.StreamTurns.{AllTakePackets}
use Rattle.studio_ends.specs.Streams.{StreamHasHistory, TellsTurn, packets_by}
use Rattle.studio_ends.specs.declared.rings.TokenConsumer.{TokenConsumer}
use Rattle.studio_ends.specs.declared.stream_end.StreamEnd.{StreamEnd}
use Rattle.studio_io.specs.Clocks.{TellsTime, time_with}
use Rattle.studio_rings.specs.ClockTurns.{GoByClock, IsFirst, events_in}
use Rattle.studio_rings.specs.declared.worker.clocked_stream.ClockedStream.{ClockedStream}

module _ {T : Type 0} where
  -- each ring is the same as before
  abbrev pub AreSameRings : List (TokenConsumer T) → List (TokenConsumer T) → Type 0
  AreSameRings [] [] = Unit {0}
  AreSameRings (old ∷ olds) (new ∷ news) = SameConsumer old.ring new.ring × AreSameRings olds news
  AreSameRings [] (new ∷ news) = ⊥
  AreSameRings (old ∷ olds) [] = ⊥

  -- each ring's token, if its consumer has it, reports these items
  abbrev pub HaveTold : List (TokenConsumer T) → List (List T) → Type 0
  HaveTold [] [] = Unit {0}
  HaveTold (side ∷ sides) (all ∷ more) = IfSome side.done (λ done. all_sent done ≡ all) × HaveTold sides more
  HaveTold [] (all ∷ more) = ⊥
  HaveTold (side ∷ sides) [] = ⊥

  -- what the tokens report does not change
  abbrev pub KeepsTokens : List (TokenConsumer T) → List (TokenConsumer T) → Type 0
  KeepsTokens olds news = (lists : List (List T)) → HaveTold olds lists → HaveTold news lists

-- the arrivals on the paths from this one on are exactly those of these packets that have the stream's length
abbrev pub HaveArrived : Stream → ℕ → List (List Packet) → List Event → Type 0
HaveArrived stream path [] events = (other : ℕ) → path ≤ other → packets_by other events ≡ []
HaveArrived stream path (packets ∷ more) events = (packets_by path events ≡ fitting stream packets) × HaveArrived stream (suc path) more events

-- after a clock reading that left its statistics as they were, a stream's end noted the packets of a turn, and sent them
pub record TellsAfterReading (s t : StreamEnd) : Type 0 where
  pub read : StreamEnd
  pub sender : read.sender ≡ s.sender
  pub tells : TellsTurn read t

-- a stream's end was closed, once everything that the tokens report had arrived
pub record Closes (s t : StreamEnd) : Type 0 where
  pub marks : SameProducer s.marks t.marks
  pub closed : t.merge.closed ≡ true
  pub stands : (stream : Stream) (open_at : ℤ) (events : List Event) → StreamHasHistory stream open_at s events → StreamHasHistory stream open_at t (events ++ Close ∷ [])
  pub arrived : (stream : Stream) (open_at : ℤ) (events : List Event) (lists : List (List Packet)) → HaveTold s.sides.items lists
      → StreamHasHistory stream open_at s events → HaveArrived stream 0 lists events

-- before a turn takes packets, a stream's end took no event, or one clock reading that is not after `now`
pub record ReadsFirst (s : StreamEnd) (now : ℤ) (t : StreamEnd) : Type 0 where
  pub first : List Event
  pub early : IsFirst now first
  pub sides : t.sides ≡ s.sides
  pub ring : SameProducer s.marks t.marks
  pub more : length (sent s.marks) ≤ length (sent t.marks)
  pub spec : t.spec ≡ s.spec
  pub still_open : t.merge.closed ≡ false
  pub not_after : t.merge.time ≤ℤ now
  pub stands : (stream : Stream) (open_at : ℤ) (events : List Event) → StreamHasHistory stream open_at s events → StreamHasHistory stream open_at t (events ++ first)

-- a turn reached the time, or sent at least 64 marks, or no free place in its ring is known at its end
abbrev pub CatchesUp : StreamEnd → ℤ → StreamEnd → Type 0
CatchesUp s time t = (t.merge.time ≡ time) ⊎ ((length (sent s.marks) + 64 ≤ length (sent t.marks)) ⊎ (known_free t.marks ≡ 0))

-- until when packets wait after a clock reading: for 50 ms from it, if it comes more than 10 ms after the last one and the
-- end had come to the last one by then; else as before
pub record WaitsAfter (until time last now new_until : ℤ) : Type 0 where
  pub begins : last ≤ℤ time → (last +ℤ pos 480) <ℤ now → new_until ≡ (now +ℤ pos 2400)
  pub goes_on : (last ≤ℤ time → (last +ℤ pos 480) <ℤ now → ⊥) → new_until ≡ until

-- packets wait at a reading before that time, if the end has not come to the last reading
abbrev pub IsWaiting : ℤ → ℤ → ℤ → ℤ → Type 0
IsWaiting time last now until = (time <ℤ last) × (now <ℤ until)

-- of each path at least the packets that are known to be in its ring were taken, but at most 64
abbrev pub TakesOfEach : StreamEnd → StreamEnd → Type 0
TakesOfEach s t = (taken : List (List Packet)) × AllTakePackets s.sides.items t.sides.items taken

-- a clock was read once, and the new time is the greatest so far, with this reading included
pub record ReadsClockOnce {C : Type 0} (told : C → List ℤ) (clock : C) (time : ℤ) (later : C) (new_time : ℤ) : Type 0 where
  pub answer : ℤ
  pub tells : TellsTime (told clock) answer (told later)
  pub time_is : new_time ≡ time_with time answer

module _ {C : Type 0} where
  -- a stream that is not closed went on: its history grew by turns at the readings of its clock
  pub record GoesOn (told : C → List ℤ) (s t : ClockedStream C) : Type 0 where
    pub rings : AreSameRings s.end.sides.items t.end.sides.items
    pub marks : SameProducer s.end.marks t.end.marks
    pub spec : t.end.spec ≡ s.end.spec
    pub turns : Stream → List (List Event)
    pub stands : (stream : Stream) (open_at : ℤ) (events : List Event)
        → StreamHasHistory stream open_at s.end events → StreamHasHistory stream open_at t.end (events ++ events_in (turns stream))
    pub timed : (stream : Stream) (open_at : ℤ) (events : List Event) (places : ℕ) (later : List (List Event))
        → StreamHasHistory stream open_at s.end events → producer_capacity s.end.marks ≡ places
        → GoByClock stream open_at places t.now (told t.clock) (events ++ events_in (turns stream)) later
        → GoByClock stream open_at places s.now (told s.clock) events (turns stream ++ later)
