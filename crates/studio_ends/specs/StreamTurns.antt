-- The steps of a stream's turn.
use Rattle.std.specs.Prelude.{◌≡◌, ℕ, suc, ◌+◌, ◌≤◌, ◌<◌, false, List, [], ◌∷◌, ◌++◌, length, map, take, ℤ, ◌≤ℤ◌}
use Rattle.rtrb.specs.Ring.{sent, received, known_items, SameConsumer, SameProducer}
use Rattle.rtrb.specs.declared.producer.Producer.{Producer}
use Rattle.rtp_stream.specs.declared.stream_spec.Stream.{Stream}
use Rattle.rtp_stream.specs.MarkFacts.{MarkView}
use Rattle.rtp_stream.specs.Marks.{marks_of}
use Rattle.path_merge.specs.MergeState.{MergeState}
use Rattle.path_merge.specs.Merge.{HasHistory}
use Rattle.rtp_stream.specs.declared.packet.Packet.{Packet}
use Rattle.rtp_stream.specs.declared.event.Event.{Event}
use Rattle.rtp_stream.specs.declared.event.Event.TheVariants.{Arrive, Tick}
use Rattle.studio_ends.specs.Fitting.{fitting}
use Rattle.studio_ends.specs.declared.rings.TokenConsumer.{TokenConsumer}

-- the arrivals of these packets on a path, one after the other
abbrev pub arrivals_by : ℕ → List Packet → List Event
arrivals_by path packets = map (λ packet. Arrive path packet) packets

-- the arrivals of the packets that were taken from each path, path by path, without those that lack the stream's length
abbrev pub arrivals_from : Stream → ℕ → List (List Packet) → List Event
arrivals_from stream path [] = []
arrivals_from stream path (packets ∷ more) = arrivals_by path (fitting stream packets) ++ arrivals_from stream (suc path) more

-- the events of a turn: the packets that were taken from each path arrive, and then the clock is read
abbrev pub turn_events : Stream → List (List Packet) → ℤ → List Event
turn_events stream taken reached = arrivals_from stream 0 taken ++ Tick reached ∷ []

-- these packets were taken from a ring: at most 64, and, if fewer, all that were known to be in it
pub record TakesPackets (old new : TokenConsumer Packet) (packets : List Packet) : Type 0 where
  pub ring : SameConsumer old.ring new.ring
  pub done : new.done ≡ old.done
  pub received_are : received new.ring ≡ received old.ring ++ packets
  pub most : length packets ≤ 64
  pub known : length packets < 64 → length (known_items old.ring) ≤ length packets

-- these packets were taken from each ring
abbrev pub AllTakePackets : List (TokenConsumer Packet) → List (TokenConsumer Packet) → List (List Packet) → Type 0
AllTakePackets [] [] [] = Unit {0}
AllTakePackets (old ∷ olds) (new ∷ news) (packets ∷ more) = TakesPackets old new packets × AllTakePackets olds news more
AllTakePackets [] (new ∷ news) taken = ⊥
AllTakePackets [] [] (packets ∷ more) = ⊥
AllTakePackets (old ∷ olds) [] taken = ⊥
AllTakePackets (old ∷ olds) (new ∷ news) [] = ⊥

-- a merge took these events, which produce no mark
pub record Joins (old new : MergeState) (more : Stream → List Event) : Type 0 where
  pub spec : new.spec ≡ old.spec
  pub time : new.time ≡ old.time
  pub closed : new.closed ≡ old.closed
  pub stands : (stream : Stream) (open_at : ℤ) (events : List Event) (k : ℕ)
      → HasHistory stream open_at old events k → HasHistory stream open_at new (events ++ more stream) k
  pub kept : (stream : Stream) (open_at : ℤ) (events : List Event) (k : ℕ)
      → HasHistory stream open_at old events k → marks_of stream open_at (events ++ more stream) ≡ marks_of stream open_at events

-- these packets were taken from a ring so far, and as many as were known to be left are still known
pub record TakesSoFar (old new : TokenConsumer Packet) (packets : List Packet) : Type 0 where
  pub ring : SameConsumer old.ring new.ring
  pub done : new.done ≡ old.done
  pub received_are : received new.ring ≡ received old.ring ++ packets
  pub left : length (known_items old.ring) ≤ length packets + length (known_items new.ring)

-- marks were pushed on the way to the time `now`: those of one clock reading, which is the time that was reached
pub record PushesMarks {A P : Type 0} (c : Producer MarkView A P) (m : MergeState) (now : ℤ) (d : Producer MarkView A P) (w : MergeState) (count : ℕ) : Type 0 where
  pub ring : SameProducer c d
  pub more : List MarkView
  pub sent_are : sent d ≡ sent c ++ more
  pub count_is : length more ≡ count
  pub spec : w.spec ≡ m.spec
  pub later : m.time ≤ℤ w.time
  pub before : w.time ≤ℤ now
  pub still_open : w.closed ≡ false
  pub stands : (stream : Stream) (open_at : ℤ) (events : List Event) (k : ℕ) → 0 < stream.frames
      → HasHistory stream open_at m events k → HasHistory stream open_at w (events ++ Tick w.time ∷ []) (k + length more)
  pub marks : (stream : Stream) (open_at : ℤ) (events : List Event) (k : ℕ) → 0 < stream.frames
      → HasHistory stream open_at m events k → marks_of stream open_at (events ++ Tick w.time ∷ []) ≡ marks_of stream open_at events ++ more

-- the next marks of a merge were pushed, without a further event
pub record DrainsMarks {A P : Type 0} (c : Producer MarkView A P) (m : MergeState) (d : Producer MarkView A P) (w : MergeState) : Type 0 where
  pub ring : SameProducer c d
  pub more : List MarkView
  pub sent_are : sent d ≡ sent c ++ more
  pub spec : w.spec ≡ m.spec
  pub closed : w.closed ≡ m.closed
  pub stands : (stream : Stream) (open_at : ℤ) (events : List Event) (k : ℕ)
      → HasHistory stream open_at m events k
      → HasHistory stream open_at w events (k + length more) × (take (k + length more) (marks_of stream open_at events) ≡ take k (marks_of stream open_at events) ++ more)
