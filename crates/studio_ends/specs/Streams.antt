-- The history of a stream's end, and the events that its calls add to it.
use Rattle.std.specs.Prelude.{◌≡◌, ℕ, suc, ◌+◌, ◌<◌, ◌≤◌, false, nat_eq, List, [], ◌∷◌, ◌++◌, length, take, get_or, ℤ, ◌≤ℤ◌, Option, if◌then◌else◌, ◌⊎◌}
use Rattle.rtrb.specs.Ring.{sent, received, known_free, SameProducer}
use Rattle.rtrb.specs.declared.producer.Producer.{Producer}
use Rattle.rtp_stats.specs.declared.channel.stream.StreamStatsSender.{StreamStatsSender}
use Rattle.rtp_stream.specs.declared.stream_spec.Stream.{Stream}
use Rattle.rtp_stream.specs.CountsFacts.{Tally}
use Rattle.rtp_stream.specs.Counts.{tally_of}
use Rattle.rtp_stream.specs.Marks.{marks_of}
use Rattle.path_merge.specs.Merge.{HasHistory}
use Rattle.rtp_stream.specs.declared.counts.Counts.{Counts}
use Rattle.rtp_stream.specs.declared.packet.Packet.{Packet}
use Rattle.rtp_stream.specs.declared.event.Event.{Event}
use Rattle.rtp_stream.specs.declared.event.Event.TheVariants.{Arrive, Tick, Close}
use Rattle.studio_ends.specs.StopReasons.{StopsFor}
use Rattle.studio_ends.specs.Fitting.{fitting}
use Rattle.studio_ends.specs.Stats.{NotesAll, TellsStream}
use Rattle.studio_ends.specs.StreamTurns.{AllTakePackets, arrivals_from, turn_events}
use Rattle.studio_ends.specs.declared.rings.TokenConsumer.{TokenConsumer}
use Rattle.studio_ends.specs.declared.stream_end.StreamEnd.{StreamEnd}
use Rattle.studio_ends.specs.declared.stream_end.marks_out.StopReason.{StopReason}
use Rattle.studio_ends.specs.declared.stream_end.marks_out.TurnNote.{TurnNote}

-- the packets that arrived on a path, in order
abbrev pub packets_by : ℕ → List Event → List Packet
packets_by path [] = []
packets_by path (Arrive p packet ∷ events) = if nat_eq p path then packet ∷ packets_by path events else packets_by path events
packets_by path (Tick u ∷ events) = packets_by path events
packets_by path (Close ∷ events) = packets_by path events

-- the arrivals on the paths from this one on are exactly the packets that the rings delivered and that have the
-- stream's length
abbrev pub AllDelivered : Stream → ℕ → List (TokenConsumer Packet) → List Event → Type 0
AllDelivered stream path [] events = (other : ℕ) → path ≤ other → packets_by other events ≡ []
AllDelivered stream path (side ∷ sides) events = (packets_by path events ≡ fitting stream (received side.ring)) × AllDelivered stream (suc path) sides events

-- the merge of a stream's end has this history; its arrivals are what the rings delivered, and the marks that were sent
-- are the first marks of the history
pub record StreamHasHistory (stream : Stream) (open_at : ℤ) (s : StreamEnd) (events : List Event) : Type 0 where
  pub some_frames : 0 < stream.frames
  pub merge : HasHistory stream open_at s.merge events (length (sent s.marks))
  pub delivered : AllDelivered stream 0 s.sides.items events
  pub marks : sent s.marks ≡ take (length (sent s.marks)) (marks_of stream open_at events)

-- the counts were sent to the monitor; or nothing was, and no free place is known in its ring
abbrev pub ShowsCounts : {A P : Type 0} → Producer Counts A P → Tally → Producer Counts A P → Type 0
ShowsCounts c counts d =
    ((shown : Counts) × (tally_of shown ≡ counts) × (sent d ≡ sent c ++ shown ∷ [])) ⊎ ((sent d ≡ sent c) × (known_free d ≡ 0))

-- the clock was read and no packet was taken: marks were sent up to the reading, or until 64 were sent or no free place
-- was known
pub record ReadsClock (s : StreamEnd) (now : ℤ) (why : StopReason) (t : StreamEnd) : Type 0 where
  pub sides : t.sides ≡ s.sides
  pub monitor : t.monitor ≡ s.monitor
  pub spec : t.spec ≡ s.spec
  pub marks : ℕ
  pub more : length (sent t.marks) ≡ length (sent s.marks) + marks
  pub few : marks ≤ 64
  pub ring : SameProducer s.marks t.marks
  pub not_before : s.merge.time ≤ℤ t.merge.time
  pub not_after : t.merge.time ≤ℤ now
  pub stop : StopsFor why t.merge.time now marks (known_free t.marks)
  pub still_open : t.merge.closed ≡ false
  pub stands : (stream : Stream) (open_at : ℤ) (events : List Event)
      → StreamHasHistory stream open_at s events → StreamHasHistory stream open_at t (events ++ Tick t.merge.time ∷ [])

pub record TakesTurn (s : StreamEnd) (now : ℤ) (note : TurnNote) (t : StreamEnd) : Type 0 where
  pub taken : List (List Packet)
  pub took : AllTakePackets s.sides.items t.sides.items taken
  pub from : (path : ℕ) → get_or note.from path 0 ≡ length (get_or taken path [])
  pub marks : length (sent t.marks) ≡ length (sent s.marks) + note.marks
  pub few : note.marks ≤ 64
  pub ring : SameProducer s.marks t.marks
  pub monitor : SameProducer s.monitor t.monitor
  pub shows : ShowsCounts s.monitor t.merge.counts t.monitor
  pub reached : note.reached ≡ t.merge.time
  pub not_before : s.merge.time ≤ℤ note.reached
  pub not_after : note.reached ≤ℤ now
  pub stop : StopsFor note.why_stopped note.reached now note.marks (known_free t.marks)
  pub still_open : t.merge.closed ≡ false
  pub spec : t.spec ≡ s.spec
  pub stands : (stream : Stream) (open_at : ℤ) (events : List Event)
      → StreamHasHistory stream open_at s events → StreamHasHistory stream open_at t (events ++ turn_events stream taken note.reached)

-- if the stream has a sender of statistics, it noted each packet that was taken and has the stream's length, path by
-- path, and then sent the statistics
pub record TellsTurn (s t : StreamEnd) : Type 0 where
  pub taken : List (List Packet)
  pub took : AllTakePackets s.sides.items t.sides.items taken
  pub noted : Option StreamStatsSender
  pub notes : NotesAll s.merge (λ stream. arrivals_from stream 0 taken) s.sender noted
  pub tells : TellsStream t.merge noted t.sender
