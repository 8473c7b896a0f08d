-- The close of a stream's end by its worker, and the marks that are passed on after it.
use Rattle.std.specs.Prelude.{◌≡◌, false, List, ◌∷◌, [], ◌++◌, ℤ, Option, IfSome}
use Rattle.rtrb.specs.Ring.{sent, producer_capacity, SameProducer, Finishes as Ends}
use Rattle.rtp_stream.specs.declared.stream_spec.Stream.{Stream}
use Rattle.rtp_stream.specs.History.{is_closed}
use Rattle.rtp_stream.specs.Marks.{marks_of}
use Rattle.rtp_stream.specs.declared.packet.Packet.{Packet}
use Rattle.rtp_stream.specs.declared.event.Event.{Event}
use Rattle.rtp_stream.specs.declared.event.Event.TheVariants.{Close}
use Rattle.studio_ends.specs.Streams.{StreamHasHistory}
use Rattle.studio_ends.specs.declared.stream_end.StreamEnd.{StreamEnd}
use Rattle.studio_ends.specs.declared.stream_end.turns.StreamDone.{StreamDone}
use Rattle.rtp_stream.specs.CountsFacts.{Tally}
use Rattle.studio_rings.specs.ClockTurns.{GoByClock, events_in}
use Rattle.studio_rings.specs.Turns.{HaveArrived, HaveTold}
use Rattle.studio_rings.specs.declared.worker.clocked_stream.ClockedStream.{ClockedStream}

module _ {C : Type 0} where
  -- after these events the stream made turns by its clock; exactly these packets had arrived by then, and its end was
  -- closed
  pub record HasClosedHistory (told : C → List ℤ) (stream : Stream) (open_at : ℤ) (s : ClockedStream C) (events : List Event) (t : StreamEnd) (lists : List (List Packet)) : Type 0 where
    pub turns : List (List Event)
    pub timed : GoByClock stream open_at (producer_capacity s.end.marks) s.now (told s.clock) events turns
    pub open_before : is_closed (events ++ events_in turns) ≡ false
    pub arrived : HaveArrived stream 0 lists (events ++ events_in turns)
    pub stands : StreamHasHistory stream open_at t ((events ++ events_in turns) ++ Close ∷ [])

  -- a stream went on, and was closed once everything that the tokens report had arrived
  pub record ClosesLater (told : C → List ℤ) (s : ClockedStream C) (t : StreamEnd) : Type 0 where
    pub marks : SameProducer s.end.marks t.marks
    pub history : (stream : Stream) (open_at : ℤ) (events : List Event) (lists : List (List Packet)) → HaveTold s.end.sides.items lists
        → StreamHasHistory stream open_at s.end events → HasClosedHistory told stream open_at s events t lists

-- a stream's end sent all marks of its history
pub record Drains (s t : StreamEnd) : Type 0 where
  pub marks : SameProducer s.marks t.marks
  pub stands : (stream : Stream) (open_at : ℤ) (events : List Event) → StreamHasHistory stream open_at s events → StreamHasHistory stream open_at t events
  pub all : (stream : Stream) (open_at : ℤ) (events : List Event) → StreamHasHistory stream open_at t events → sent t.marks ≡ marks_of stream open_at events

module _ {C : Type 0} where
  -- a stream went on and was closed; its end sent all marks, and was finished
  pub record Finishes (told : C → List ℤ) (s : ClockedStream C) (done : Option StreamDone) (counts : Tally) : Type 0 where
    pub closed : StreamEnd
    pub closes : ClosesLater told s closed
    pub drained : StreamEnd
    pub drains : Drains closed drained
    pub token : IfSome done (λ d. Ends drained.marks d.token)
    pub counted : counts ≡ drained.merge.counts
