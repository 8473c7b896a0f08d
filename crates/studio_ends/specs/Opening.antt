-- The ends of a studio's streams, while they are opened one after another.
use Rattle.std.specs.Prelude.{◌≡◌, ℕ, List, [], ◌∷◌, ◌++◌, ℤ}
use Rattle.rtrb.specs.Ring.{received}
use Rattle.rtp_stream.specs.declared.stream_spec.Stream.{Stream}
use Rattle.rtp_stream.specs.MarkFacts.{MarkView}
use Rattle.studio_ends.specs.FreshEnds.{AllFreshRings, AllFreshStreams, AreFreshRings, IsFreshStream}
use Rattle.studio_ends.specs.declared.rings.TokenConsumer.{TokenConsumer}
use Rattle.studio_ends.specs.declared.path_end.PathEnd.{PathEnd}
use Rattle.studio_ends.specs.declared.stream_end.StreamEnd.{StreamEnd}
use Rattle.studio_ends.specs.declared.monitor_end.MonitorEnd.{MonitorEnd}
use Rattle.studio_ends.specs.declared.ends.StreamEnds.{StreamEnds}

-- the ends of these streams, which were just opened
pub record AreFreshEnds (open_at : ℤ) (places : ℕ) (streams : List Stream) (ends : StreamEnds) : Type 0 where
  pub streams_are : AllFreshStreams open_at places streams ends.paths.items ends.streams.items
  pub rings : AllFreshRings places ends.streams.items ends.monitors.items ends.marks.items

-- the ends of one more stream were opened
pub record AddsStream (open_at : ℤ) (places : ℕ) (stream : Stream) (old new : StreamEnds) : Type 0 where
  pub own : List PathEnd
  pub end : StreamEnd
  pub monitor : MonitorEnd
  pub side : TokenConsumer MarkView
  pub paths : new.paths.items ≡ old.paths.items ++ own
  pub streams : new.streams.items ≡ old.streams.items ++ end ∷ []
  pub monitors : new.monitors.items ≡ old.monitors.items ++ monitor ∷ []
  pub marks : new.marks.items ≡ old.marks.items ++ side ∷ []
  pub fresh : IsFreshStream open_at places stream own end
  pub rings : AreFreshRings places end monitor side

-- there is a ring for each stream, and nothing was received from it
abbrev pub AllUnread : List Stream → List (TokenConsumer MarkView) → Type 0
AllUnread [] [] = Unit {0}
AllUnread (stream ∷ streams) (side ∷ sides) = (received side.ring ≡ []) × AllUnread streams sides
AllUnread [] (side ∷ sides) = ⊥
AllUnread (stream ∷ streams) [] = ⊥
