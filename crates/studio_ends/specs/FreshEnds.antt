-- The ends of a studio, as they are opened together.
use Rattle.std.specs.Prelude.{◌≡◌, ℕ, nat_lt, ◌||◌, List, [], ◌∷◌, ◌++◌, length, ℤ, None, false, if◌then◌else◌}
use Rattle.rtrb.specs.Ring.{IsPair, sent, received, known_free}
use Rattle.rtp_stream.specs.declared.stream_spec.Stream.{Stream}
use Rattle.rtp_stream.specs.MarkFacts.{MarkView}
use Rattle.rtp_stream.specs.declared.packet.Packet.{Packet}
use Rattle.studio_config.specs.Studio.{Studio}
use Rattle.studio_ends.specs.Streams.{StreamHasHistory}
use Rattle.studio_ends.specs.Datagrams.{HasGiven}
use Rattle.studio_ends.specs.declared.rings.TokenConsumer.{TokenConsumer}
use Rattle.studio_ends.specs.declared.path_end.PathEnd.{PathEnd}
use Rattle.studio_ends.specs.declared.stream_end.StreamEnd.{StreamEnd}
use Rattle.studio_ends.specs.declared.monitor_end.MonitorEnd.{MonitorEnd}
use Rattle.studio_ends.specs.declared.ends.Ends.{Ends}
use Rattle.studio_ends.specs.declared.ends.OpenFault.{OpenFault}
use Rattle.studio_ends.specs.declared.ends.OpenFault.TheVariants.{RingLength, Memory}

-- why rings were not opened: their length is not from 1 to 65,536 places, or else an allocation failed
abbrev pub open_fault_of : ℕ → OpenFault
open_fault_of places = if nat_lt places 1 || nat_lt 65536 places then RingLength else Memory

-- both ends of a path's ring of `places` places, with nothing sent, received or counted
pub record IsFreshPath (stream : Stream) (places : ℕ) (path : PathEnd) (side : TokenConsumer Packet) : Type 0 where
  pub pair : IsPair path.ring side.ring
  pub spec : path.spec ≡ stream
  pub none_sent : sent path.ring ≡ []
  pub all_free : known_free path.ring ≡ places
  pub none_offered : path.counts.offered ≡ 0
  pub none_received : received side.ring ≡ []
  pub not_done : side.done ≡ None

abbrev pub AllFreshPaths : Stream → ℕ → List PathEnd → List (TokenConsumer Packet) → Type 0
AllFreshPaths stream places [] [] = Unit {0}
AllFreshPaths stream places (path ∷ paths) (side ∷ sides) = IsFreshPath stream places path side × AllFreshPaths stream places paths sides
AllFreshPaths stream places [] (side ∷ sides) = ⊥
AllFreshPaths stream places (path ∷ paths) [] = ⊥

-- a stream's end has the empty history, and its paths are fresh
pub record IsFreshStream (open_at : ℤ) (places : ℕ) (stream : Stream) (own : List PathEnd) (s : StreamEnd) : Type 0 where
  pub stands : StreamHasHistory stream open_at s []
  pub spec : s.spec ≡ stream
  pub open_yet : s.merge.closed ≡ false
  pub time : s.merge.time ≡ open_at
  pub count : length own ≡ stream.paths
  pub paths : AllFreshPaths stream places own s.sides.items

-- the ends of each stream are fresh; the paths' ends are ordered by stream, and each stream has one for each of its
-- paths
abbrev pub AllFreshStreams : ℤ → ℕ → List Stream → List PathEnd → List StreamEnd → Type 0
AllFreshStreams open_at places [] paths [] = paths ≡ []
AllFreshStreams open_at places (stream ∷ streams) paths (s ∷ ss) =
    (own : List PathEnd) × (rest : List PathEnd) × (paths ≡ own ++ rest) × IsFreshStream open_at places stream own s × AllFreshStreams open_at places streams rest ss
AllFreshStreams open_at places [] paths (s ∷ ss) = ⊥
AllFreshStreams open_at places (stream ∷ streams) paths [] = ⊥

-- both ends of a stream's rings of marks and of counts, with nothing sent or received
pub record AreFreshRings (places : ℕ) (s : StreamEnd) (monitor : MonitorEnd) (side : TokenConsumer MarkView) : Type 0 where
  pub marks : IsPair s.marks side.ring
  pub marks_free : known_free s.marks ≡ places
  pub none_received : received side.ring ≡ []
  pub not_done : side.done ≡ None
  pub counts : IsPair s.monitor monitor.ring
  pub counts_free : known_free s.monitor ≡ places
  pub none_shown : sent s.monitor ≡ []
  pub none_seen : received monitor.ring ≡ []

abbrev pub AllFreshRings : ℕ → List StreamEnd → List MonitorEnd → List (TokenConsumer MarkView) → Type 0
AllFreshRings places [] [] [] = Unit {0}
AllFreshRings places (s ∷ ss) (monitor ∷ monitors) (side ∷ sides) = AreFreshRings places s monitor side × AllFreshRings places ss monitors sides
AllFreshRings places [] [] (side ∷ sides) = ⊥
AllFreshRings places [] (monitor ∷ monitors) sides = ⊥
AllFreshRings places (s ∷ ss) [] sides = ⊥
AllFreshRings places (s ∷ ss) (monitor ∷ monitors) [] = ⊥

-- all ends were just opened, and belong together
pub record AreOpened (studio : Studio) (places : ℕ) (ends : Ends) : Type 0 where
  pub streams : AllFreshStreams studio.open_at places studio.streams ends.paths.items ends.streams.items
  pub rings : AllFreshRings places ends.streams.items ends.monitors.items ends.mix.sides.items
  pub mix : HasGiven studio ends.mix []
