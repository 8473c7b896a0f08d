-- The fates and marks that are the same by the clock `Follow` and by the clock `Arrival`.
use Rattle.std.specs.Prelude.{◌≡◌, ℕ, false, List, [], ◌∷◌, ◌++◌, ℤ, Option, Some, None}
use Rattle.rtp_stream.specs.declared.stream_spec.Stream.{Stream}
use Rattle.rtp_stream.specs.declared.stream_spec.StreamClock.{StreamClock}
use Rattle.rtp_stream.specs.declared.anchor.Anchor.{Anchor}
use Rattle.rtp_stream.specs.declared.event.Event.{Event}
use Rattle.rtp_stream.specs.declared.follow.Standing.{Standing}
use Rattle.rtp_stream.specs.Epochs.{anchors_of, last_of}
use Rattle.rtp_stream.specs.Follow.{is_astray, standings_at, standings_since}

-- a stream by another clock
abbrev pub by_clock : StreamClock → Stream → Stream
by_clock clock stream = record stream { clock = clock }

-- none of these arrivals is behind or beyond
abbrev pub NoneAstray : List Standing → Type 0
NoneAstray [] = Unit {0}
NoneAstray (s ∷ standings) = (is_astray s ≡ false) × NoneAstray standings

-- the standing of an event under the anchor in force, if the event is an arrival that is judged
abbrev pub standings_under : Stream → ℤ → Option (ℕ × Anchor) → List Event → Event → List Standing
standings_under stream open_at None before event = []
standings_under stream open_at (Some (place, anchor)) before event = standings_at stream anchor open_at (standings_since stream open_at place anchor before) before event

-- no arrival of a history is behind or beyond
pub record IsNeverAstray (stream : Stream) (open_at : ℤ) (events : List Event) : Type 0 where
  pub at_each : (before : List Event) (event : Event) (after : List Event) → events ≡ before ++ event ∷ after → NoneAstray (standings_under stream open_at (last_of (anchors_of stream open_at before)) before event)
