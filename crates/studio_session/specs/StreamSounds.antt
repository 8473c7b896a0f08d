-- The sounds that the packets of a studio's streams hold.
use Rattle.std.specs.Prelude.{◌≡◌, ℕ, ℤ, List, Some, slice_get}
use Rattle.rtp_stream.specs.declared.stream_spec.Stream.{Stream}
use Rattle.rtp_stream.specs.declared.stream_spec.StreamClock.TheVariants.{Media}
use Rattle.rtp_stream.specs.declared.event.Event.{Event}
use Rattle.rtp_stream.specs.StreamSpecFacts.{IsStream}
use Rattle.path_merge.specs.MediaTime.{HasSoundOf, HasSoundByTimestamp}
use Rattle.studio_config.specs.Studio.{Studio}
use Rattle.studio_mix.specs.Sound.{Sounds}
use Rattle.studio_session.specs.Event.{TraceEvent}
use Rattle.studio_session.specs.Session.{stream_history}

-- each packet of each stream that came in time holds the stream's sound from the media time of its slot on
pub record HasSounds (sound : Sounds) (studio : Studio) (events : List TraceEvent) : Type 0 where
  pub each : (i : ℕ) (stream : Stream) → slice_get studio.streams i ≡ Some stream → HasSoundOf (sound i) stream studio.open_at (stream_history stream i events)

-- the specification of a stream has no fault and says the media clock, and each packet that came in time holds the sound
-- from the time on that is in step with its timestamp and nearest to its arrival
pub record IsOfSoundByTimestamp (sound : ℤ → ℕ → ℤ) (stream : Stream) (open_at : ℤ) (events : List Event) : Type 0 where
  pub is_stream : IsStream stream
  pub offset : ℕ
  pub clock : stream.clock ≡ Media offset
  pub has_sound : HasSoundByTimestamp sound stream offset open_at events

-- the same by the media clock: each stream has that clock, with an offset of its own, and each of its packets that came in
-- time holds the stream's sound from the time on that its timestamp says
pub record HasSoundsByTimestamp (sound : Sounds) (studio : Studio) (events : List TraceEvent) : Type 0 where
  pub each : (i : ℕ) (stream : Stream) → slice_get studio.streams i ≡ Some stream
      → IsOfSoundByTimestamp (sound i) stream studio.open_at (stream_history stream i events)
