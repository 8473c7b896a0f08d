-- The octets that were sent to the ring of a run's audio.
use Rattle.std.specs.Prelude.{◌≡◌, ◌⊎◌, ◌<◌, ◌≤◌, ℕ, List, [], ◌++◌, length, slice_get, Option, None, Some}
use Rattle.rtrb.specs.Ring.{known_free, sent}
use Rattle.rtp_stream.specs.declared.stream_spec.Stream.{Stream}
use Rattle.studio_config.specs.Studio.{Studio}
use Rattle.studio_io.specs.declared.output_kind.OutputKind.{OutputKind}
use Rattle.studio_io.specs.declared.output_kind.OutputKind.TheVariants.{Record, Wav, Pcm}
use Rattle.studio_io.specs.declared.output_state.OutputEnd.{OutputEnd}
use Rattle.studio_io.specs.declared.output_state.OutputEnd.TheVariants.{Slow}
use Rattle.wav_file.specs.MixSamples.{output_format}
use Rattle.live_audio.specs.RingOctets.{wav_octets_for}
use Rattle.live_audio.specs.declared.producer.AudioProducer.{AudioProducer}

-- the file ends as too slow, and nothing was sent
abbrev pub EndsSlow : AudioProducer → AudioProducer → Type 0
EndsSlow old new = (new.end ≡ Some Slow) × (sent new.ring ≡ sent old.ring)

-- if the file had not ended: the samples of a block were sent, all of them; or the file ends as too slow, because the ring was
-- not known to have space for them
abbrev pub Puts : AudioProducer → List ℕ → AudioProducer → Type 0
Puts old block new = old.end ≡ None
    → ((new.end ≡ None) × (sent new.ring ≡ sent old.ring ++ block)) ⊎ (EndsSlow old new × (known_free new.ring < length block))

-- a file that has ended stays so, for the same reason, and nothing more is sent to the ring
abbrev pub StaysEnded : AudioProducer → AudioProducer → Type 0
StaysEnded old new = (reason : OutputEnd) → old.end ≡ Some reason → (new.end ≡ Some reason) × (new.ring ≡ old.ring)

-- the end of the output of a kind, as the producer knows it: of the WAV file alone
abbrev pub wav_end : OutputKind → AudioProducer → Option OutputEnd
wav_end Wav producer = producer.end
wav_end Record producer = None
wav_end Pcm producer = None

-- the producer has just begun: nothing was sent, and the ring is known to have space for what each stream of the studio holds
-- back at its latency, and for thirty seconds more
pub record BeginsProducing (studio : Studio) (producer : AudioProducer) : Type 0 where
  pub goes_on : producer.end ≡ None
  pub none : sent producer.ring ≡ []
  pub space : (place : ℕ) (stream : Stream) → slice_get studio.streams place ≡ Some stream → wav_octets_for (output_format studio.output) stream.latency ≤ known_free producer.ring
