-- The blocks that were sent to the ring of a run's raw PCM, and those that were left out.
use Rattle.std.specs.Prelude.{◌≡◌, ◌⊎◌, ◌<◌, ◌≤◌, ℕ, ◌+◌, ◌-◌, ◌^◌, min, Bool, true, false, List, [], ◌∷◌, ◌++◌, length, slice_get, Some}
use Rattle.rtrb.specs.Ring.{known_free, sent}
use Rattle.rtp_stream.specs.declared.stream_spec.Stream.{Stream}
use Rattle.studio_config.specs.Studio.{Studio}
use Rattle.wav_file.specs.MixSamples.{output_format}
use Rattle.live_audio.specs.RingOctets.{pcm_octets_for}
use Rattle.live_audio.specs.declared.pcm_producer.PcmProducer.{PcmProducer}

-- the octets of the chosen blocks, in order, with a choice for each block
abbrev pub chosen_octets : List (List ℕ) → List Bool → List ℕ
chosen_octets [] choices = []
chosen_octets (block ∷ blocks) [] = []
chosen_octets (block ∷ blocks) (true ∷ choices) = block ++ chosen_octets blocks choices
chosen_octets (block ∷ blocks) (false ∷ choices) = chosen_octets blocks choices

-- the number of blocks that were not chosen
abbrev pub left_out_of : List Bool → ℕ
left_out_of [] = 0
left_out_of (true ∷ choices) = left_out_of choices
left_out_of (false ∷ choices) = 1 + left_out_of choices

-- each of these blocks was sent as a whole or left out; the ones sent are in order, and the others are counted, up to
-- 2^64 - 1
pub record HasProduced (blocks : List (List ℕ)) (producer : PcmProducer) : Type 0 where
  pub choices : List Bool
  pub each : length choices ≡ length blocks
  pub sent : sent producer.ring ≡ chosen_octets blocks choices
  pub left_out : producer.left_out ≡ min (left_out_of choices) (2 ^ 64 - 1)

-- a block was left out, and counted
pub record LeavesOut (old new : PcmProducer) : Type 0 where
  pub sent : sent new.ring ≡ sent old.ring
  pub left_out : new.left_out ≡ min (old.left_out + 1) (2 ^ 64 - 1)

-- the samples of a block were sent, all of them; or none, because nobody had opened the output for reading yet, or the
-- ring was not known to have space for them
abbrev pub Takes : PcmProducer → List ℕ → PcmProducer → Type 0
Takes old block new =
    ((sent new.ring ≡ sent old.ring ++ block) × (new.left_out ≡ old.left_out))
    ⊎ (LeavesOut old new × ((new.is_open ≡ false) ⊎ (known_free new.ring < length block)))

-- the producer has just begun: nothing was sent or left out, and the ring is known to have space for what each stream of the
-- studio holds back at its latency, and for two seconds more
pub record BeginsPcm (studio : Studio) (producer : PcmProducer) : Type 0 where
  pub none : HasProduced [] producer
  pub space : (place : ℕ) (stream : Stream) → slice_get studio.streams place ≡ Some stream → pcm_octets_for (output_format studio.output) stream.latency ≤ known_free producer.ring
