-- The part of the mix that was written as raw PCM.
use Rattle.std.specs.Prelude.{◌≡◌, ◌≤◌, ◌<◌, ℕ, ◌+◌, ◌*◌, ◌/◌, List, [], length, take, Option, true}
use Rattle.std.specs.Io.KnownBytes.{Appends}
use Rattle.rtrb.specs.Ring.{known_items, received}
use Rattle.rtp_wire.specs.Sample.{octets_per_sample}
use Rattle.mix_packets.specs.OutSpec.{payload_length}
use Rattle.mix_packets.specs.declared.out_spec.Output.{Output}
use Rattle.wav_file.specs.Samples.{little_samples}
use Rattle.live_audio.specs.declared.pcm_writer.PcmWriter.{PcmWriter}
use Rattle.live_audio.specs.declared.pcm_writer.PcmWritten.{PcmWritten}

-- a writer of an output's samples that has received nothing yet
pub record IsFreshPcm (output : Output) (writer : PcmWriter) : Type 0 where
  pub none : received writer.ring ≡ []
  pub enc : writer.enc ≡ output.enc
  pub block : writer.block_len ≡ payload_length output
  pub octets : writer.octets ≡ 0

-- the writer has received nothing more, and is otherwise the same as far as is known
pub record IsSamePcm (old new : PcmWriter) : Type 0 where
  pub came : received new.ring ≡ received old.ring
  pub enc : new.enc ≡ old.enc
  pub block : new.block_len ≡ old.block_len
  pub octets : new.octets ≡ old.octets

-- the first `count` octets of some samples were written, and counted
pub record WritesPart (before after : Option (List ℕ)) (old new : PcmWriter) (samples : List ℕ) (count : ℕ) : Type 0 where
  pub came : received new.ring ≡ received old.ring
  pub enc : new.enc ≡ old.enc
  pub block : new.block_len ≡ old.block_len
  pub few : count ≤ length samples
  pub written : Appends before after (take count samples)
  pub octets : new.octets ≡ old.octets + count

-- no whole block is left in the ring
abbrev pub LacksPcmBlock : PcmWriter → Type 0
LacksPcmBlock writer = 0 < writer.block_len → writer.block_len < 1441 → length (known_items writer.ring) < writer.block_len

-- what came through the ring is whole blocks; the first `count` octets of their samples, in order, were written behind
-- what was there
pub record HasPiped (before after : Option (List ℕ)) (writer : PcmWriter) (count : ℕ) : Type 0 where
  pub samples : ℕ
  pub block : writer.block_len ≡ samples * octets_per_sample writer.enc
  pub blocks : ℕ
  pub whole : length (received writer.ring) ≡ blocks * writer.block_len
  pub few : count ≤ length (little_samples writer.enc (received writer.ring))
  pub written : Appends before after (take count (little_samples writer.enc (received writer.ring)))

-- all octets of the samples of what came through the ring were written
abbrev pub HasPipedAll : Option (List ℕ) → Option (List ℕ) → PcmWriter → Type 0
HasPipedAll before after writer = HasPiped before after writer writer.octets × (writer.octets ≡ length (little_samples writer.enc (received writer.ring)))

-- the whole blocks among the written octets are counted; they are all that came, unless the output ended before
pub record IsPiped (before after : Option (List ℕ)) (writer : PcmWriter) (result : PcmWritten) : Type 0 where
  pub piped : HasPiped before after writer result.octets
  pub blocks : result.blocks ≡ result.octets / writer.block_len
  pub all : result.is_all ≡ true → result.octets ≡ length (little_samples writer.enc (received writer.ring))
  pub none : result.is_all ≡ true → LacksPcmBlock writer
