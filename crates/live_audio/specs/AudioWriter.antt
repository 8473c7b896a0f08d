-- The part of the mix that went to its WAV files.
use Rattle.std.specs.Prelude.{◌≡◌, ◌≤◌, ◌<◌, ℕ, ◌+◌, ◌-◌, ◌*◌, ◌^◌, min, List, [], ◌∷◌, ◌++◌, length, drop, Option, Some, true, false}
use Rattle.rtrb.specs.Ring.{known_items, received}
use Rattle.rtp_wire.specs.Sample.{octets_per_sample}
use Rattle.mix_packets.specs.OutSpec.{payload_length}
use Rattle.mix_packets.specs.declared.out_spec.Output.{Output}
use Rattle.wav_file.specs.Header.{frame_length, header_with}
use Rattle.wav_file.specs.LiveFile.{live_octets}
use Rattle.wav_file.specs.MixSamples.{output_format}
use Rattle.wav_file.specs.Samples.{little_samples}
use Rattle.live_audio.specs.Parts.{AreChunks, HasParts, part_files}
use Rattle.live_audio.specs.declared.parts.WavParts.{WavParts}
use Rattle.live_audio.specs.declared.writer.AudioFile.{AudioFile}
use Rattle.live_audio.specs.declared.writer.AudioStop.{AudioStop}
use Rattle.live_audio.specs.declared.writer.AudioStop.TheVariants.{Failed, Ended}
use Rattle.live_audio.specs.declared.writer.AudioWriter.{AudioWriter}

-- a writer of an output's samples that has received nothing yet
pub record IsFresh (output : Output) (writer : AudioWriter) : Type 0 where
  pub none : received writer.ring ≡ []
  pub format : writer.format ≡ output_format output
  pub block : writer.block_len ≡ payload_length output
  pub some : 0 < frame_length writer.format
  pub parts : 0 < writer.plan.blocks
  pub counted : writer.blocks ≡ 0

-- the writer has received nothing more and is otherwise the same
pub record IsSameWriter (old new : AudioWriter) : Type 0 where
  pub came : received new.ring ≡ received old.ring
  pub format : new.format ≡ old.format
  pub block : new.block_len ≡ old.block_len
  pub plan : new.plan ≡ old.plan
  pub counted : new.blocks ≡ old.blocks

-- no whole block is left in the ring
abbrev pub LacksBlock : AudioWriter → Type 0
LacksBlock writer = 0 < writer.block_len → writer.block_len < 1441 → length (known_items writer.ring) < writer.block_len

-- this many octets are whole blocks, which a number counts up to 2^64 - 1
pub record AreBlocks (block octets count : ℕ) : Type 0 where
  pub blocks : ℕ
  pub whole : octets ≡ blocks * block
  pub counted : count ≡ min blocks (2 ^ 64 - 1)

-- what came through the ring is whole blocks, and the files, if their contents are known, have its samples, in order,
-- from the first on
pub record HasMoved (closed : Option (List (List ℕ))) (contents : Option (List ℕ)) (writer : AudioWriter) (parts : WavParts) : Type 0 where
  pub format : parts.wav.format ≡ writer.format
  pub some : 0 < frame_length writer.format
  pub some_blocks : 0 < writer.plan.blocks
  pub samples : ℕ
  pub block : writer.block_len ≡ samples * octets_per_sample writer.format.enc
  pub whole : AreBlocks writer.block_len (length (received writer.ring)) writer.blocks
  pub held : HasParts closed contents writer.format writer.plan writer.block_len parts (received writer.ring) (header_with writer.format parts.wav.chunk parts.sized) []

-- the files have the samples of what came through the ring, and the sizes in the last file's header lack less than a
-- second of them
pub record HasWritten (closed : Option (List (List ℕ))) (contents : Option (List ℕ)) (writer : AudioWriter) (parts : WavParts) : Type 0 where
  pub moved : HasMoved closed contents writer parts
  pub recent : parts.wav.count < parts.sized + 48000 * frame_length writer.format

-- a write failed: what came begins with whole blocks, whose samples the files have, maybe with a rest behind them that
-- is not counted
pub record HasFailed (closed : Option (List (List ℕ))) (contents : Option (List ℕ)) (writer : AudioWriter) (parts : WavParts) : Type 0 where
  pub format : parts.wav.format ≡ writer.format
  pub kept : List ℕ
  pub rest : List ℕ
  pub came : received writer.ring ≡ kept ++ rest
  pub whole : AreBlocks writer.block_len (length kept) writer.blocks
  pub head : List ℕ
  pub behind : List ℕ
  pub held : HasParts closed contents writer.format writer.plan writer.block_len parts kept head behind

-- the samples of the first whole blocks that came are in files, one after another: of all blocks, unless a write failed
-- or no file could be created. Each closed file has the planned number of blocks. The last file has at most as many,
-- and is a WAV file, unless its end could not be written
pub record IsWritten (done : Option (List (List ℕ))) (contents : Option (List ℕ)) (writer : AudioWriter) (file : AudioFile) : Type 0 where
  pub kept : List ℕ
  pub rest : List ℕ
  pub came : received writer.ring ≡ kept ++ rest
  pub blocks : AreBlocks writer.block_len (length kept) file.blocks
  pub all : file.is_all ≡ true → rest ≡ []
  pub none : file.is_all ≡ true → LacksBlock writer
  pub chunks : List (List ℕ)
  pub chunk : List ℕ
  pub times : AreChunks writer.plan.stamped writer.plan.step writer.plan.at (chunks ++ chunk ∷ [])
  pub closed : done ≡ Some (part_files writer.format (writer.plan.blocks * writer.block_len) kept chunks)
  pub begins : length chunks * (writer.plan.blocks * writer.block_len) ≤ length kept
  pub ends : length kept ≤ length chunks * (writer.plan.blocks * writer.block_len) + writer.plan.blocks * writer.block_len
  pub holds : file.is_whole ≡ true → contents ≡ Some (live_octets writer.format chunk (little_samples writer.format.enc (drop (length chunks * (writer.plan.blocks * writer.block_len)) kept)))

-- the audio ended before the run: a write failed behind the last whole block; or the last file is finished, or could
-- not be begun
abbrev pub IsStopped : Option (List (List ℕ)) → Option (List ℕ) → AudioWriter → WavParts → AudioStop → Type 0
IsStopped closed contents writer parts Failed = HasFailed closed contents writer parts
IsStopped closed contents writer parts (Ended is_whole) = IsWritten closed contents writer (record { blocks = writer.blocks; is_all = false; is_whole = is_whole })
