-- A run's audio in files, one after another: each file but the last has the same number of whole blocks.
use Rattle.std.specs.Prelude.{◌≡◌, ◌≤◌, ℕ, zero, suc, ◌+◌, ◌-◌, ◌*◌, ◌/◌, ◌^◌, min, max, Bool, true, false, List, [], ◌∷◌, ◌++◌, length, take, drop, ⊤, Option, Some, None, ℤ, ◌+ℤ◌, ◌-ℤ◌}
use Rattle.mix_packets.specs.declared.out_spec.Output.{Output}
use Rattle.studio_config.specs.Studio.{Studio}
use Rattle.wav_file.specs.declared.header.WavFormat.{WavFormat}
use Rattle.wav_file.specs.Bext.{IsBext}
use Rattle.wav_file.specs.LiveFile.{HasData, live_octets}
use Rattle.wav_file.specs.Samples.{little_samples}
use Rattle.live_audio.specs.declared.parts.AudioParts.{AudioParts}
use Rattle.live_audio.specs.declared.parts.PartPlan.{PartPlan}
use Rattle.live_audio.specs.declared.parts.WavParts.{WavParts}

-- the time of the first sample of a run that opened at this time, both counted from 1970 in UTC: the mix begins at the
-- output's start
abbrev pub first_sample : ℤ → Studio → ℤ
first_sample opened studio = opened +ℤ (studio.output.start -ℤ studio.open_at)

-- the number of whole blocks in a file of this many sampling instants, at least one
abbrev pub blocks_for : Output → ℕ → ℕ
blocks_for output instants = max 1 (instants / output.frames)

-- the plan for an output's audio: one file without a chunk; or files of the same number of blocks, each with the chunk
-- of its time
abbrev pub plan_of : Output → Option AudioParts → PartPlan
plan_of output None = record { stamped = false; at = 0; step = 0; blocks = 2 ^ 64 - 1 }
plan_of output (Some parts) =
    record { stamped = true; at = parts.at; step = min (blocks_for output parts.instants * output.frames) (2 ^ 64 - 1); blocks = blocks_for output parts.instants }

-- the time that is `step` sampling instants later
abbrev pub later : ℕ → ℕ → ℕ
later step at = min (at + step) (2 ^ 64 - 1)

-- the time of the first sample behind this many files
abbrev pub time_behind : ℕ → ℕ → ℕ → ℕ
time_behind step at zero = at
time_behind step at (suc files) = time_behind step (later step at) files

-- the chunk of a file whose first sample has this time, if files have one
abbrev pub IsChunk : Bool → ℕ → List ℕ → Type 0
IsChunk false at chunk = chunk ≡ []
IsChunk true at chunk = IsBext at chunk

-- the chunks of files one after another
abbrev pub AreChunks : Bool → ℕ → ℕ → List (List ℕ) → Type 0
AreChunks stamped step at [] = ⊤
AreChunks stamped step at (chunk ∷ chunks) = IsChunk stamped at chunk × AreChunks stamped step (later step at) chunks

-- whole files with these chunks: each has `len` octets of the payloads, one after another
abbrev pub part_files : WavFormat → ℕ → List ℕ → List (List ℕ) → List (List ℕ)
part_files format len octets [] = []
part_files format len octets (chunk ∷ chunks) = live_octets format chunk (little_samples format.enc (take len octets)) ∷ part_files format len (drop len octets) chunks

-- the first payload octets are in closed files, and the others are the data of the file that is written, which has space
-- for `left` more blocks
pub record HasParts (done : Option (List (List ℕ))) (contents : Option (List ℕ)) (format : WavFormat) (plan : PartPlan) (block : ℕ) (parts : WavParts) (octets head rest : List ℕ) : Type 0 where
  pub chunks : List (List ℕ)
  pub closed : done ≡ Some (part_files format (plan.blocks * block) octets chunks)
  pub times : AreChunks plan.stamped plan.step plan.at (chunks ++ parts.wav.chunk ∷ [])
  pub at : parts.at ≡ time_behind plan.step plan.at (length chunks)
  pub held : HasData contents parts.wav head (little_samples format.enc (drop (length chunks * (plan.blocks * block)) octets)) rest
  pub few : parts.left ≤ plan.blocks
  pub left : length octets + parts.left * block ≡ length chunks * (plan.blocks * block) + plan.blocks * block
