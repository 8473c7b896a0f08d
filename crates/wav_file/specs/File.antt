-- A WAV file while it is written, and whole.
use Rattle.std.specs.Prelude.{◌≡◌, ◌≤◌, ℕ, ◌*◌, ◌%◌, ◌==◌, List, [], ◌∷◌, ◌++◌, length, take, drop, replicate, ⊤, Option, Some, None, if◌then◌else◌}
use Rattle.wav_file.specs.declared.header.WavFormat.{WavFormat}
use Rattle.wav_file.specs.Header.{frame_length, header_octets}

-- the view of a file that is written: its format, and the number of its octets of data
pub record WavState : Type 0 where
  pub format : WavFormat
  pub count : ℕ

-- a writer has these octets, if its contents are known
abbrev pub Holds : Option (List ℕ) → List ℕ → Type 0
Holds None octets = ⊤
Holds (Some held) octets = held ≡ octets

-- if the octets are known, these were written over the first of them
abbrev pub Overwrites : Option (List ℕ) → Option (List ℕ) → List ℕ → Type 0
Overwrites None new octets = ⊤
Overwrites (Some old) None octets = ⊥
Overwrites (Some old) (Some new) octets = length octets ≤ length old → new ≡ octets ++ drop (length octets) old

-- if the octets are known, a prefix of these was written over the first of them before a write failed
abbrev pub OverwritesPart : Option (List ℕ) → Option (List ℕ) → List ℕ → Type 0
OverwritesPart None new octets = ⊤
OverwritesPart (Some old) None octets = ⊥
OverwritesPart (Some old) (Some new) octets = length octets ≤ length old → (written : ℕ) × (written ≤ length octets) × (new ≡ take written octets ++ drop written old)

-- if the octets were known, they are now these
abbrev pub Becomes : Option (List ℕ) → Option (List ℕ) → List ℕ → Type 0
Becomes None new octets = ⊤
Becomes (Some old) None octets = ⊥
Becomes (Some old) (Some new) octets = new ≡ octets

-- the octet 0 that follows data of an odd length
abbrev pub pad_octets : ℕ → List ℕ
pad_octets count = if count % 2 == 1 then 0 ∷ [] else []

-- the whole file
abbrev pub wav_octets : WavFormat → List ℕ → List ℕ
wav_octets format octets = header_octets format (length octets) ++ octets ++ pad_octets (length octets)

-- the file so far: a header without data, the data, and a rest that isn't counted
pub record IsBegun (written : Option (List ℕ)) (wav : WavState) (octets rest : List ℕ) : Type 0 where
  pub holds : Holds written (header_octets wav.format 0 ++ octets ++ rest)
  pub count : wav.count ≡ length octets

-- the octets of this many sampling instants of silence
abbrev pub silent_octets : WavFormat → ℕ → List ℕ
silent_octets format instants = replicate (instants * frame_length format) 0
