-- A WAV file that broke off: a write failed before all samples and the sizes were written.
use Rattle.std.specs.Prelude.{◌≡◌, ℕ, ◌+◌, List, ◌++◌, length, take, drop, ⊤, Option, Some, None}
use Rattle.std.specs.Io.KnownBytes.{Appends}
use Rattle.wav_file.specs.declared.header.WavFormat.{WavFormat}
use Rattle.wav_file.specs.Header.{header_octets}
use Rattle.wav_file.specs.File.{WavState}

-- a header whose sizes were written in part: `written` octets have the sizes of this much data, and the others those of
-- no data
abbrev pub part_header : WavFormat → ℕ → ℕ → List ℕ
part_header format count written = take written (header_octets format count) ++ drop written (header_octets format 0)

-- if the octets are known, they became those of a file that broke off: its header, the data of its sizes, and a rest
-- that the sizes leave out
abbrev pub BecomesPart : Option (List ℕ) → Option (List ℕ) → WavFormat → List ℕ → List ℕ → Type 0
BecomesPart None new format octets rest = ⊤
BecomesPart (Some old) None format octets rest = ⊥
BecomesPart (Some old) (Some new) format octets rest = (written : ℕ) × (new ≡ part_header format (length octets) written ++ octets ++ rest)

-- octets were added: the first of them are counted as data, and the rest is not
pub record HasPart (made made_then : Option (List ℕ)) (wav wav_then : WavState) (octets rest : List ℕ) : Type 0 where
  pub added : Appends made made_then (octets ++ rest)
  pub count : wav_then.count ≡ wav.count + length octets
  pub format : wav_then.format ≡ wav.format

-- a prefix of these samples was added: some octets that are counted, and a rest that is not
pub record HasPrefix (made made_then : Option (List ℕ)) (wav wav_then : WavState) (samples : List ℕ) : Type 0 where
  pub octets : List ℕ
  pub rest : List ℕ
  pub left : List ℕ
  pub all : samples ≡ (octets ++ rest) ++ left
  pub added : HasPart made made_then wav wav_then octets rest
