-- The WAV file of a mix or of a stream that broke off: a write failed before all samples and the sizes were written.
use Rattle.std.specs.Prelude.{◌≡◌, ◌⊎◌, ℕ, List, ◌++◌, length, take, Option}
use Rattle.std.specs.Io.KnownBytes.{Appends}
use Rattle.wav_file.specs.declared.header.WavFormat.{WavFormat}
use Rattle.wav_file.specs.Header.{header_octets}
use Rattle.wav_file.specs.File.{WavState, pad_octets}
use Rattle.wav_file.specs.PartFile.{BecomesPart, HasPart}
use Rattle.wav_file.specs.MixSamples.{samples_in}

-- the samples of the first of these datagrams were added, and the first octets of the following samples, which are not
-- counted
pub record HasFirst (made made_then : Option (List ℕ)) (wav wav_then : WavState) (datagrams : List (List ℕ)) : Type 0 where
  pub whole : ℕ
  pub rest : List ℕ
  pub left : List ℕ
  pub all : samples_in wav.format.enc datagrams ≡ (samples_in wav.format.enc (take whole datagrams) ++ rest) ++ left
  pub added : HasPart made made_then wav wav_then (samples_in wav.format.enc (take whole datagrams)) rest

-- a file broke off in its header
abbrev pub BreaksHeader : WavFormat → Option (List ℕ) → Option (List ℕ) → Type 0
BreaksHeader format made made_then = (written : ℕ) × Appends made made_then (take written (header_octets format 0))

-- the file broke off behind its header: it has the samples of the first of these datagrams, all of each, which its
-- sizes count, and the first octets of what would have followed: the other samples, and the octet that makes their
-- number even
pub record BreaksSamples (format : WavFormat) (datagrams : List (List ℕ)) (made made_then : Option (List ℕ)) : Type 0 where
  pub whole : ℕ
  pub rest : List ℕ
  pub left : List ℕ
  pub all : samples_in format.enc datagrams ++ pad_octets (length (samples_in format.enc datagrams)) ≡ (samples_in format.enc (take whole datagrams) ++ rest) ++ left
  pub becomes : BecomesPart made made_then format (samples_in format.enc (take whole datagrams)) rest

abbrev pub BreaksOffMix : WavFormat → List (List ℕ) → Option (List ℕ) → Option (List ℕ) → Type 0
BreaksOffMix format datagrams made made_then = BreaksHeader format made made_then ⊎ BreaksSamples format datagrams made made_then

-- the file broke off behind its header: it has a prefix of these samples and of the octet that makes their number even;
-- its sizes count a part of this prefix
pub record BreaksWithin (format : WavFormat) (samples : List ℕ) (made made_then : Option (List ℕ)) : Type 0 where
  pub octets : List ℕ
  pub rest : List ℕ
  pub left : List ℕ
  pub all : samples ++ pad_octets (length samples) ≡ (octets ++ rest) ++ left
  pub becomes : BecomesPart made made_then format octets rest

abbrev pub BreaksOffStream : WavFormat → List ℕ → Option (List ℕ) → Option (List ℕ) → Type 0
BreaksOffStream format samples made made_then = BreaksHeader format made made_then ⊎ BreaksWithin format samples made made_then
