-- A WAV file that is written live: its header is written again while samples are added.
use Rattle.std.specs.Prelude.{◌≡◌, ℕ, ◌+◌, List, [], ◌∷◌, ◌++◌, length, take, drop, ⊤, Option, Some, None}
use Rattle.wav_file.specs.declared.header.WavFormat.{WavFormat}
use Rattle.wav_file.specs.Header.{header_with}
use Rattle.wav_file.specs.File.{pad_octets}

-- the view of a file that is written live: its format, the chunk before it, if any, and the number of its octets of
-- data
pub record LiveState : Type 0 where
  pub format : WavFormat
  pub chunk : List ℕ
  pub count : ℕ

-- if the octets are known, the first `len` of them are left
abbrev pub IsCut : Option (List ℕ) → Option (List ℕ) → ℕ → Type 0
IsCut None new len = ⊤
IsCut (Some held) None len = ⊥
IsCut (Some held) (Some left) len = left ≡ take len held

-- a file whose octets are known: a header, whatever its sizes say; the data, which are counted; and a rest that is not
pub record HasData (contents : Option (List ℕ)) (wav : LiveState) (head octets rest : List ℕ) : Type 0 where
  pub holds : contents ≡ Some (head ++ octets ++ rest)
  pub size : length head ≡ 80 + length wav.chunk
  pub count : wav.count ≡ length octets

-- a header over which `written` octets of another one were written, with the sizes of `count` octets of data
abbrev pub header_over : WavFormat → List ℕ → ℕ → ℕ → List ℕ → List ℕ
header_over format chunk count written head = take written (header_with format chunk count) ++ drop written head

-- the data are kept, whatever happened to the header and to what is behind the data
pub record KeepsData (contents : Option (List ℕ)) (wav : LiveState) (octets : List ℕ) : Type 0 where
  pub head : List ℕ
  pub rest : List ℕ
  pub held : HasData contents wav head octets rest

-- the whole file
abbrev pub live_octets : WavFormat → List ℕ → List ℕ → List ℕ
live_octets format chunk octets = header_with format chunk (length octets) ++ octets ++ pad_octets (length octets)

-- a file was closed: if the octets of the closed files and of this file are known, this file's follow the others
abbrev pub Closes : Option (List (List ℕ)) → Option (List (List ℕ)) → Option (List ℕ) → Type 0
Closes None closed contents = ⊤
Closes (Some files) None contents = ⊥
Closes (Some files) (Some closed) None = ⊤
Closes (Some files) (Some closed) (Some octets) = closed ≡ files ++ octets ∷ []
