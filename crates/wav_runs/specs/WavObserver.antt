-- The samples of a replay's datagrams in a WAV file.
use Rattle.std.specs.Prelude.{◌≡◌, ◌≤◌, ℕ, ◌+◌, Bool, true, false, List, ◌++◌, length, take, Option, Some}
use Rattle.std.specs.Io.KnownBytes.{Appends}
use Rattle.wav_file.specs.declared.header.WavFormat.{WavFormat}
use Rattle.wav_file.specs.Header.{header_octets}
use Rattle.wav_file.specs.File.{WavState}
use Rattle.studio_session.specs.Event.{TraceEvent}
use Rattle.wav_runs.specs.MixWav.{HasAdded}
use Rattle.wav_file.specs.MixSamples.{samples_in}
use Rattle.pcap_replay.specs.Observed.{HasHeardIf}

-- the view of a file that is written: its octets, if its contents are known, its format and count, and whether a write
-- failed
pub record SoundState : Type 0 where
  pub made : Option (List ℕ)
  pub wav : WavState
  pub failed : Bool

-- the contents of the file are known, and are its header alone
pub record HasHead (sound : SoundState) : Type 0 where
  pub whole : sound.failed ≡ false
  pub none : sound.wav.count ≡ 0
  pub made : sound.made ≡ Some (header_octets sound.wav.format 0)

-- the samples of the first `count` of these datagrams were added, whole payloads, and a rest that isn't counted
pub record HasAddedFirst (first now : SoundState) (datagrams : List (List ℕ)) : Type 0 where
  pub count : ℕ
  pub within : count ≤ length datagrams
  pub rest : List ℕ
  pub added : Appends first.made now.made (samples_in first.wav.format.enc (take count datagrams) ++ rest)
  pub counted : now.wav.count ≡ first.wav.count + length (samples_in first.wav.format.enc (take count datagrams))
  pub format : now.wav.format ≡ first.wav.format

-- the samples of all these datagrams were added; or, once a write failed, of some first ones
abbrev pub HasAddedBy : Bool → SoundState → SoundState → List (List ℕ) → Type 0
HasAddedBy false first now datagrams = HasAdded first.made now.made first.wav now.wav (samples_in first.wav.format.enc datagrams)
HasAddedBy true first now datagrams = HasAddedFirst first now datagrams

abbrev pub HasSounded : SoundState → SoundState → List (List ℕ) → Type 0
HasSounded first now datagrams = HasAddedBy now.failed first now datagrams

-- the samples of these datagrams were added to a file, if there is one, whatever the events
abbrev pub HasSoundedIf : Option SoundState → Option SoundState → List TraceEvent → List (List ℕ) → Type 0
HasSoundedIf first now events datagrams = HasHeardIf (λ first now _ datagrams. HasSounded first now datagrams) first now events datagrams

-- the file has the samples of the first `count` of these datagrams, with their sizes, and a rest that isn't counted
pub record HasFront (format : WavFormat) (made : Option (List ℕ)) (datagrams : List (List ℕ)) : Type 0 where
  pub count : ℕ
  pub within : count ≤ length datagrams
  pub rest : List ℕ
  pub holds : made ≡ Some (header_octets format (length (samples_in format.enc (take count datagrams))) ++ samples_in format.enc (take count datagrams) ++ rest)
