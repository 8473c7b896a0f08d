-- A report and a WAV file that are written together.
use Rattle.std.specs.Prelude.{◌≡◌, ℕ, ◌+◌, List, [], ◌++◌, length, Option}
use Rattle.std.specs.Io.KnownBytes.{Appends}
use Rattle.studio_config.specs.Studio.{Studio}
use Rattle.studio_session.specs.Event.{TraceEvent}
use Rattle.studio_session.specs.Play.{HasPlayed, SessionState}
use Rattle.studio_session.specs.Run.{AreDatagrams, HasGivenBlocks}
use Rattle.studio_run.specs.Listing.{counts_text_of, datagrams_text}
use Rattle.studio_run.specs.Buffer.{PassesOn}
use Rattle.wav_file.specs.declared.header.WavFormat.{WavFormat}
use Rattle.wav_file.specs.File.{Becomes, Holds, WavState, wav_octets}
use Rattle.wav_file.specs.MixSamples.{samples_in}

-- these samples were added to a file
pub record HasAdded (made made_then : Option (List ℕ)) (wav wav_then : WavState) (octets : List ℕ) : Type 0 where
  pub added : Appends made made_then octets
  pub count : wav_then.count ≡ wav.count + length octets
  pub format : wav_then.format ≡ wav.format

-- the lines of the datagrams so far were written, and their samples added to the file
pub record IsRecording (studio : Studio) (events : List TraceEvent) (written : Option (List ℕ)) (held : List ℕ) (made : Option (List ℕ)) (wav : WavState)
    (session : SessionState) (written_then : Option (List ℕ)) (held_then : List ℕ) (made_then : Option (List ℕ)) (wav_then : WavState) : Type 0 where
  pub datagrams : List (List ℕ)
  pub given : HasGivenBlocks studio events session datagrams
  pub wrote : PassesOn written held written_then held_then (datagrams_text datagrams)
  pub samples : HasAdded made made_then wav wav_then (samples_in wav.format.enc datagrams)

-- the lines of the datagrams of all ready blocks were written, and their samples added to the file
pub record HasRecorded (studio : Studio) (events : List TraceEvent) (written : Option (List ℕ)) (held : List ℕ) (made : Option (List ℕ)) (wav : WavState)
    (session : SessionState) (written_then : Option (List ℕ)) (held_then : List ℕ) (made_then : Option (List ℕ)) (wav_then : WavState) : Type 0 where
  pub datagrams : List (List ℕ)
  pub ready : AreDatagrams studio events datagrams
  pub played : HasPlayed studio events session (length datagrams)
  pub wrote : PassesOn written held written_then held_then (datagrams_text datagrams)
  pub samples : HasAdded made made_then wav wav_then (samples_in wav.format.enc datagrams)

-- the datagrams of exactly the ready blocks are in a report that was written whole, and their samples were added to a
-- file
pub record HasBoth (studio : Studio) (events : List TraceEvent) (written written_then made made_then : Option (List ℕ)) (wav wav_then : WavState) : Type 0 where
  pub datagrams : List (List ℕ)
  pub ready : AreDatagrams studio events datagrams
  pub report : Appends written written_then (datagrams_text datagrams ++ counts_text_of studio events)
  pub samples : HasAdded made made_then wav wav_then (samples_in wav.format.enc datagrams)

-- the report was written whole, and the file is the WAV file of its datagrams' samples, if it was empty before
pub record Records (studio : Studio) (events : List TraceEvent) (format : WavFormat) (written written_then made made_then : Option (List ℕ)) : Type 0 where
  pub datagrams : List (List ℕ)
  pub ready : AreDatagrams studio events datagrams
  pub report : Appends written written_then (datagrams_text datagrams ++ counts_text_of studio events)
  pub wav : Holds made [] → Becomes made made_then (wav_octets format (samples_in format.enc datagrams))
