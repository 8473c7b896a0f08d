-- A stream's WAV file while the events of a run arrive one by one.
use Rattle.std.specs.Prelude.{◌≡◌, ℕ, ℤ, Bool, true, false, List, [], ◌++◌, length, Option, Some}
use Rattle.rtp_stream.specs.declared.stream_spec.Stream.{Stream}
use Rattle.studio_session.specs.Event.{TraceEvent}
use Rattle.studio_session.specs.Cursor.{CursorState, HasPulled, IsRunnable}
use Rattle.studio_session.specs.Play.{stream_marks}
use Rattle.wav_file.specs.declared.header.WavFormat.{WavFormat}
use Rattle.wav_file.specs.Header.{header_octets}
use Rattle.wav_file.specs.PartFile.{HasPrefix}
use Rattle.wav_runs.specs.StreamSamples.{samples_behind, stream_format}
use Rattle.wav_runs.specs.StreamTrack.{HasTaken, HasTracked, first_track}
use Rattle.wav_runs.specs.declared.stream_track.StreamTrack.{StreamTrack}

-- the view of a file that is written: its octets, if its contents are known, the end of its samples, its stream's
-- cursor, and whether a write failed
pub record StreamWavState : Type 0 where
  pub made : Option (List ℕ)
  pub track : StreamTrack
  pub cursor : CursorState
  pub failed : Bool

-- the file is the header of this stream's samples alone, and no event was taken
pub record HasStreamHead (stream : Stream) (number : ℕ) (open_at : ℤ) (state : StreamWavState) : Type 0 where
  pub made : state.made ≡ Some (header_octets (stream_format stream) 0)
  pub track : state.track ≡ first_track stream
  pub pulled : HasPulled stream number open_at [] state.cursor 0

-- exactly these events were taken, and the samples of the first of their marks were added
pub record HasTakenEvents (stream : Stream) (number : ℕ) (open_at : ℤ) (first now : StreamWavState) (events : List TraceEvent) : Type 0 where
  pub place : now.cursor.place ≡ length events
  pub taken : HasTaken stream number open_at events first.made first.track now.cursor now.made now.track

-- exactly these events were taken, and the samples of all their marks were added
pub record HasTakenDue (stream : Stream) (number : ℕ) (open_at : ℤ) (first now : StreamWavState) (events : List TraceEvent) : Type 0 where
  pub place : now.cursor.place ≡ length events
  pub pulled : HasPulled stream number open_at events now.cursor (length (stream_marks stream number open_at events))
  pub tracked : HasTracked first.made now.made first.track now.track (stream_marks stream number open_at events)

-- the file after these events: as long as no write failed, they were taken; after that, it has a prefix of their
-- samples
abbrev pub HasFollowedBy : Bool → Stream → ℕ → ℤ → StreamWavState → StreamWavState → List TraceEvent → Type 0
HasFollowedBy false stream number open_at first now events = HasTakenEvents stream number open_at first now events
HasFollowedBy true stream number open_at first now events =
    HasPrefix first.made now.made first.track.wav now.track.wav
    (samples_behind first.track.wav.format first.track.frames first.track.end (stream_marks stream number open_at events))

-- the file follows these events, for the stream whose cursor it began with, if their clock readings are in order
abbrev pub HasFollowed : StreamWavState → StreamWavState → List TraceEvent → Type 0
HasFollowed first now events =
    (stream : Stream) (number : ℕ) (open_at : ℤ) → IsRunnable stream number open_at events → HasPulled stream number open_at [] first.cursor 0
    → HasFollowedBy now.failed stream number open_at first now events

abbrev pub HasFollowedDue : StreamWavState → StreamWavState → List TraceEvent → Type 0
HasFollowedDue first now events =
    (stream : Stream) (number : ℕ) (open_at : ℤ) → IsRunnable stream number open_at events → HasPulled stream number open_at [] first.cursor 0
    → HasTakenDue stream number open_at first now events

-- a file with a prefix of these samples: octets that its sizes count, and a rest that they leave out
pub record HasSamplesFront (format : WavFormat) (made : Option (List ℕ)) (samples : List ℕ) : Type 0 where
  pub octets : List ℕ
  pub rest : List ℕ
  pub left : List ℕ
  pub all : samples ≡ (octets ++ rest) ++ left
  pub holds : made ≡ Some (header_octets format (length octets) ++ octets ++ rest)
