-- A stream's file while its samples are written.
use Rattle.std.specs.Prelude.{◌≡◌, ℕ, ℤ, List, [], take, drop, Option, None}
use Rattle.rtp_stream.specs.declared.stream_spec.Stream.{Stream}
use Rattle.rtp_stream.specs.MarkFacts.{MarkView}
use Rattle.studio_session.specs.Event.{TraceEvent}
use Rattle.studio_session.specs.Cursor.{CursorState, HasPulled}
use Rattle.studio_session.specs.Play.{stream_marks}
use Rattle.wav_runs.specs.MixWav.{HasAdded}
use Rattle.wav_runs.specs.StreamSamples.{end_of, samples_behind, stream_format}
use Rattle.wav_runs.specs.declared.stream_track.StreamTrack.{StreamTrack}

-- a file with a header and no samples
abbrev pub first_track : Stream → StreamTrack
first_track stream = record { wav = record { format = stream_format stream; count = 0 }; frames = stream.frames; end = None }

-- the samples of these marks were added
pub record HasTracked (made made_then : Option (List ℕ)) (track track_then : StreamTrack) (marks : List MarkView) : Type 0 where
  pub added : HasAdded made made_then track.wav track_then.wav (samples_behind track.wav.format track.frames track.end marks)
  pub frames : track_then.frames ≡ track.frames
  pub end : track_then.end ≡ end_of track.frames track.end marks

-- the stream has returned the first `given` of its marks, and their samples were added
pub record HasTaken (stream : Stream) (number : ℕ) (open_at : ℤ) (events : List TraceEvent) (made : Option (List ℕ)) (track : StreamTrack) (cursor : CursorState) (made_then : Option (List ℕ)) (track_then : StreamTrack) : Type 0 where
  pub given : ℕ
  pub pulled : HasPulled stream number open_at events cursor given
  pub tracked : HasTracked made made_then track track_then (take given (stream_marks stream number open_at events))

-- the marks so far were taken, and none is left of the events that were taken
pub record HasTakenAll (stream : Stream) (number : ℕ) (open_at : ℤ) (events : List TraceEvent) (made : Option (List ℕ)) (track : StreamTrack) (cursor : CursorState) (made_then : Option (List ℕ)) (track_then : StreamTrack) : Type 0 where
  pub taken : HasTaken stream number open_at events made track cursor made_then track_then
  pub none : [] ≡ take 1 (drop taken.given (stream_marks stream number open_at (take cursor.place events)))
