-- A listing and a stream's file.
use Rattle.std.proofs.Common.{◌≡◌, ℕ, ℤ, List, [], Option, None, Ok, refl, sym, ap, subst, ◌∙◌}
use Rattle.std.specs.Io.KnownBytes.{Appends, Consumes, IsAtEnd}
use Rattle.rtp_wire.specs.declared.encoding.Enc.{Enc}
use Rattle.rtp_stream.specs.declared.stream_spec.Stream.{Stream as AStream}
use Rattle.rtp_stream.specs.MarkFacts.{MarkView}
use Rattle.studio_config.specs.Studio.{Studio}
use Rattle.studio_session.specs.Event.{TraceEvent}
use Rattle.studio_session.specs.Fault.{session_fault_of}
use Rattle.studio_session.specs.Cursor.{CursorState, HasPaths, HasPulled, IsReadyFor}
use Rattle.studio_run.specs.Trace.{trace_events}
use Rattle.studio_run.specs.Buffer.{BreaksOff}
use Rattle.studio_run.specs.Listing.{listing_text}
use Rattle.studio_run.specs.Play.{IsListing}
use Rattle.studio_run.proofs.PlayLemmas.{fails_later, fails_read}
use Rattle.wav_file.specs.declared.header.WavFormat.{WavFormat}
use Rattle.wav_file.specs.Header.{header_octets}
use Rattle.wav_file.specs.File.{Becomes, Holds, IsBegun, WavState, wav_octets}
use Rattle.wav_runs.specs.StreamSamples.{samples_behind, stream_format, stream_samples}
use Rattle.wav_runs.specs.MixWav.{HasAdded}
use Rattle.wav_runs.specs.StreamTrack.{HasTracked}
use Rattle.wav_runs.specs.declared.stream_track.StreamTrack.{StreamTrack}
use Rattle.wav_runs.specs.declared.fault.WavRunFault.{WavRunFault}
use Rattle.wav_runs.specs.declared.fault.WavRunFault.TheVariants.{Play, Stream, File}
use Rattle.wav_runs.specs.StreamRun.{FailsBoth, FailsListing}
use Rattle.wav_runs.proofs.MixWavLemmas.{file_whole}

-- a cursor before the first event is ready for events
pub ready_for : (stream : AStream) (number : ℕ) (open_at : ℤ) (events : List TraceEvent) (cursor : CursorState) → cursor.place ≡ 0
    → HasPulled stream number open_at events cursor 0 → HasPaths stream number events → IsReadyFor events cursor
ready_for stream number open_at events cursor first pulled paths = record {
  within = pulled.within;
  paths = subst (λ (s : AStream). HasPaths s cursor.number events) (sym pulled.spec) (subst (λ n. HasPaths stream n events) (sym pulled.stream_number) paths);
}

-- the format of a cursor's stream
pub format_by : (spec stream : AStream) (enc : Enc) (channels : ℕ) → spec ≡ stream → enc ≡ spec.enc → channels ≡ spec.channels → record { enc = enc; channels = channels } ≡ stream_format stream
format_by spec stream enc channels same e c =
    ap (λ (x : Enc). by x channels) e ∙ ap (λ n. by spec.enc n) c ∙ ap stream_format same
  where
    by : Enc → ℕ → WavFormat
    by x n = record { enc = x; channels = n }

-- a file that was created empty became the file of a stream's marks
pub stream_written : (a b c d : Option (List ℕ)) (stream : AStream) (format : WavFormat) (first then : StreamTrack) (marks : List MarkView) → format ≡ stream_format stream → first.wav ≡ record { format = format; count = 0 }
    → first.frames ≡ stream.frames → first.end ≡ None → Appends a b (header_octets format 0) → HasTracked b c first then marks
    → ((all : List ℕ) → IsBegun c then.wav all [] → Becomes c d (wav_octets then.wav.format all)) → Holds a [] → Becomes a d (wav_octets (stream_format stream) (stream_samples stream marks))
stream_written a b c d stream format first then marks is new own none head tracked sizes empty =
    let begun : WavState = record { format = format; count = 0 } in
    let samples : List ℕ = samples_behind format stream.frames None marks in
    let same : samples_behind first.wav.format first.frames first.end marks ≡ samples =
    ap (λ (w : WavState). samples_behind w.format first.frames first.end marks) new ∙ ap (λ n. samples_behind format n first.end marks) own
    ∙ ap (λ e. samples_behind format stream.frames e marks) none in
    let added : HasAdded b c begun then.wav samples =
    subst (λ (w : WavState). HasAdded b c w then.wav samples) new (subst (HasAdded b c first.wav then.wav) same tracked.added) in
    subst (λ (f : WavFormat). Becomes a d (wav_octets f (samples_behind f stream.frames None marks))) is
    (file_whole a b c d begun then.wav samples refl head added sizes empty)

-- the listing broke off
pub broken_listing : (studio : Studio) (events : List TraceEvent) (a b : Option (List ℕ)) → BreaksOff a [] b (listing_text studio events)
    → (text : List ℕ) → IsListing studio events text → BreaksOff a [] b text
broken_listing studio events a b broke text is = subst (BreaksOff a [] b) (sym is) broke

-- events of an input were not listed
pub fails_with : (studio : Studio) (number : ℕ) (left left_then : Option (List ℕ)) (trace : List ℕ) (events : List TraceEvent) (a b : Option (List ℕ)) (fault : WavRunFault)
    → Consumes left left_then trace → IsAtEnd left_then → trace_events trace ≡ Ok events → session_fault_of studio events ≡ None → FailsBoth studio events a b fault
    → FailsListing studio number left left_then a b fault
fails_with studio number left left_then trace events a b (Play fault) read end said runs fails =
    fails_read studio IsListing left left_then trace a b fault read end (fails_later studio IsListing trace events a b fault said runs fails)
fails_with studio number left left_then trace events a b (Stream fault) read end said runs fails = absurd fails
fails_with studio number left left_then trace events a b (File fault) read end said runs fails = fails
