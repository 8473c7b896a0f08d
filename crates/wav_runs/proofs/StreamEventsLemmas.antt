-- A stream's file while the events of a run come one by one.
use Rattle.std.proofs.Common.{◌≡◌, ◌≤◌, ◌+◌, ℕ, ℤ, Bool, true, false, ◌&&◌, List, [], ◌∷◌, ◌++◌, length, take, drop, Option, Some, None, refl, sym, ap, subst, ◌∙◌, arith, append-nil, take-append-drop}
use Rattle.std.specs.Io.KnownBytes.{Appends}
use Rattle.std.proofs.lemmas.Grind.{flat_map-append}
use Rattle.std.proofs.lemmas.List.{length_push, take_all}
use Rattle.rtp_stream.specs.declared.stream_spec.Stream.{Stream}
use Rattle.rtp_stream.specs.History.{is_well_timed}
use Rattle.rtp_stream.specs.MarkFacts.{MarkView}
use Rattle.rtp_stream.specs.Marks.{marks_of}
use Rattle.path_merge.specs.Goal.{HasGivenAll}
use Rattle.path_merge.proofs.HistoryLemmas.{is_well_timed_from-append}
use Rattle.path_merge.proofs.LawLemmas.{marks_stay}
use Rattle.studio_session.specs.Event.{TraceEvent}
use Rattle.studio_session.specs.Session.{event_in, step_of, stream_history}
use Rattle.studio_session.specs.Cursor.{HasPulled, IsRunnable, IsSameCursor}
use Rattle.studio_session.specs.PushedEvents.{IsHanded}
use Rattle.studio_session.specs.ReadingSteps.{IsOnWay}
use Rattle.studio_session.specs.Play.{stream_marks}
use Rattle.studio_session.proofs.CursorLemmas.{settled}
use Rattle.wav_file.specs.declared.header.WavFormat.{WavFormat}
use Rattle.wav_file.specs.Header.{header_octets}
use Rattle.wav_file.specs.File.{Becomes, IsBegun, WavState, wav_octets}
use Rattle.wav_runs.specs.MixWav.{HasAdded}
use Rattle.wav_file.specs.PartFile.{HasPart, HasPrefix}
use Rattle.wav_runs.specs.StreamSamples.{end_of, samples_behind, stream_format, stream_samples}
use Rattle.wav_runs.specs.StreamTrack.{HasTaken, HasTakenAll, HasTracked}
use Rattle.wav_runs.specs.StreamEvents.{HasFollowed, HasFollowedBy, HasFollowedDue, HasSamplesFront, HasStreamHead, HasTakenEvents, StreamWavState}
use Rattle.wav_runs.specs.declared.stream_track.StreamTrack.{StreamTrack}
use Rattle.wav_runs.proofs.BrokenFileLemmas.{begun_part}
use Rattle.wav_runs.proofs.StreamPartLemmas.{prefix_longer}
use Rattle.wav_runs.proofs.StreamRunLemmas.{stream_written}
use Rattle.wav_runs.proofs.StreamTrackLemmas.{samples_both, taken_all, taken_none}

and_left : (a b : Bool) → (a && b) ≡ true → a ≡ true
and_left true b e = refl
and_left false b e = e

-- the readings of the first events are in order
runnable_first : (stream : Stream) (number : ℕ) (open_at : ℤ) (events more : List TraceEvent) → IsRunnable stream number open_at (events ++ more) → IsRunnable stream number open_at events
runnable_first stream number open_at events more run =
    let one = λ (e : TraceEvent). event_in (step_of stream number e) in
    let both = flat_map-append one events more in
    let first = stream_history stream number events in
    let rest = stream_history stream number more in
    record {
      some_frames = run.some_frames;
      well_timed = and_left (is_well_timed open_at first) _ (sym (is_well_timed_from-append open_at false first rest) ∙ ap (is_well_timed open_at) (sym both) ∙ run.well_timed);
    }

-- their marks are the first of all
marks_first : (stream : Stream) (number : ℕ) (open_at : ℤ) (events more : List TraceEvent) → IsRunnable stream number open_at (events ++ more)
    → take (length (stream_marks stream number open_at events)) (stream_marks stream number open_at (events ++ more)) ≡ stream_marks stream number open_at events
marks_first stream number open_at events more run =
    let one = λ (e : TraceEvent). event_in (step_of stream number e) in
    let both = flat_map-append one events more in
    ap (λ h. take (length (stream_marks stream number open_at events)) (marks_of stream open_at h)) both
    ∙ marks_stay stream open_at run.some_frames (stream_history stream number events) (stream_history stream number more) (ap (is_well_timed open_at) (sym both) ∙ run.well_timed)

-- the samples of the first marks, and of those behind them
samples_split : (format : WavFormat) (frames : ℕ) (end : Option ℤ) (k : ℕ) (marks : List MarkView)
    → samples_behind format frames end marks ≡ samples_behind format frames end (take k marks) ++ samples_behind format frames (end_of frames end (take k marks)) (drop k marks)
samples_split format frames end k marks = ap (samples_behind format frames end) (sym (take-append-drop k marks)) ∙ samples_both format frames end (take k marks) (drop k marks)

-- octets that were added are the first of more
added_first : (m n : Option (List ℕ)) (wav then : WavState) (xs ys : List ℕ) → HasAdded m n wav then xs → HasPrefix m n wav then (xs ++ ys)
added_first m n wav then xs ys a = record {
  octets = xs;
  rest = [];
  left = ys;
  all = ap (λ l. l ++ ys) (sym (append-nil xs));
  added = record { added = subst (Appends m n) (sym (append-nil xs)) a.added; count = a.count; format = a.format };
}

-- the samples of the first marks are a prefix of all samples
tracked_first : (m n : Option (List ℕ)) (track then : StreamTrack) (k : ℕ) (marks : List MarkView) → HasTracked m n track then (take k marks)
    → HasPrefix m n track.wav then.wav (samples_behind track.wav.format track.frames track.end marks)
tracked_first m n track then k marks t =
    let format = track.wav.format in
    subst (HasPrefix m n track.wav then.wav) (sym (samples_split format track.frames track.end k marks))
    (added_first m n track.wav then.wav (samples_behind format track.frames track.end (take k marks))
    (samples_behind format track.frames (end_of track.frames track.end (take k marks)) (drop k marks)) t.added)

-- the first octets of the samples of some marks are the first of those of more
prefix_first : (m n : Option (List ℕ)) (wav then : WavState) (format : WavFormat) (frames : ℕ) (end : Option ℤ) (some marks : List MarkView) → take (length some) marks ≡ some
    → HasPrefix m n wav then (samples_behind format frames end some) → HasPrefix m n wav then (samples_behind format frames end marks)
prefix_first m n wav then format frames end some marks are p =
    let k = length some in
    let more = samples_behind format frames (end_of frames end (take k marks)) (drop k marks) in
    subst (HasPrefix m n wav then) (ap (λ l. samples_behind format frames end l ++ more) (sym are) ∙ sym (samples_split format frames end k marks))
    (prefix_longer m n wav then (samples_behind format frames end some) more p)

-- nothing was taken yet
pub followed_none : (state : StreamWavState) → state.failed ≡ false → state.cursor.place ≡ 0 → HasFollowed state state []
followed_none state whole start = λ stream number open_at run pulled.
    subst (λ b. HasFollowedBy b stream number open_at state state []) (sym whole)
    (record { place = start; taken = taken_none stream number open_at [] state.made state.track state.cursor pulled })

-- the samples of all marks of the events so far were added
pub followed_due : (first old new : StreamWavState) (events : List TraceEvent) → old.failed ≡ false
    → ((stream : Stream) (number : ℕ) (open_at : ℤ) (events : List TraceEvent) (made : Option (List ℕ)) (track : StreamTrack) → IsRunnable stream number open_at events
    → HasTaken stream number open_at events made track old.cursor old.made old.track → HasTakenAll stream number open_at events made track new.cursor new.made new.track)
    → new.cursor.reading ≡ None → HasGivenAll new.cursor.merge → IsSameCursor old.cursor new.cursor → HasFollowed first old events → HasFollowedDue first new events
followed_due first old new events whole adds none all same followed = λ stream number open_at run pulled.
    let before : HasTakenEvents stream number open_at first old events = subst (λ b. HasFollowedBy b stream number open_at first old events) whole (followed stream number open_at run pulled) in
    let left = adds stream number open_at events first.made first.track run before.taken in
    let given = left.taken.given in
    let place : new.cursor.place ≡ length events = same.place ∙ before.place in
    let past : length events ≤ new.cursor.place = omega (arith, place) in
    let h = stream_history stream number events in
    let way : IsOnWay stream open_at new.cursor.merge new.cursor.reading h given =
    subst (λ es. IsOnWay stream open_at new.cursor.merge new.cursor.reading (stream_history stream number es) given) (take_all new.cursor.place events past) left.taken.pulled.stands in
    let count : given ≡ length (stream_marks stream number open_at events) = all stream open_at h given run.some_frames (settled stream open_at new.cursor.merge new.cursor.reading h given none way) in
    record {
      place = place;
      pulled = subst (HasPulled stream number open_at events new.cursor) count left.taken.pulled;
      tracked = taken_all stream number open_at events first.made new.made first.track new.track new.cursor past left;
    }

-- a write failed while an event was taken
pub followed_broken : (first old new : StreamWavState) (events : List TraceEvent) → old.failed ≡ false → new.failed ≡ true
    → ((stream : Stream) (number : ℕ) (open_at : ℤ) (events : List TraceEvent) (made : Option (List ℕ)) (track : StreamTrack) → IsRunnable stream number open_at events
    → HasTaken stream number open_at events made track old.cursor old.made old.track
    → HasPrefix made new.made track.wav new.track.wav (samples_behind track.wav.format track.frames track.end (stream_marks stream number open_at events)))
    → HasFollowed first old events → HasFollowed first new events
followed_broken first old new events whole then breaks followed = λ stream number open_at run pulled.
    let before : HasTakenEvents stream number open_at first old events = subst (λ b. HasFollowedBy b stream number open_at first old events) whole (followed stream number open_at run pulled) in
    subst (λ b. HasFollowedBy b stream number open_at first new events) (sym then) (breaks stream number open_at events first.made first.track run before.taken)

-- nothing more is written
pub followed_stop : (first old new : StreamWavState) (events : List TraceEvent) → old.failed ≡ false → new.failed ≡ true → old.made ≡ new.made → old.track ≡ new.track
    → HasFollowed first old events → HasFollowed first new events
followed_stop first old new events whole then made track followed = λ stream number open_at run pulled.
    let before : HasTakenEvents stream number open_at first old events = subst (λ b. HasFollowedBy b stream number open_at first old events) whole (followed stream number open_at run pulled) in
    let samples = samples_behind first.track.wav.format first.track.frames first.track.end (stream_marks stream number open_at events) in
    let front = tracked_first first.made old.made first.track old.track before.taken.given (stream_marks stream number open_at events) before.taken.tracked in
    subst (λ b. HasFollowedBy b stream number open_at first new events) (sym then)
    (subst (λ (t : StreamTrack). HasPrefix first.made new.made first.track.wav t.wav samples) track (subst (λ m. HasPrefix first.made m first.track.wav old.track.wav samples) made front))

-- whatever comes after that
pub followed_still : (first now : StreamWavState) (events : List TraceEvent) (event : TraceEvent) → now.failed ≡ true → HasFollowed first now events → HasFollowed first now (events ++ event ∷ [])
followed_still first now events event failed followed = λ stream number open_at run pulled.
    let track = first.track in
    let before = subst (λ b. HasFollowedBy b stream number open_at first now events) failed (followed stream number open_at (runnable_first stream number open_at events (event ∷ []) run) pulled) in
    subst (λ b. HasFollowedBy b stream number open_at first now (events ++ event ∷ [])) (sym failed)
    (prefix_first first.made now.made track.wav now.track.wav track.wav.format track.frames track.end (stream_marks stream number open_at events) (stream_marks stream number open_at (events ++ event ∷ []))
    (marks_first stream number open_at events (event ∷ []) run) before)

-- the cursor took one event more
pub due_handed : (first old new : StreamWavState) (events : List TraceEvent) (event : TraceEvent) → new.failed ≡ false → old.made ≡ new.made → old.track ≡ new.track
    → IsHanded event old.cursor.number old.cursor new.cursor → HasFollowedDue first old events → HasFollowed first new (events ++ event ∷ [])
due_handed first old new events event whole made track handed due = λ stream number open_at run pulled.
    let all = events ++ event ∷ [] in
    let before = due stream number open_at (runnable_first stream number open_at events (event ∷ []) run) pulled in
    let marks = stream_marks stream number open_at events in
    let own : IsHanded event number old.cursor new.cursor = subst (λ n. IsHanded event n old.cursor new.cursor) before.pulled.stream_number handed in
    let tracked = subst (λ (t : StreamTrack). HasTracked first.made new.made first.track t marks) track (subst (λ m. HasTracked first.made m first.track old.track marks) made before.tracked) in
    let taken : HasTakenEvents stream number open_at first new all = record {
      place = own.place ∙ ap (λ n. n + 1) before.place ∙ sym (length_push events event);
      taken = record {
        given = length marks;
        pulled = own.stands stream open_at events (length marks) run before.place before.pulled;
        tracked = subst (HasTracked first.made new.made first.track new.track) (sym (marks_first stream number open_at events (event ∷ []) run)) tracked;
      };
    } in
    subst (λ b. HasFollowedBy b stream number open_at first new all) (sym whole) taken

-- an event could not be taken, and nothing more is written
pub due_stop : (first old new : StreamWavState) (events : List TraceEvent) (event : TraceEvent) → new.failed ≡ true → old.made ≡ new.made → old.track ≡ new.track
    → HasFollowedDue first old events → HasFollowed first new (events ++ event ∷ [])
due_stop first old new events event then made track due = λ stream number open_at run pulled.
    let all = events ++ event ∷ [] in
    let before = due stream number open_at (runnable_first stream number open_at events (event ∷ []) run) pulled in
    let marks = stream_marks stream number open_at events in
    let tracked = subst (λ (t : StreamTrack). HasTracked first.made new.made first.track t marks) track (subst (λ m. HasTracked first.made m first.track old.track marks) made before.tracked) in
    subst (λ b. HasFollowedBy b stream number open_at first new all) (sym then)
    (tracked_first first.made new.made first.track new.track (length marks) (stream_marks stream number open_at all)
    (subst (HasTracked first.made new.made first.track new.track) (sym (marks_first stream number open_at events (event ∷ []) run)) tracked))

-- known octets became these
became : (x : List ℕ) (d : Option (List ℕ)) (octets : List ℕ) → Becomes (Some x) d octets → d ≡ Some octets
became x None octets is = absurd is
became x (Some y) octets is = ap Some is

-- a file is whole
pub stream_finished : (first now : StreamWavState) (stream : Stream) (number : ℕ) (open_at : ℤ) (events : List TraceEvent) (d : Option (List ℕ)) → HasStreamHead stream number open_at first
    → IsRunnable stream number open_at events → HasFollowedDue first now events → ((octets : List ℕ) → IsBegun now.made now.track.wav octets [] → Becomes now.made d (wav_octets now.track.wav.format octets))
    → d ≡ Some (wav_octets (stream_format stream) (stream_samples stream (stream_marks stream number open_at events)))
stream_finished first now stream number open_at events d head run due sizes =
    let marks = stream_marks stream number open_at events in
    let format = stream_format stream in
    let begun = due stream number open_at run head.pulled in
    became [] d (wav_octets format (stream_samples stream marks))
    (stream_written (Some []) first.made now.made d stream format first.track now.track marks refl (ap (λ (t : StreamTrack). t.wav) head.track) (ap (λ (t : StreamTrack). t.frames) head.track)
    (ap (λ (t : StreamTrack). t.end) head.track) (subst (λ m. Appends (Some []) m (header_octets format 0)) (sym head.made) refl) begun.tracked sizes refl)

-- the first octets of the samples are in the file, whether a write failed or not
prefix_by : (b : Bool) (first now : StreamWavState) (stream : Stream) (number : ℕ) (open_at : ℤ) (events : List TraceEvent) → HasFollowedBy b stream number open_at first now events
    → HasPrefix first.made now.made first.track.wav now.track.wav (samples_behind first.track.wav.format first.track.frames first.track.end (stream_marks stream number open_at events))
prefix_by false first now stream number open_at events t = tracked_first first.made now.made first.track now.track t.taken.given (stream_marks stream number open_at events) t.taken.tracked
prefix_by true first now stream number open_at events p = p

-- their sizes were written
front_sized : (y : List ℕ) (c d : Option (List ℕ)) (wav then : WavState) (octets rest : List ℕ) → y ≡ header_octets wav.format 0 → wav.count ≡ 0 → HasPart (Some y) c wav then octets rest
    → ((octets rest : List ℕ) → IsBegun c then octets rest → Becomes c d (header_octets then.format (length octets) ++ octets ++ rest)) → d ≡ Some (header_octets wav.format (length octets) ++ octets ++ rest)
front_sized y None d wav then octets rest head none part sizes = absurd part.added
front_sized y (Some z) d wav then octets rest head none part sizes =
    became z d _ (sizes octets rest (begun_part y z wav then octets rest head none part)) ∙ ap (λ f. Some (header_octets f (length octets) ++ octets ++ rest)) part.format

pub stream_broken : (first now : StreamWavState) (stream : Stream) (number : ℕ) (open_at : ℤ) (events : List TraceEvent) (d : Option (List ℕ)) → HasStreamHead stream number open_at first
    → IsRunnable stream number open_at events → HasFollowed first now events
    → ((octets rest : List ℕ) → IsBegun now.made now.track.wav octets rest → Becomes now.made d (header_octets now.track.wav.format (length octets) ++ octets ++ rest))
    → HasSamplesFront (stream_format stream) d (stream_samples stream (stream_marks stream number open_at events))
stream_broken first now stream number open_at events d head run followed sizes =
    let format = stream_format stream in
    let new : WavState = record { format = format; count = 0 } in
    let y = header_octets format 0 in
    let samples = stream_samples stream (stream_marks stream number open_at events) in
    let own = λ (m : Option (List ℕ)) (t : StreamTrack). HasPrefix m now.made t.wav now.track.wav (samples_behind t.wav.format t.frames t.end (stream_marks stream number open_at events)) in
    let p : HasPrefix (Some y) now.made new now.track.wav samples =
    subst (own (Some y)) head.track (subst (λ m. own m first.track) head.made (prefix_by now.failed first now stream number open_at events (followed stream number open_at run head.pulled))) in
    record {
      octets = p.octets;
      rest = p.rest;
      left = p.left;
      all = p.all;
      holds = front_sized y now.made d new now.track.wav p.octets p.rest refl refl p.added sizes;
    }
