-- The samples of a stream's marks, one mark after another.
use Rattle.std.proofs.Common.{◌≡◌, ◌≤◌, ◌+◌, ℕ, ℤ, List, [], ◌∷◌, ◌++◌, length, take, drop, Option, Some, None, refl, sym, ap, subst, ◌∙◌, arith, append_assoc, length-append}
use Rattle.std.specs.Option.{option_to_list}
use Rattle.std.specs.Io.KnownBytes.{Appends}
use Rattle.std.proofs.KnownBytes.{Appends-nil, Appends-trans}
use Rattle.std.proofs.lemmas.List.{append-nil, take_all}
use Rattle.std.proofs.Math.Seq.{take-add}
use Rattle.rtp_stream.specs.declared.stream_spec.Stream.{Stream}
use Rattle.rtp_stream.specs.MarkFacts.{MarkView}
use Rattle.studio_session.specs.Event.{TraceEvent}
use Rattle.studio_session.specs.Cursor.{CursorState, HasPulled, IsOnTheWay, IsRunnable}
use Rattle.studio_session.specs.Play.{stream_marks}
use Rattle.studio_session.proofs.CursorLemmas.{mark_of_whole}
use Rattle.studio_session.proofs.ReportLemmas.{all_taken}
use Rattle.wav_file.specs.declared.header.WavFormat.{WavFormat}
use Rattle.wav_file.specs.File.{WavState}
use Rattle.wav_runs.specs.MixWav.{HasAdded}
use Rattle.wav_runs.specs.StreamSamples.{end_after, end_of, mark_samples, samples_behind}
use Rattle.wav_runs.specs.StreamTrack.{HasTaken, HasTakenAll, HasTracked}
use Rattle.wav_runs.specs.declared.stream_track.StreamTrack.{StreamTrack}

-- the samples of some marks, and of those behind them
pub samples_both : (format : WavFormat) (frames : ℕ) (end : Option ℤ) (xs ys : List MarkView)
    → samples_behind format frames end (xs ++ ys) ≡ samples_behind format frames end xs ++ samples_behind format frames (end_of frames end xs) ys
samples_both format frames end [] ys = refl
samples_both format frames end (x ∷ xs) ys =
    let next = end_after frames end x.kind in
    let first = mark_samples format frames end x.kind in
    ap (λ l. first ++ l) (samples_both format frames next xs ys)
    ∙ sym (append_assoc first (samples_behind format frames next xs) (samples_behind format frames (end_of frames next xs) ys))

end_both : (frames : ℕ) (end : Option ℤ) (xs ys : List MarkView) → end_of frames end (xs ++ ys) ≡ end_of frames (end_of frames end xs) ys
end_both frames end [] ys = refl
end_both frames end (x ∷ xs) ys = end_both frames (end_after frames end x.kind) xs ys

-- nothing was added
added_none : (m : Option (List ℕ)) (wav : WavState) → HasAdded m m wav wav []
added_none m wav = record { added = Appends-nil m; count = omega arith; format = refl }

-- one part after another
pub added_both : (m n o : Option (List ℕ)) (wav mid then : WavState) (xs ys : List ℕ) → HasAdded m n wav mid xs → HasAdded n o mid then ys → HasAdded m o wav then (xs ++ ys)
added_both m n o wav mid then xs ys first second = record {
  added = Appends-trans m n o xs ys first.added second.added;
  count = omega (arith, second.count, first.count, length-append xs ys);
  format = second.format ∙ first.format;
}

-- the file after a push, and what it counted
pub added_by : (m n : Option (List ℕ)) (wav then : WavState) (xs : List ℕ) → Appends m n xs → then ≡ record { format = wav.format; count = wav.count + length xs } → HasAdded m n wav then xs
added_by m n wav then xs added is = record {
  added = added;
  count = ap (λ (w : WavState). w.count) is;
  format = ap (λ (w : WavState). w.format) is;
}

-- no mark came
pub tracked_none : (m : Option (List ℕ)) (track : StreamTrack) → HasTracked m m track track []
tracked_none m track = record { added = added_none m track.wav; frames = refl; end = refl }

-- the samples of some marks, and then of others
tracked_both : (m n o : Option (List ℕ)) (track mid then : StreamTrack) (xs ys : List MarkView) → HasTracked m n track mid xs → HasTracked n o mid then ys → HasTracked m o track then (xs ++ ys)
tracked_both m n o track mid then xs ys first second =
    let same : samples_behind mid.wav.format mid.frames mid.end ys ≡ samples_behind track.wav.format track.frames (end_of track.frames track.end xs) ys =
    ap (λ f. samples_behind f mid.frames mid.end ys) first.added.format ∙ ap (λ n. samples_behind track.wav.format n mid.end ys) first.frames
    ∙ ap (λ e. samples_behind track.wav.format track.frames e ys) first.end in
    record {
      added = subst (HasAdded m o track.wav then.wav) (sym (samples_both track.wav.format track.frames track.end xs ys))
          (added_both m n o track.wav mid.wav then.wav (samples_behind track.wav.format track.frames track.end xs) (samples_behind track.wav.format track.frames (end_of track.frames track.end xs) ys)
          first.added (subst (HasAdded n o mid.wav then.wav) same second.added));
      frames = second.frames ∙ first.frames;
      end = second.end ∙ ap (λ n. end_of n mid.end ys) first.frames ∙ ap (λ e. end_of track.frames e ys) first.end ∙ sym (end_both track.frames track.end xs ys);
    }

-- nothing was taken yet
pub taken_none : (stream : Stream) (number : ℕ) (open_at : ℤ) (events : List TraceEvent) (m : Option (List ℕ)) (track : StreamTrack) (cursor : CursorState)
    → HasPulled stream number open_at events cursor 0 → HasTaken stream number open_at events m track cursor m track
taken_none stream number open_at events m track cursor pulled = record { given = 0; pulled = pulled; tracked = tracked_none m track }

-- one mark more was
taken_more : (stream : Stream) (number : ℕ) (open_at : ℤ) (events : List TraceEvent) (m n o : Option (List ℕ)) (track mid then : StreamTrack) (old new : CursorState) (mark : MarkView)
    → (t : HasTaken stream number open_at events m track old n mid) → mark ∷ [] ≡ take 1 (drop t.given (stream_marks stream number open_at events))
    → HasPulled stream number open_at events new (t.given + 1) → HasTracked n o mid then (mark ∷ []) → HasTaken stream number open_at events m track new o then
taken_more stream number open_at events m n o track mid then old new mark t is pulled more =
    let marks = stream_marks stream number open_at events in
    let same : take t.given marks ++ mark ∷ [] ≡ take (t.given + 1) marks = ap (λ l. take t.given marks ++ l) is ∙ sym (take-add t.given 1 marks) in
    record {
      given = t.given + 1;
      pulled = pulled;
      tracked = subst (HasTracked m o track then) same (tracked_both m n o track mid then (take t.given marks) (mark ∷ []) t.tracked more);
    }

-- the next mark was, if there is one
taken_given : (stream : Stream) (number : ℕ) (open_at : ℤ) (events : List TraceEvent) (m n o : Option (List ℕ)) (track mid then : StreamTrack) (old new : CursorState) (mark : Option MarkView)
    → IsRunnable stream number open_at events → (t : HasTaken stream number open_at events m track old n mid) → IsOnTheWay stream number open_at events new t.given mark
    → HasTracked n o mid then (option_to_list mark) → HasTaken stream number open_at events m track new o then
taken_given stream number open_at events m n o track mid then old new (Some mark) run t given more =
    taken_more stream number open_at events m n o track mid then old new mark t
    (mark_of_whole stream number open_at events new.place t.given mark run (given.mark mark refl)) given.stands more
taken_given stream number open_at events m n o track mid then old new None run t given more =
    let none : t.given + 0 ≡ t.given = omega arith in
    let marks = take t.given (stream_marks stream number open_at events) in
    record {
      given = t.given;
      pulled = subst (HasPulled stream number open_at events new) none given.stands;
      tracked = subst (HasTracked m o track then) (append-nil marks) (tracked_both m n o track mid then marks [] t.tracked more);
    }

-- the same, with a mark that a cursor returned by reference
pub taken_lent : (stream : Stream) (number : ℕ) (open_at : ℤ) (events : List TraceEvent) (m n o : Option (List ℕ)) (track mid then : StreamTrack) (old new : CursorState) (mark lent : Option MarkView)
    → IsRunnable stream number open_at events → (t : HasTaken stream number open_at events m track old n mid) → IsOnTheWay stream number open_at events new t.given mark
    → lent ≡ mark → HasTracked n o mid then (option_to_list lent) → HasTaken stream number open_at events m track new o then
taken_lent stream number open_at events m n o track mid then old new mark lent run t given is more =
    taken_given stream number open_at events m n o track mid then old new mark run t given (subst (λ x. HasTracked n o mid then (option_to_list x)) is more)

-- the cursor went on
pub taken_next : (stream : Stream) (number : ℕ) (open_at : ℤ) (events : List TraceEvent) (m n : Option (List ℕ)) (track mid : StreamTrack) (old new : CursorState)
    → (t : HasTaken stream number open_at events m track old n mid) → HasPulled stream number open_at events new t.given → HasTaken stream number open_at events m track new n mid
taken_next stream number open_at events m n track mid old new t pulled = record { given = t.given; pulled = pulled; tracked = t.tracked }

-- nothing is left
pub taken_all : (stream : Stream) (number : ℕ) (open_at : ℤ) (events : List TraceEvent) (m n : Option (List ℕ)) (track mid : StreamTrack) (cursor : CursorState) → length events ≤ cursor.place
    → HasTakenAll stream number open_at events m track cursor n mid → HasTracked m n track mid (stream_marks stream number open_at events)
taken_all stream number open_at events m n track mid cursor all t =
    let whole : take cursor.place events ≡ events = take_all cursor.place events all in
    let none = subst (λ es. [] ≡ take 1 (drop t.taken.given (stream_marks stream number open_at es))) whole t.none in
    subst (HasTracked m n track mid) (all_taken t.taken.given (stream_marks stream number open_at events) none) t.taken.tracked
