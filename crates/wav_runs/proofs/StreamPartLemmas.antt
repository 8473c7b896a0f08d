-- The file of a stream that broke off.
use Rattle.std.proofs.Common.{◌≡◌, inr, ℕ, ℤ, List, [], ◌∷◌, ◌++◌, length, take, drop, Option, Some, None, Result, Ok, Err, OnErr, refl, sym, ap, subst, ◌∙◌, arith, append_assoc, length-append, take-append-drop}
use Rattle.std.specs.Option.{option_to_list}
use Rattle.std.specs.Io.KnownBytes.{Appends}
use Rattle.std.proofs.KnownBytes.{Appends-trans}
use Rattle.rtp_stream.specs.declared.stream_spec.Stream.{Stream}
use Rattle.rtp_stream.specs.MarkFacts.{MarkView}
use Rattle.studio_session.specs.Event.{TraceEvent}
use Rattle.studio_session.specs.Cursor.{CursorState, IsOnTheWay, IsRunnable}
use Rattle.studio_session.specs.Play.{stream_marks}
use Rattle.studio_session.proofs.CursorLemmas.{mark_of_whole}
use Rattle.wav_file.specs.declared.header.WavFormat.{WavFormat}
use Rattle.wav_file.specs.Header.{header_octets}
use Rattle.wav_file.specs.File.{Holds, IsBegun, WavState, pad_octets}
use Rattle.wav_runs.specs.MixWav.{HasAdded}
use Rattle.wav_file.specs.PartFile.{BecomesPart, HasPrefix}
use Rattle.wav_runs.specs.BrokenFile.{BreaksOffStream, BreaksWithin}
use Rattle.wav_runs.specs.StreamSamples.{end_of, samples_behind, stream_format, stream_samples}
use Rattle.wav_runs.specs.StreamTrack.{HasTaken, HasTracked}
use Rattle.wav_runs.specs.declared.stream_track.StreamTrack.{StreamTrack}
use Rattle.wav_runs.proofs.BrokenFileLemmas.{becomes_end, becomes_mix}
use Rattle.wav_runs.proofs.StreamTrackLemmas.{added_both, samples_both}

-- a push broke off: nothing of it is counted
pub prefix_of_push : (m n : Option (List ℕ)) (wav then : WavState) (samples : List ℕ) (k : ℕ) → Appends m n (take k samples) → then ≡ wav → HasPrefix m n wav then samples
prefix_of_push m n wav then samples k part same =
    let counted : then.count ≡ wav.count = ap (λ (w : WavState). w.count) same in
    record {
      octets = [];
      rest = take k samples;
      left = drop k samples;
      all = sym (take-append-drop k samples);
      added = record { added = part; count = omega (arith, counted); format = ap (λ (w : WavState). w.format) same };
    }

pub push_part : {T E : Type 0} (r : Result T E) (m n : Option (List ℕ)) (wav then : WavState) (samples : List ℕ) → OnErr r ((k : ℕ) × Appends m n (take k samples)) → OnErr r (then ≡ wav) → OnErr r (HasPrefix m n wav then samples)
push_part (Ok value) m n wav then samples part same = tt
push_part (Err fault) m n wav then samples part same = prefix_of_push m n wav then samples part.0 part.1 same

-- more would have followed
pub prefix_longer : (m n : Option (List ℕ)) (wav then : WavState) (xs ys : List ℕ) → HasPrefix m n wav then xs → HasPrefix m n wav then (xs ++ ys)
prefix_longer m n wav then xs ys p = record {
  octets = p.octets;
  rest = p.rest;
  left = p.left ++ ys;
  all = ap (λ l. l ++ ys) p.all ∙ append_assoc (p.octets ++ p.rest) p.left ys;
  added = p.added;
}

-- others were added before
pub prefix_behind : (m n o : Option (List ℕ)) (wav mid then : WavState) (xs ys : List ℕ) → HasAdded m n wav mid xs → HasPrefix n o mid then ys → HasPrefix m o wav then (xs ++ ys)
prefix_behind m n o wav mid then xs ys first p =
    let before = first.count in
    let more = p.added.count in
    let long = length-append xs p.octets in
    record {
      octets = xs ++ p.octets;
      rest = p.rest;
      left = p.left;
      all = ap (λ l. xs ++ l) p.all ∙ sym (append_assoc xs (p.octets ++ p.rest) p.left) ∙ ap (λ l. l ++ p.left) (sym (append_assoc xs p.octets p.rest));
      added = record {
        added = subst (Appends m o) (sym (append_assoc xs p.octets p.rest)) (Appends-trans m n o xs (p.octets ++ p.rest) first.added p.added.added);
        count = omega (arith, more, before, long);
        format = p.added.format ∙ first.format;
      };
    }

-- a slot: its samples come behind its gap
pub slot_added : (m n o : Option (List ℕ)) (old mid new : WavState) (xs : List ℕ) (body : WavFormat → ℕ → List ℕ) (j k : ℕ) → HasAdded m n old mid xs → j ≡ k → HasAdded n o mid new (body mid.format j) → HasAdded m o old new (xs ++ body old.format k)
slot_added m n o old mid new xs body j k first same second =
    added_both m n o old mid new xs (body old.format k) first (subst (λ i. HasAdded n o mid new (body old.format i)) same (subst (λ f. HasAdded n o mid new (body f j)) first.format second))

pub slot_part : (m n o : Option (List ℕ)) (old mid new : WavState) (xs : List ℕ) (body : WavFormat → ℕ → List ℕ) (j k : ℕ) → HasAdded m n old mid xs → j ≡ k → HasPrefix n o mid new (body mid.format j) → HasPrefix m o old new (xs ++ body old.format k)
slot_part m n o old mid new xs body j k first same second =
    prefix_behind m n o old mid new xs (body old.format k) first (subst (λ i. HasPrefix n o mid new (body old.format i)) same (subst (λ f. HasPrefix n o mid new (body f j)) first.format second))

-- the next mark is among all marks, with others behind it
around : (marks : List MarkView) (g : ℕ) (mark : Option MarkView) → ((m : MarkView) → mark ≡ Some m → m ∷ [] ≡ take 1 (drop g marks)) → (more : List MarkView) × (marks ≡ take g marks ++ (option_to_list mark ++ more))
around marks g None next = (drop g marks, sym (take-append-drop g marks))
around marks g (Some m) next =
    let rest = drop g marks in
    (drop 1 rest, sym (take-append-drop g marks) ∙ ap (λ l. take g marks ++ l) (sym (take-append-drop 1 rest) ∙ ap (λ l. l ++ drop 1 rest) (sym (next m refl))))

-- the next mark's samples broke off
pub taken_part : (stream : Stream) (number : ℕ) (open_at : ℤ) (events : List TraceEvent) (m n o : Option (List ℕ)) (track mid : StreamTrack) (then : WavState) (old new : CursorState) (mark lent : Option MarkView)
    → IsRunnable stream number open_at events → (t : HasTaken stream number open_at events m track old n mid) → IsOnTheWay stream number open_at events new t.given mark → lent ≡ mark
    → HasPrefix n o mid.wav then (samples_behind mid.wav.format mid.frames mid.end (option_to_list lent))
    → HasPrefix m o track.wav then (samples_behind track.wav.format track.frames track.end (stream_marks stream number open_at events))
taken_part stream number open_at events m n o track mid then old new mark lent run t given is part =
    let marks = stream_marks stream number open_at events in
    let some = take t.given marks in
    let one = option_to_list mark in
    let format = track.wav.format in
    let frames = track.frames in
    let end = track.end in
    let next = end_of frames end some in
    let where_is = around marks t.given mark (λ v e. mark_of_whole stream number open_at events new.place t.given v run (given.mark v e)) in
    let more = where_is.0 in
    let front = samples_behind format frames end some in
    let own : samples_behind mid.wav.format mid.frames mid.end (option_to_list lent) ≡ samples_behind format frames next one =
    ap (λ f. samples_behind f mid.frames mid.end (option_to_list lent)) t.tracked.added.format ∙ ap (λ k. samples_behind format k mid.end (option_to_list lent)) t.tracked.frames
    ∙ ap (λ e. samples_behind format frames e (option_to_list lent)) t.tracked.end ∙ ap (λ v. samples_behind format frames next (option_to_list v)) is in
    let piece = samples_behind format frames next one in
    let others = samples_behind format frames (end_of frames next one) more in
    let whole : samples_behind format frames end marks ≡ front ++ (piece ++ others) =
    ap (samples_behind format frames end) where_is.1 ∙ samples_both format frames end some (one ++ more) ∙ ap (λ l. front ++ l) (samples_both format frames next one more) in
    subst (HasPrefix m o track.wav then) (sym whole)
    (prefix_behind m n o track.wav mid.wav then front (piece ++ others) t.tracked.added
    (prefix_longer n o mid.wav then piece others (subst (HasPrefix n o mid.wav then) own part)))

-- the sizes were written behind the data, or not
pub broke_stream : (a b c d : Option (List ℕ)) (stream : Stream) (format : WavFormat) (first : StreamTrack) (then : WavState) (marks : List MarkView) → format ≡ stream_format stream → first.wav ≡ record { format = format; count = 0 }
    → first.frames ≡ stream.frames → first.end ≡ None → Appends a b (header_octets format 0)
    → HasPrefix b c first.wav then (samples_behind first.wav.format first.frames first.end marks)
    → ((octets rest : List ℕ) → IsBegun c then octets rest → BecomesPart c d then.format octets rest) → Holds a [] → BreaksOffStream (stream_format stream) (stream_samples stream marks) a d
broke_stream a b c d stream format first then marks is new own none head has sizes empty =
    let begun : WavState = record { format = format; count = 0 } in
    let samples : List ℕ = samples_behind format stream.frames None marks in
    let same : samples_behind first.wav.format first.frames first.end marks ≡ samples =
    ap (λ (w : WavState). samples_behind w.format first.frames first.end marks) new ∙ ap (λ n. samples_behind format n first.end marks) own
    ∙ ap (λ e. samples_behind format stream.frames e marks) none in
    let h : HasPrefix b c begun then samples = subst (λ (w : WavState). HasPrefix b c w then samples) new (subst (HasPrefix b c first.wav then) same has) in
    let pad = pad_octets (length samples) in
    let breaks : BreaksWithin format samples a d = record {
      octets = h.octets;
      rest = h.rest;
      left = h.left ++ pad;
      all = ap (λ l. l ++ pad) h.all ∙ append_assoc (h.octets ++ h.rest) h.left pad;
      becomes = becomes_mix a b c d begun then h.octets h.rest refl head h.added sizes empty;
    } in
    subst (λ (f : WavFormat). BreaksOffStream f (samples_behind f stream.frames None marks) a d) is (inr breaks)

-- all samples were written, and the end of the file wasn't
pub broke_stream_end : (a b c d : Option (List ℕ)) (stream : Stream) (format : WavFormat) (first then : StreamTrack) (marks : List MarkView) → format ≡ stream_format stream → first.wav ≡ record { format = format; count = 0 }
    → first.frames ≡ stream.frames → first.end ≡ None → Appends a b (header_octets format 0) → HasTracked b c first then marks
    → ((octets : List ℕ) → IsBegun c then.wav octets [] → (n : ℕ) × BecomesPart c d then.wav.format octets (take n (pad_octets (length octets)))) → Holds a [] → BreaksOffStream (stream_format stream) (stream_samples stream marks) a d
broke_stream_end a b c d stream format first then marks is new own none head tracked sizes empty =
    let begun : WavState = record { format = format; count = 0 } in
    let samples : List ℕ = samples_behind format stream.frames None marks in
    let same : samples_behind first.wav.format first.frames first.end marks ≡ samples =
    ap (λ (w : WavState). samples_behind w.format first.frames first.end marks) new ∙ ap (λ n. samples_behind format n first.end marks) own
    ∙ ap (λ e. samples_behind format stream.frames e marks) none in
    let added : HasAdded b c begun then.wav samples = subst (λ (w : WavState). HasAdded b c w then.wav samples) new (subst (HasAdded b c first.wav then.wav) same tracked.added) in
    let ends = becomes_end a b c d begun then.wav samples refl head added sizes empty in
    let n = ends.0 in
    let pad = pad_octets (length samples) in
    let breaks : BreaksWithin format samples a d = record {
      octets = samples;
      rest = take n pad;
      left = drop n pad;
      all = ap (λ l. samples ++ l) (sym (take-append-drop n pad)) ∙ sym (append_assoc samples (take n pad) (drop n pad));
      becomes = ends.1;
    } in
    subst (λ (f : WavFormat). BreaksOffStream f (samples_behind f stream.frames None marks) a d) is (inr breaks)
