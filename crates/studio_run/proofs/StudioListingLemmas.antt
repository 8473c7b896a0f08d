-- The lines of a studio's marks, one after another.
use Rattle.std.proofs.Common.{◌≡◌, inl, inr, ◌<◌, ◌≤◌, ◌+◌, ℕ, zero, suc, ℤ, List, [], ◌∷◌, ◌++◌, length, take, drop, get_or, Option, Some, None, set, slice_get, refl, sym, ap, subst, ◌∙◌, arith, append_assoc, take-append-drop}
use Rattle.std.proofs.lemmas.Bool.{cases_lt}
use Rattle.std.proofs.lemmas.List.{append-nil, take_all}
use Rattle.std.proofs.lemmas.Option.{slice_get-get_or, slice_get_within}
use Rattle.std.proofs.Math.Seq.{take-add}
use Rattle.rtp_stream.specs.declared.stream_spec.Stream.{Stream}
use Rattle.rtp_stream.specs.MarkFacts.{MarkView}
use Rattle.studio_session.specs.Event.{TraceEvent}
use Rattle.studio_session.specs.Cursor.{CursorState, HasPulled, IsOnTheWay, IsRunnable}
use Rattle.studio_session.proofs.CursorLemmas.{mark_of_whole}
use Rattle.studio_config.specs.Studio.{Studio}
use Rattle.studio_session.specs.Play.{AreNew, stream_marks}
use Rattle.studio_session.specs.Report.{ArePulled, HasPulledSome}
use Rattle.studio_mix.proofs.MixerLemmas.{set_other_at, set_same_at}
use Rattle.studio_session.proofs.ReportLemmas.{all_taken}
use Rattle.studio_run.specs.Buffer.{PassesOn, BreaksOff}
use Rattle.studio_run.specs.Text.{mark_line, marks_text, next_line}
use Rattle.studio_run.specs.Listing.{stream_listing, texts_from}
use Rattle.studio_run.specs.StudioListing.{HasListed, HasListedAll}
use Rattle.studio_run.proofs.BufferLemmas.{PassesOn-none, PassesOn-trans, BreaksOff-longer, BreaksOff-later}

marks_text-append : (number : ℕ) (xs ys : List MarkView) → marks_text number (xs ++ ys) ≡ marks_text number xs ++ marks_text number ys
marks_text-append number [] ys = refl
marks_text-append number (x ∷ xs) ys =
    ap (λ l. mark_line number x.kind ++ l) (marks_text-append number xs ys) ∙ sym (append_assoc (mark_line number x.kind) (marks_text number xs) (marks_text number ys))

-- the lines after that of one more mark
lines_more : (number k : ℕ) (marks : List MarkView) (mark : MarkView) → mark ∷ [] ≡ take 1 (drop k marks)
    → marks_text number (take (k + 1) marks) ≡ marks_text number (take k marks) ++ mark_line number mark.kind
lines_more number k marks mark is =
    ap (marks_text number) (take-add k 1 marks ∙ ap (λ l. take k marks ++ l) (sym is))
    ∙ marks_text-append number (take k marks) (mark ∷ [])
    ∙ ap (λ l. marks_text number (take k marks) ++ l) (append-nil (mark_line number mark.kind))

-- the lines of all marks are those of the first marks and of the rest
lines_all : (number k : ℕ) (marks : List MarkView) → marks_text number marks ≡ marks_text number (take k marks) ++ marks_text number (drop k marks)
lines_all number k marks = ap (marks_text number) (sym (take-append-drop k marks)) ∙ marks_text-append number (take k marks) (drop k marks)

-- one more mark was written
listed_more : (stream : Stream) (number : ℕ) (open_at : ℤ) (events : List TraceEvent) (a b c : Option (List ℕ)) (h i j : List ℕ) (old new : CursorState) (mark : MarkView) (named : ℕ)
    → (l : HasListed stream number open_at events a h old b i) → mark ∷ [] ≡ take 1 (drop l.given (stream_marks stream number open_at events))
    → HasPulled stream number open_at events new (l.given + 1) → named ≡ number → PassesOn b i c j (mark_line named mark.kind)
    → HasListed stream number open_at events a h new c j
listed_more stream number open_at events a b c h i j old new mark named l is pulled same line = record {
  given = l.given + 1;
  pulled = pulled;
  wrote = subst (λ t. PassesOn a h c j t) (sym (lines_more number l.given (stream_marks stream number open_at events) mark is))
      (PassesOn-trans a b c h i j (marks_text number (take l.given (stream_marks stream number open_at events))) (mark_line number mark.kind) l.wrote
      (subst (λ n. PassesOn b i c j (mark_line n mark.kind)) same line));
}

-- the line of the next mark was written, if there is one
pub listed_given : (stream : Stream) (number : ℕ) (open_at : ℤ) (events : List TraceEvent) (a b c : Option (List ℕ)) (h i j : List ℕ) (old new : CursorState) (mark : Option MarkView) (named : ℕ)
    → IsRunnable stream number open_at events → (l : HasListed stream number open_at events a h old b i) → IsOnTheWay stream number open_at events new l.given mark
    → named ≡ number → PassesOn b i c j (next_line named mark) → HasListed stream number open_at events a h new c j
listed_given stream number open_at events a b c h i j old new (Some mark) named run l given same line =
    listed_more stream number open_at events a b c h i j old new mark named l
    (mark_of_whole stream number open_at events new.place l.given mark run (given.mark mark refl)) given.stands same line
listed_given stream number open_at events a b c h i j old new None named run l given same line =
    let none : l.given + 0 ≡ l.given = omega arith in
    let marks = marks_text number (take l.given (stream_marks stream number open_at events)) in
    record {
      given = l.given;
      pulled = subst (HasPulled stream number open_at events new) none given.stands;
      wrote = subst (PassesOn a h c j) (append-nil marks) (PassesOn-trans a b c h i j marks [] l.wrote line);
    }

-- writing broke off before a further line
pub listed_fault : (stream : Stream) (number : ℕ) (open_at : ℤ) (events : List TraceEvent) (a b c : Option (List ℕ)) (h i : List ℕ) (old : CursorState)
    → HasListed stream number open_at events a h old b i → BreaksOff b i c [] → BreaksOff a h c (stream_listing open_at events stream number)
listed_fault stream number open_at events a b c h i old l fault =
    let marks = stream_marks stream number open_at events in
    let first = marks_text number (take l.given marks) in
    subst (BreaksOff a h c) (sym (lines_all number l.given marks))
    (BreaksOff-longer a c h first (marks_text number (drop l.given marks)) (subst (BreaksOff a h c) (append-nil first) (BreaksOff-later a b c h i first [] l.wrote fault)))

-- the lines of all marks were written
pub listed_all : (stream : Stream) (number : ℕ) (open_at : ℤ) (events : List TraceEvent) (a b : Option (List ℕ)) (h i : List ℕ) (cursor : CursorState) → length events ≤ cursor.place
    → HasListedAll stream number open_at events a h cursor b i → PassesOn a h b i (stream_listing open_at events stream number)
listed_all stream number open_at events a b h i cursor all l =
    let whole : take cursor.place events ≡ events = take_all cursor.place events all in
    let none = subst (λ es. [] ≡ take 1 (drop l.listed.given (stream_marks stream number open_at es))) whole l.none in
    subst (λ t. PassesOn a h b i (marks_text number t)) (all_taken l.listed.given (stream_marks stream number open_at events) none) l.listed.wrote

-- the cursor took more events, and no mark was returned
pub listed_next : (stream : Stream) (number : ℕ) (open_at : ℤ) (events : List TraceEvent) (a b : Option (List ℕ)) (h i : List ℕ) (old new : CursorState)
    → (l : HasListed stream number open_at events a h old b i) → HasPulled stream number open_at events new l.given → HasListed stream number open_at events a h new b i
listed_next stream number open_at events a b h i old new l pulled = record { given = l.given; pulled = pulled; wrote = l.wrote }

-- nothing was written yet
pub listed_none : (stream : Stream) (number : ℕ) (open_at : ℤ) (events : List TraceEvent) (a : Option (List ℕ)) (h : List ℕ) (cursor : CursorState) → HasPulled stream number open_at events cursor 0
    → HasListed stream number open_at events a h cursor a h
listed_none stream number open_at events a h cursor pulled = record { given = 0; pulled = pulled; wrote = PassesOn-none a h }

-- the texts of the first streams, and of one more
pub texts_more : (text : Stream → ℕ → List ℕ) (number i : ℕ) (streams : List Stream) (stream : Stream) → slice_get streams i ≡ Some stream
    → texts_from text number (take (suc i) streams) ≡ texts_from text number (take i streams) ++ text stream (i + number)
texts_more text number i [] stream at = absurd (let f : None ≡ Some stream = at in cc)
texts_more text number zero (s ∷ streams) stream at =
    append-nil (text s number) ∙ ap (λ x. text x number) (here s stream at) ∙ ap (text stream) (let e : number ≡ 0 + number = omega arith in e)
  where
    here : (x y : Stream) → Some x ≡ Some y → x ≡ y
    here x y e = cc
texts_more text number (suc i) (s ∷ streams) stream at =
    let n : i + suc number ≡ suc i + number = omega arith in
    ap (λ l. text s number ++ l) (texts_more text (suc number) i streams stream at ∙ ap (λ k. texts_from text (suc number) (take i streams) ++ text stream k) n)
    ∙ sym (append_assoc (text s number) (texts_from text (suc number) (take i streams)) (text stream (suc i + number)))

-- the texts of the first streams, and of the rest
pub texts_rest : (text : Stream → ℕ → List ℕ) (number i : ℕ) (streams : List Stream)
    → texts_from text number streams ≡ texts_from text number (take i streams) ++ texts_from text (i + number) (drop i streams)
texts_rest text number zero streams = ap (λ n. texts_from text n streams) (let e : number ≡ 0 + number = omega arith in e)
texts_rest text number (suc i) [] = refl
texts_rest text number (suc i) (s ∷ streams) =
    let n : i + suc number ≡ suc i + number = omega arith in
    ap (λ l. text s number ++ l) (texts_rest text (suc number) i streams ∙ ap (λ k. texts_from text (suc number) (take i streams) ++ texts_from text k (drop i streams)) n)
    ∙ sym (append_assoc (text s number) (texts_from text (suc number) (take i streams)) (texts_from text (suc i + number) (drop i streams)))

one_more : (text : Stream → ℕ → List ℕ) (streams : List Stream) (i : ℕ) (stream : Stream) → slice_get streams i ≡ Some stream
    → texts_from text 0 (take (i + 1) streams) ≡ texts_from text 0 (take i streams) ++ text stream i
one_more text streams i stream at =
    ap (λ n. texts_from text 0 (take n streams)) (let e : i + 1 ≡ suc i = omega arith in e)
    ∙ texts_more text 0 i streams stream at ∙ ap (λ n. texts_from text 0 (take i streams) ++ text stream n) (let e : i + 0 ≡ i = omega arith in e)

-- the text of one more stream was written
pub texts_after : (text : Stream → ℕ → List ℕ) (streams : List Stream) (i : ℕ) (stream : Stream) → slice_get streams i ≡ Some stream
    → (a b c : Option (List ℕ)) (h j k : List ℕ) → PassesOn a h b j (texts_from text 0 (take i streams)) → PassesOn b j c k (text stream i)
    → PassesOn a h c k (texts_from text 0 (take (i + 1) streams))
texts_after text streams i stream at a b c h j k before own =
    subst (PassesOn a h c k) (sym (one_more text streams i stream at))
    (PassesOn-trans a b c h j k (texts_from text 0 (take i streams)) (text stream i) before own)

-- writing broke off in the text of one more stream
pub texts_broken : (text : Stream → ℕ → List ℕ) (streams : List Stream) (i : ℕ) (stream : Stream) → slice_get streams i ≡ Some stream
    → (a b c : Option (List ℕ)) (h j : List ℕ) → PassesOn a h b j (texts_from text 0 (take i streams)) → BreaksOff b j c (text stream i)
    → BreaksOff a h c (texts_from text 0 streams)
texts_broken text streams i stream at a b c h j before own =
    subst (BreaksOff a h c) (sym (texts_rest text 0 (i + 1) streams ∙ ap (λ l. l ++ texts_from text (i + 1 + 0) (drop (i + 1) streams)) (one_more text streams i stream at)))
    (BreaksOff-longer a c h (texts_from text 0 (take i streams) ++ text stream i) (texts_from text (i + 1 + 0) (drop (i + 1) streams))
    (BreaksOff-later a b c h j (texts_from text 0 (take i streams)) (text stream i) before own))

-- a cursor before the first event, and its stream
pub record IsNewOf (streams : List Stream) (open_at : ℤ) (i : ℕ) (cursor : CursorState) : Type 0 where
  pub stream : Stream
  pub is : slice_get streams i ≡ Some stream
  pub pulled : (events : List TraceEvent) → HasPulled stream i open_at events cursor 0

pub new_at : (streams : List Stream) (open_at : ℤ) (cursors : List CursorState) (i : ℕ) (cursor : CursorState) → AreNew streams open_at cursors (length streams)
    → slice_get cursors i ≡ Some cursor → IsNewOf streams open_at i cursor
new_at streams open_at cursors i cursor new at =
    let within : i < length cursors = slice_get_within cursors i cursor at in
    let count = new.count_is in
    let stream : Stream = get_or streams i cursor.spec in
    let is : slice_get streams i ≡ Some stream = slice_get-get_or streams i cursor.spec (omega (arith, within, count)) in
    record { stream = stream; is = is; pulled = (new.each i cursor stream at is).1 }

-- the texts of all streams were written
pub texts_all : (text : Stream → ℕ → List ℕ) (streams : List Stream) (n : ℕ) → length streams ≤ n
    → (a b : Option (List ℕ)) (h j : List ℕ) → PassesOn a h b j (texts_from text 0 (take n streams)) → PassesOn a h b j (texts_from text 0 streams)
texts_all text streams n all a b h j wrote = subst (λ (l : List Stream). PassesOn a h b j (texts_from text 0 l)) (take_all n streams all) wrote

-- the cursors of the first streams have returned some marks
pub record AreFirstPulled (studio : Studio) (events : List TraceEvent) (cursors : List CursorState) (n : ℕ) : Type 0 where
  pub each : (i : ℕ) (stream : Stream) (cursor : CursorState) → i < n → slice_get studio.streams i ≡ Some stream → slice_get cursors i ≡ Some cursor
      → HasPulledSome stream i studio.open_at events cursor

pub none_pulled : (studio : Studio) (events : List TraceEvent) (cursors : List CursorState) → AreFirstPulled studio events cursors 0
none_pulled studio events cursors = record { each = λ i stream cursor less. absurd (let h : i < 0 = less in omega (arith, h)) }

pub one_more_pulled : (studio : Studio) (events : List TraceEvent) (cursors : List CursorState) (n : ℕ) (new : CursorState) (own : Stream) → slice_get studio.streams n ≡ Some own → n < length cursors
    → AreFirstPulled studio events cursors n → HasPulledSome own n studio.open_at events new → AreFirstPulled studio events (set cursors n new) (n + 1)
one_more_pulled studio events cursors n new own is within first pulled = record {
  each = λ i stream cursor less there at. elim (cases_lt i n) [
    | inl before ↦ first.each i stream cursor before there (set_other_at cursors n i new cursor (λ e. absurd (omega (arith, e, before))) at)
    | inr past ↦
        let here : i ≡ n = omega (arith, past, less) in
        here_is i stream cursor here there at
  ];
}
  where
    same_stream : (x y : Stream) → Some x ≡ Some y → x ≡ y
    same_stream x y e = cc

    here_is : (i : ℕ) (stream : Stream) (cursor : CursorState) → i ≡ n → slice_get studio.streams i ≡ Some stream → slice_get (set cursors n new) i ≡ Some cursor
        → HasPulledSome stream i studio.open_at events cursor
    here_is i stream cursor here there at =
        let s : own ≡ stream = same_stream own stream (sym is ∙ ap (slice_get studio.streams) (sym here) ∙ there) in
        let c : new ≡ cursor = sym (set_same_at cursors n new cursor within (ap (slice_get (set cursors n new)) (sym here) ∙ at)) in
        rw (here, ← s, ← c) pulled

pub all_pulled : (studio : Studio) (events : List TraceEvent) (cursors : List CursorState) (n : ℕ) → length cursors ≡ length studio.streams → length studio.streams ≤ n
    → AreFirstPulled studio events cursors n → ArePulled studio events cursors
all_pulled studio events cursors n count all first = record {
  count = count;
  each = λ i stream cursor is at.
      let within : i < length studio.streams = slice_get_within studio.streams i stream is in
      first.each i stream cursor (omega (arith, within, all)) is at;
}
