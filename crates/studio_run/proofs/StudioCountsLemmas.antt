-- The lines of a studio's counts, one after another.
use Rattle.std.proofs.Common.{◌≡◌, inl, inr, ◌<◌, ◌≤◌, ◌+◌, ℕ, zero, suc, ℤ, List, [], ◌++◌, length, get_or, Option, Some, slice_get, refl, sym, ap, subst, ◌∙◌, arith, append_assoc}
use Rattle.std.proofs.lemmas.Bool.{cases_lt}
use Rattle.std.proofs.lemmas.List.{append-nil}
use Rattle.std.proofs.lemmas.Option.{slice_get-get_or, slice_get_within}
use Rattle.rtp_stream.specs.declared.stream_spec.Stream.{Stream}
use Rattle.rtp_stream.specs.CountsFacts.{Tally}
use Rattle.studio_config.specs.Studio.{Studio}
use Rattle.studio_session.specs.Event.{TraceEvent}
use Rattle.rtp_stream.specs.PathCounts.{PathTally}
use Rattle.studio_session.specs.Counts.{AreTallies, path_counts_of}
use Rattle.studio_session.specs.Cursor.{CursorState}
use Rattle.studio_session.specs.Report.{ArePulled, HasCounts, HasPulledSome, merge_tally_of}
use Rattle.studio_run.specs.Buffer.{PassesOn, BreaksOff}
use Rattle.studio_run.specs.Report.{merge_line, path_line}
use Rattle.studio_run.specs.Listing.{paths_text, stream_counts_text}
use Rattle.studio_run.proofs.BufferLemmas.{PassesOn-trans, BreaksOff-longer, BreaksOff-later}

-- the lines after those of one more path
one_more : (stream : Stream) (number : ℕ) (events : List TraceEvent) (n path : ℕ) (tally : PathTally) → path ≡ n → tally ≡ path_counts_of stream number n events
    → paths_text stream number events (n + 1) ≡ paths_text stream number events n ++ path_line number path tally
one_more stream number events n path tally here is =
    ap (paths_text stream number events) (let e : n + 1 ≡ suc n = omega arith in e)
    ∙ ap (λ t. paths_text stream number events n ++ path_line number n t) (sym is)
    ∙ ap (λ p. paths_text stream number events n ++ path_line number p tally) (sym here)

pub paths_more : (stream : Stream) (number : ℕ) (events : List TraceEvent) (n path : ℕ) (tally : PathTally) → path ≡ n → tally ≡ path_counts_of stream number n events
    → (a b c : Option (List ℕ)) (h i j : List ℕ) → PassesOn a h b i (paths_text stream number events n) → PassesOn b i c j (path_line number path tally)
    → PassesOn a h c j (paths_text stream number events (n + 1))
paths_more stream number events n path tally here is a b c h i j before line =
    subst (PassesOn a h c j) (sym (one_more stream number events n path tally here is))
    (PassesOn-trans a b c h i j (paths_text stream number events n) (path_line number path tally) before line)

-- the lines of all paths begin with those of the first paths
paths_rest : (stream : Stream) (number : ℕ) (events : List TraceEvent) (n m : ℕ) → n ≤ m
    → (rest : List ℕ) × (paths_text stream number events m ≡ paths_text stream number events n ++ rest)
paths_rest stream number events n zero h = ([], ap (paths_text stream number events) (let e : 0 ≡ n = omega (arith, h) in e) ∙ sym (append-nil (paths_text stream number events n)))
paths_rest stream number events n (suc m) h = elim (cases_lt m n) [
  | inl past ↦ ([], ap (paths_text stream number events) (let e : suc m ≡ n = omega (arith, h, past) in e) ∙ sym (append-nil (paths_text stream number events n)))
  | inr below ↦
      let rest = paths_rest stream number events n m below in
      let line = path_line number m (path_counts_of stream number m events) in
      (rest.0 ++ line, ap (λ l. l ++ line) rest.1 ∙ append_assoc (paths_text stream number events n) rest.0 line)
]

pub paths_broken : (stream : Stream) (number : ℕ) (events : List TraceEvent) (n path m : ℕ) (tally : PathTally) → path ≡ n → tally ≡ path_counts_of stream number n events → n < m
    → (a b c : Option (List ℕ)) (h i : List ℕ) → PassesOn a h b i (paths_text stream number events n) → BreaksOff b i c (path_line number path tally)
    → BreaksOff a h c (paths_text stream number events m)
paths_broken stream number events n path m tally here is within a b c h i before line =
    let rest = paths_rest stream number events (n + 1) m (omega (arith, within)) in
    subst (BreaksOff a h c) (sym (rest.1 ∙ ap (λ l. l ++ rest.0) (one_more stream number events n path tally here is)))
    (BreaksOff-longer a c h (paths_text stream number events n ++ path_line number path tally) rest.0
    (BreaksOff-later a b c h i (paths_text stream number events n) (path_line number path tally) before line))

-- the lines of a stream, written with values that equal its specification, number and paths
named : (stream spec : Stream) (number called paths : ℕ) (open_at : ℤ) (events : List TraceEvent) (tally : Tally) → spec ≡ stream → called ≡ number → paths ≡ spec.paths
    → tally ≡ merge_tally_of stream number open_at events
    → paths_text spec called events spec.paths ++ merge_line called paths tally ≡ stream_counts_text open_at events stream number
named stream spec number called paths open_at events tally same call few is =
    ap (λ p. paths_text spec called events spec.paths ++ merge_line called p tally) few
    ∙ ap (λ n. paths_text spec n events spec.paths ++ merge_line n spec.paths tally) call
    ∙ ap (λ (s : Stream). paths_text s number events s.paths ++ merge_line number s.paths tally) same
    ∙ ap (λ t. paths_text stream number events stream.paths ++ merge_line number stream.paths t) is

pub stream_after : (stream spec : Stream) (number called paths : ℕ) (open_at : ℤ) (events : List TraceEvent) (tally : Tally) → spec ≡ stream → called ≡ number → paths ≡ spec.paths
    → tally ≡ merge_tally_of stream number open_at events
    → (a b c : Option (List ℕ)) (h i j : List ℕ) → PassesOn a h b i (paths_text spec called events spec.paths) → PassesOn b i c j (merge_line called paths tally)
    → PassesOn a h c j (stream_counts_text open_at events stream number)
stream_after stream spec number called paths open_at events tally same call few is a b c h i j before line =
    subst (PassesOn a h c j) (named stream spec number called paths open_at events tally same call few is)
    (PassesOn-trans a b c h i j (paths_text spec called events spec.paths) (merge_line called paths tally) before line)

pub stream_broken : (stream spec : Stream) (number called paths : ℕ) (open_at : ℤ) (events : List TraceEvent) (tally : Tally) → spec ≡ stream → called ≡ number → paths ≡ spec.paths
    → tally ≡ merge_tally_of stream number open_at events
    → (a b c : Option (List ℕ)) (h i : List ℕ) → PassesOn a h b i (paths_text spec called events spec.paths) → BreaksOff b i c (merge_line called paths tally)
    → BreaksOff a h c (stream_counts_text open_at events stream number)
stream_broken stream spec number called paths open_at events tally same call few is a b c h i before line =
    subst (BreaksOff a h c) (named stream spec number called paths open_at events tally same call few is)
    (BreaksOff-later a b c h i (paths_text spec called events spec.paths) (merge_line called paths tally) before line)

pub stream_broken_early : (stream spec : Stream) (number called : ℕ) (open_at : ℤ) (events : List TraceEvent) → spec ≡ stream → called ≡ number
    → (a c : Option (List ℕ)) (h : List ℕ) → BreaksOff a h c (paths_text spec called events spec.paths)
    → BreaksOff a h c (stream_counts_text open_at events stream number)
stream_broken_early stream spec number called open_at events same call a c h line =
    subst (BreaksOff a h c) (named stream spec number called spec.paths open_at events (merge_tally_of stream number open_at events) same call refl refl)
    (BreaksOff-longer a c h (paths_text spec called events spec.paths) (merge_line called spec.paths (merge_tally_of stream number open_at events)) line)

-- the tallies of a cursor that took all events, for its own specification and number
pub own_tallies : (stream : Stream) (number : ℕ) (open_at : ℤ) (events : List TraceEvent) (cursor : CursorState) → HasCounts stream number open_at events cursor
    → AreTallies cursor.spec cursor.number events cursor.tallies
own_tallies stream number open_at events cursor counts =
    subst (λ (s : Stream). AreTallies s cursor.number events cursor.tallies) (sym counts.spec)
    (subst (λ n. AreTallies stream n events cursor.tallies) (sym counts.stream_number) counts.paths)

-- the stream of a cursor
pub record IsOf (streams : List Stream) (open_at : ℤ) (events : List TraceEvent) (i : ℕ) (cursor : CursorState) : Type 0 where
  pub stream : Stream
  pub is : slice_get streams i ≡ Some stream
  pub pulled : HasPulledSome stream i open_at events cursor

pub pulled_at : (studio : Studio) (events : List TraceEvent) (cursors : List CursorState) (i : ℕ) (cursor : CursorState) → ArePulled studio events cursors
    → slice_get cursors i ≡ Some cursor → IsOf studio.streams studio.open_at events i cursor
pulled_at studio events cursors i cursor pulled at =
    let within : i < length cursors = slice_get_within cursors i cursor at in
    let count = pulled.count in
    let stream : Stream = get_or studio.streams i cursor.spec in
    let is : slice_get studio.streams i ≡ Some stream = slice_get-get_or studio.streams i cursor.spec (omega (arith, within, count)) in
    record { stream = stream; is = is; pulled = pulled.each i stream cursor is at }
