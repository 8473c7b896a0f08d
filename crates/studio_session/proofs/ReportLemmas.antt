-- The counts of a run.
use Rattle.std.proofs.Common.{◌≡◌, inl, inr, ◌<◌, ◌≤◌, ◌+◌, ◌-◌, ℕ, zero, suc, List, [], ◌∷◌, ◌++◌, length, take, drop, get_or, ℤ, Option, Some, None, slice_get, refl, sym, ap, subst, ◌∙◌, arith}
use Rattle.std.proofs.lemmas.Bool.{cases_lt}
use Rattle.std.proofs.lemmas.List.{length-map, length_push, take_all, get_or_append_left, get_or-append_right}
use Rattle.std.proofs.lemmas.Option.{slice_get_read, slice_get_within, get_or_from_slice_get}
use Rattle.rtp_stream.specs.declared.stream_spec.Stream.{Stream}
use Rattle.path_merge.specs.MergeState.{MergeState}
use Rattle.path_merge.specs.Merge.{HasHistory}
use Rattle.rtp_stream.specs.Counts.{counts_of}
use Rattle.rtp_stream.specs.Marks.{marks_of}
use Rattle.rtp_stream.specs.declared.event.Event.{Event}
use Rattle.studio_session.specs.Event.{TraceEvent}
use Rattle.studio_session.specs.Session.{stream_history}
use Rattle.studio_session.specs.Counts.{AreTallies}
use Rattle.studio_session.specs.Cursor.{CursorState, HasPulled}
use Rattle.studio_config.specs.Studio.{Studio}
use Rattle.studio_mix.specs.Feed.{Feed}
use Rattle.studio_mix.proofs.BlockLemmas.{feed_at}
use Rattle.studio_session.proofs.PlayLemmas.{stream_at}
use Rattle.studio_session.specs.Play.{HasPlayed, SessionState}
use Rattle.studio_session.specs.Report.{ArePulled, HasCounts, HasPulledAll, merge_tally_of}
use Rattle.studio_session.specs.ReadingSteps.{IsOnWay}

-- if none comes after the first `k` elements, they are all
pub all_taken : {X : Type 0} (k : ℕ) (xs : List X) → [] ≡ take 1 (drop k xs) → take k xs ≡ xs
all_taken zero [] none = refl
all_taken zero (x ∷ xs) none = absurd (let e : 0 ≡ 1 = ap length none in omega (arith, e))
all_taken (suc k) [] none = refl
all_taken (suc k) (x ∷ xs) none = ap (λ l. x ∷ l) (all_taken k xs none)

settled_way : (stream : Stream) (open_at : ℤ) (merge : MergeState) (reading : Option ℤ) (events : List Event) (k : ℕ) → reading ≡ None
    → IsOnWay stream open_at merge reading events k → HasHistory stream open_at merge events k
settled_way stream open_at merge reading events k e way = subst (λ r. IsOnWay stream open_at merge r events k) e way

-- the counts after all marks of all events
pub finished : (stream : Stream) (number : ℕ) (open_at : ℤ) (events : List TraceEvent) (cursor : CursorState) → cursor.reading ≡ None → length events ≤ cursor.place
    → HasPulledAll stream number open_at events cursor → HasCounts stream number open_at events cursor
finished stream number open_at events cursor settled all p =
    let whole : take cursor.place events ≡ events = take_all cursor.place events all in
    let h = stream_history stream number (take cursor.place events) in
    let history : HasHistory stream open_at cursor.merge h p.given = settled_way stream open_at cursor.merge cursor.reading h p.given settled p.pulled.stands in
    record {
      spec = p.pulled.spec;
      stream_number = p.pulled.stream_number;
      paths = subst (λ l. AreTallies stream number l cursor.tallies) whole p.pulled.counted;
      merge = history.counts
          ∙ ap (counts_of stream open_at h) (all_taken p.given (marks_of stream open_at h) p.none)
          ∙ ap (λ l. merge_tally_of stream number open_at l) whole;
    }

-- what holds for the elements by their places holds after one more such element
pub places_more : {X : Type 0} (P : ℕ → X → Type 0) (xs : List X) (n : ℕ) (x : X) → length xs ≡ n → P n x → ((i : ℕ) (y : X) → slice_get xs i ≡ Some y → P i y)
    → (i : ℕ) (y : X) → slice_get (xs ++ x ∷ []) i ≡ Some y → P i y
places_more P xs n x count p before i y at =
    let within : i < length (xs ++ x ∷ []) = slice_get_within (xs ++ x ∷ []) i y at in
    let long : length (xs ++ x ∷ []) ≡ length xs + 1 = length_push xs x in
    let read = get_or_from_slice_get (xs ++ x ∷ []) i y y at in
    elim (cases_lt i (length xs)) [
      | inl below ↦ before i y (slice_get_read xs (length xs) i y refl below (sym (sym (get_or_append_left xs (x ∷ []) y i below) ∙ read)))
      | inr past ↦
          let here : i ≡ n = omega (arith, within, long, count, past) in
          let first : i - length xs ≡ 0 = omega (arith, here, count) in
          let same : x ≡ y = ap (λ j. get_or (x ∷ []) j y) (sym first) ∙ sym (get_or-append_right xs (x ∷ []) (length xs) i y refl past) ∙ read in
          subst (P i) same (subst (λ j. P j x) (sym here) p)
    ]

-- what each stream's cursor took and returned in a session
pub pulled_of : (studio : Studio) (events : List TraceEvent) (session : SessionState) (next : ℕ) → HasPlayed studio events session next → ArePulled studio events session.cursors
pulled_of studio events session next played =
    let streams : length studio.streams ≡ length played.feeds = ap length (sym played.fed.streams) ∙ length-map played.feeds (λ (f : Feed). f.stream) in
    record {
      count = played.count ∙ sym streams;
      each = λ i stream cursor is at.
          let within : i < length session.cursors = slice_get_within session.cursors i cursor at in
          let count = played.count in
          let found = feed_at played.feeds i (omega (arith, within, count)) in
          let same : found.0.stream ≡ stream = one (found.0.stream) stream (sym (stream_at studio session.mixer played.feeds next i found.0 played.fed found.1) ∙ is) in
          record {
            given = length found.0.marks;
            pulled = subst (λ (s : Stream). HasPulled s i studio.open_at events cursor (length found.0.marks)) same (played.given i cursor found.0 at found.1).pulled;
          };
    }
  where
    one : (x y : Stream) → Some x ≡ Some y → x ≡ y
    one x y e = cc
