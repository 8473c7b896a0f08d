-- The tallies of a stream's paths, event by event.
use Rattle.std.proofs.Common.{◌≡◌, ◌≢◌, inl, inr, ◌<◌, ◌≤◌, ◌+◌, ℕ, zero, suc, Bool, true, false, nat_eq, ◌&&◌, if◌then◌else◌, List, [], ◌∷◌, length, take, get_or, set, Some, slice_get, refl, sym, ap, subst, ◌∙◌, arith}
use Rattle.std.specs.Prelude.{count_by}
use Rattle.std.proofs.lemmas.Bool.{cases_Bool}
use Rattle.std.proofs.lemmas.Bool.Decides.{nat_tests}
use Rattle.std.proofs.lemmas.List.Sums.{count_by_more_no, count_by_more_yes}
use Rattle.std.proofs.lemmas.Option.{slice_get_within, get_or_from_slice_get}
use Rattle.rtp_stream.specs.declared.stream_spec.Stream.{Stream}
use Rattle.studio_mix.proofs.MixerLemmas.{set_same_at, set_other_at}
use Rattle.rtp_stream.specs.declared.reception.Reception.{Reception}
use Rattle.rtp_stream.specs.declared.reception.Reception.TheVariants.{Sent, Bad, WrongType, WrongLength}
use Rattle.studio_session.specs.Event.{TraceEvent}
use Rattle.studio_session.specs.Session.{Step, Other, Datagram, Clock, End, is_on, received_on, step_of}
use Rattle.rtp_stream.specs.PathCounts.{PathTally, empty_path_tally, with_reception}
use Rattle.rtp_stream.specs.Reception.{is_any, is_bad, is_sent, is_wrong_length, is_wrong_type}
use Rattle.studio_session.specs.Counts.{AreTallies, HasCounted, path_counts_of, with_step}
use Rattle.studio_session.specs.Cursor.{HaveFew}

-- one more if the test holds
abbrev one_if : Bool → ℕ → ℕ
one_if b n = if b then n + 1 else n

received_more : (test : Reception → Bool) (stream : Stream) (number path : ℕ) (events : List TraceEvent) (i : ℕ) (event : TraceEvent) → slice_get events i ≡ Some event
    → received_on test stream number path (take (i + 1) events) ≡ one_if (is_on test path (step_of stream number event)) (received_on test stream number path (take i events))
received_more test stream number path events i event at = elim (cases_Bool (is_on test path (step_of stream number event))) [
  | inl does ↦ count_by_more_yes one events i event within (ap one here ∙ does) ∙ sym (ap (λ b. one_if b (count_by one (take i events))) does)
  | inr other ↦ count_by_more_no one events i event within (ap one here ∙ other) ∙ sym (ap (λ b. one_if b (count_by one (take i events))) other)
]
  where
    one : TraceEvent → Bool
    one e = is_on test path (step_of stream number e)

    within : i < length events
    within = slice_get_within events i event at

    here : get_or events i event ≡ event
    here = get_or_from_slice_get events i event event at

-- the tally of a path, by its numbers
abbrev tally : ℕ → ℕ → ℕ → ℕ → ℕ → PathTally
tally a b c d e = record { offered = a; sent = b; bad = c; wrong_type = d; wrong_length = e; full = 0 }

same_tally : (a b c d e a' b' c' d' e' : ℕ) → a ≡ a' → b ≡ b' → c ≡ c' → d ≡ d' → e ≡ e' → tally a b c d e ≡ tally a' b' c' d' e'
same_tally a b c d e a' b' c' d' e' p q r s t = cc

-- the tally of a path after one more datagram
by_reception : (on : Bool) (reception : Reception) (more before : (Reception → Bool) → ℕ) → ((test : Reception → Bool) → more test ≡ one_if (on && test reception) (before test))
    → tally (more is_any) (more is_sent) (more is_bad) (more is_wrong_type) (more is_wrong_length)
    ≡ (if on then with_reception (tally (before is_any) (before is_sent) (before is_bad) (before is_wrong_type) (before is_wrong_length)) reception else tally (before is_any) (before is_sent) (before is_bad) (before is_wrong_type) (before is_wrong_length))
by_reception false reception more before is = same_tally _ _ _ _ _ _ _ _ _ _ (is is_any) (is is_sent) (is is_bad) (is is_wrong_type) (is is_wrong_length)
by_reception true (Sent packet) more before is = same_tally _ _ _ _ _ _ _ _ _ _ (is is_any) (is is_sent) (is is_bad) (is is_wrong_type) (is is_wrong_length)
by_reception true (Bad fault) more before is = same_tally _ _ _ _ _ _ _ _ _ _ (is is_any) (is is_sent) (is is_bad) (is is_wrong_type) (is is_wrong_length)
by_reception true WrongType more before is = same_tally _ _ _ _ _ _ _ _ _ _ (is is_any) (is is_sent) (is is_bad) (is is_wrong_type) (is is_wrong_length)
by_reception true WrongLength more before is = same_tally _ _ _ _ _ _ _ _ _ _ (is is_any) (is is_sent) (is is_bad) (is is_wrong_type) (is is_wrong_length)

-- the counts of a path after one more event
pub counts_more : (stream : Stream) (number path : ℕ) (events : List TraceEvent) (i : ℕ) (event : TraceEvent) → slice_get events i ≡ Some event
    → path_counts_of stream number path (take (i + 1) events) ≡ with_step (path_counts_of stream number path (take i events)) path (step_of stream number event)
counts_more stream number path events i event at =
    by_step (step_of stream number event) (λ test. received_more test stream number path events i event at)
  where
    more : (Reception → Bool) → ℕ
    more test = received_on test stream number path (take (i + 1) events)

    before : (Reception → Bool) → ℕ
    before test = received_on test stream number path (take i events)

    by_step : (step : Step) → ((test : Reception → Bool) → more test ≡ one_if (is_on test path step) (before test))
        → path_counts_of stream number path (take (i + 1) events) ≡ with_step (path_counts_of stream number path (take i events)) path step
    by_step (Datagram p reception) is = by_reception (nat_eq p path) reception more before is
    by_step Other is = same_tally _ _ _ _ _ _ _ _ _ _ (is is_any) (is is_sent) (is is_bad) (is is_wrong_type) (is is_wrong_length)
    by_step (Clock u) is = same_tally _ _ _ _ _ _ _ _ _ _ (is is_any) (is is_sent) (is is_bad) (is is_wrong_type) (is is_wrong_length)
    by_step End is = same_tally _ _ _ _ _ _ _ _ _ _ (is is_any) (is is_sent) (is is_bad) (is is_wrong_type) (is is_wrong_length)

-- the tallies of a stream's paths after one more event
pub counted_more : (stream : Stream) (number : ℕ) (events : List TraceEvent) (i : ℕ) (event : TraceEvent) (old new : List PathTally) → slice_get events i ≡ Some event
    → AreTallies stream number (take i events) old → HasCounted (step_of stream number event) old new → AreTallies stream number (take (i + 1) events) new
counted_more stream number events i event old new at are counted = λ path tally there.
    let before = counted path tally there in
    before.2
    ∙ ap (λ t. with_step t path (step_of stream number event)) (are path before.0 before.1)
    ∙ sym (counts_more stream number path events i event at)

-- an event that is no datagram of the stream changes no path's tally
pub uncounted : (tallies : List PathTally) (step : Step) → ((path : ℕ) (tally : PathTally) → with_step tally path step ≡ tally) → HasCounted step tallies tallies
uncounted tallies step same = λ path tally at. (tally, at, sym (same path tally))

-- an event adds at most one datagram
adds_one : (on : Bool) (tally : PathTally) (reception : Reception) → (if on then with_reception tally reception else tally).offered ≤ tally.offered + 1
adds_one false tally reception = omega arith
adds_one true tally (Sent packet) = omega arith
adds_one true tally (Bad fault) = omega arith
adds_one true tally WrongType = omega arith
adds_one true tally WrongLength = omega arith

step_adds : (tally : PathTally) (path : ℕ) (step : Step) → (with_step tally path step).offered ≤ tally.offered + 1
step_adds tally path Other = omega arith
step_adds tally path (Datagram p reception) = adds_one (nat_eq p path) tally reception
step_adds tally path (Clock u) = omega arith
step_adds tally path End = omega arith

pub few_more : (place : ℕ) (step : Step) (old new : List PathTally) → HaveFew place old → HasCounted step old new → HaveFew (place + 1) new
few_more place step old new few counted = λ path tally at.
    let before = counted path tally at in
    let one = step_adds before.0 path step in
    let most = few path before.0 before.1 in
    subst (λ (t : PathTally). t.offered ≤ place + 1) (sym before.2) (omega (arith, one, most))

pub few_later : (place : ℕ) (tallies : List PathTally) → HaveFew place tallies → HaveFew (place + 1) tallies
few_later place tallies few = λ path tally at. let most = few path tally at in omega (arith, most)

-- nothing was offered before the first event
abbrev four_of : PathTally → List PathTally
four_of tally = tally ∷ tally ∷ tally ∷ tally ∷ []

in_four : (t tally : PathTally) (path : ℕ) → slice_get (four_of t) path ≡ Some tally → tally ≡ t
in_four t tally zero at = sym (value t tally at)
  where
    value : (x y : PathTally) → Some x ≡ Some y → x ≡ y
    value x y e = cc
in_four t tally (suc path) at = in_three path at
  where
    value : (x y : PathTally) → Some x ≡ Some y → x ≡ y
    value x y e = cc

    past : (path : ℕ) → slice_get {X = PathTally} [] path ≡ Some tally → tally ≡ t
    past path e = absurd (let within = slice_get_within {A = PathTally} [] path tally e in omega (arith, within))

    in_one : (path : ℕ) → slice_get (t ∷ []) path ≡ Some tally → tally ≡ t
    in_one zero e = sym (value t tally e)
    in_one (suc path) e = past path e

    in_two : (path : ℕ) → slice_get (t ∷ t ∷ []) path ≡ Some tally → tally ≡ t
    in_two zero e = sym (value t tally e)
    in_two (suc path) e = in_one path e

    in_three : (path : ℕ) → slice_get (t ∷ t ∷ t ∷ []) path ≡ Some tally → tally ≡ t
    in_three zero e = sym (value t tally e)
    in_three (suc path) e = in_two path e

pub counted_none : (stream : Stream) (number : ℕ) (t : PathTally) → t ≡ empty_path_tally → AreTallies stream number [] (four_of t)
counted_none stream number t empty = λ path tally at. in_four t tally path at ∙ empty

pub few_none : (t : PathTally) → t ≡ empty_path_tally → HaveFew 0 (four_of t)
few_none t empty = λ path tally at. let is : tally.offered ≡ 0 = ap (λ (x : PathTally). x.offered) (in_four t tally path at ∙ empty) in omega (arith, is)

-- a datagram changes the tally of its own path only
pub counted_on : (tallies : List PathTally) (p : ℕ) (reception : Reception) (before after : PathTally) → slice_get tallies p ≡ Some before → after ≡ with_reception before reception
    → HasCounted (Datagram p reception) tallies (set tallies p after)
counted_on tallies p reception before after here is = λ path tally at. by_test path tally at (nat_eq p path) refl
  where
    by_test : (path : ℕ) (tally : PathTally) → slice_get (set tallies p after) path ≡ Some tally → (b : Bool) → nat_eq p path ≡ b
        → (t : PathTally) × (slice_get tallies path ≡ Some t) × (tally ≡ with_step t path (Datagram p reception))
    by_test path tally at true e =
        let same : p ≡ path = grind (arith, nat_tests) in
        let its : slice_get (set tallies p after) p ≡ Some tally = ap (slice_get (set tallies p after)) same ∙ at in (
          before,
          ap (slice_get tallies) (sym same) ∙ here,
          set_same_at tallies p after tally (slice_get_within tallies p before here) its ∙ is
              ∙ sym (ap (λ b. if b then with_reception before reception else before) e),
        )
    by_test path tally at false e =
        let other : path ≢ p = λ f. let same : p ≡ path = sym f in absurd (grind (arith, nat_tests)) in
        (tally, set_other_at tallies p path after tally other at, sym (ap (λ b. if b then with_reception tally reception else tally) e))
