-- The lines of a studio's report, one after another.
use Rattle.std.proofs.Common.{◌≡◌, inl, inr, ◌<◌, ◌≤◌, ◌+◌, ℕ, true, false, nat_lt, List, [], ◌∷◌, ◌++◌, length, take, drop, get_or, Option, Some, None, slice_get, refl, sym, ap, subst, ◌∙◌, arith, take-append-drop}
use Rattle.std.specs.Io.KnownBytes.{Appends}
use Rattle.std.proofs.lemmas.Bool.{cases_lt}
use Rattle.std.proofs.lemmas.Bool.Decides.{nat_tests}
use Rattle.std.proofs.lemmas.Grind.{flat_map-append}
use Rattle.std.proofs.lemmas.List.{append-nil, ext_get_or, get_or-take, take_all, length-take-le}
use Rattle.std.proofs.lemmas.Option.{slice_get-get_or}
use Rattle.studio_config.specs.Studio.{Studio}
use Rattle.studio_mix.specs.Ready.{is_ready}
use Rattle.studio_mix.specs.Output.{datagram_of}
use Rattle.studio_session.specs.Event.{TraceEvent}
use Rattle.studio_session.specs.Play.{HasPlayed, SessionState, feeds_of}
use Rattle.studio_session.specs.Run.{AreDatagrams, HasGivenBlocks}
use Rattle.studio_mix.proofs.FirstBlockLemmas.{first_all}
use Rattle.studio_session.proofs.RunLemmas.{blocks_more}
use Rattle.studio_run.specs.Buffer.{PassesOn, BreaksOff}
use Rattle.studio_run.specs.Report.{datagram_line}
use Rattle.studio_run.specs.Listing.{counts_text_of, datagrams_text}
use Rattle.studio_run.specs.StudioReport.{HasReported, IsReport, IsReporting, WritesReport}
use Rattle.studio_run.proofs.BufferLemmas.{PassesOn-none, PassesOn-trans, BreaksOff-finished, BreaksOff-longer, BreaksOff-later}

line_more : (datagrams : List (List ℕ)) (datagram : List ℕ) → datagrams_text (datagrams ++ datagram ∷ []) ≡ datagrams_text datagrams ++ datagram_line datagram
line_more datagrams datagram = flat_map-append datagram_line datagrams (datagram ∷ []) ∙ ap (λ l. datagrams_text datagrams ++ l) (append-nil (datagram_line datagram))

-- no block was written yet
pub reporting_none : (studio : Studio) (events : List TraceEvent) (a : Option (List ℕ)) (h : List ℕ) (session : SessionState) → HasPlayed studio events session 0
    → IsReporting studio events a h session a h
reporting_none studio events a h session played = record {
  datagrams = [];
  given = record {
    played = played;
    first = record {
      ready = λ n less. absurd (let b : n < 0 = grind (arith, nat_tests, less) in omega (arith, b));
      each = λ n datagram at. absurd (let f : None ≡ Some datagram = at in cc);
    };
  };
  wrote = PassesOn-none a h;
}

-- this is the datagram of the next block, which is ready
pub record Gives (studio : Studio) (events : List TraceEvent) (new : SessionState) (n : ℕ) (datagram : List ℕ) : Type 0 where
  pub ready : is_ready studio.output (feeds_of studio events) n ≡ true
  pub is : datagram ≡ datagram_of studio (feeds_of studio events) n
  pub played : HasPlayed studio events new (n + 1)

-- one more block was written
pub reporting_more : (studio : Studio) (events : List TraceEvent) (a b c : Option (List ℕ)) (h i j : List ℕ) (old new : SessionState) (datagram : List ℕ)
    → (r : IsReporting studio events a h old b i) → Gives studio events new (length r.datagrams) datagram → PassesOn b i c j (datagram_line datagram)
    → IsReporting studio events a h new c j
reporting_more studio events a b c h i j old new datagram r gives line = record {
  datagrams = r.datagrams ++ datagram ∷ [];
  given = blocks_more studio events old new r.datagrams datagram r.given gives.ready gives.is gives.played;
  wrote = subst (PassesOn a h c j) (sym (line_more r.datagrams datagram)) (PassesOn-trans a b c h i j (datagrams_text r.datagrams) (datagram_line datagram) r.wrote line);
}

-- two lists with the same elements at each place agree as far as both go
front_of : (f : ℕ → List ℕ) (xs ys : List (List ℕ)) → ((n : ℕ) (x : List ℕ) → slice_get xs n ≡ Some x → x ≡ f n) → ((n : ℕ) (y : List ℕ) → slice_get ys n ≡ Some y → y ≡ f n)
    → length xs ≤ length ys → xs ≡ take (length xs) ys
front_of f xs ys each other short =
    ext_get_or [] xs (take (length xs) ys) (sym (length-take-le (length xs) ys short))
    (λ i h. each i (get_or xs i []) (slice_get-get_or xs i [] h)
    ∙ sym (other i (get_or ys i []) (slice_get-get_or ys i [] (omega (arith, h, short))))
    ∙ sym (get_or-take (length xs) ys i [] h))

-- the blocks so far are the first of all
pub first_blocks : (studio : Studio) (events : List TraceEvent) (session : SessionState) (some all : List (List ℕ)) → HasGivenBlocks studio events session some → AreDatagrams studio events all
    → some ≡ take (length some) all
first_blocks studio events session some all given are =
    front_of (datagram_of studio (feeds_of studio events)) some all given.first.each are.each (elim (cases_lt (length all) (length some)) [
      | inl past ↦
          let less : nat_lt (length all) (length some) ≡ true = grind (arith, nat_tests, past) in
          let also : nat_lt (length all) (length all) ≡ true = are.ready (length all) ∙ given.first.ready (length all) less in
          absurd (let b : length all < length all = grind (arith, nat_tests, also) in omega (arith, b))
      | inr fits ↦ fits
    ])

-- the datagrams of all ready blocks are the same in two lists
pub same_blocks : (studio : Studio) (events : List TraceEvent) (one other : List (List ℕ)) → AreDatagrams studio events one → AreDatagrams studio events other → one ≡ other
same_blocks studio events one other a b =
    let long = no_longer one other (λ n. a.ready n ∙ sym (b.ready n)) in
    let short = no_longer other one (λ n. b.ready n ∙ sym (a.ready n)) in
    front_of (datagram_of studio (feeds_of studio events)) one other a.each b.each long ∙ take_all (length one) other short
  where
    no_longer : (xs ys : List (List ℕ)) → ((n : ℕ) → nat_lt n (length xs) ≡ nat_lt n (length ys)) → length xs ≤ length ys
    no_longer xs ys same = elim (cases_lt (length ys) (length xs)) [
      | inl past ↦
          let less : nat_lt (length ys) (length xs) ≡ true = grind (arith, nat_tests, past) in
          let also : nat_lt (length ys) (length ys) ≡ true = sym (same (length ys)) ∙ less in
          absurd (let b : length ys < length ys = grind (arith, nat_tests, also) in omega (arith, b))
      | inr fits ↦ fits
    ]

-- writing broke off in the line of one more block
pub reporting_broken : (studio : Studio) (events : List TraceEvent) (a b c : Option (List ℕ)) (h i : List ℕ) (old new : SessionState) (datagram : List ℕ) (all : List (List ℕ))
    → (r : IsReporting studio events a h old b i) → Gives studio events new (length r.datagrams) datagram → AreDatagrams studio events all → BreaksOff b i c (datagram_line datagram)
    → BreaksOff a h c (datagrams_text all)
reporting_broken studio events a b c h i old new datagram all r gives are line =
    let some = r.datagrams ++ datagram ∷ [] in
    let first : some ≡ take (length some) all = first_blocks studio events new some all (blocks_more studio events old new r.datagrams datagram r.given gives.ready gives.is gives.played) are in
    let whole : datagrams_text all ≡ (datagrams_text r.datagrams ++ datagram_line datagram) ++ datagrams_text (drop (length some) all) =
    ap datagrams_text (sym (take-append-drop (length some) all)) ∙ flat_map-append datagram_line (take (length some) all) (drop (length some) all)
    ∙ ap (λ l. datagrams_text l ++ datagrams_text (drop (length some) all)) (sym first)
    ∙ ap (λ l. l ++ datagrams_text (drop (length some) all)) (line_more r.datagrams datagram) in
    subst (BreaksOff a h c) (sym whole)
    (BreaksOff-longer a c h (datagrams_text r.datagrams ++ datagram_line datagram) (datagrams_text (drop (length some) all))
    (BreaksOff-later a b c h i (datagrams_text r.datagrams) (datagram_line datagram) r.wrote line))

-- the lines of all ready blocks were written
pub reported_all : (studio : Studio) (events : List TraceEvent) (a b : Option (List ℕ)) (h i : List ℕ) (old new : SessionState) (r : IsReporting studio events a h old b i)
    → is_ready studio.output (feeds_of studio events) (length r.datagrams) ≡ false → HasPlayed studio events new (length r.datagrams) → HasReported studio events a h new b i
reported_all studio events a b h i old new r last played = record {
  datagrams = r.datagrams;
  ready = first_all studio (feeds_of studio events) r.datagrams r.given.first last;
  played = played;
  wrote = r.wrote;
}

-- the lines of the counts were written after those of the datagrams
pub report_whole : (studio : Studio) (events : List TraceEvent) (a b c : Option (List ℕ)) (h i j : List ℕ) (session : SessionState) (r : HasReported studio events a h session b i)
    → PassesOn b i c j (counts_text_of studio events) → WritesReport studio events a h c j
report_whole studio events a b c h i j session r counts = record {
  report = datagrams_text r.datagrams ++ counts_text_of studio events;
  is = record { datagrams = r.datagrams; ready = r.ready; whole = refl };
  wrote = PassesOn-trans a b c h i j (datagrams_text r.datagrams) (counts_text_of studio events) r.wrote counts;
}

-- writing broke off in the lines of the counts
pub report_broken : (studio : Studio) (events : List TraceEvent) (a b c : Option (List ℕ)) (h i : List ℕ) (session : SessionState) (report : List ℕ) (r : HasReported studio events a h session b i)
    → IsReport studio events report → BreaksOff b i c (counts_text_of studio events) → BreaksOff a h c report
report_broken studio events a b c h i session report r is counts =
    let same : report ≡ datagrams_text r.datagrams ++ counts_text_of studio events =
    is.whole ∙ ap (λ l. datagrams_text l ++ counts_text_of studio events) (same_blocks studio events is.datagrams r.datagrams is.ready r.ready) in
    subst (BreaksOff a h c) (sym same) (BreaksOff-later a b c h i (datagrams_text r.datagrams) (counts_text_of studio events) r.wrote counts)

-- writing broke off in the lines of the datagrams
pub report_broken_early : (studio : Studio) (events : List TraceEvent) (a c : Option (List ℕ)) (h : List ℕ) (report : List ℕ) (is : IsReport studio events report)
    → BreaksOff a h c (datagrams_text is.datagrams) → BreaksOff a h c report
report_broken_early studio events a c h report is broke =
    subst (BreaksOff a h c) (sym is.whole) (BreaksOff-longer a c h (datagrams_text is.datagrams) (counts_text_of studio events) broke)

-- there is only one report of the same events
pub report_alone : (studio : Studio) (events : List TraceEvent) (one other : List ℕ) → IsReport studio events one → IsReport studio events other → one ≡ other
report_alone studio events one other a b =
    a.whole ∙ ap (λ l. datagrams_text l ++ counts_text_of studio events) (same_blocks studio events a.datagrams b.datagrams a.ready b.ready) ∙ sym b.whole

-- writing broke off in the octets that the buffer held at the end
pub report_unfinished : (studio : Studio) (events : List TraceEvent) (a b c : Option (List ℕ)) (h i : List ℕ) → h ≡ [] → (w : WritesReport studio events a h b i)
    → (report : List ℕ) → IsReport studio events report → (n : ℕ) × (n < length i) × Appends b c (take n i) → BreaksOff a [] c report
report_unfinished studio events a b c h i empty w report is part =
    subst (BreaksOff a [] c) (report_alone studio events w.report report w.is is)
    (BreaksOff-finished a b c i w.report (subst (λ l. PassesOn a l b i w.report) empty w.wrote) part)
