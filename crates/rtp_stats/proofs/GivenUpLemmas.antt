-- A path misses exactly the numbers that it never brings while they are kept: counted at each number's end, and from
-- its taking on.
use Rattle.std.proofs.Common.{◌≡◌, ◌≢◌, ℕ, ◌+◌, ◌%◌, Bool, true, false, not, List, [], ◌∷◌, ◌++◌, reverse, refl, sym, ap, ◌∙◌, arith, if◌then◌else◌, Option, Some, None}
use Rattle.std.specs.Prelude.{◌&&◌, ◌||◌, nat_eq}
use Rattle.std.proofs.lemmas.Bool.{and_parts, eq-eqb, eqb-false, eqb-true, ne_eqb}
use Rattle.std.proofs.lemmas.List.{reverse-append, reverse-reverse}
use Rattle.rtp_stream.specs.Counts.{is_double, is_late, is_taken_fate, is_unlike}
use Rattle.rtp_stats.proofs.CountLemmas.{and_false}
use Rattle.rtp_stats.specs.Laws.{BringsEach, is_given_up, is_left, left_of}
use Rattle.rtp_stats.specs.Missed.{ends_missed, has_brought, is_copy_fate, is_copy_on, is_without, missed_of, taken_last, takes}
use Rattle.rtp_stats.specs.Offer.{Offer}

true_is_false : true ≡ false → ⊥
true_is_false e = cc

some_is_none : (a : ℕ) → Some a ≡ None → ⊥
some_is_none a e = cc

-- the first of two that there is
abbrev first_of_two : Option ℕ → Option ℕ → Option ℕ
first_of_two None b = b
first_of_two (Some a) b = Some a

abbrev taken_here : ℕ → ℕ → Offer → Option ℕ
taken_here window place t = if takes window place t then Some t.seq else None

module _ (window place : ℕ) where
  -- an offer before all others
  oldest_step : (o : Offer) (b : Bool) (rest rest' : Option ℕ) (t : Option ℕ) → rest' ≡ first_of_two rest t → (if b then Some o.seq else rest') ≡ first_of_two (if b then Some o.seq else rest) t
  oldest_step o true rest rest' t e = refl
  oldest_step o false rest rest' t e = e

  taken_last-oldest : (before : List Offer) (t : Offer) → taken_last window place (before ++ t ∷ []) ≡ first_of_two (taken_last window place before) (taken_here window place t)
  taken_last-oldest [] t = refl
  taken_last-oldest (o ∷ before) t = oldest_step o (takes window place o) (taken_last window place before) (taken_last window place (before ++ t ∷ [])) (taken_here window place t) (taken_last-oldest before t)

  reversed : (q : Offer) (rest : List Offer) → reverse (q ∷ rest) ≡ reverse rest ++ q ∷ []
  reversed q rest = reverse-append (q ∷ []) rest

  last-reversed : (q : Offer) (rest : List Offer) → taken_last window place (reverse (q ∷ rest)) ≡ first_of_two (taken_last window place (reverse rest)) (taken_here window place q)
  last-reversed q rest = ap (taken_last window place) (reversed q rest) ∙ taken_last-oldest (reverse rest) q

  -- if a number was taken at the place, the offers before it do not matter
  brought_kept_step : (path seq x : ℕ) (o t : Offer) (rest rest' : Bool) (last : Option ℕ) → (last ≡ Some x → rest' ≡ rest) → (b c : Bool) → (if b then Some o.seq else last) ≡ Some x → (if c then true else if b then false else rest') ≡ (if c then true else if b then false else rest)
  brought_kept_step path seq x o t rest rest' last known b true e = refl
  brought_kept_step path seq x o t rest rest' last known true false e = refl
  brought_kept_step path seq x o t rest rest' last known false false e = known e

  brought_kept : (path seq x : ℕ) (before : List Offer) (t : Offer) → taken_last window place before ≡ Some x → has_brought window place path seq (before ++ t ∷ []) ≡ has_brought window place path seq before
  brought_kept path seq x [] t e = absurd (some_is_none x (sym e))
  brought_kept path seq x (o ∷ before) t e = brought_kept_step path seq x o t (has_brought window place path seq before) (has_brought window place path seq (before ++ t ∷ [])) (taken_last window place before) (brought_kept path seq x before t) (takes window place o) (is_copy_on path seq o) e

  -- if no number was taken at the place, the oldest offer may be the copy
  brought_oldest_step : (o : Offer) (rest rest' t : Bool) (last : Option ℕ) → (last ≡ None → rest' ≡ (rest || t)) → (b c : Bool) → (if b then Some o.seq else last) ≡ None → (if c then true else if b then false else rest') ≡ ((if c then true else if b then false else rest) || t)
  brought_oldest_step o rest rest' t last known b true e = refl
  brought_oldest_step o rest rest' t last known true false e = absurd (some_is_none o.seq e)
  brought_oldest_step o rest rest' t last known false false e = known e

  single : (c b : Bool) → (if c then true else if b then false else false) ≡ c
  single true b = refl
  single false true = refl
  single false false = refl

  brought_oldest : (path seq : ℕ) (before : List Offer) (t : Offer) → taken_last window place before ≡ None → has_brought window place path seq (before ++ t ∷ []) ≡ (has_brought window place path seq before || is_copy_on path seq t)
  brought_oldest path seq [] t e = single (is_copy_on path seq t) (takes window place t)
  brought_oldest path seq (o ∷ before) t e = brought_oldest_step o (has_brought window place path seq before) (has_brought window place path seq (before ++ t ∷ [])) (is_copy_on path seq t) (taken_last window place before) (brought_oldest path seq before t) (takes window place o) (is_copy_on path seq o) e

  -- the facts if no number was taken at the place
  parts_none : (last : Option ℕ) (q : Offer) (b : Bool) → takes window place q ≡ b → first_of_two last (if b then Some q.seq else None) ≡ None → (last ≡ None) × (takes window place q ≡ false)
  parts_none None q true is e = absurd (some_is_none q.seq e)
  parts_none None q false is e = (refl, is)
  parts_none (Some a) q b is e = absurd (some_is_none a e)

  none_before : (q : Offer) (rest : List Offer) → taken_last window place (reverse (q ∷ rest)) ≡ None → (taken_last window place (reverse rest) ≡ None) × (takes window place q ≡ false)
  none_before q rest e = parts_none (taken_last window place (reverse rest)) q (takes window place q) refl (sym (last-reversed q rest) ∙ e)

  module _ (path seq : ℕ) where
    -- an offer that isn't taken at the place ends nothing
    given_up_without : (rest : List Offer) (o : Offer) → takes window place o ≡ false → is_given_up window place path seq (rest ++ o ∷ []) ≡ is_given_up window place path seq rest
    given_up_without [] o out = ap (λ b. if b then true else if is_copy_on path seq o then false else false) out ∙ both (is_copy_on path seq o)
      where
        both : (c : Bool) → (if c then false else false) ≡ false
        both true = refl
        both false = refl
    given_up_without (q ∷ rest) o out = ap (λ r. if takes window place q then true else if is_copy_on path seq q then false else r) (given_up_without rest o out)

    -- an offer after another one that was taken at the place does not give the number up either
    given_up_step : (x : ℕ) (q : Offer) (rest rest' : Bool) (last : Option ℕ) → (last ≡ Some x → rest' ≡ rest) → (b c : Bool) → first_of_two last (if b then Some q.seq else None) ≡ Some x → (if b then true else if c then false else rest') ≡ (if b then true else if c then false else rest)
    given_up_step x q rest rest' last known true c e = refl
    given_up_step x q rest rest' last known false true e = refl
    given_up_step x q rest rest' None known false false e = absurd (some_is_none x (sym e))
    given_up_step x q rest rest' (Some a) known false false e = known e

    given_up_after : (x : ℕ) (rest : List Offer) (o : Offer) → taken_last window place (reverse rest) ≡ Some x → is_given_up window place path seq (rest ++ o ∷ []) ≡ is_given_up window place path seq rest
    given_up_after x [] o e = absurd (some_is_none x (sym e))
    given_up_after x (q ∷ rest) o e = given_up_step x q (is_given_up window place path seq rest) (is_given_up window place path seq (rest ++ o ∷ [])) (taken_last window place (reverse rest)) (given_up_after x rest o) (takes window place q) (is_copy_on path seq q) (sym (last-reversed q rest) ∙ e)

    -- if no number is taken at the place, none is given up
    not_given_up : (rest : List Offer) → taken_last window place (reverse rest) ≡ None → is_given_up window place path seq rest ≡ false
    not_given_up [] e = refl
    not_given_up (q ∷ rest) e =
        let parts = none_before q rest e in
        ap (λ b. if b then true else if is_copy_on path seq q then false else is_given_up window place path seq rest) parts.1
        ∙ ap (λ r. if is_copy_on path seq q then false else r) (not_given_up rest parts.0)
        ∙ both (is_copy_on path seq q)
      where
        both : (c : Bool) → (if c then false else false) ≡ false
        both true = refl
        both false = refl

    -- the next number that is taken at the place ends it, if the path has brought no copy
    given_up_now : (rest : List Offer) (o : Offer) → taken_last window place (reverse rest) ≡ None → takes window place o ≡ true → is_given_up window place path seq (rest ++ o ∷ []) ≡ not (has_brought window place path seq (reverse rest))
    given_up_now [] o e here = ap (λ b. if b then true else if is_copy_on path seq o then false else false) here
    given_up_now (q ∷ rest) o e here =
        let parts = none_before q rest e in
        ap (λ b. if b then true else if is_copy_on path seq q then false else is_given_up window place path seq (rest ++ o ∷ [])) parts.1
        ∙ ap (λ r. if is_copy_on path seq q then false else r) (given_up_now rest o parts.0 here)
        ∙ either (has_brought window place path seq (reverse rest)) (is_copy_on path seq q)
        ∙ ap not (sym (ap (has_brought window place path seq) (reversed q rest) ∙ brought_oldest path seq (reverse rest) q parts.0))
      where
        either : (h c : Bool) → (if c then false else not h) ≡ not (h || c)
        either true true = refl
        either true false = refl
        either false true = refl
        either false false = refl

  -- the number that was taken last lacks a copy as before, if an older offer isn't taken at the place, or another is
  -- after it
  without_some : (path x : ℕ) (t : Offer) (rest : List Offer) → taken_last window place (reverse rest) ≡ Some x → is_without window place path (taken_last window place (reverse (t ∷ rest))) (reverse (t ∷ rest)) ≡ is_without window place path (taken_last window place (reverse rest)) (reverse rest)
  without_some path x t rest e =
      let now : taken_last window place (reverse (t ∷ rest)) ≡ Some x = last-reversed t rest ∙ ap (λ l. first_of_two l (taken_here window place t)) e in
      ap (λ l. is_without window place path l (reverse (t ∷ rest))) now
      ∙ ap (λ xs. not (has_brought window place path x xs)) (reversed t rest)
      ∙ ap not (brought_kept path x x (reverse rest) t e)
      ∙ ap (λ l. is_without window place path l (reverse rest)) (sym e)

  without_none : (path : ℕ) (t : Offer) (rest : List Offer) → taken_last window place (reverse rest) ≡ None → takes window place t ≡ false → is_without window place path (taken_last window place (reverse (t ∷ rest))) (reverse (t ∷ rest)) ≡ is_without window place path (taken_last window place (reverse rest)) (reverse rest)
  without_none path t rest e out =
      let now : taken_last window place (reverse (t ∷ rest)) ≡ None = last-reversed t rest ∙ ap (λ l. first_of_two l (taken_here window place t)) e ∙ ap (λ b. if b then Some t.seq else None) out in
      ap (λ l. is_without window place path l (reverse (t ∷ rest))) now
      ∙ ap (λ l. is_without window place path l (reverse rest)) (sym e)

  without_first : (path : ℕ) (t : Offer) (rest : List Offer) → taken_last window place (reverse rest) ≡ None → takes window place t ≡ true → is_without window place path (taken_last window place (reverse (t ∷ rest))) (reverse (t ∷ rest)) ≡ not (has_brought window place path t.seq (reverse rest) || is_copy_on path t.seq t)
  without_first path t rest e here =
      let now : taken_last window place (reverse (t ∷ rest)) ≡ Some t.seq = last-reversed t rest ∙ ap (λ l. first_of_two l (taken_here window place t)) e ∙ ap (λ b. if b then Some t.seq else None) here in
      ap (λ l. is_without window place path l (reverse (t ∷ rest))) now
      ∙ ap (λ xs. not (has_brought window place path t.seq xs)) (reversed t rest)
      ∙ ap not (brought_oldest path t.seq (reverse rest) t e)

-- one or none
abbrev one_if : Bool → ℕ
one_if b = if b then 1 else 0

-- the number of an offer is given up at once as another ends its time
module _ (window path : ℕ) (t o : Offer) (rest : List Offer) where
  -- an offer with another place, or that was not taken
  apart : takes window (t.seq % window) o ≡ false → (b : Bool) → is_taken_fate o.fate ≡ b → ends_missed window path o (reverse (t ∷ rest)) ≡ ends_missed window path o (reverse rest)
  apart out false is = ap (λ b. b && is_without window (o.seq % window) path (taken_last window (o.seq % window) (reverse (t ∷ rest))) (reverse (t ∷ rest))) is ∙ sym (ap (λ b. b && is_without window (o.seq % window) path (taken_last window (o.seq % window) (reverse rest)) (reverse rest)) is)
  apart out true is = ap (λ b. is_taken_fate o.fate && b) (by_last (taken_last window (o.seq % window) (reverse rest)) refl)
    where
      ne : o.seq % window ≢ t.seq % window
      ne = eqb-false (o.seq % window) (t.seq % window) (ap (λ b. b && nat_eq (o.seq % window) (t.seq % window)) (sym is) ∙ out)

      other : takes window (o.seq % window) t ≡ false
      other = and_false (is_taken_fate t.fate) (nat_eq (t.seq % window) (o.seq % window)) (ne_eqb (t.seq % window) (o.seq % window) (λ e. ne (sym e)))

      by_last : (last : Option ℕ) → taken_last window (o.seq % window) (reverse rest) ≡ last → is_without window (o.seq % window) path (taken_last window (o.seq % window) (reverse (t ∷ rest))) (reverse (t ∷ rest)) ≡ is_without window (o.seq % window) path (taken_last window (o.seq % window) (reverse rest)) (reverse rest)
      by_last (Some x) e = without_some window (o.seq % window) path x t rest e
      by_last None e = without_none window (o.seq % window) path t rest e other

  left_with : (g : Bool) → is_given_up window (t.seq % window) path t.seq (rest ++ o ∷ []) ≡ g → is_left window path t (rest ++ o ∷ []) ≡ (is_taken_fate t.fate && (not (nat_eq t.path path) && g))
  left_with g e = ap (λ b. is_taken_fate t.fate && (not (nat_eq t.path path) && b)) e

  left_rest : (g : Bool) → is_given_up window (t.seq % window) path t.seq rest ≡ g → is_left window path t rest ≡ (is_taken_fate t.fate && (not (nat_eq t.path path) && g))
  left_rest g e = ap (λ b. is_taken_fate t.fate && (not (nat_eq t.path path) && b)) e

  -- the sums are the same
  sums_same : is_given_up window (t.seq % window) path t.seq (rest ++ o ∷ []) ≡ is_given_up window (t.seq % window) path t.seq rest → ends_missed window path o (reverse (t ∷ rest)) ≡ ends_missed window path o (reverse rest) → one_if (is_left window path t (rest ++ o ∷ [])) + one_if (ends_missed window path o (reverse rest)) ≡ one_if (ends_missed window path o (reverse (t ∷ rest))) + one_if (is_left window path t rest)
  sums_same g e = ap (λ b. one_if b + one_if (ends_missed window path o (reverse rest))) (left_with (is_given_up window (t.seq % window) path t.seq rest) g) ∙ swap (one_if (is_left window path t rest)) (one_if (ends_missed window path o (reverse rest))) ∙ ap (λ b. one_if b + one_if (is_left window path t rest)) (sym e)
    where
      swap : (m n : ℕ) → m + n ≡ n + m
      swap m n = omega arith

  -- the next that is taken at the place
  next_here : (same : o.seq % window ≡ t.seq % window) → is_taken_fate o.fate ≡ true → takes window (t.seq % window) o ≡ true → taken_last window (t.seq % window) (reverse rest) ≡ None → (b : Bool) → is_taken_fate t.fate ≡ b → one_if (is_left window path t (rest ++ o ∷ [])) + one_if (ends_missed window path o (reverse rest)) ≡ one_if (ends_missed window path o (reverse (t ∷ rest))) + one_if (is_left window path t rest)
  next_here same taken here e b is =
      let given = given_up_now window (t.seq % window) path t.seq rest o e here in
      let none = not_given_up window (t.seq % window) path t.seq rest e in
      let before : ends_missed window path o (reverse rest) ≡ false = ends_at (reverse rest) ∙ ap (λ l. is_without window (t.seq % window) path l (reverse rest)) e in
      ap (λ c. one_if c + one_if (ends_missed window path o (reverse rest))) (left_with _ given)
      ∙ ap (λ c. one_if (is_taken_fate t.fate && (not (nat_eq t.path path) && not (has_brought window (t.seq % window) path t.seq (reverse rest)))) + one_if c) before
      ∙ by_taken b is
      ∙ ap (λ c. one_if (ends_missed window path o (reverse (t ∷ rest))) + one_if c) (sym (left_rest false none ∙ nothing (is_taken_fate t.fate) (not (nat_eq t.path path))))
    where
      ends_at : (xs : List Offer) → ends_missed window path o xs ≡ is_without window (t.seq % window) path (taken_last window (t.seq % window) xs) xs
      ends_at xs = ap (λ c. c && is_without window (o.seq % window) path (taken_last window (o.seq % window) xs) xs) taken ∙ ap (λ place. is_without window place path (taken_last window place xs) xs) same

      nothing : (c d : Bool) → (c && (d && false)) ≡ false
      nothing true true = refl
      nothing true false = refl
      nothing false d = refl

      by_copy : (n h : Bool) → one_if (not n && not h) + 0 ≡ one_if (not (h || n)) + 0
      by_copy true true = refl
      by_copy true false = refl
      by_copy false true = refl
      by_copy false false = refl

      by_taken : (c : Bool) → is_taken_fate t.fate ≡ c → one_if (is_taken_fate t.fate && (not (nat_eq t.path path) && not (has_brought window (t.seq % window) path t.seq (reverse rest)))) + 0 ≡ one_if (ends_missed window path o (reverse (t ∷ rest))) + 0
      by_taken true so =
          let first : takes window (t.seq % window) t ≡ true = ap (λ c. c && nat_eq (t.seq % window) (t.seq % window)) so ∙ eq-eqb (t.seq % window) (t.seq % window) refl in
          let fate : is_copy_fate t.fate ≡ true = ap (λ c. c || (is_double t.fate || (is_unlike t.fate || is_late t.fate))) so in
          let copy : is_copy_on path t.seq t ≡ nat_eq t.path path = ap (λ c. nat_eq t.path path && (c && is_copy_fate t.fate)) (eq-eqb t.seq t.seq refl) ∙ ap (λ c. nat_eq t.path path && c) fate ∙ alone (nat_eq t.path path) in
          ap (λ c. one_if (c && (not (nat_eq t.path path) && not (has_brought window (t.seq % window) path t.seq (reverse rest)))) + 0) so
          ∙ by_copy (nat_eq t.path path) (has_brought window (t.seq % window) path t.seq (reverse rest))
          ∙ ap (λ c. one_if (not (has_brought window (t.seq % window) path t.seq (reverse rest) || c)) + 0) (sym copy)
          ∙ ap (λ c. one_if c + 0) (sym (ends_at (reverse (t ∷ rest)) ∙ without_first window (t.seq % window) path t rest e first))
        where
          alone : (c : Bool) → (c && true) ≡ c
          alone true = refl
          alone false = refl
      by_taken false so =
          let out : takes window (t.seq % window) t ≡ false = ap (λ c. c && nat_eq (t.seq % window) (t.seq % window)) so in
          let ends : ends_missed window path o (reverse (t ∷ rest)) ≡ false = ends_at (reverse (t ∷ rest)) ∙ without_none window (t.seq % window) path t rest e out ∙ ap (λ l. is_without window (t.seq % window) path l (reverse rest)) e in
          ap (λ c. one_if (c && (not (nat_eq t.path path) && not (has_brought window (t.seq % window) path t.seq (reverse rest)))) + 0) so
          ∙ ap (λ c. one_if c + 0) (sym ends)

  one_more : one_if (is_left window path t (rest ++ o ∷ [])) + one_if (ends_missed window path o (reverse rest)) ≡ one_if (ends_missed window path o (reverse (t ∷ rest))) + one_if (is_left window path t rest)
  one_more = by_takes (takes window (t.seq % window) o) refl
    where
      by_takes : (b : Bool) → takes window (t.seq % window) o ≡ b → one_if (is_left window path t (rest ++ o ∷ [])) + one_if (ends_missed window path o (reverse rest)) ≡ one_if (ends_missed window path o (reverse (t ∷ rest))) + one_if (is_left window path t rest)
      by_takes false out = sums_same (given_up_without window (t.seq % window) path t.seq rest o out) (apart out (is_taken_fate o.fate) refl)
      by_takes true here =
          let parts = and_parts (is_taken_fate o.fate) (nat_eq (o.seq % window) (t.seq % window)) here in
          by_last (eqb-true (o.seq % window) (t.seq % window) parts.1) parts.0 (taken_last window (t.seq % window) (reverse rest)) refl
        where
          by_last : o.seq % window ≡ t.seq % window → is_taken_fate o.fate ≡ true → (last : Option ℕ) → taken_last window (t.seq % window) (reverse rest) ≡ last → one_if (is_left window path t (rest ++ o ∷ [])) + one_if (ends_missed window path o (reverse rest)) ≡ one_if (ends_missed window path o (reverse (t ∷ rest))) + one_if (is_left window path t rest)
          by_last same taken None e = next_here same taken here e (is_taken_fate t.fate) refl
          by_last same taken (Some x) e = sums_same (given_up_after window (t.seq % window) path t.seq x rest o e) (ap (λ c. c && is_without window (o.seq % window) path (taken_last window (o.seq % window) (reverse (t ∷ rest))) (reverse (t ∷ rest))) taken ∙ without_some window (o.seq % window) path x t rest (ap (λ place. taken_last window place (reverse rest)) same ∙ e) ∙ sym (ap (λ c. c && is_without window (o.seq % window) path (taken_last window (o.seq % window) (reverse rest)) (reverse rest)) taken))

-- one offer after all others
left_of-push : (window path : ℕ) (rest : List Offer) (o : Offer) → left_of window path (rest ++ o ∷ []) ≡ one_if (ends_missed window path o (reverse rest)) + left_of window path rest
left_of-push window path [] o = none (is_taken_fate o.fate) (not (nat_eq o.path path))
  where
    none : (c d : Bool) → one_if (c && (d && false)) + 0 ≡ one_if (c && false) + 0
    none true true = refl
    none true false = refl
    none false d = refl
left_of-push window path (t ∷ rest) o =
    let more = left_of-push window path rest o in
    let step = one_more window path t o rest in
    omega (arith, more, step)

-- so both counts are the same
pub missed_is_left : (window path : ℕ) (offers : List Offer) → missed_of window path offers ≡ left_of window path (reverse offers)
missed_is_left window path [] = refl
missed_is_left window path (o ∷ before) =
    let back : reverse (reverse before) ≡ before = reverse-reverse before in
    ap (λ n. one_if (ends_missed window path o before) + n) (missed_is_left window path before)
    ∙ ap (λ xs. one_if (ends_missed window path o xs) + left_of window path (reverse before)) (sym back)
    ∙ sym (left_of-push window path (reverse before) o)
    ∙ ap (left_of window path) (sym (reverse-append (o ∷ []) before))

pub none_is_left : (window path : ℕ) (offers : List Offer) → BringsEach window path offers → left_of window path offers ≡ 0
none_is_left window path [] each = refl
none_is_left window path (o ∷ after) each = ap (λ b. one_if b + left_of window path after) each.0 ∙ ap (λ n. 0 + n) (none_is_left window path after each.1)
