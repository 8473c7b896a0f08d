-- The copies that are kept at a place, after one more offer.
use Rattle.std.proofs.Common.{◌≡◌, ◌≢◌, ℕ, zero, suc, ◌%◌, ◌<◌, Bool, true, false, not, List, [], ◌∷◌, length, refl, sym, ap, ◌∙◌, arith, if◌then◌else◌, Option, Some, None}
use Rattle.std.specs.Prelude.{◌&&◌, ◌||◌, nat_eq, slice_index_or, slice_set}
use Rattle.std.proofs.lemmas.Bool.{and_from, and_parts, eq-eqb, eqb-false, eqb-true, ne_eqb}
use Rattle.std.proofs.lemmas.List.{get_or-set_other, get_or-set_same, length-set}
use Rattle.rtp_stream.specs.Counts.{is_double, is_late, is_taken_fate, is_unlike}
use Rattle.rtp_stats.proofs.CountLemmas.{and_false}
use Rattle.rtp_stats.specs.WindowCopies.{HasEntry, empty_entry, entry_after, entry_of, misses, no_path, with_copy}
use Rattle.rtp_stats.specs.Missed.{has_brought, is_copy_fate, is_copy_on, is_without, taken_last, takes}
use Rattle.rtp_stats.specs.declared.tally.window_copies.WindowCopies.{WindowCopies}
use Rattle.rtp_stats.specs.Offer.{Offer}

some_inside : (a b : ℕ) → Some a ≡ Some b → a ≡ b
some_inside a b e = cc

true_is_false : true ≡ false → ⊥
true_is_false e = cc

none_is_none : (a : ℕ) → None ≡ Some a → ⊥
none_is_none a e = cc

-- the number that was taken last at a place has it
place_step : (window place seq : ℕ) (o : Offer) (rest : Option ℕ) → (rest ≡ Some seq → seq % window ≡ place) → (b : Bool) → takes window place o ≡ b → (if b then Some o.seq else rest) ≡ Some seq → seq % window ≡ place
place_step window place seq o rest known true is e =
    let here = eqb-true (o.seq % window) place (and_parts (is_taken_fate o.fate) (nat_eq (o.seq % window) place) is).1 in
    ap (λ n. n % window) (sym (some_inside o.seq seq e)) ∙ here
place_step window place seq o rest known false is e = known e

pub taken_last-place : (window place seq : ℕ) (offers : List Offer) → taken_last window place offers ≡ Some seq → seq % window ≡ place
taken_last-place window place seq [] e = absurd (none_is_none seq e)
taken_last-place window place seq (o ∷ before) e = place_step window place seq o (taken_last window place before) (taken_last-place window place seq before) (takes window place o) refl e

-- nothing was taken
pub entry_empty : (window place : ℕ) → HasEntry window place [] empty_entry
entry_empty window place = record { four = refl; number = refl; brought = λ p few taken. absurd (lacks taken) }
  where
    lacks : false ≡ true → ⊥
    lacks e = cc

none_of_no_path : (p : ℕ) → slice_index_or no_path p false ≡ false
none_of_no_path zero = refl
none_of_no_path (suc zero) = refl
none_of_no_path (suc (suc zero)) = refl
none_of_no_path (suc (suc (suc zero))) = refl
none_of_no_path (suc (suc (suc (suc p)))) = refl

module _ (window place : ℕ) (o : Offer) (offers : List Offer) where
  -- what an offer changes in what is known of the offers before it
  last_skipped : takes window place o ≡ false → taken_last window place (o ∷ offers) ≡ taken_last window place offers
  last_skipped lacks = ap (λ b. if b then Some o.seq else taken_last window place offers) lacks

  brought_skipped : (p seq : ℕ) → is_copy_on p seq o ≡ false → takes window place o ≡ false → has_brought window place p seq (o ∷ offers) ≡ has_brought window place p seq offers
  brought_skipped p seq lacks out =
      ap (λ b. if b then true else if takes window place o then false else has_brought window place p seq offers) lacks
      ∙ ap (λ b. if b then false else has_brought window place p seq offers) out

  brought_here : (p seq : ℕ) → is_copy_on p seq o ≡ true → has_brought window place p seq (o ∷ offers) ≡ true
  brought_here p seq is_so = ap (λ b. if b then true else if takes window place o then false else has_brought window place p seq offers) is_so

  brought_not : (p seq : ℕ) → is_copy_on p seq o ≡ false → takes window place o ≡ true → has_brought window place p seq (o ∷ offers) ≡ false
  brought_not p seq lacks is_so =
      ap (λ b. if b then true else if takes window place o then false else has_brought window place p seq offers) lacks
      ∙ ap (λ b. if b then false else has_brought window place p seq offers) is_so

  other_number : (p seq : ℕ) → o.seq ≢ seq → is_copy_on p seq o ≡ false
  other_number p seq ne = and_false (nat_eq o.path p) (nat_eq o.seq seq && is_copy_fate o.fate) (ap (λ b. b && is_copy_fate o.fate) (ne_eqb o.seq seq ne))

  other_path : (p seq : ℕ) → o.path ≢ p → is_copy_on p seq o ≡ false
  other_path p seq ne = ap (λ b. b && (nat_eq o.seq seq && is_copy_fate o.fate)) (ne_eqb o.path p ne)

  no_copy : (p seq : ℕ) → is_copy_fate o.fate ≡ false → is_copy_on p seq o ≡ false
  no_copy p seq lacks = and_false (nat_eq o.path p) (nat_eq o.seq seq && is_copy_fate o.fate) (and_false (nat_eq o.seq seq) (is_copy_fate o.fate) lacks)

  a_copy : (p seq : ℕ) → o.path ≡ p → o.seq ≡ seq → is_copy_fate o.fate ≡ true → is_copy_on p seq o ≡ true
  a_copy p seq same equal is_so = and_from (nat_eq o.path p) (nat_eq o.seq seq && is_copy_fate o.fate) (eq-eqb o.path p same) (and_from (nat_eq o.seq seq) (is_copy_fate o.fate) (eq-eqb o.seq seq equal) is_so)

  not_taken : is_taken_fate o.fate ≡ false → takes window place o ≡ false
  not_taken lacks = ap (λ b. b && nat_eq (o.seq % window) place) lacks

  kept_number : (e : WindowCopies) → HasEntry window place offers e → e.taken ≡ true → taken_last window place offers ≡ Some e.seq
  kept_number e has taken = sym has.number ∙ ap (λ b. if b then Some e.seq else None) taken

  -- an offer at another place
  pub entry_elsewhere : (e : WindowCopies) → o.seq % window ≢ place → HasEntry window place offers e → HasEntry window place (o ∷ offers) e
  entry_elsewhere e ne has = record {
    four = has.four;
    number = has.number ∙ sym (last_skipped out);
    brought = λ p few taken. has.brought p few taken ∙ sym (brought_skipped p e.seq (other_number p e.seq (λ same. ne (ap (λ n. n % window) same ∙ taken_last-place window place e.seq offers (kept_number e has taken)))) out);
  }
    where
      out : takes window place o ≡ false
      out = and_false (is_taken_fate o.fate) (nat_eq (o.seq % window) place) (ne_eqb (o.seq % window) place ne)

  -- an offer that is taken here
  entry_taken : is_taken_fate o.fate ≡ true → o.path < 4 → o.seq % window ≡ place → HasEntry window place (o ∷ offers) (entry_of o.path o.seq)
  entry_taken is_so few at = record {
    four = length-set no_path o.path true;
    number = sym (ap (λ b. if b then Some o.seq else taken_last window place offers) here);
    brought = λ p lt taken. by_path p (nat_eq o.path p) refl;
  }
    where
      here : takes window place o ≡ true
      here = and_from (is_taken_fate o.fate) (nat_eq (o.seq % window) place) is_so (eq-eqb (o.seq % window) place at)

      copy : is_copy_fate o.fate ≡ true
      copy = ap (λ b. b || (is_double o.fate || (is_unlike o.fate || is_late o.fate))) is_so

      by_path : (p : ℕ) → (b : Bool) → nat_eq o.path p ≡ b → slice_index_or (slice_set no_path o.path true) p false ≡ has_brought window place p o.seq (o ∷ offers)
      by_path p true is =
          let same : o.path ≡ p = eqb-true o.path p is in
          ap (λ k. slice_index_or (slice_set no_path o.path true) k false) (sym same) ∙ get_or-set_same no_path o.path true false few ∙ sym (brought_here p o.seq (a_copy p o.seq same refl copy))
      by_path p false is =
          let other : o.path ≢ p = eqb-false o.path p is in
          get_or-set_other no_path o.path p true false (λ e. other (sym e)) ∙ none_of_no_path p ∙ sym (brought_not p o.seq (other_path p o.seq other) here)

  -- a further copy here
  entry_copied : (e : WindowCopies) → is_taken_fate o.fate ≡ false → is_copy_fate o.fate ≡ true → o.path < 4 → HasEntry window place offers e → HasEntry window place (o ∷ offers) (with_copy o.path o.seq e)
  entry_copied e lacks copy few has = by_test (e.taken && nat_eq e.seq o.seq) refl
    where
      out : takes window place o ≡ false
      out = not_taken lacks

      by_path : e.seq ≡ o.seq → e.taken ≡ true → (p : ℕ) → p < 4 → (b : Bool) → nat_eq o.path p ≡ b → slice_index_or (slice_set e.brought o.path true) p false ≡ has_brought window place p e.seq (o ∷ offers)
      by_path equal taken p lt true is =
          let same : o.path ≡ p = eqb-true o.path p is in
          let inside : o.path < length e.brought = omega (arith, few, has.four) in
          ap (λ k. slice_index_or (slice_set e.brought o.path true) k false) (sym same) ∙ get_or-set_same e.brought o.path true false inside ∙ sym (brought_here p e.seq (a_copy p e.seq same (sym equal) copy))
      by_path equal taken p lt false is =
          let other : o.path ≢ p = eqb-false o.path p is in
          get_or-set_other e.brought o.path p true false (λ e. other (sym e)) ∙ has.brought p lt taken ∙ sym (brought_skipped p e.seq (other_path p e.seq other) out)

      by_test : (b : Bool) → (e.taken && nat_eq e.seq o.seq) ≡ b → HasEntry window place (o ∷ offers) (if b then record e { brought = slice_set e.brought o.path true } else e)
      by_test true is =
          let parts = and_parts e.taken (nat_eq e.seq o.seq) is in
          record {
            four = length-set e.brought o.path true ∙ has.four;
            number = has.number ∙ sym (last_skipped out);
            brought = λ p lt taken. by_path (eqb-true e.seq o.seq parts.1) parts.0 p lt (nat_eq o.path p) refl;
          }
      by_test false is = record {
        four = has.four;
        number = has.number ∙ sym (last_skipped out);
        brought = λ p lt taken. has.brought p lt taken ∙ sym (brought_skipped p e.seq (other_number p e.seq (λ same. unequal taken (sym same))) out);
      }
        where
          unequal : e.taken ≡ true → e.seq ≢ o.seq
          unequal taken same = true_is_false (sym (and_from e.taken (nat_eq e.seq o.seq) taken (eq-eqb e.seq o.seq same)) ∙ is)

  -- an offer here
  pub entry_here : (e : WindowCopies) → o.path < 4 → o.seq % window ≡ place → HasEntry window place offers e → HasEntry window place (o ∷ offers) (entry_after o.path o.fate o.seq e)
  entry_here e few at has = by_fate (is_taken_fate o.fate) (is_copy_fate o.fate) refl refl
    where
      by_fate : (t c : Bool) → is_taken_fate o.fate ≡ t → is_copy_fate o.fate ≡ c → HasEntry window place (o ∷ offers) (if t then entry_of o.path o.seq else if c then with_copy o.path o.seq e else e)
      by_fate true c taken copy = entry_taken taken few at
      by_fate false true taken copy = entry_copied e taken copy few has
      by_fate false false taken copy = record {
        four = has.four;
        number = has.number ∙ sym (last_skipped (not_taken taken));
        brought = λ p lt is_so. has.brought p lt is_so ∙ sym (brought_skipped p e.seq (no_copy p e.seq copy) (not_taken taken));
      }

-- the paths that have not brought the number that is kept
pub without_is : (window place p : ℕ) (offers : List Offer) (e : WindowCopies) → HasEntry window place offers e → p < 4 → is_without window place p (taken_last window place offers) offers ≡ misses e p
without_is window place p offers e has lt = by_taken e.taken refl
  where
    by_taken : (b : Bool) → e.taken ≡ b → is_without window place p (taken_last window place offers) offers ≡ (b && not (slice_index_or e.brought p false))
    by_taken true is =
        let kept : taken_last window place offers ≡ Some e.seq = sym has.number ∙ ap (λ b. if b then Some e.seq else None) is in
        ap (λ n. is_without window place p n offers) kept ∙ ap not (sym (has.brought p lt is))
    by_taken false is =
        let kept : taken_last window place offers ≡ None = sym has.number ∙ ap (λ b. if b then Some e.seq else None) is in
        ap (λ n. is_without window place p n offers) kept
