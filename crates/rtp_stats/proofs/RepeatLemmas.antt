-- The rows of repeated numbers, after one more offer.
use Rattle.std.proofs.Common.{◌≡◌, ◌≢◌, ℕ, ◌<◌, Bool, true, false, List, ◌∷◌, length, refl, sym, ap, ◌∙◌, arith, if◌then◌else◌}
use Rattle.std.specs.Prelude.{nat_eq, slice_index, slice_set}
use Rattle.std.proofs.lemmas.Bool.{eq-eqb, eqb-false, eqb-true, ne_eqb}
use Rattle.std.proofs.lemmas.List.{get_or-set_other, get_or-set_same, length-set}
use Rattle.rtp_stream.specs.declared.fate.Fate.{Fate}
use Rattle.rtp_stream.specs.declared.fate.Fate.TheVariants.{Ahead, Closed, CountersFull, Double, Late, OffGrid, Restarted, Taken, Unlike, WrongSource}
use Rattle.rtp_stats.proofs.CountLemmas.{counts_kept, counts_more}
use Rattle.rtp_stats.proofs.TallyLemmas.{counts_new}
use Rattle.rtp_stats.specs.Counts.{AreCounts}
use Rattle.rtp_stats.specs.Offer.{Offer}
use Rattle.rtp_stats.specs.Offers.{count_in_64_bits}
use Rattle.rtp_stats.specs.Repeats.{is_restart, repeats_of, row_after, rows_after}

-- counters, if the counter of one path begins again
counts_zero : (f g : ℕ → ℕ) (numbers : List ℕ) (at : ℕ) → at < 4 → g at ≡ 0 → ((p : ℕ) → p < 4 → p ≢ at → g p ≡ f p) → AreCounts f numbers → AreCounts g (slice_set numbers at 0)
counts_zero f g numbers at few none others are = record {
  four = length-set numbers at 0 ∙ are.four;
  each = λ p lt. by_test p lt (nat_eq p at) refl;
}
  where
    inside : at < length numbers
    inside = omega (arith, few, are.four)

    by_test : (p : ℕ) → p < 4 → (b : Bool) → nat_eq p at ≡ b → slice_index (slice_set numbers at 0) p ≡ count_in_64_bits (g p)
    by_test p lt true is =
        let same : p ≡ at = eqb-true p at is in
        ap (slice_index (slice_set numbers at 0)) same ∙ get_or-set_same numbers at 0 0 inside ∙ ap count_in_64_bits (sym none) ∙ ap (λ k. count_in_64_bits (g k)) (sym same)
    by_test p lt false is =
        let other : p ≢ at = eqb-false p at is in
        get_or-set_other numbers at p 0 0 other ∙ are.each p lt ∙ ap count_in_64_bits (sym (others p lt other))

module _ (o : Offer) (offers : List Offer) (rows : List ℕ) (few : o.path < 4) (are : AreCounts (λ p. repeats_of p offers) rows) where
  abbrev before : ℕ → ℕ
  before p = repeats_of p offers

  abbrev after : ℕ → ℕ
  after p = repeats_of p (o ∷ offers)

  -- if no epoch begins
  here : is_restart o.fate ≡ false → after o.path ≡ row_after o.fate o.again (before o.path)
  here goes_on =
      ap (λ b. if b then 0 else if nat_eq o.path o.path then row_after o.fate o.again (before o.path) else before o.path) goes_on
      ∙ ap (λ b. if b then row_after o.fate o.again (before o.path) else before o.path) (eq-eqb o.path o.path refl)

  elsewhere : is_restart o.fate ≡ false → (p : ℕ) → p < 4 → p ≢ o.path → after p ≡ before p
  elsewhere goes_on p lt ne =
      ap (λ b. if b then 0 else if nat_eq o.path p then row_after o.fate o.again (before p) else before p) goes_on
      ∙ ap (λ b. if b then row_after o.fate o.again (before p) else before p) (ne_eqb o.path p (λ e. ne (sym e)))

  kept : is_restart o.fate ≡ false → row_after o.fate o.again (before o.path) ≡ before o.path → AreCounts after rows
  kept goes_on same = counts_kept before after rows (λ p lt. by_test p lt (nat_eq p o.path) refl) are
    where
      by_test : (p : ℕ) → p < 4 → (b : Bool) → nat_eq p o.path ≡ b → after p ≡ before p
      by_test p lt true is =
          let at : p ≡ o.path = eqb-true p o.path is in
          ap after at ∙ here goes_on ∙ same ∙ ap before (sym at)
      by_test p lt false is = elsewhere goes_on p lt (eqb-false p o.path is)

  ended : is_restart o.fate ≡ false → row_after o.fate o.again (before o.path) ≡ 0 → AreCounts after (slice_set rows o.path 0)
  ended goes_on zero = counts_zero before after rows o.path few (here goes_on ∙ zero) (elsewhere goes_on) are

  rows_by : (fate : Fate) (again : Bool) → o.fate ≡ fate → o.again ≡ again → AreCounts after (rows_after o.path fate again rows)
  rows_by Late true is same = counts_more before after rows o.path few (here (ap is_restart is) ∙ ap (λ f. row_after f o.again (before o.path)) is ∙ ap (λ b. row_after Late b (before o.path)) same) (elsewhere (ap is_restart is)) are
  rows_by Late false is same = ended (ap is_restart is) (ap (λ f. row_after f o.again (before o.path)) is ∙ ap (λ b. row_after Late b (before o.path)) same)
  rows_by Closed again is same = kept (ap is_restart is) (ap (λ f. row_after f o.again (before o.path)) is)
  rows_by CountersFull again is same = kept (ap is_restart is) (ap (λ f. row_after f o.again (before o.path)) is)
  rows_by WrongSource again is same = kept (ap is_restart is) (ap (λ f. row_after f o.again (before o.path)) is)
  rows_by OffGrid again is same = ended (ap is_restart is) (ap (λ f. row_after f o.again (before o.path)) is)
  rows_by Ahead again is same = ended (ap is_restart is) (ap (λ f. row_after f o.again (before o.path)) is)
  rows_by Taken again is same = ended (ap is_restart is) (ap (λ f. row_after f o.again (before o.path)) is)
  rows_by Double again is same = ended (ap is_restart is) (ap (λ f. row_after f o.again (before o.path)) is)
  rows_by Unlike again is same = ended (ap is_restart is) (ap (λ f. row_after f o.again (before o.path)) is)
  rows_by Restarted again is same = counts_new after (λ p. ap (λ b. if b then 0 else if nat_eq o.path p then row_after o.fate o.again (before p) else before p) (ap is_restart is))

  pub repeats_after : AreCounts after (rows_after o.path o.fate o.again rows)
  repeats_after = rows_by o.fate o.again refl refl
