-- Counters by path, after one more offer.
use Rattle.std.proofs.Common.{◌≡◌, ◌≢◌, ℕ, ◌+◌, ◌<◌, Bool, true, false, List, ◌∷◌, length, refl, sym, ap, ◌∙◌, arith, if◌then◌else◌}
use Rattle.std.specs.Prelude.{cond, ◌&&◌, nat_eq, slice_index}
use Rattle.std.proofs.lemmas.Bool.{eq-eqb, eqb-false, eqb-true, ne_eqb}
use Rattle.std.proofs.lemmas.List.{get_or-set_other, get_or-set_same, length-set}
use Rattle.std.proofs.lemmas.List.Sums.{sum_by-cons}
use Rattle.rtp_stream.specs.Counts.{is_ahead, is_double, is_late, is_taken_fate, is_unlike}
use Rattle.rtp_stream.specs.declared.fate.Fate.{Fate}
use Rattle.rtp_stream.specs.declared.fate.Fate.TheVariants.{Ahead, Closed, CountersFull, Double, Late, OffGrid, Restarted, Taken, Unlike, WrongSource}
use Rattle.rtp_stats.specs.Counts.{AreCounts, HasFates, one_more, with_fate}
use Rattle.rtp_stats.specs.Offers.{count_in_64_bits, offers_of}
use Rattle.rtp_stats.specs.declared.tally.fate_counts.FateCounts.{FateCounts}
use Rattle.rtp_stats.specs.Offer.{Offer}

pub counted_more : (n : ℕ) → count_in_64_bits (count_in_64_bits n + 1) ≡ count_in_64_bits (n + 1)
counted_more n = omega arith

pub and_false : (a b : Bool) → b ≡ false → (a && b) ≡ false
and_false true b e = e
and_false false b e = refl

pub offers_of-first : (test : Fate → Bool) (path : ℕ) (o : Offer) (offers : List Offer) → offers_of test path (o ∷ offers) ≡ cond (nat_eq o.path path && test o.fate) 1 0 + offers_of test path offers
offers_of-first test path o offers = sum_by-cons {X = Offer} (λ x. cond (nat_eq x.path path && test x.fate) 1 0) o offers

-- counters of numbers that stay the same
pub counts_kept : (f g : ℕ → ℕ) (numbers : List ℕ) → ((p : ℕ) → p < 4 → g p ≡ f p) → AreCounts f numbers → AreCounts g numbers
counts_kept f g numbers same are = record { four = are.four; each = λ p few. are.each p few ∙ ap count_in_64_bits (sym (same p few)) }

-- counters with one more at a path
pub counts_more : (f g : ℕ → ℕ) (numbers : List ℕ) (at : ℕ) → at < 4 → g at ≡ f at + 1 → ((p : ℕ) → p < 4 → p ≢ at → g p ≡ f p) → AreCounts f numbers → AreCounts g (one_more at numbers)
counts_more f g numbers at few one others are = record {
  four = length-set numbers at (count_in_64_bits (slice_index numbers at + 1)) ∙ are.four;
  each = λ p lt. by_test p lt (nat_eq p at) refl;
}
  where
    inside : at < length numbers
    inside = omega (arith, few, are.four)

    by_test : (p : ℕ) → p < 4 → (b : Bool) → nat_eq p at ≡ b → slice_index (one_more at numbers) p ≡ count_in_64_bits (g p)
    by_test p lt true is =
        let same : p ≡ at = eqb-true p at is in
        ap (slice_index (one_more at numbers)) same
        ∙ get_or-set_same numbers at (count_in_64_bits (slice_index numbers at + 1)) 0 inside
        ∙ ap (λ n. count_in_64_bits (n + 1)) (are.each at few)
        ∙ counted_more (f at)
        ∙ ap count_in_64_bits (sym one)
        ∙ ap (λ k. count_in_64_bits (g k)) (sym same)
    by_test p lt false is =
        let other : p ≢ at = eqb-false p at is in
        get_or-set_other numbers at p (count_in_64_bits (slice_index numbers at + 1)) 0 other ∙ are.each p lt ∙ ap count_in_64_bits (sym (others p lt other))

-- one more offer, which may pass a test
pub fate_counted : (test : Fate → Bool) (o : Offer) (offers : List Offer) (numbers : List ℕ) → o.path < 4 → (b : Bool) → test o.fate ≡ b → AreCounts (λ p. offers_of test p offers) numbers → AreCounts (λ p. offers_of test p (o ∷ offers)) (if b then one_more o.path numbers else numbers)
fate_counted test o offers numbers few true is are = counts_more (λ p. offers_of test p offers) (λ p. offers_of test p (o ∷ offers)) numbers o.path few one others are
  where
    one : offers_of test o.path (o ∷ offers) ≡ offers_of test o.path offers + 1
    one =
        let hit : (nat_eq o.path o.path && test o.fate) ≡ true = ap (λ b. b && test o.fate) (eq-eqb o.path o.path refl) ∙ is in
        offers_of-first test o.path o offers ∙ ap (λ b. cond b 1 0 + offers_of test o.path offers) hit ∙ omega arith

    others : (p : ℕ) → p < 4 → p ≢ o.path → offers_of test p (o ∷ offers) ≡ offers_of test p offers
    others p lt ne =
        let miss : (nat_eq o.path p && test o.fate) ≡ false = ap (λ b. b && test o.fate) (ne_eqb o.path p (λ e. ne (sym e))) in
        offers_of-first test p o offers ∙ ap (λ b. cond b 1 0 + offers_of test p offers) miss ∙ omega arith
fate_counted test o offers numbers few false is are = counts_kept (λ p. offers_of test p offers) (λ p. offers_of test p (o ∷ offers)) numbers same are
  where
    same : (p : ℕ) → p < 4 → offers_of test p (o ∷ offers) ≡ offers_of test p offers
    same p lt = offers_of-first test p o offers ∙ ap (λ b. cond b 1 0 + offers_of test p offers) (and_false (nat_eq o.path p) (test o.fate) is) ∙ omega arith

-- one more offer, which the counters count by their tests
all_counted : (o : Offer) (offers : List Offer) (c : FateCounts) → o.path < 4 → HasFates offers c → (first double unlike late ahead : Bool)
    → is_taken_fate o.fate ≡ first → is_double o.fate ≡ double → is_unlike o.fate ≡ unlike → is_late o.fate ≡ late → is_ahead o.fate ≡ ahead
    → HasFates (o ∷ offers) (record {
      first = if first then one_more o.path c.first else c.first;
      double = if double then one_more o.path c.double else c.double;
      unlike = if unlike then one_more o.path c.unlike else c.unlike;
      late = if late then one_more o.path c.late else c.late;
      ahead = if ahead then one_more o.path c.ahead else c.ahead;
    })
all_counted o offers c few has first double unlike late ahead first_is double_is unlike_is late_is ahead_is = record {
  first = fate_counted is_taken_fate o offers c.first few first first_is has.first;
  double = fate_counted is_double o offers c.double few double double_is has.double;
  unlike = fate_counted is_unlike o offers c.unlike few unlike unlike_is has.unlike;
  late = fate_counted is_late o offers c.late few late late_is has.late;
  ahead = fate_counted is_ahead o offers c.ahead few ahead ahead_is has.ahead;
}

-- one more offer of each fate
fates_by : (o : Offer) (offers : List Offer) (c : FateCounts) → o.path < 4 → HasFates offers c → (fate : Fate) → o.fate ≡ fate → HasFates (o ∷ offers) (with_fate o.path fate c)
fates_by o offers c few has Taken is = all_counted o offers c few has true false false false false (ap is_taken_fate is) (ap is_double is) (ap is_unlike is) (ap is_late is) (ap is_ahead is)
fates_by o offers c few has Restarted is = all_counted o offers c few has true false false false false (ap is_taken_fate is) (ap is_double is) (ap is_unlike is) (ap is_late is) (ap is_ahead is)
fates_by o offers c few has Double is = all_counted o offers c few has false true false false false (ap is_taken_fate is) (ap is_double is) (ap is_unlike is) (ap is_late is) (ap is_ahead is)
fates_by o offers c few has Unlike is = all_counted o offers c few has false false true false false (ap is_taken_fate is) (ap is_double is) (ap is_unlike is) (ap is_late is) (ap is_ahead is)
fates_by o offers c few has Late is = all_counted o offers c few has false false false true false (ap is_taken_fate is) (ap is_double is) (ap is_unlike is) (ap is_late is) (ap is_ahead is)
fates_by o offers c few has Closed is = all_counted o offers c few has false false false false false (ap is_taken_fate is) (ap is_double is) (ap is_unlike is) (ap is_late is) (ap is_ahead is)
fates_by o offers c few has CountersFull is = all_counted o offers c few has false false false false false (ap is_taken_fate is) (ap is_double is) (ap is_unlike is) (ap is_late is) (ap is_ahead is)
fates_by o offers c few has WrongSource is = all_counted o offers c few has false false false false false (ap is_taken_fate is) (ap is_double is) (ap is_unlike is) (ap is_late is) (ap is_ahead is)
fates_by o offers c few has OffGrid is = all_counted o offers c few has false false false false false (ap is_taken_fate is) (ap is_double is) (ap is_unlike is) (ap is_late is) (ap is_ahead is)
fates_by o offers c few has Ahead is = all_counted o offers c few has false false false false true (ap is_taken_fate is) (ap is_double is) (ap is_unlike is) (ap is_late is) (ap is_ahead is)

pub fates_after : (o : Offer) (offers : List Offer) (c : FateCounts) → o.path < 4 → HasFates offers c → HasFates (o ∷ offers) (with_fate o.path o.fate c)
fates_after o offers c few has = fates_by o offers c few has o.fate refl
