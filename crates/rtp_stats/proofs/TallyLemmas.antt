-- A tally after one more offer.
use Rattle.std.proofs.Common.{◌≡◌, ◌≢◌, ◌⊎◌, inl, inr, ℕ, zero, suc, ◌+◌, ◌*◌, ◌/◌, ◌%◌, ◌<◌, Bool, true, false, List, [], ◌∷◌, length, replicate, refl, sym, ap, subst, ◌∙◌, arith, if◌then◌else◌, Some, None}
use Rattle.std.specs.Prelude.{◌&&◌, nat_eq, slice_index, slice_index_or, slice_set}
use Rattle.std.proofs.Math.Nat.{mod-lt}
use Rattle.std.proofs.lemmas.Bool.{eqb-false, eqb-true}
use Rattle.std.proofs.lemmas.List.{get_or-replicate, get_or-set_other, get_or-set_same, length-replicate, length-set}
use Rattle.rtp_stats.proofs.EntryLemmas.{entry_elsewhere, entry_empty, entry_here}
use Rattle.rtp_stats.proofs.MissedLemmas.{missed_after}
use Rattle.rtp_stats.proofs.SecondLemmas.{second_elsewhere, second_here, second_none, second_without}
use Rattle.rtp_stream.specs.Counts.{is_taken_fate}
use Rattle.rtp_stats.specs.Counts.{AreCounts}
use Rattle.rtp_stats.specs.WindowCopies.{HasEntry, empty_entry, entry_after, misses}
use Rattle.rtp_stats.specs.Missed.{missed_of}
use Rattle.rtp_stats.specs.Offers.{count_in_64_bits}
use Rattle.rtp_stats.specs.MarginSecond.{AreNewSeconds, HasSecond, empty_second, place_of, second_after}
use Rattle.rtp_stats.specs.Margins.{second_of}
use Rattle.rtp_stats.specs.Tally.{HasEntries, HasSeconds}
use Rattle.rtp_stats.specs.declared.tally.window_copies.WindowCopies.{WindowCopies}
use Rattle.rtp_stats.specs.Offer.{Offer}
use Rattle.rtp_stats.specs.declared.tally.margins.MarginSecond.{MarginSecond}

-- places
pub entries_new : (window : ℕ) → HasEntries window [] (replicate window empty_entry)
entries_new window = record {
  width = length-replicate window empty_entry;
  each = λ place d lt. subst (HasEntry window place []) (sym (get_or-replicate window place empty_entry d lt)) (entry_empty window place);
}

pub entries_after : (window : ℕ) (o : Offer) (offers : List Offer) (entries : List WindowCopies) (d : WindowCopies) → 0 < window → o.path < 4 → HasEntries window offers entries → HasEntries window (o ∷ offers) (slice_set entries (o.seq % window) (entry_after o.path o.fate o.seq (slice_index_or entries (o.seq % window) d)))
entries_after window o offers entries d some few has = record {
  width = length-set entries (o.seq % window) (entry_after o.path o.fate o.seq (slice_index_or entries (o.seq % window) d)) ∙ has.width;
  each = λ place e lt. by_test place e lt (nat_eq place (o.seq % window)) refl;
}
  where
    by_test : (place : ℕ) (e : WindowCopies) → place < window → (b : Bool) → nat_eq place (o.seq % window) ≡ b → HasEntry window place (o ∷ offers) (slice_index_or (slice_set entries (o.seq % window) (entry_after o.path o.fate o.seq (slice_index_or entries (o.seq % window) d))) place e)
    by_test place e lt true is =
        let same : place ≡ o.seq % window = eqb-true place (o.seq % window) is in
        let inside : o.seq % window < length entries = omega (arith, same, lt, has.width) in
        let read = get_or-set_same entries (o.seq % window) (entry_after o.path o.fate o.seq (slice_index_or entries (o.seq % window) d)) e inside in
        subst (λ p. HasEntry window p (o ∷ offers) (slice_index_or (slice_set entries (o.seq % window) (entry_after o.path o.fate o.seq (slice_index_or entries (o.seq % window) d))) p e)) (sym same)
        (subst (HasEntry window (o.seq % window) (o ∷ offers)) (sym read)
        (entry_here window (o.seq % window) o offers (slice_index_or entries (o.seq % window) d) few refl (has.each (o.seq % window) d (omega (arith, inside, has.width)))))
    by_test place e lt false is =
        let other : place ≢ o.seq % window = eqb-false place (o.seq % window) is in
        let read = get_or-set_other entries (o.seq % window) place (entry_after o.path o.fate o.seq (slice_index_or entries (o.seq % window) d)) e other in
        subst (HasEntry window place (o ∷ offers)) (sym read) (entry_elsewhere window place o offers (slice_index_or entries place e) (λ s. other (sym s)) (has.each place e lt))

-- seconds
pub seconds_new : (seconds : List MarginSecond) → AreNewSeconds 8 seconds → HasSeconds [] seconds
seconds_new seconds are = record {
  eight = are.long;
  each = λ k d lt. subst (HasSecond (k / 2) (k % 2) []) (sym (are.each k d lt)) (second_none (k / 2) (k % 2) (omega arith));
}

pub seconds_without : (o : Offer) (offers : List Offer) (seconds : List MarginSecond) → o.spare ≡ None → HasSeconds offers seconds → HasSeconds (o ∷ offers) seconds
seconds_without o offers seconds none has = record {
  eight = has.eight;
  each = λ k d lt. second_without (k / 2) (k % 2) o offers (slice_index_or seconds k d) (has.each k d lt) none;
}

place_apart : (k path second : ℕ) → k ≢ 2 * path + second % 2 → (path ≢ k / 2) ⊎ (second % 2 ≢ k % 2)
place_apart k path second ne = by_test (nat_eq path (k / 2)) refl
  where
    by_test : (b : Bool) → nat_eq path (k / 2) ≡ b → (path ≢ k / 2) ⊎ (second % 2 ≢ k % 2)
    by_test true is =
        let same : path ≡ k / 2 = eqb-true path (k / 2) is in
        inr (λ odd. ne (omega (arith, same, odd)))
    by_test false is = inl (eqb-false path (k / 2) is)

pub seconds_after : (o : Offer) (offers : List Offer) (seconds : List MarginSecond) (x : ℕ) (d : MarginSecond) → o.spare ≡ Some x → o.path < 4 → HasSeconds offers seconds → HasSeconds (o ∷ offers) (slice_set seconds (place_of o.path (second_of o.now)) (second_after (second_of o.now) x (slice_index_or seconds (place_of o.path (second_of o.now)) d)))
seconds_after o offers seconds x d spare few has = record {
  eight = length-set seconds (place_of o.path (second_of o.now)) (second_after (second_of o.now) x (slice_index_or seconds (place_of o.path (second_of o.now)) d)) ∙ has.eight;
  each = λ k e lt. by_test k e lt (nat_eq k (place_of o.path (second_of o.now))) refl;
}
  where
    by_test : (k : ℕ) (e : MarginSecond) → k < 8 → (b : Bool) → nat_eq k (place_of o.path (second_of o.now)) ≡ b → HasSecond (k / 2) (k % 2) (o ∷ offers) (slice_index_or (slice_set seconds (place_of o.path (second_of o.now)) (second_after (second_of o.now) x (slice_index_or seconds (place_of o.path (second_of o.now)) d))) k e)
    by_test k e lt true is =
        let same : k ≡ place_of o.path (second_of o.now) = eqb-true k (place_of o.path (second_of o.now)) is in
        let inside : k < length seconds = omega (arith, lt, has.eight) in
        let read : slice_index_or (slice_set seconds k (second_after (second_of o.now) x (slice_index_or seconds k d))) k e ≡ second_after (second_of o.now) x (slice_index_or seconds k d) = get_or-set_same seconds k (second_after (second_of o.now) x (slice_index_or seconds k d)) e inside in
        let path : o.path ≡ k / 2 = omega (arith, same) in
        let even : second_of o.now % 2 ≡ k % 2 = omega (arith, same) in
        subst (λ p. HasSecond (k / 2) (k % 2) (o ∷ offers) (slice_index_or (slice_set seconds p (second_after (second_of o.now) x (slice_index_or seconds p d))) k e)) same
        (subst (HasSecond (k / 2) (k % 2) (o ∷ offers)) (sym read) (second_here (k / 2) (k % 2) o offers (slice_index_or seconds k d) (has.each k d lt) x spare path even))
    by_test k e lt false is =
        let other : k ≢ place_of o.path (second_of o.now) = eqb-false k (place_of o.path (second_of o.now)) is in
        let read = get_or-set_other seconds (place_of o.path (second_of o.now)) k (second_after (second_of o.now) x (slice_index_or seconds (place_of o.path (second_of o.now)) d)) e other in
        subst (HasSecond (k / 2) (k % 2) (o ∷ offers)) (sym read) (second_elsewhere (k / 2) (k % 2) o offers (slice_index_or seconds k e) (has.each k e lt) (place_apart k o.path (second_of o.now) other))

-- the parts of a tally, if the lists are borrowed
pub tally_entries : (window : ℕ) (o : Offer) (offers : List Offer) (entries lent after : List WindowCopies) → lent ≡ entries → ((d : WindowCopies) → after ≡ slice_set lent (o.seq % length lent) (entry_after o.path o.fate o.seq (slice_index_or lent (o.seq % length lent) d))) → 0 < length entries → o.path < 4 → HasEntries window offers entries → HasEntries window (o ∷ offers) after
tally_entries window o offers entries lent after same step some few has =
    let width : length lent ≡ window = ap length same ∙ has.width in
    let next : after ≡ slice_set entries (o.seq % window) (entry_after o.path o.fate o.seq (slice_index_or entries (o.seq % window) empty_entry)) = step empty_entry ∙ ap (λ n. slice_set lent (o.seq % n) (entry_after o.path o.fate o.seq (slice_index_or lent (o.seq % n) empty_entry))) width ∙ ap (λ xs. slice_set xs (o.seq % window) (entry_after o.path o.fate o.seq (slice_index_or xs (o.seq % window) empty_entry))) same in
    subst (HasEntries window (o ∷ offers)) (sym next) (entries_after window o offers entries empty_entry (omega (arith, some, has.width)) few has)

pub tally_missed : (window : ℕ) (o : Offer) (offers : List Offer) (entries lent : List WindowCopies) (missed after : List ℕ) → lent ≡ entries → length after ≡ 4 → ((d : WindowCopies) (on : ℕ) → on < 4 → slice_index after on ≡ (if is_taken_fate o.fate && misses (slice_index_or lent (o.seq % length lent) d) on then count_in_64_bits (slice_index missed on + 1) else slice_index missed on)) → 0 < length entries → HasEntries window offers entries → AreCounts (λ p. missed_of window p offers) missed → AreCounts (λ p. missed_of window p (o ∷ offers)) after
tally_missed window o offers entries lent missed after same four step some has are =
    let width : length lent ≡ window = ap length same ∙ has.width in
    let inside : o.seq % window < window = mod-lt o.seq (omega (arith, some, has.width)) in
    let kept = has.each (o.seq % window) empty_entry inside in
    missed_after window o offers (slice_index_or entries (o.seq % window) empty_entry) missed after kept are four
    (λ p few. step empty_entry p few
    ∙ ap (λ n. if is_taken_fate o.fate && misses (slice_index_or lent (o.seq % n) empty_entry) p then count_in_64_bits (slice_index missed p + 1) else slice_index missed p) width
    ∙ ap (λ xs. if is_taken_fate o.fate && misses (slice_index_or xs (o.seq % window) empty_entry) p then count_in_64_bits (slice_index missed p + 1) else slice_index missed p) same)

pub tally_seconds : (o : Offer) (offers : List Offer) (seconds lent after : List MarginSecond) (x : ℕ) → lent ≡ seconds → ((d : MarginSecond) → after ≡ slice_set lent (place_of o.path (second_of o.now)) (second_after (second_of o.now) x (slice_index_or lent (place_of o.path (second_of o.now)) d))) → o.spare ≡ Some x → o.path < 4 → HasSeconds offers seconds → HasSeconds (o ∷ offers) after
tally_seconds o offers seconds lent after x same step spare few has =
    let next : after ≡ slice_set seconds (place_of o.path (second_of o.now)) (second_after (second_of o.now) x (slice_index_or seconds (place_of o.path (second_of o.now)) (empty_second 0))) = step (empty_second 0) ∙ ap (λ xs. slice_set xs (place_of o.path (second_of o.now)) (second_after (second_of o.now) x (slice_index_or xs (place_of o.path (second_of o.now)) (empty_second 0)))) same in
    subst (HasSeconds (o ∷ offers)) (sym next) (seconds_after o offers seconds x (empty_second 0) spare few has)

-- no counter has counted yet
pub counts_new : (f : ℕ → ℕ) → ((p : ℕ) → f p ≡ 0) → AreCounts f (0 ∷ 0 ∷ 0 ∷ 0 ∷ [])
counts_new f none = record { four = refl; each = λ p few. zeros p ∙ ap count_in_64_bits (sym (none p)) }
  where
    zeros : (p : ℕ) → slice_index (0 ∷ 0 ∷ 0 ∷ 0 ∷ []) p ≡ count_in_64_bits 0
    zeros zero = refl
    zeros (suc zero) = refl
    zeros (suc (suc zero)) = refl
    zeros (suc (suc (suc zero))) = refl
    zeros (suc (suc (suc (suc p)))) = refl
