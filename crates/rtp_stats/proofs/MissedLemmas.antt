-- The numbers that each path missed, after one more offer.
use Rattle.std.proofs.Common.{◌≡◌, ℕ, ◌+◌, ◌%◌, ◌<◌, Bool, true, false, List, ◌∷◌, length, sym, ap, ◌∙◌, arith, if◌then◌else◌}
use Rattle.std.specs.Prelude.{◌&&◌, slice_index}
use Rattle.rtp_stream.specs.Counts.{is_taken_fate}
use Rattle.rtp_stats.proofs.CountLemmas.{counted_more}
use Rattle.rtp_stats.proofs.EntryLemmas.{without_is}
use Rattle.rtp_stats.specs.Counts.{AreCounts}
use Rattle.rtp_stats.specs.WindowCopies.{HasEntry, misses}
use Rattle.rtp_stats.specs.Missed.{ends_missed, missed_of}
use Rattle.rtp_stats.specs.Offers.{count_in_64_bits}
use Rattle.rtp_stats.specs.declared.tally.window_copies.WindowCopies.{WindowCopies}
use Rattle.rtp_stats.specs.Offer.{Offer}

counted_if : (m n : ℕ) (b : Bool) → n ≡ count_in_64_bits m → (if b then count_in_64_bits (n + 1) else n) ≡ count_in_64_bits ((if b then 1 else 0) + m)
counted_if m n true is = ap (λ k. count_in_64_bits (k + 1)) is ∙ counted_more m ∙ ap count_in_64_bits (more m)
  where
    more : (k : ℕ) → k + 1 ≡ 1 + k
    more k = omega arith
counted_if m n false is = is ∙ ap count_in_64_bits (same m)
  where
    same : (k : ℕ) → k ≡ 0 + k
    same k = omega arith

-- the entry at the offer's place shows which paths missed the number there
pub missed_after : (window : ℕ) (o : Offer) (offers : List Offer) (e : WindowCopies) (missed after : List ℕ) → HasEntry window (o.seq % window) offers e → AreCounts (λ p. missed_of window p offers) missed → length after ≡ 4 → ((p : ℕ) → p < 4 → slice_index after p ≡ (if is_taken_fate o.fate && misses e p then count_in_64_bits (slice_index missed p + 1) else slice_index missed p)) → AreCounts (λ p. missed_of window p (o ∷ offers)) after
missed_after window o offers e missed after has are four step = record {
  four = four;
  each = λ p few. step p few ∙ counted_if (missed_of window p offers) (slice_index missed p) (is_taken_fate o.fate && misses e p) (are.each p few) ∙ ap (λ b. count_in_64_bits ((if b then 1 else 0) + missed_of window p offers)) (sym (ends p few));
}
  where
    ends : (p : ℕ) → p < 4 → ends_missed window p o offers ≡ (is_taken_fate o.fate && misses e p)
    ends p few = ap (λ b. is_taken_fate o.fate && b) (without_is window (o.seq % window) p offers e has few)
