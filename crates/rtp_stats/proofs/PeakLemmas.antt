-- Peaks after one more sample.
use Rattle.std.proofs.Common.{◌≡◌, ◌≢◌, ℕ, suc, ◌+◌, ◌*◌, ◌/◌, ◌%◌, ◌<◌, max, Bool, true, false, List, length, refl, sym, ap, ◌∙◌, arith, if◌then◌else◌}
use Rattle.std.specs.Prelude.{nat_eq, slice_index, slice_set}
use Rattle.std.proofs.lemmas.Bool.{eqb-false, eqb-true}
use Rattle.std.proofs.lemmas.List.{get_or-set_other, get_or-set_same}
use Rattle.std.proofs.lemmas.Nat.{div-add-mod', mod-mul-add}
use Rattle.rtp_wire.specs.declared.encoding.Enc.{Enc}
use Rattle.rtp_stats.specs.Peaks.{magnitude_at, peak_among}

max_assoc : (a b c : ℕ) → max (max a b) c ≡ max a (max b c)
max_assoc a b c = omega arith

pub peak_step : (enc : Enc) (octets : List ℕ) (first peaks : List ℕ) (channels index channel : ℕ) → index % channels < length peaks → ((c : ℕ) → c < length peaks → slice_index peaks c ≡ max (slice_index first c) (peak_among enc octets channels c index)) → channel < length peaks → slice_index (slice_set peaks (index % channels) (max (slice_index peaks (index % channels)) (magnitude_at enc octets index))) channel ≡ max (slice_index first channel) (peak_among enc octets channels channel (suc index))
peak_step enc octets first peaks channels index channel inside so_far lt = by_test (nat_eq (index % channels) channel) refl
  where
    by_test : (b : Bool) → nat_eq (index % channels) channel ≡ b → slice_index (slice_set peaks (index % channels) (max (slice_index peaks (index % channels)) (magnitude_at enc octets index))) channel ≡ max (slice_index first channel) (if b then max (peak_among enc octets channels channel index) (magnitude_at enc octets index) else peak_among enc octets channels channel index)
    by_test true is =
        let same : index % channels ≡ channel = eqb-true (index % channels) channel is in
        ap (slice_index (slice_set peaks (index % channels) (max (slice_index peaks (index % channels)) (magnitude_at enc octets index)))) (sym same)
        ∙ get_or-set_same peaks (index % channels) (max (slice_index peaks (index % channels)) (magnitude_at enc octets index)) 0 inside
        ∙ ap (λ k. max (slice_index peaks k) (magnitude_at enc octets index)) same
        ∙ ap (λ n. max n (magnitude_at enc octets index)) (so_far channel lt)
        ∙ max_assoc (slice_index first channel) (peak_among enc octets channels channel index) (magnitude_at enc octets index)
    by_test false is =
        let other : channel ≢ index % channels = λ e. eqb-false (index % channels) channel is (sym e) in
        get_or-set_other peaks (index % channels) channel (max (slice_index peaks (index % channels)) (magnitude_at enc octets index)) 0 other ∙ so_far channel lt

-- the remainder of the next number
pub remainder_after : (index n c : ℕ) → c ≡ index % n → c + 1 < n → c + 1 ≡ (index + 1) % n
remainder_after index n c is less =
    let split : index / n * n + index % n ≡ index = div-add-mod' index n in
    let next : index + 1 ≡ index / n * n + (c + 1) = omega (arith, split, is) in
    sym (ap (λ k. k % n) next ∙ mod-mul-add (index / n) n (c + 1) less)

pub remainder_round : (index n c : ℕ) → c ≡ index % n → c + 1 ≡ n → 0 ≡ (index + 1) % n
remainder_round index n c is last =
    let split : index / n * n + index % n ≡ index = div-add-mod' index n in
    let more : suc (index / n) * n ≡ index / n * n + n = omega arith in
    let next : index + 1 ≡ suc (index / n) * n + 0 = omega (arith, split, is, more, last) in
    sym (ap (λ k. k % n) next ∙ mod-mul-add (suc (index / n)) n 0 (omega (arith, last)))
