-- Frames that follow one another, and a frame that is written among them.
use Rattle.std.proofs.Common.{◌≡◌, ℕ, ◌+◌, ◌*◌, ◌<◌, ◌≤◌, ℤ, pos, List, [], Some, get_or, set, length, take, drop, arith, refl, sym, ap, ◌∙◌, below_more}
use Rattle.std.proofs.lemmas.List.{drop-take, drop_at, length-take-le, length-map, length-set, get_or-set_same, get_or-map, take_more_same, take-set, take_all}
use Rattle.std.proofs.lemmas.Option.{get_or_from_slice_get}
use Rattle.std.specs.List.{slice_get}
use Rattle.std.proofs.lemmas.Slice.{take-put_mid_below, take-put_mid}
use borrow.Rule.Slice.PartMut.{put_mid}
use Rattle.gain_mix.specs.declared.four_rows.FourRows.{FourRows}
use Rattle.gain_mix.specs.declared.four_rows.FourSums.{FourSums}
use Rattle.gain_mix.specs.Four.{AreRowsAt, AreWeighted, sample_of, with_four}
use Rattle.gain_mix.specs.Gain.{ins_of}
use Rattle.gain_mix.specs.Mix.{frame_at, mixed_frame, output_sample, IsMixed, HasMixed}
use Rattle.gain_mix.proofs.RowLemmas.{row_end}

-- writing frame `i` does not change the frames before it
pub frame_before : (m i f k : ℕ) (xs ys : List ℤ) → f < i → i * m ≤ length xs → frame_at m f (put_mid (i * m) k xs ys) ≡ frame_at m f xs
frame_before m i f k xs ys h l =
    let e = row_end f i m h in
    sym (drop-take (f * m) m (put_mid (i * m) k xs ys))
    ∙ ap (drop (f * m)) (take-put_mid_below (i * m) k xs ys (f * m + m) e l)
    ∙ drop-take (f * m) m xs

-- after writing frame `i`, that frame is what was written
pub frame_written : (m i k : ℕ) (xs ys : List ℤ) → i * m ≤ length xs → length ys ≡ m → frame_at m i (put_mid (i * m) k xs ys) ≡ ys
frame_written m i k xs ys l e =
    sym (drop-take (i * m) m (put_mid (i * m) k xs ys))
    ∙ ap (drop (i * m)) (take-put_mid (i * m) k xs ys (i * m + m) (omega arith) l)
    ∙ drop_at (take (i * m) xs) ys (i * m) (length-take-le (i * m) xs l)

-- one more frame is mixed
pub IsMixed-more : (matrix : ℕ → List (List ℤ)) (values samples ys : List ℤ) (n i k m s : ℕ) → ((f : ℕ) → length (matrix f) ≡ m) → IsMixed matrix values samples i s → i < n → length samples ≡ n * m → ys ≡ mixed_frame (matrix i) (frame_at (ins_of (matrix i)) i values) s → IsMixed matrix values (put_mid (i * m) k samples ys) (i + 1) s
IsMixed-more matrix values samples ys n i k m s height before h l e =
    let Mixed : ℕ → Type 0 = λ f. frame_at (length (matrix f)) f (put_mid (i * m) k samples ys) ≡ mixed_frame (matrix f) (frame_at (ins_of (matrix f)) f values) s in
    let r = row_end i n m h in
    let within : i * m ≤ length samples = omega arith in
    let long : length ys ≡ m = ap length e ∙ length-map (matrix i) (output_sample s (frame_at (ins_of (matrix i)) i values)) ∙ height i in
    let at : (f : ℕ) (zs : List ℤ) → frame_at (length (matrix f)) f zs ≡ frame_at m f zs = λ f zs. ap (λ (w : ℕ). frame_at w f zs) (height f) in
    below_more Mixed i
    (λ f g. at f (put_mid (i * m) k samples ys) ∙ frame_before m i f k samples ys g within ∙ sym (at f samples) ∙ before f g)
    (at i (put_mid (i * m) k samples ys) ∙ frame_written m i k samples ys within long ∙ e)

-- one more sample of a frame is mixed
pub HasMixed-more : (rows : List (List ℤ)) (values : List ℤ) (s i j : ℕ) (samples row : List ℤ) (y : ℤ) → HasMixed rows values s i samples → j ≡ i + 1 → i < length rows → slice_get rows i ≡ Some row → y ≡ output_sample s values row → HasMixed rows values s j (set samples i y)
HasMixed-more rows values s i j samples row y before next h at is =
    let f = output_sample s values in
    let mixed = mixed_frame rows values s in
    let count = before.count in
    let in_samples : i < length samples = omega arith in
    let long : length mixed ≡ length rows = length-map rows f in
    let in_mixed : i < length mixed = omega arith in
    let in_set : i < length (set samples i y) = rw length-set in_samples in
    let fits : get_or (set samples i y) i (pos 0) ≡ get_or mixed i (pos 0) = get_or-set_same samples i y (pos 0) in_samples ∙ is ∙ ap f (sym (get_or_from_slice_get rows i row [] at)) ∙ sym (get_or-map f rows i [] (pos 0) h) in
    record {
      count = length-set samples i y ∙ before.count;
      so_far = rw next (take_more_same (set samples i y) mixed i (pos 0) in_set in_mixed (take-set samples i y ∙ before.so_far) fits);
    }

-- four more samples of a frame are mixed
pub HasMixed-four : (matrix : List (List ℤ)) (values : List ℤ) (s i : ℕ) (samples : List ℤ) (rows : FourRows) (sums : FourSums) → i + 4 ≤ length matrix → AreRowsAt matrix i rows → AreWeighted rows values sums → HasMixed matrix values s i samples → HasMixed matrix values s (i + 4) (with_four s sums i samples)
HasMixed-four matrix values s i samples rows sums within at weighted before =
    let f = sample_of s in
    let one = HasMixed-more matrix values s i (i + 1) samples rows.first.now (f sums.first) before refl (omega arith) at.first (ap f weighted.first.sum_is) in
    let two = HasMixed-more matrix values s (i + 1) (i + 2) _ rows.second.now (f sums.second) one (omega arith) (omega arith) at.second (ap f weighted.second.sum_is) in
    let three = HasMixed-more matrix values s (i + 2) (i + 3) _ rows.third.now (f sums.third) two (omega arith) (omega arith) at.third (ap f weighted.third.sum_is) in
    HasMixed-more matrix values s (i + 3) (i + 4) _ rows.fourth.now (f sums.fourth) three (omega arith) (omega arith) at.fourth (ap f weighted.fourth.sum_is)

-- the whole frame is mixed
pub HasMixed-whole : (rows : List (List ℤ)) (values : List ℤ) (s n : ℕ) (samples : List ℤ) → HasMixed rows values s n samples → length samples ≤ n → samples ≡ mixed_frame rows values s
HasMixed-whole rows values s n samples m h =
    let count = m.count in
    let long : length (mixed_frame rows values s) ≡ length rows = length-map rows (output_sample s values) in
    sym (take_all n samples h) ∙ m.so_far ∙ take_all n (mixed_frame rows values s) (omega arith)
