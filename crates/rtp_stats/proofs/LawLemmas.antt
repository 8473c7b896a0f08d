-- The laws of the definitions together.
use Rattle.std.proofs.Common.{◌≡◌, ℕ, zero, suc, ◌+◌, ◌<◌, Bool, true, false, List, [], ◌∷◌, refl, arith}
use Rattle.std.specs.Prelude.{cond, ◌&&◌, nat_eq}
use Rattle.std.specs.List.{All}
use Rattle.std.proofs.lemmas.List.Elements.{All-head, All-tail}
use Rattle.std.proofs.lemmas.List.Sums.{sum_by-cons}
use Rattle.rtp_stream.specs.Counts.{is_taken_fate}
use Rattle.rtp_stats.proofs.CountLemmas.{offers_of-first}
use Rattle.rtp_stats.specs.Offers.{first_of, taken_of}
use Rattle.rtp_stats.specs.Offer.{Offer}

-- one of the four paths
one_path : (path : ℕ) (t : Bool) → path < 4 → cond (nat_eq path 0 && t) 1 0 + cond (nat_eq path 1 && t) 1 0 + cond (nat_eq path 2 && t) 1 0 + cond (nat_eq path 3 && t) 1 0 ≡ cond t 1 0
one_path zero true lt = refl
one_path zero false lt = refl
one_path (suc zero) true lt = refl
one_path (suc zero) false lt = refl
one_path (suc (suc zero)) true lt = refl
one_path (suc (suc zero)) false lt = refl
one_path (suc (suc (suc zero))) true lt = refl
one_path (suc (suc (suc zero))) false lt = refl
one_path (suc (suc (suc (suc path)))) t lt = absurd (omega (arith, lt))

pub firsts_are_taken : (offers : List Offer) → All (λ o. o.path < 4) offers → first_of 0 offers + first_of 1 offers + first_of 2 offers + first_of 3 offers ≡ taken_of offers
firsts_are_taken [] all = refl
firsts_are_taken (o ∷ offers) all =
    let rest = firsts_are_taken offers (All-tail (λ x. x.path < 4) o offers all) in
    let here = one_path o.path (is_taken_fate o.fate) (All-head (λ x. x.path < 4) o offers all) in
    let a = offers_of-first is_taken_fate 0 o offers in
    let b = offers_of-first is_taken_fate 1 o offers in
    let c = offers_of-first is_taken_fate 2 o offers in
    let d = offers_of-first is_taken_fate 3 o offers in
    let e : taken_of (o ∷ offers) ≡ cond (is_taken_fate o.fate) 1 0 + taken_of offers = sum_by-cons {X = Offer} (λ x. cond (is_taken_fate x.fate) 1 0) o offers in
    omega (arith, rest, here, a, b, c, d, e)
