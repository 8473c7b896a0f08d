-- The skew that the elements of a sorted list are.
use Rattle.std.proofs.Common.{false, ℕ, ◌≡◌, ◌-◌, ◌/◌, List, [], ◌∷◌, length, slice_get, slice_index_or, ℤ, Option, Some, unwrap_or, sym, ap, subst, ◌∙◌, arith}
use Rattle.std.proofs.lemmas.Option.{get_or_from_slice_get}
use Rattle.pcap_flows.specs.declared.skew.Skew.{Skew}
use Rattle.pcap_flows.specs.Skew.{skew_in}

abbrev some_skew : ℤ → ℤ → ℤ → Option Skew
some_skew least median greatest = Some (record { least = least; median = median; greatest = greatest; is_part = false })

-- the first element is the least delay, the last one the greatest, and the median is in the middle
pub skew_is : (sorted : List ℤ) (least median greatest : ℤ) → slice_get sorted 0 ≡ Some least → slice_get sorted ((length sorted - 1) / 2) ≡ Some median → slice_get sorted (length sorted - 1) ≡ Some greatest → some_skew least median greatest ≡ skew_in sorted
skew_is [] least median greatest first middle last = absurd (let e = first in grind arith)
skew_is (delay ∷ more) least median greatest first middle last =
    let all : List ℤ = delay ∷ more in
    let len : length (delay ∷ more) - 1 ≡ length more = omega arith in
    let l : delay ≡ least = ap (λ o. unwrap_or o delay) first in
    let m : slice_index_or all (length more / 2) delay ≡ median = get_or_from_slice_get all (length more / 2) median delay (subst (λ (i : ℕ). slice_get all (i / 2) ≡ Some median) len middle) in
    let g : slice_index_or all (length more) delay ≡ greatest = get_or_from_slice_get all (length more) greatest delay (subst (λ (i : ℕ). slice_get all i ≡ Some greatest) len last) in
    sym (ap (λ z. some_skew z (slice_index_or all (length more / 2) delay) (slice_index_or all (length more) delay)) l
    ∙ (ap (λ z. some_skew least z (slice_index_or all (length more) delay)) m ∙ ap (λ z. some_skew least median z) g))
