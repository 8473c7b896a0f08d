-- The octets that `front` returns.
use Rattle.std.proofs.Common.{◌≡◌, ℕ, ◌-◌, List, length, take, drop, min, ap, ◌∙◌, arith}
use Rattle.std.proofs.lemmas.List.{take_min, take_rest}

swapped : (a b : ℕ) → min a b ≡ min b a
swapped a b = omega arith

-- all octets that are left, but no more than the limit
pub front_is : (held : List ℕ) (passed n most : ℕ) → n ≡ min (length (take (length held - passed) (drop passed held))) most
    → take n (take (length held - passed) (drop passed held)) ≡ take most (drop passed held)
front_is held passed n most is =
    ap (λ i. take i (take (length held - passed) (drop passed held))) (is ∙ swapped (length (take (length held - passed) (drop passed held))) most)
    ∙ take_min most (take (length held - passed) (drop passed held)) ∙ ap (take most) (take_rest held passed)
