use Rattle.std.proofs.Common.{arith, ap, ◌≡◌, ◌+ℤ◌, ◌*ℤ◌, ◌∙◌, ℤ, FitsSigned, to_z, of_z, w32, w64}
use Rattle.std.proofs.lemmas.Int.{to_z-of_z, fits_signed_from_abs}
use Rattle.gain_mix.proofs.SumLemmas.{unsigned_abs-product, unsigned_abs-add, Is24Bits-bound}
use Rattle.gain_mix.proofs.mix.add_input.Goals as goal

pub overflow_cast-gain : goal.overflow_cast-gain
overflow_cast-gain c =
    let g = c.args.gain in
    let narrow : FitsSigned w32 g = fits_signed_from_abs w32 g (omega (arith, c.requires.in_range)) in
    rw (to_z-of_z w64 g c.ranges.gain) narrow

pub overflow_mul-result : goal.overflow_mul-result
overflow_mul-result c =
    let g = c.args.gain in
    let x = c.args.value in
    let p = unsigned_abs-product g x c.requires.in_range c.requires.in_24_bits in
    let narrow : FitsSigned w32 g = fits_signed_from_abs w32 g (omega (arith, c.requires.in_range)) in
    let gain_fits : FitsSigned w64 g = fits_signed_from_abs w64 g (omega (arith, c.requires.in_range)) in
    let value_fits : FitsSigned w64 x = fits_signed_from_abs w64 x (omega (arith, Is24Bits-bound x c.requires.in_24_bits)) in
    let product_fits : FitsSigned w64 (g *ℤ x) = fits_signed_from_abs w64 (g *ℤ x) (omega arith) in
    let a : c.from.result ≡ g = c.from.ensures ∙ ap (λ (z : ℤ). to_z w32 (of_z w32 z)) (to_z-of_z w64 g c.ranges.gain) ∙ to_z-of_z w32 g narrow in
    let b : c.from-2.result ≡ x = c.from-2.ensures ∙ to_z-of_z w32 x c.ranges.value in
    rw (a, b) (simp to_z-of_z product_fits)

pub overflow_add-result : goal.overflow_add-result
overflow_add-result c =
    let s = c.args.sum in
    let g = c.args.gain in
    let x = c.args.value in
    let p = unsigned_abs-product g x c.requires.in_range c.requires.in_24_bits in
    let t = unsigned_abs-add s (g *ℤ x) in
    let sum_fits : FitsSigned w64 s = c.ranges.sum in
    let narrow : FitsSigned w32 g = fits_signed_from_abs w32 g (omega (arith, c.requires.in_range)) in
    let gain_fits : FitsSigned w64 g = fits_signed_from_abs w64 g (omega (arith, c.requires.in_range)) in
    let value_fits : FitsSigned w64 x = fits_signed_from_abs w64 x (omega (arith, Is24Bits-bound x c.requires.in_24_bits)) in
    let product_fits : FitsSigned w64 (g *ℤ x) = fits_signed_from_abs w64 (g *ℤ x) (omega arith) in
    let all_fits : FitsSigned w64 (s +ℤ (g *ℤ x)) = fits_signed_from_abs w64 (s +ℤ (g *ℤ x)) (omega arith) in
    let a : c.from.result ≡ g = c.from.ensures ∙ ap (λ (z : ℤ). to_z w32 (of_z w32 z)) (to_z-of_z w64 g c.ranges.gain) ∙ to_z-of_z w32 g narrow in
    let b : c.from-2.result ≡ x = c.from-2.ensures ∙ to_z-of_z w32 x c.ranges.value in
    rw (a, b) (simp to_z-of_z all_fits)

pub returns : goal.returns
returns c =
    let s = c.args.sum in
    let g = c.args.gain in
    let x = c.args.value in
    let p = unsigned_abs-product g x c.requires.in_range c.requires.in_24_bits in
    let t = unsigned_abs-add s (g *ℤ x) in
    let sum_fits : FitsSigned w64 s = c.ranges.sum in
    let narrow : FitsSigned w32 g = fits_signed_from_abs w32 g (omega (arith, c.requires.in_range)) in
    let gain_fits : FitsSigned w64 g = fits_signed_from_abs w64 g (omega (arith, c.requires.in_range)) in
    let value_fits : FitsSigned w64 x = fits_signed_from_abs w64 x (omega (arith, Is24Bits-bound x c.requires.in_24_bits)) in
    let product_fits : FitsSigned w64 (g *ℤ x) = fits_signed_from_abs w64 (g *ℤ x) (omega arith) in
    let all_fits : FitsSigned w64 (s +ℤ (g *ℤ x)) = fits_signed_from_abs w64 (s +ℤ (g *ℤ x)) (omega arith) in
    let a : c.from.result ≡ g = c.from.ensures ∙ ap (λ (z : ℤ). to_z w32 (of_z w32 z)) (to_z-of_z w64 g c.ranges.gain) ∙ to_z-of_z w32 g narrow in
    let b : c.from-2.result ≡ x = c.from-2.ensures ∙ to_z-of_z w32 x c.ranges.value in
    rw (a, b) (simp to_z-of_z)
