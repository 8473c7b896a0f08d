use Rattle.std.proofs.Common.{◌≡◌, ℕ, ℤ, pos, negsuc, ◌+ℤ◌, ◌-ℤ◌, ◌*ℤ◌, ◌≤ℤ◌, w64, of_z, arith, ap, refl, ◌∙◌, unsigned_abs}
use Rattle.std.specs.Prelude.{nat_eq}
use Rattle.std.specs.Int.{int_rem_euclid}
use Rattle.std.proofs.lemmas.Bool.Decides.{nat_tests}
use Rattle.std.proofs.lemmas.Int.{ints}
use Rattle.rtp_stream.proofs.NearestLemmas.{rem_bounds}
use Rattle.rtp_stream.proofs.anchor.is_in_step.Goals as goal

bits_of : (z : ℤ) → pos 0 ≤ℤ z → of_z w64 z ≡ unsigned_abs z
bits_of (pos n) h = refl
bits_of (negsuc n) h = absurd (omega (arith, ints))

same_test : (a b t u : ℕ) → a ≡ b → t ≡ u → nat_eq a t ≡ nat_eq u b
same_test a b t u e f = rw (e, f) (swapped b u)
  where
    swapped : (x y : ℕ) → nat_eq x y ≡ nat_eq y x
    swapped x y = grind (arith, nat_tests)

pub returns : goal.returns
returns c = λ stream number is.
    let grown = pos c.args.anchor.now.timestamp +ℤ (pos number -ℤ pos c.args.anchor.now.number) *ℤ pos stream.frames in
    let value : c.rem_euclid.result ≡ int_rem_euclid grown (pos 4294967296) = c.rem_euclid.ensures.value ∙ ap (λ z. int_rem_euclid z (pos 4294967296)) (omega (arith, ints, is, c.from.ensures)) in
    same_test _ _ _ _ (ap (of_z w64) value ∙ bits_of (int_rem_euclid grown (pos 4294967296)) (rem_bounds 4294967296 grown (omega arith)).0) (ap (of_z w64) c.from-2.ensures)
