-- Bounds of the sums of a slope.
use Rattle.std.proofs.Common.{ℕ, ◌*◌, ◌<◌, ◌≤◌, arith, mul-le-mul}
use Rattle.rtp_stats.specs.Drift.{IsSmall}
use Rattle.rtp_stats.specs.declared.drift.sums.Sums.{Sums}

-- a product of two that are bounded
pub product_le : (a b m n : ℕ) → a ≤ m → b ≤ n → a * b ≤ m * n
product_le a b m n am bn = mul-le-mul am bn

-- a place times a margin
pub place_margin : (place margin : ℕ) → place < 60 → margin < 4294967296 → place * margin ≤ 253403070464
place_margin place margin low short =
    let le : place * margin ≤ 59 * 4294967296 = product_le place margin 59 4294967296 (omega (arith, low)) (omega (arith, short)) in
    omega (arith, le)

-- a square of a place
pub place_square : (place : ℕ) → place < 60 → place * place ≤ 3481
place_square place low =
    let le : place * place ≤ 59 * 59 = product_le place place 59 59 (omega (arith, low)) (omega (arith, low)) in
    omega (arith, le)

module _ (s : Sums) (small : IsSmall 60 s) where
  pub up_small : s.count * s.products ≤ 912251053670400
  up_small =
      let le : s.count * s.products ≤ 60 * 15204184227840 = product_le s.count s.products 60 15204184227840 (omega (arith, small.count)) (omega (arith, small.products)) in
      omega (arith, le)

  pub down_small : s.places * s.margins ≤ 912251053670400
  down_small =
      let le : s.places * s.margins ≤ 3540 * 257698037760 = product_le s.places s.margins 3540 257698037760 (omega (arith, small.places)) (omega (arith, small.margins)) in
      omega (arith, le)

  pub squares_small : s.count * s.squares ≤ 12531600
  squares_small =
      let le : s.count * s.squares ≤ 60 * 208860 = product_le s.count s.squares 60 208860 (omega (arith, small.count)) (omega (arith, small.squares)) in
      omega (arith, le)

  pub places_small : s.places * s.places ≤ 12531600
  places_small =
      let le : s.places * s.places ≤ 3540 * 3540 = product_le s.places s.places 3540 3540 (omega (arith, small.places)) (omega (arith, small.places)) in
      omega (arith, le)
