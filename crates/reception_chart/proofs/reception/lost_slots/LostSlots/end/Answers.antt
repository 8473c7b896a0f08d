use Rattle.std.proofs.Common.{◌≡◌, ◌*◌, ◌^◌, ◌-◌, ◌<◌, ◌≤◌, ◌+ℤ◌, ◌≤ℤ◌, ℤ, Bool, true, false, pos, to_z, of_z, w64, rules, ap, arith, ◌∙◌}
use Rattle.std.specs.Prelude.{cond, int_lt, neg_ℤ}
use Rattle.std.specs.Int.{int_min, w128}
use Rattle.std.proofs.lemmas.Int.{ints}
use Rattle.std.proofs.lemmas.Nat.{mul-le}
use Rattle.reception_chart.proofs.reception.lost_slots.LostSlots.end.Goals as goal

-- the lesser of two numbers is at least what both are
at_least : (low a b : ℤ) → low ≤ℤ a → low ≤ℤ b → low ≤ℤ int_min a b
at_least low a b le_a le_b = by_test (int_lt b a)
  where
    by_test : (t : Bool) → low ≤ℤ cond t b a
    by_test true = le_b
    by_test false = le_a

pub returns : goal.returns
returns c =
    let few : c.args.self.now.count < 2 ^ 64 = search rules in
    let short : c.args.self.now.frames < 2 ^ 16 = search rules in
    let product : c.from.result * c.from-2.result ≡ c.args.self.now.count * c.args.self.now.frames = ap (λ n. n * c.from-2.result) c.from.ensures ∙ ap (λ n. c.args.self.now.count * n) c.from-2.ensures in
    let bound : c.args.self.now.count * c.args.self.now.frames ≤ 2 ^ 64 * 2 ^ 16 = mul-le c.args.self.now.count c.args.self.now.frames (2 ^ 64) (2 ^ 16) (omega (arith, few)) (omega (arith, short)) in
    let sum : to_z w128 (of_z w128 (to_z w128 (of_z w128 c.from-3.result) +ℤ to_z w128 (c.from.result * c.from-2.result))) ≡ c.args.self.now.first +ℤ pos (c.args.self.now.count * c.args.self.now.frames)
    = omega (arith, ints, product, bound, c.from-3.ensures) in
    let most : to_z w128 (of_z w128 c.from-4.result) ≡ pos (2 ^ 63 - 1) = omega (arith, ints, c.from-4.ensures) in
    let value : c.min.result ≡ int_min (c.args.self.now.first +ℤ pos (c.args.self.now.count * c.args.self.now.frames)) (pos (2 ^ 63 - 1))
    = c.min.ensures.value ∙ ap (λ z. int_min z (to_z w128 (of_z w128 c.from-4.result))) sum ∙ ap (int_min (c.args.self.now.first +ℤ pos (c.args.self.now.count * c.args.self.now.frames))) most in
    let low : neg_ℤ (pos (2 ^ 63)) ≤ℤ int_min (c.args.self.now.first +ℤ pos (c.args.self.now.count * c.args.self.now.frames)) (pos (2 ^ 63 - 1))
    = at_least (neg_ℤ (pos (2 ^ 63))) (c.args.self.now.first +ℤ pos (c.args.self.now.count * c.args.self.now.frames)) (pos (2 ^ 63 - 1)) (omega (arith, ints)) (omega (arith, ints)) in
    let high = c.min.ensures.other_bound in
    let same : to_z w64 (of_z w64 (to_z w128 (of_z w128 c.min.result))) ≡ c.min.result = omega (arith, ints, value, low, high, most) in
    same ∙ value
