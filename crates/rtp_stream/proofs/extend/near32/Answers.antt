use Rattle.std.proofs.Common.{◌≡◌, pos, ◌-ℤ◌, arith, ap, sym, ◌∙◌}
use Rattle.std.proofs.lemmas.Int.{ints}
use Rattle.std.specs.Int.{int_rem_euclid}
use Rattle.rtp_stream.proofs.NearestLemmas.{IsNearest-nearest_number, nearest_number-only}
use Rattle.rtp_stream.proofs.extend.near32.Goals as goal

pub returns-clause-value : goal.returns-clause-value
returns-clause-value c =
    let e : c.rem_euclid.result ≡ int_rem_euclid (pos c.args.x -ℤ (c.args.r -ℤ pos 2147483648)) (pos 4294967296) = c.rem_euclid.ensures.value ∙ ap (λ z. int_rem_euclid z (pos 4294967296)) (omega (arith, ints)) in
    omega (arith, ints)

pub returns-clause-nearest : goal.returns-clause-nearest
returns-clause-nearest c = rw (returns-clause-value c) (IsNearest-nearest_number 2147483648 c.args.x c.args.r (omega arith))

pub returns-clause-only : goal.returns-clause-only
returns-clause-only c n h = nearest_number-only 2147483648 c.args.x c.args.r n (omega arith) h ∙ sym (returns-clause-value c)
