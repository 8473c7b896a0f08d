use Rattle.std.proofs.lemmas.Grind.{common_steps, elements}
use Rattle.std.proofs.Common.{◌≡◌, ℕ, ◌+◌, ◌&&◌, pos, ◌+ℤ◌, int_eq, get_or, length, Bool, true, sym, ap, ◌∙◌, arith, to_z, of_z, w32, w64}
use Rattle.std.proofs.lemmas.Int.{ints}
use Rattle.gain_mix.specs.Changes.{matrix_at}
use Rattle.gain_mix.specs.Gain.{are_used}
use Rattle.studio_mix.specs.MissingLanes.{agrees}
use Rattle.studio_mix.proofs.MissingLemmas.{none_in, one_in, both_true}
use Rattle.studio_mix.proofs.missing.is_used_where.Goals as goal

pub returns-then-uses : goal.returns-then-uses
returns-then-uses c =
    let a = c.args in
    let f = c.loop-frame.frame in
    let below = c.loop-frame-test.true in
    let test : ℕ → Bool = λ f. agrees a.came (int_eq (get_or a.present.now f (pos 0)) (pos 1)) && are_used (matrix_at a.schedule.now (a.time +ℤ pos f)) a.at a.count in
    let item : get_or a.present.now (0 + f) (pos 0) ≡ to_z w32 (of_z w32 (get_or a.present.now f (pos 0))) = grind (arith, common_steps, elements) in
    let there : agrees a.came (int_eq (get_or a.present.now (0 + f) (pos 0)) (pos 1)) ≡ true = ap (λ v. agrees a.came (int_eq v (pos 1))) item ∙ sym c.agrees.ensures ∙ c.if-agrees.true in
    let late = c.requires.not_late in
    let short = c.requires.short in
    let moved : to_z w64 (of_z w64 (to_z w64 (of_z w64 a.time) +ℤ to_z w64 f)) ≡ a.time +ℤ pos (0 + f) = omega (arith, ints, late, short, below) in
    let used : are_used (matrix_at a.schedule.now (a.time +ℤ pos (0 + f))) a.at a.count ≡ true =
    ap (λ m. are_used m a.at a.count) (sym (c.at.ensures.in_force ∙ ap (matrix_at a.schedule.now) moved)) ∙ sym c.uses.ensures ∙ c.if-uses.true in
    sym (one_in test 0 (length a.present.now) f below
    (both_true (agrees a.came (int_eq (get_or a.present.now (0 + f) (pos 0)) (pos 1))) (are_used (matrix_at a.schedule.now (a.time +ℤ pos (0 + f))) a.at a.count) there used))

pub returns : goal.returns
returns c =
    let a = c.args in
    let now : to_z w64 (of_z w64 a.time) ≡ a.time = omega (arith, ints) in
    let end = c.loop-frame-test.false in
    let test : ℕ → Bool = λ f. agrees a.came (int_eq (get_or a.present.now f (pos 0)) (pos 1)) && are_used (matrix_at a.schedule.now (a.time +ℤ pos f)) a.at a.count in
    sym (none_in test 0 (length a.present.now) (λ k h.
    ap (λ t. agrees a.came (int_eq (get_or a.present.now (0 + k) (pos 0)) (pos 1)) && are_used (matrix_at a.schedule.now (t +ℤ pos (0 + k))) a.at a.count) (sym now)
    ∙ c.loop-frame.invariant (0 + k) (omega (arith, h, end))))
