use Rattle.std.proofs.Common.{rules, sym, ap, ◌∙◌, ◌≡◌, ◌+◌, ℤ, List, Bool, drop, cond, [], to_z, of_z, w64, FitsSigned}
use Rattle.std.specs.Int.RustNames.{int_le}
use Rattle.std.proofs.lemmas.Int.{to_z-of_z}
use Rattle.std.proofs.lemmas.List.{at_drop_all}
use Rattle.gain_mix.specs.Changes.{last_change}
use Rattle.gain_mix.proofs.ChangeLemmas.{last_change_more}
use Rattle.gain_mix.proofs.schedule.last_of.Goals as goal
use Rattle.gain_mix.proofs.schedule.last_of.Goals.{then-change-t, else-change-t}

pub loop-change-preserved : goal.loop-change-preserved
loop-change-preserved c =
    let items = c.args.later.now in
    let i = c.loop-change.change-index in
    let change = c.change-item.result in
    let t = to_z w64 (of_z w64 c.args.t) in
    let fits : FitsSigned w64 change.0 = search rules in
    let old = c.loop-change.matrix.now in
    let step = last_change_more items i change old t c.loop-change-test.true c.change-item.is in
    let back : last_change (cond (int_le change.0 t) change.1 old) (drop (i + 1) items) t ≡ last_change c.args.first.now items t = sym step ∙ c.loop-change.invariant in
    let taken : (new : List (List ℤ)) → new ≡ cond (int_le change.0 t) change.1 old → last_change new (drop (i + 1) items) t ≡ last_change c.args.first.now items t = λ new e. ap (λ (m : List (List ℤ)). last_change m (drop (i + 1) items) t) e ∙ back in
    elim c.if-change-t.branch [ then-change-t w ↦ let yes = rw (to_z-of_z w64 change.0 fits) at w.if-change-t.true in taken _ (ap (λ r. r.now) w.matrix-is ∙ sym (ap (λ (b : Bool). cond b change.1 old) yes)) | else-change-t w ↦ let no = rw (to_z-of_z w64 change.0 fits) at w.if-change-t.false in taken _ (ap (λ r. r.now) w.matrix-is ∙ sym (ap (λ (b : Bool). cond b change.1 old) no)) ]

pub returns : goal.returns
returns c =
    let m = c.loop-change.matrix.now in
    let t = to_z w64 (of_z w64 c.args.t) in
    let items = c.args.later.now in
    let e : last_change m (drop c.loop-change.change-index items) t ≡ last_change m [] t = at_drop_all (λ rest. last_change m rest t) items c.loop-change.change-index c.loop-change-test.false in
    sym e ∙ c.loop-change.invariant ∙ ap (λ (u : ℤ). last_change c.args.first.now items u) (to_z-of_z w64 c.args.t c.ranges.t)
