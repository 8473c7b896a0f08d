-- Changes of gains that a run takes, one after another.
use Rattle.std.proofs.Common.{◌≡◌, ℤ, List, [], ◌∷◌, ◌++◌, map, length, refl, sym, ap, ◌∙◌, arith, append_assoc, length-append}
use Rattle.std.proofs.lemmas.List.{map-append}
use Rattle.gain_mix.specs.Changes.{Changes, with_change}
use Rattle.studio_config.specs.Studio.{Studio}
use Rattle.studio_mix.specs.Changed.{rows_in, with_changes, with_each}

with_each-append : (schedule : Changes) (first more : List (ℤ × List (List ℤ))) → with_each schedule (first ++ more) ≡ with_each (with_each schedule first) more
with_each-append schedule [] more = refl
with_each-append schedule (change ∷ first) more = with_each-append (with_change schedule change.0 change.1) first more

-- changes of a studio that already has changes
pub with_changes-append : (studio : Studio) (first more : List (ℤ × List ℤ)) → with_changes (with_changes studio first) more ≡ with_changes studio (first ++ more)
with_changes-append studio first more =
    ap (λ (schedule : Changes). record studio { schedule = schedule })
    (sym (with_each-append studio.schedule (map (rows_in studio) first) (map (rows_in studio) more))
    ∙ ap (with_each studio.schedule) (sym (map-append (rows_in studio) first more)))

-- changes were taken, and then more
pub more_taken : (a b c first more : List (ℤ × List ℤ)) → b ≡ a ++ first → c ≡ b ++ more → c ≡ a ++ (first ++ more)
more_taken a b c first more e f = f ∙ (ap (λ l. l ++ more) e ∙ append_assoc a first more)

-- nothing was added to a list that stayed the same
pub no_more : (a more : List (ℤ × List ℤ)) → a ≡ a ++ more → more ≡ []
no_more a [] e = refl
no_more a (x ∷ more) e = let long = ap length e in absurd (omega (arith, long, length-append a (x ∷ more)))
