-- Counts that are ordered by stream and then by path.
use Rattle.std.proofs.Common.{◌≡◌, ℕ, zero, suc, ◌+◌, List, [], ◌∷◌, length, drop, slice_get, Some, sym, ap, subst, ◌∙◌, arith}
use Rattle.std.proofs.lemmas.Grind.{common_steps}
use Rattle.std.proofs.lemmas.Option.{same_Some}
use Rattle.status_page.specs.declared.snapshot.StreamState.{StreamState}
use Rattle.live_run.specs.StreamStatus.{paths_before}

before-suc : (streams : List StreamState) (n : ℕ) (stream : StreamState) → slice_get streams n ≡ Some stream → paths_before streams (suc n) ≡ paths_before streams n + length stream.paths.items
before-suc [] n stream at = absurd (cc at)
before-suc (s ∷ ss) zero stream at = subst (λ (t : StreamState). length s.paths.items + 0 ≡ 0 + length t.paths.items) (same_Some s stream at) (omega arith)
before-suc (s ∷ ss) (suc n) stream at = (let before = before-suc ss n stream at in omega (arith, before))

-- before the next stream there are this one's paths too
pub before-next : (streams : List StreamState) (n : ℕ) (stream : StreamState) → slice_get streams n ≡ Some stream → paths_before streams (n + 1) ≡ paths_before streams n + length stream.paths.items
before-next streams n stream at =
    let next : n + 1 ≡ suc n = omega arith in
    ap (paths_before streams) next ∙ before-suc streams n stream at

drop_drop : {X : Type 0} (a b : ℕ) (xs : List X) → drop b (drop a xs) ≡ drop (a + b) xs
drop_drop a b xs = grind (arith, common_steps)

-- the counts that are left after one more stream
pub left-next : {X : Type 0} (streams : List StreamState) (n paths : ℕ) (stream : StreamState) (counts left next : List X) → slice_get streams n ≡ Some stream → paths ≡ length stream.paths.items
    → left ≡ drop (paths_before streams n) counts → next ≡ drop paths left → next ≡ drop (paths_before streams (n + 1)) counts
left-next streams n paths stream counts left next at is is_left is_next =
    is_next ∙ (ap (drop paths) is_left ∙ (drop_drop (paths_before streams n) paths counts ∙ ap (λ k. drop k counts) (ap (λ k. paths_before streams n + k) is ∙ sym (before-next streams n stream at))))
