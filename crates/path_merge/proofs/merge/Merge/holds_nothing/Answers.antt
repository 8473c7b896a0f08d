use Rattle.std.proofs.Common.{◌≡◌, ℕ, ◌-◌, ◌<◌, ◌≤◌, IsSome, sym, subst}
use Rattle.std.specs.FinMap.{get}
use Rattle.path_merge.specs.MergeState.{IsSound, MergeState}
use Rattle.path_merge.proofs.OpeningLemmas.{nothing_is}
use Rattle.path_merge.proofs.merge.Merge.holds_nothing.Goals as goal

pub returns : goal.returns
returns g c =
    let sound : IsSound c.args.self.now c.self.inside.next_media = subst (λ m. IsSound m c.self.inside.next_media) c.self.view_is c.self.invariant in
    let base : c.base.result ≡ c.args.self.now.base = subst (λ (m : MergeState). c.base.result ≡ m.base) c.self.view_is c.base.ensures in
    let past_all : (n : ℕ) → c.args.self.now.base ≤ n → IsSome (get c.args.self.now.held n) → n < c.end.result = subst (λ (m : MergeState). (n : ℕ) → m.base ≤ n → IsSome (get m.held n) → n < c.end.result) c.self.view_is (λ n low. c.end.ensures.past_all n) in
    let reached : c.args.self.now.base < c.end.result → IsSome (get c.args.self.now.held (c.end.result - 1)) = subst (λ (m : MergeState). m.base < c.end.result → IsSome (get m.held (c.end.result - 1))) c.self.view_is c.end.ensures.reached in
    rw base (sym (nothing_is c.args.self.now c.self.inside.next_media c.args.anchor sound c.requires.anchored c.requires.open_yet c.end.result past_all reached))
