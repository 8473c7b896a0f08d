-- The number of faults among a feed's results, and the count of them in its state.
use Rattle.std.specs.Prelude.{◌≡◌, ℕ, suc, ◌+◌, ◌<◌, ◌≤◌, ◌^◌, Bool, true, false, nat_eq, List, [], ◌∷◌, if◌then◌else◌}
use Rattle.std.specs.List.{AllZip}
use Rattle.studio_io.specs.Answers.{Answer, Gives, Waits, Fails, Stops, reaches_end}
use Rattle.studio_io.specs.declared.feed_state.FeedState.{FeedState}

-- the number of faults that a feed with these results returns before it ends, after `faults` faults in a row; the
-- 1,000th in a row, which ends it, is one of them
unfoldable pub told_faults : ℕ → List Answer → ℕ
told_faults faults [] = 0
told_faults faults (Gives octets ∷ told) = told_faults 0 told
told_faults faults (Waits ∷ told) = told_faults 0 told
told_faults faults (Fails ∷ told) = if nat_eq faults 999 then 1 else suc (told_faults (faults + 1) told)
told_faults faults (Stops ∷ told) = 0

-- the results that are left are known to the end of the feed, if it has not ended yet
abbrev pub IsKnownToEnd : Bool → ℕ → List Answer → Type 0
IsKnownToEnd true faults left = Unit {0}
IsKnownToEnd false faults left = (faults ≤ 999) × (reaches_end faults left ≡ true)

-- the number of faults among the results that are left; a feed that has ended is not called again
abbrev pub faults_left : Bool → ℕ → List Answer → ℕ
faults_left true faults left = 0
faults_left false faults left = told_faults faults left

-- the state has the number of the faults that a feed with the results `told` returned before those that are `left`,
-- unless the feed has 2^64 or more
pub record HasCounted (told : List Answer) (state : FeedState) (left : List Answer) : Type 0 where
  pub known : IsKnownToEnd state.ended state.in_a_row left
  pub count : told_faults 0 told < 2 ^ 64 → state.faults + faults_left state.ended state.in_a_row left ≡ told_faults 0 told

-- if the results `told` of a feed are known to its end, the state has the number of its faults so far
abbrev pub CountsFaults : List Answer → FeedState → List Answer → Type 0
CountsFaults told state left = reaches_end 0 told ≡ true → HasCounted told state left

-- whatever results of a feed the state had the number of faults of, it still has, with the results since
abbrev pub KeepsFaults : FeedState → List Answer → FeedState → List Answer → Type 0
KeepsFaults old left new rest = (told : List Answer) → CountsFaults told old left → CountsFaults told new rest

-- the number of the faults of a feed, if its results are known to its end and fewer than 2^64 of them are faults
abbrev pub IsFaultNumber : List Answer → ℕ → Type 0
IsFaultNumber told number = reaches_end 0 told ≡ true → told_faults 0 told < 2 ^ 64 → number ≡ told_faults 0 told

-- the numbers of faults of feeds with these results: one for each feed, in their order
abbrev pub AreFaultNumbers : List (List Answer) → List ℕ → Type 0
AreFaultNumbers all numbers = AllZip IsFaultNumber all numbers
