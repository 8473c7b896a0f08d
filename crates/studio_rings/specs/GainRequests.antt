-- A mixer's end that took changes of gains.
use Rattle.std.specs.Prelude.{◌≡◌, ℕ, ℤ, List, ◌++◌}
use Rattle.studio_config.specs.Studio.{Studio}
use Rattle.studio_mix.specs.Changed.{with_changes}
use Rattle.studio_ends.specs.Datagrams.{HasGiven}
use Rattle.studio_ends.specs.declared.mix_end.MixEnd.{MixEnd}

-- the mixer's end took exactly the changes from `first` to `last`, and the datagrams that it returned so far are also
-- those of the studio with these changes
pub record TakesChanges (s t : MixEnd) (first last : List (ℤ × List ℤ)) : Type 0 where
  pub changes : List (ℤ × List ℤ)
  pub taken : last ≡ first ++ changes
  pub sides : t.sides ≡ s.sides
  pub given : (studio : Studio) (datagrams : List (List ℕ)) → HasGiven studio s datagrams → HasGiven (with_changes studio changes) t datagrams
