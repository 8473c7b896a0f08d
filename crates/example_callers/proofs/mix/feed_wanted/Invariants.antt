use Rattle.std.proofs.Common.{◌≡◌, ℕ, ◌<◌, false, List, length, take, slice_get, slice_set, Some}
use Rattle.studio_config.specs.Studio.{Studio}
use Rattle.studio_mix.specs.Feed.{Feed}
use Rattle.studio_mix.specs.Mixer.{HasFeeds}
use Rattle.example_callers.specs.Mix.{feed_with, is_final}
use Rattle.example_callers.proofs.mix.feed_wanted.Given as goal

-- the marks so far were fed, each while the block needed more
abbrev pub invariant-loop-taken : goal.invariant-loop-taken
invariant-loop-taken l = record {
  stands : (studio : Studio) (feeds : List Feed) (number : ℕ) (feed : Feed) → HasFeeds studio l.fn.mixer feeds number → slice_get feeds l.stream ≡ Some feed
      → HasFeeds studio l.mixer (slice_set feeds l.stream (feed_with feed (take l.taken l.marks))) number;
  wanted : (studio : Studio) (feeds : List Feed) (number : ℕ) (feed : Feed) → HasFeeds studio l.fn.mixer feeds number → slice_get feeds l.stream ≡ Some feed
      → (fewer : ℕ) → fewer < l.taken → is_final studio number (feed_with feed (take fewer l.marks)) ≡ false;
  packer : l.mixer.packer ≡ l.fn.mixer.packer;
  streams : length l.mixer.lanes ≡ length l.fn.mixer.lanes;
}
