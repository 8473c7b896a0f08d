-- The datagrams of blocks.
use Rattle.std.specs.Prelude.{◌≡◌, ℕ, nat_lt, true, List, length, slice_get, Some}
use Rattle.studio_config.specs.Studio.{Studio}
use Rattle.studio_mix.specs.Feed.{Feed}
use Rattle.studio_mix.specs.Output.{datagram_of}
use Rattle.studio_mix.specs.Ready.{is_ready}

-- the datagrams of exactly the blocks that are ready by these marks, in order
pub record AreBlocks (studio : Studio) (feeds : List Feed) (datagrams : List (List ℕ)) : Type 0 where
  pub ready : (n : ℕ) → nat_lt n (length datagrams) ≡ is_ready studio.output feeds n
  pub each : (n : ℕ) (datagram : List ℕ) → slice_get datagrams n ≡ Some datagram → datagram ≡ datagram_of studio feeds n

-- the datagrams of the first blocks, each of which is ready by these marks
pub record AreFirstBlocks (studio : Studio) (feeds : List Feed) (datagrams : List (List ℕ)) : Type 0 where
  pub ready : (n : ℕ) → nat_lt n (length datagrams) ≡ true → is_ready studio.output feeds n ≡ true
  pub each : (n : ℕ) (datagram : List ℕ) → slice_get datagrams n ≡ Some datagram → datagram ≡ datagram_of studio feeds n
