-- The datagrams that a whole session returns.
use Rattle.std.specs.Prelude.{ℕ, ◌+◌, ◌^◌, List, length, pos, ◌-ℤ◌}
use Rattle.lane_align.specs.Lane.{natural}
use Rattle.mix_packets.specs.Block.{block_start}
use Rattle.mix_packets.specs.Packer.{PackerState}
use Rattle.studio_config.specs.Studio.{Studio}
use Rattle.studio_mix.specs.Blocks.{AreBlocks, AreFirstBlocks}
use Rattle.studio_session.specs.Event.{TraceEvent}
use Rattle.studio_session.specs.Play.{HasPlayed, SessionState, feeds_of}

-- the datagrams of exactly the blocks that are ready by all marks of the events
abbrev pub AreDatagrams : Studio → List TraceEvent → List (List ℕ) → Type 0
AreDatagrams studio events datagrams = AreBlocks studio (feeds_of studio events) datagrams

-- the datagrams that a session returned so far, those of the first blocks
pub record HasGivenBlocks (studio : Studio) (events : List TraceEvent) (session : SessionState) (datagrams : List (List ℕ)) : Type 0 where
  pub played : HasPlayed studio events session (length datagrams)
  pub first : AreFirstBlocks studio (feeds_of studio events) datagrams

-- at most this many blocks are left, since no block begins after 2^61 + 192
abbrev pub blocks_left : PackerState → ℕ
blocks_left packer = natural (pos (2 ^ 61 + 193) -ℤ block_start packer.spec packer.number)
