-- The turn of the mixer's end.
use Rattle.std.specs.Prelude.{◌≡◌, ℕ, ◌+◌, List, ◌++◌, drop, Option, Some, None, is_some, IfSome}
use Rattle.mix_packets.specs.OutSpec.{datagram_length}
use Rattle.mix_packets.specs.Block.{block_start}
use Rattle.studio_config.specs.Studio.{Studio}
use Rattle.studio_mix.specs.Mixer.{HasFeeds}
use Rattle.studio_mix.specs.Ready.{is_ready}
use Rattle.studio_mix.specs.Output.{datagram_of}
use Rattle.studio_ends.specs.AcceptedFeeds.{accepted_feeds, accepted_total}
use Rattle.studio_ends.specs.MarksIn.{AllStopTaking}
use Rattle.studio_ends.specs.declared.mix_end.MixNote.{MixNote}
use Rattle.studio_ends.specs.declared.mix_end.MixEnd.{MixEnd}

-- the mixer was fed the marks that were accepted of those that the rings delivered, and returned `number` datagrams
abbrev pub MixHasFeeds : Studio → MixEnd → ℕ → Type 0
MixHasFeeds studio s number = HasFeeds studio s.mixer (accepted_feeds studio.streams s.sides.items) number

abbrev pub given : Option ℕ → ℕ
given None = 0
given (Some len) = 1

-- a turn returns a datagram exactly if the next block is ready by the accepted marks, and it is the datagram of that
-- block. Strange marks are those that were taken and not accepted
pub record MixesBlock (studio : Studio) (s : MixEnd) (note : MixNote) (t : MixEnd) (number : ℕ) (out new_out : List ℕ) : Type 0 where
  pub ready : is_some note.len ≡ is_ready studio.output (accepted_feeds studio.streams t.sides.items) number
  pub datagram : IfSome note.len (λ len. (len ≡ datagram_length studio.output) × (new_out ≡ datagram_of studio (accepted_feeds studio.streams t.sides.items) number ++ drop len out))
  pub strange : accepted_total (accepted_feeds studio.streams t.sides.items) + note.strange ≡ accepted_total (accepted_feeds studio.streams s.sides.items) + note.taken
  pub stop : AllStopTaking studio.streams (block_start studio.output (number + 1)) s.sides.items t.sides.items
  pub stands : MixHasFeeds studio t (number + given note.len)
