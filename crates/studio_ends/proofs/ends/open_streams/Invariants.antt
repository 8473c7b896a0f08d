use Rattle.std.proofs.Common.{◌≡◌, [], take}
use Rattle.studio_ends.specs.OpenedChannels.{HaveChannels}
use Rattle.studio_ends.specs.Opening.{AreFreshEnds}
use Rattle.studio_ends.proofs.ends.open_streams.Given as goal

abbrev pub invariant-loop-spec : goal.invariant-loop-spec
invariant-loop-spec l = AreFreshEnds l.open_at l.ring_len (take l.spec-index l.specs) l.ends
    × (HaveChannels [] [] l.initial.channels → HaveChannels l.ends.paths.items l.ends.streams.items l.channels)
    × (l.channels.are_wanted ≡ l.initial.channels.are_wanted)
