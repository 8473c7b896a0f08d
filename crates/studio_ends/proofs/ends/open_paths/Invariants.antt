use Rattle.std.proofs.Common.{◌≡◌, List, ◌++◌, length, vec_len}
use Rattle.studio_ends.specs.FreshEnds.{AllFreshPaths}
use Rattle.studio_ends.specs.OpenedChannels.{HaveChannels}
use Rattle.studio_ends.specs.declared.path_end.PathEnd.{PathEnd}
use Rattle.studio_ends.specs.declared.stream_end.StreamEnd.{StreamEnd}
use Rattle.studio_ends.proofs.ends.open_paths.Given as goal

abbrev pub invariant-loop : goal.invariant-loop
invariant-loop l =
    ((own : List PathEnd) × (l.paths.items ≡ l.initial.paths.items ++ own) × (length own ≡ l.counter) × (vec_len l.sides ≡ l.counter) × AllFreshPaths l.spec l.ring_len own l.sides.items)
    × ((streams : List StreamEnd) → HaveChannels l.initial.paths.items streams l.initial.channels → HaveChannels l.paths.items streams l.channels)
    × (l.channels.are_wanted ≡ l.initial.channels.are_wanted)
