use Rattle.std.proofs.Common.{◌≡◌, length, List, ◌++◌, None}
use Rattle.std.specs.List.{last_or}
use mathlib.Core.List.{IsPrefix}
use Rattle.rtrb.specs.Ring.{SameConsumer, known_items, received}
use Rattle.rtp_stats.proofs.channel.take_newest.Given as goal

-- what was taken so far, and the newest of it
abbrev pub invariant-loop : goal.invariant-loop
invariant-loop g l = ((taken : List g.row.T.Denot)
    × (length taken ≡ l.counter)
    × (received l.ring ≡ received l.fn.ring ++ taken)
    × IsPrefix (known_items l.fn.ring) (taken ++ known_items l.ring)
    × (l.newest ≡ last_or None taken))
    × SameConsumer l.fn.ring l.ring
