-- The state of a merge that contracts see, and the facts that hold for every such state.
use Rattle.std.specs.Prelude.{◌≡◌, ℕ, zero, suc, ◌+◌, ◌^◌, ◌<◌, ◌≤◌, Bool, false, List, ℤ, pos, ◌+ℤ◌, ◌≤ℤ◌, neg_ℤ, Option, Some, None, IsSome, is_some, nat_eq, if◌then◌else◌}
use Rattle.std.specs.Ordering.{nat_cmp}
use Rattle.std.specs.FinMap.{FinMap, get}
use Rattle.rtp_stream.specs.declared.stream_spec.Stream.{Stream}
use Rattle.rtp_stream.specs.StreamSpecFacts.{IsStream}
use Rattle.rtp_stream.specs.StreamSpec.{Fits}
use Rattle.rtp_stream.specs.CountsFacts.{Tally}
use Rattle.rtp_stream.specs.declared.probation.Probation.{Probation}
use Rattle.rtp_stream.specs.declared.follow.Track.{Track}
use Rattle.rtp_stream.specs.declared.anchor.Anchor.{Anchor}
use Rattle.rtp_stream.specs.declared.packet.Packet.{Packet}
use Rattle.path_merge.specs.Window.{IsEmpty}
use Rattle.rtp_stream.specs.Anchor.{media_time_of, next_number}

pub record MergeState : Type 0 where
  pub spec : Stream
  pub time : ℤ
  pub anchor : Option Anchor
  pub base : ℕ
  pub size : ℕ
  pub held : FinMap nat_cmp Packet
  pub quiet : ℤ
  pub counts : Tally
  pub closed : Bool
  pub ended : Bool
  pub probations : List Probation
  pub tracks : List Track

-- how many of the `count` numbers from `number` on have a packet
abbrev pub held_count : FinMap nat_cmp Packet → ℕ → ℕ → ℕ
held_count held number zero = 0
held_count held number (suc count) = (if is_some (get held number) then 1 else 0) + held_count held (suc number) count

-- nothing is held
abbrev pub holds_nothing : MergeState → Bool
holds_nothing m = nat_eq (held_count m.held m.base m.spec.window) 0

-- the bounds of an anchor's numbers and times
pub record IsInBounds (anchor : Anchor) : Type 0 where
  pub first_low : 65536 ≤ anchor.number
  pub first_high : anchor.number < 131072
  pub stamp : anchor.timestamp < 2 ^ 32
  pub media_low : neg_ℤ (pos (2 ^ 33)) ≤ℤ anchor.media
  pub media_high : anchor.media ≤ℤ pos (2 ^ 60 + 2 ^ 33)

-- a merge with an anchor: until the close the base is the number due next, and all that is held is within the window
pub record IsAnchored (m : MergeState) (media : ℤ) (anchor : Anchor) : Type 0 where
  pub epoch_is : anchor.epoch ≡ m.counts.restarts
  pub few_epochs : anchor.epoch < m.counts.arrived
  pub bounds : IsInBounds anchor
  pub media_is : media ≡ media_time_of m.spec anchor m.base
  pub next_open : m.closed ≡ false → m.base ≡ next_number m.spec anchor m.time
  pub next_low : next_number m.spec anchor m.time ≤ m.base
  pub next_high : m.base ≤ next_number m.spec anchor m.time + m.spec.window
  pub held_low : (n : ℕ) → IsSome (get m.held n) → m.base ≤ n
  pub held_high : (n : ℕ) → IsSome (get m.held n) → n < next_number m.spec anchor m.time + m.spec.window
  pub held_fits : (n : ℕ) (packet : Packet) → get m.held n ≡ Some packet → Fits m.spec packet
  pub slots_given : pos (m.counts.got + m.counts.lost) ≤ℤ (media +ℤ pos (2 ^ 33))
  pub taken_are : m.counts.taken ≡ m.counts.got + held_count m.held m.base m.spec.window

-- a merge without an anchor: nothing is held, and nothing was taken
pub record IsUnanchored (m : MergeState) : Type 0 where
  pub empty : IsEmpty m.held
  pub none_taken : m.counts.taken ≡ 0
  pub none_got : m.counts.got ≡ 0
  pub none_lost : m.counts.lost ≡ 0
  pub none_restarted : m.counts.restarts ≡ 0

abbrev pub IsAnchoredOrNot : MergeState → ℤ → Option Anchor → Type 0
IsAnchoredOrNot m media None = IsUnanchored m
IsAnchoredOrNot m media (Some anchor) = IsAnchored m media anchor

-- the facts of a merge; `media` is the media time of the base
pub record IsSound (m : MergeState) (media : ℤ) : Type 0 where
  pub spec_ok : IsStream m.spec
  pub time_low : pos 0 ≤ℤ m.time
  pub time_high : m.time ≤ℤ pos (2 ^ 60)
  pub size_is : m.size ≡ m.spec.window
  pub few_arrived : m.counts.arrived ≤ 2 ^ 62
  pub anchored : IsAnchoredOrNot m media m.anchor
