-- The state of a merge after a history, with some of its marks returned.
use Rattle.std.specs.Prelude.{◌≡◌, ℕ, ◌+◌, ◌≤◌, ◌<◌, nat_lt, Bool, true, false, nat_eq, List, [], ◌∷◌, take, length, ℤ, pos, ◌-ℤ◌, Option, Some, None, if◌then◌else◌}
use Rattle.std.specs.FinMap.{get}
use Rattle.rtp_stream.specs.declared.stream_spec.Stream.{Stream}
use Rattle.rtp_stream.specs.MarkFacts.{MarkView}
use Rattle.rtp_stream.specs.declared.anchor.Anchor.{Anchor}
use Rattle.rtp_stream.specs.declared.packet.Packet.{Packet}
use Rattle.rtp_stream.specs.declared.mark.MarkKind.{MarkKind}
use Rattle.rtp_stream.specs.declared.mark.MarkKind.TheVariants.{Slot, Quiet, End}
use Rattle.rtp_stream.specs.declared.event.Event.{Event}
use Rattle.rtp_stream.specs.History.{time_of, is_closed, is_well_timed, events_until_close}
use Rattle.rtp_stream.specs.Epochs.{anchor_of, anchors_of, last_of}
use Rattle.rtp_stream.specs.Probation.{heard_since}
use Rattle.rtp_stream.specs.PathProbation.{probation_at, probation_of}
use Rattle.rtp_stream.specs.FollowTrack.{track_at, track_of}
use Rattle.rtp_stream.specs.Follow.{standings_on, standings_since}
use Rattle.rtp_stream.specs.declared.follow.Standing.{Standing}
use Rattle.rtp_stream.specs.Copies.{first_copy}
use Rattle.rtp_stream.specs.Marks.{marks_of}
use Rattle.rtp_stream.specs.MarkList.{has_end}
use Rattle.rtp_stream.specs.Counts.{counts_of}
use Rattle.path_merge.specs.MergeState.{MergeState}

abbrev pub is_slot_in : ℕ → MarkKind → Bool
is_slot_in epoch (Slot e number media body) = nat_eq e epoch
is_slot_in epoch (Quiet until) = false
is_slot_in epoch End = false

-- the number of slots of this epoch among the marks
abbrev pub slot_count : ℕ → List MarkView → ℕ
slot_count epoch [] = 0
slot_count epoch (mark ∷ marks) = (if is_slot_in epoch mark.kind then 1 else 0) + slot_count epoch marks

abbrev pub quiet_or : ℤ → MarkKind → ℤ
quiet_or before (Slot epoch number media body) = before
quiet_or before (Quiet until) = until
quiet_or before End = before

-- the time of the last Quiet among the marks, or `before` if there is none
abbrev pub last_quiet_or : ℤ → List MarkView → ℤ
last_quiet_or before [] = before
last_quiet_or before (mark ∷ marks) = last_quiet_or (quiet_or before mark.kind) marks

-- the base is one past the numbers of the anchor's epoch that have a slot among the marks; without an anchor it is any
abbrev pub IsBaseOf : Option Anchor → ℕ → List MarkView → Type 0
IsBaseOf None base marks = Unit {0}
IsBaseOf (Some anchor) base marks = base ≡ anchor.number + slot_count anchor.epoch marks

-- the packets that count for a path's probation since the anchor in force; without an anchor there are none
abbrev pub heard_of : Stream → ℤ → Option (ℕ × Anchor) → List Event → ℕ → List (Bool × Packet)
heard_of stream open_at None events path = []
heard_of stream open_at (Some (place, anchor)) events path = heard_since stream open_at place anchor events path

-- the standings of all arrivals since the anchor in force; without an anchor there are none
abbrev pub standings_of : Stream → ℤ → Option (ℕ × Anchor) → List Event → List Standing
standings_of stream open_at None events = []
standings_of stream open_at (Some (place, anchor)) events = standings_since stream open_at place anchor events

-- this history leads to the merge, which has returned the first k of its marks: all of them before a close, and after
-- it at least those up to the close
pub record HasHistory (stream : Stream) (open_at : ℤ) (m : MergeState) (events : List Event) (k : ℕ) : Type 0 where
  pub spec : m.spec ≡ stream
  pub well_timed : is_well_timed open_at events ≡ true
  pub time : m.time ≡ time_of open_at events
  pub anchor : m.anchor ≡ anchor_of stream open_at events
  pub closed : m.closed ≡ is_closed events
  pub counts : m.counts ≡ counts_of stream open_at events (take k (marks_of stream open_at events))
  pub given : k ≤ length (marks_of stream open_at events)
  pub all_given : is_closed events ≡ false → k ≡ length (marks_of stream open_at events)
  pub before_close : length (marks_of stream open_at (events_until_close events)) ≤ k
  pub base : IsBaseOf m.anchor m.base (take k (marks_of stream open_at events))
  pub held : (n : ℕ) → get m.held n ≡ (if nat_lt n m.base then None else first_copy stream open_at events n)
  pub probation : (path : ℕ) → path < 4 → probation_at m.probations path ≡ probation_of stream (heard_of stream open_at (last_of (anchors_of stream open_at events)) events path)
  pub tracks : (path : ℕ) → path < 4 → track_at m.tracks path ≡ track_of (standings_on path (standings_of stream open_at (last_of (anchors_of stream open_at events)) events))
  pub quiet : m.quiet ≡ last_quiet_or (open_at -ℤ pos stream.latency) (take k (marks_of stream open_at events))
  pub ended : m.ended ≡ has_end (take k (marks_of stream open_at events))
