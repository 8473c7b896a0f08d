-- The change that each call of a merge makes to it.
use Rattle.std.specs.Prelude.{◌≡◌, ℕ, ◌+◌, ◌-◌, Bool, true, false, ◌&&◌, ◌||◌, nat_eq, List, [], ◌∷◌, ◌++◌, length, ℤ, pos, ◌-ℤ◌, ◌≤ℤ◌, ◌<ℤ◌, int_lt, int_le, Option, Some, None, Result, IsSome, is_some, take, drop, ◌≤◌, if◌then◌else◌, option_to_list}
use Rattle.std.specs.FinMap.{get}
use Rattle.std.specs.Option.{option_map}
use Rattle.rtp_stream.specs.declared.stream_spec.Stream.{Stream}
use Rattle.rtp_stream.specs.MarkFacts.{MarkView}
use Rattle.rtp_stream.specs.declared.anchor.Anchor.{Anchor}
use Rattle.rtp_stream.specs.declared.packet.Packet.{Packet}
use Rattle.rtp_stream.specs.declared.fate.Fate.{Fate}
use Rattle.rtp_stream.specs.declared.fate.Fate.TheVariants.{Restarted}
use Rattle.rtp_stream.specs.declared.probation.Probation.{Probation}
use Rattle.rtp_stream.specs.declared.follow.Track.{Track}
use Rattle.rtp_stream.specs.FollowTrack.{is_slip_by, no_track, width_by, track_at, track_heard}
use Rattle.rtp_stream.specs.declared.event.Event.{Event}
use Rattle.rtp_stream.specs.declared.event.Event.TheVariants.{Arrive, Tick}
use Rattle.rtp_stream.specs.History.{time_of, is_closed, is_well_timed, events_until_close}
use Rattle.rtp_stream.specs.Anchor.{anchor_from, deadline_of, is_source_wanted, is_restart_in_reach, media_time_of, next_number, restart_from, restart_media_time}
use Rattle.rtp_stream.specs.Grid.{extended_number, of_width}
use Rattle.rtp_stream.specs.Epochs.{anchor_of, anchors_of, last_of}
use Rattle.rtp_stream.specs.Probation.{is_off}
use Rattle.rtp_stream.specs.PathProbation.{is_complete, no_probation, probation_at, probation_heard}
use Rattle.rtp_stream.specs.Copies.{copies_of}
use Rattle.rtp_stream.specs.Marks.{marks_of, body_of, quiet_mark, is_slot}
use Rattle.rtp_stream.specs.Fate.{fate_at, fate_of, first_fate, place_of}
use Rattle.rtp_stream.specs.CountsFacts.{with_fate, with_body}
use Rattle.rtp_stream.specs.Counts.{fates_of, is_taken_fate}
use Rattle.path_merge.specs.MergeState.{MergeState, holds_nothing}
use Rattle.path_merge.specs.Merge.{HasHistory, heard_of, standings_of}

-- the media time of the epoch that a packet may open: nothing is held, and media time doesn't go back
abbrev pub epoch_media : MergeState → Anchor → Packet → Option ℤ
epoch_media m anchor packet =
    if holds_nothing m && is_restart_in_reach m.spec m.time (media_time_of m.spec anchor m.base) (restart_media_time m.spec.clock packet.ts m.time (media_time_of m.spec anchor m.base))
    then Some (restart_media_time m.spec.clock packet.ts m.time (media_time_of m.spec anchor m.base)) else None

-- the media time of the epoch that an arrival opens: it completes its path's probation, or its sender is astray
abbrev pub opening_of : MergeState → Anchor → ℕ → Packet → Option ℤ
opening_of m anchor path packet =
    if is_source_wanted m.spec.ssrc packet.ssrc && (is_complete (probation_heard m.spec (probation_at m.probations path) (is_off m.spec anchor m.base packet) packet) || is_slip_by m.spec anchor m.base m.time m.tracks path packet)
    then epoch_media m anchor packet else None

abbrev pub opens_epoch : MergeState → Anchor → ℕ → Packet → Bool
opens_epoch m anchor path packet = is_some (opening_of m anchor path packet)

-- an arrival that changes only its path's probation and track
pub record IsHeardStep (old new : MergeState) (a : Anchor) (path : ℕ) (packet : Packet) : Type 0 where
  pub probation : probation_at new.probations path ≡ probation_heard old.spec (probation_at old.probations path) (is_off old.spec a old.base packet) packet
  pub other_paths : (other : ℕ) → nat_eq other path ≡ false → probation_at new.probations other ≡ probation_at old.probations other
  pub track : track_at new.tracks path ≡ track_heard old.spec a old.base old.time old.tracks path packet
  pub other_tracks : (other : ℕ) → nat_eq other path ≡ false → track_at new.tracks other ≡ track_at old.tracks other
  pub changed : new ≡ record old { probations = new.probations; tracks = new.tracks }

-- the place of an arrival, with a width of at most the window
pub record IsPlaced (stream : Stream) (a : Anchor) (next : ℕ) (packet : Packet) (place : Result ℕ Fate) : Type 0 where
  pub width : ℕ
  pub within : width ≤ stream.window
  pub is : place ≡ place_of (of_width stream width) a next packet

-- an arrival at an anchored merge that is put or refused: only a packet that is taken changes what is held
pub record IsPutStep (stream : Stream) (width : ℕ) (old new : MergeState) (a : Anchor) (path : ℕ) (packet : Packet) (fate : Fate) : Type 0 where
  pub fate_is : fate ≡ fate_at (place_of (of_width stream width) a old.base packet) (get old.held) packet
  pub held : (n : ℕ) → get new.held n ≡ (if is_taken_fate fate && nat_eq n (extended_number packet old.base) then Some packet else get old.held n)
  pub changed : new ≡ record old { held = new.held; counts = with_fate old.counts path fate }

-- an arrival that opens no epoch: it counts for its path, and then is put or refused, with the width before it
pub record IsNextStep (stream : Stream) (old new : MergeState) (a : Anchor) (path : ℕ) (packet : Packet) (fate : Fate) : Type 0 where
  pub heard : List Probation
  pub noted : List Track
  pub hears : IsHeardStep old (record old { probations = heard; tracks = noted }) a path packet
  pub puts : IsPutStep stream (width_by stream a old.base old.time old.tracks) (record old { probations = heard; tracks = noted }) new a path packet fate

-- an arrival that opens an epoch: nothing is held, the window starts at its number, and all probations and tracks begin
-- again
pub record IsRestartStep (stream : Stream) (old new : MergeState) (a : Anchor) (path : ℕ) (packet : Packet) (fate : Fate) : Type 0 where
  pub fate_is : fate ≡ Restarted
  pub held : (n : ℕ) → get new.held n ≡ (if nat_eq n (65536 + packet.seq) then Some packet else None)
  pub probations : (other : ℕ) → probation_at new.probations other ≡ no_probation
  pub tracks : (other : ℕ) → track_at new.tracks other ≡ no_track
  pub changed : new ≡ record old { anchor = Some (restart_from stream old.time a old.base packet); base = 65536 + packet.seq; held = new.held; counts = with_fate old.counts path Restarted; probations = new.probations; tracks = new.tracks }

-- an arrival at a merge with no anchor: a packet that is taken becomes the anchor
pub record IsFirstStep (stream : Stream) (old new : MergeState) (path : ℕ) (packet : Packet) (fate : Fate) : Type 0 where
  pub fate_is : fate ≡ first_fate stream old.time packet
  pub anchor : new.anchor ≡ (if is_taken_fate fate then Some (anchor_from stream old.time packet) else None)
  pub base : is_taken_fate fate ≡ true → new.base ≡ 65536 + packet.seq
  pub held : (n : ℕ) → get new.held n ≡ (if is_taken_fate fate && nat_eq n (65536 + packet.seq) then Some packet else None)
  pub changed : new ≡ record old { anchor = new.anchor; base = new.base; held = new.held; counts = with_fate old.counts path fate }
  pub refused : is_taken_fate fate ≡ false → new ≡ record old { counts = with_fate old.counts path fate }

-- an arrival that was counted and not taken changes its count and, at most, its path's probation and track
pub record IsRefusal (old new : MergeState) (path : ℕ) (fate : Fate) : Type 0 where
  pub held : (n : ℕ) → get new.held n ≡ get old.held n
  pub other_paths : (other : ℕ) → nat_eq other path ≡ false → probation_at new.probations other ≡ probation_at old.probations other
  pub other_tracks : (other : ℕ) → nat_eq other path ≡ false → track_at new.tracks other ≡ track_at old.tracks other
  pub changed : new ≡ record old { held = new.held; probations = new.probations; tracks = new.tracks; counts = with_fate old.counts path fate }

-- the slot of the base is produced, at its deadline
pub record IsSlotStep (stream : Stream) (old new : MergeState) (a : Anchor) : Type 0 where
  pub held : (n : ℕ) → get new.held n ≡ (if nat_eq n old.base then None else get old.held n)
  pub changed : new ≡ record old { time = deadline_of stream a old.base; base = old.base + 1; held = new.held; counts = with_body old.counts (body_of (get old.held old.base)) }

-- no slot was produced yet, and the last Quiet was earlier
abbrev pub is_quiet_due : Bool → ℤ → ℤ → Bool
is_quiet_due no_slot last until = no_slot && int_lt last until

-- time passes with no slot
pub record IsTimeStep (stream : Stream) (old new : MergeState) (now : ℤ) (no_slot : Bool) (given : Option MarkView) : Type 0 where
  pub changed : new ≡ record old { time = now; quiet = if is_quiet_due no_slot old.quiet (now -ℤ pos stream.latency) then now -ℤ pos stream.latency else old.quiet }
  pub mark : given ≡ (if is_quiet_due no_slot old.quiet (now -ℤ pos stream.latency) then Some (quiet_mark stream (now -ℤ pos stream.latency)) else None)

-- the time to which a clock reading of `now` moves the merge: the next deadline, or `now` if that comes first
abbrev pub stop_at : Stream → Option Anchor → ℕ → ℤ → ℤ
stop_at stream None base now = now
stop_at stream (Some anchor) base now = if int_le (deadline_of stream anchor base) now then deadline_of stream anchor base else now

-- the deadline of the next slot; none before the first anchor, and none after a close
abbrev pub next_deadline_of : MergeState → Option ℤ
next_deadline_of m = if m.closed then None else option_map (λ anchor. deadline_of m.spec anchor m.base) m.anchor

-- two histories between which no merge can tell the difference
pub record IsAlike (stream : Stream) (open_at : ℤ) (e f : List Event) : Type 0 where
  pub well_timed : is_well_timed open_at e ≡ true → is_well_timed open_at f ≡ true
  pub time : time_of open_at e ≡ time_of open_at f
  pub closed : is_closed e ≡ is_closed f
  pub fates : fates_of stream open_at e ≡ fates_of stream open_at f
  pub anchor : anchor_of stream open_at e ≡ anchor_of stream open_at f
  pub heard : (path : ℕ) → heard_of stream open_at (last_of (anchors_of stream open_at e)) e path ≡ heard_of stream open_at (last_of (anchors_of stream open_at f)) f path
  pub standings : standings_of stream open_at (last_of (anchors_of stream open_at e)) e ≡ standings_of stream open_at (last_of (anchors_of stream open_at f)) f
  pub copies : copies_of stream open_at e ≡ copies_of stream open_at f
  pub marks : marks_of stream open_at e ≡ marks_of stream open_at f
  pub before_close : marks_of stream open_at (events_until_close e) ≡ marks_of stream open_at (events_until_close f)

abbrev pub is_slot_mark : Option MarkView → Bool
is_slot_mark None = false
is_slot_mark (Some mark) = is_slot mark.kind

-- the arrival has the fate of the definition and is added to the history; it adds no mark and changes none
pub record Offers (stream : Stream) (open_at : ℤ) (new : MergeState) (events : List Event) (k : ℕ) (path : ℕ) (packet : Packet) (fate : Fate) : Type 0 where
  pub fate_is : fate ≡ fate_of stream open_at events path packet
  pub stands : HasHistory stream open_at new (events ++ Arrive path packet ∷ []) k
  pub kept : marks_of stream open_at (events ++ Arrive path packet ∷ []) ≡ marks_of stream open_at events

-- a clock reading of the time where the merge stops produced this mark and no other; after a slot, a reading of `now`
-- produces the rest
pub record Advances (stream : Stream) (open_at : ℤ) (old new : MergeState) (events : List Event) (k : ℕ) (now : ℤ) (mark : Option MarkView) : Type 0 where
  pub time : new.time ≡ stop_at stream old.anchor old.base now
  pub stands : HasHistory stream open_at new (events ++ Tick (stop_at stream old.anchor old.base now) ∷ []) (k + length (option_to_list mark))
  pub gained : marks_of stream open_at (events ++ Tick (stop_at stream old.anchor old.base now) ∷ []) ≡ marks_of stream open_at events ++ option_to_list mark
  pub joins : is_slot_mark mark ≡ true → IsAlike stream open_at ((events ++ Tick (stop_at stream old.anchor old.base now) ∷ []) ++ Tick now ∷ []) (events ++ Tick now ∷ [])

-- a slot that was left at the close is produced
pub record IsLeftStep (old new : MergeState) : Type 0 where
  pub held : (n : ℕ) → get new.held n ≡ (if nat_eq n old.base then None else get old.held n)
  pub changed : new ≡ record old { base = old.base + 1; held = new.held; counts = with_body old.counts (body_of (get old.held old.base)) }

-- a packet is held at the base or after it
pub record HoldsMore (m : MergeState) : Type 0 where
  pub last : ℕ
  pub from_base : m.base ≤ last
  pub is_held : IsSome (get m.held last)

-- a drain returned the next of the marks, if one was left
pub record Drains (stream : Stream) (open_at : ℤ) (new : MergeState) (events : List Event) (k : ℕ) (mark : Option MarkView) : Type 0 where
  pub stands : HasHistory stream open_at new events (k + length (option_to_list mark))
  pub given : option_to_list mark ≡ take 1 (drop k (marks_of stream open_at events))

-- the deadline of the base has not come
abbrev pub IsBeforeDeadline : Stream → Option Anchor → ℕ → ℤ → Type 0
IsBeforeDeadline stream None base now = Unit {0}
IsBeforeDeadline stream (Some anchor) base now = now <ℤ deadline_of stream anchor base

-- the call moves the time: with a slot to a later time, at most `now`; without one to `now`
abbrev pub MovesBy : MergeState → MergeState → ℤ → Bool → Type 0
MovesBy old new now true = (old.time <ℤ new.time) × (new.time ≤ℤ now) × (new.closed ≡ old.closed)
MovesBy old new now false = (new.time ≡ now) × (new.closed ≡ old.closed)

abbrev pub Moves : MergeState → MergeState → ℤ → Option MarkView → Type 0
Moves old new now mark = MovesBy old new now (is_slot_mark mark)

-- the number of marks left to drain is at most `marks_left`: the numbers up to the window's end, and the end
abbrev pub window_end : Stream → Option Anchor → ℤ → ℕ
window_end stream None time = 0
window_end stream (Some anchor) time = next_number stream anchor time + stream.window

abbrev pub marks_left : MergeState → ℕ
marks_left m = (if m.ended then 0 else 1) + (window_end m.spec m.anchor m.time - m.base)
