-- The clock reading before which no datagram comes if nothing arrives.
use Rattle.std.specs.Prelude.{◌≡◌, ℕ, ◌*◌, Bool, true, false, List, [], ◌∷◌, ◌++◌, map, ℤ, pos, ◌+ℤ◌, ◌≤ℤ◌, ◌<ℤ◌, Option, Some, None}
use Rattle.studio_config.specs.Studio.{Studio}
use Rattle.studio_mix.specs.Mixer.{MixerState}
use Rattle.studio_mix.specs.Ready.{is_ready}
use Rattle.studio_session.specs.Event.{TraceEvent, Tick}
use Rattle.studio_session.specs.Fault.{closed_at, time_at}
use Rattle.studio_session.specs.Cursor.{CursorState}
use Rattle.studio_session.specs.PushedEvents.{HaveTaken}
use Rattle.studio_session.specs.Play.{HasPlayed, IsRunnableBy, feeds_of}
use Rattle.studio_engine.specs.Engine.{AreIdle}

-- clock readings that rise, all after `from` and before `to`
abbrev pub RiseBetween : ℤ → ℤ → List ℤ → Type 0
RiseBetween from to [] = Unit {0}
RiseBetween from to (now ∷ later) = (from <ℤ now) × (now <ℤ to) × RiseBetween now to later

-- if nothing arrives after these events, no clock readings before this one make the block ready
pub record IsUnreadyBefore (studio : Studio) (events : List TraceEvent) (next : ℕ) (reading : ℤ) : Type 0 where
  pub unready : (now : ℤ) (later : List ℤ) → RiseBetween (time_at studio.open_at events) reading (now ∷ later)
      → is_ready studio.output (feeds_of studio (events ++ map Tick (now ∷ later))) next ≡ false

-- no clock reading before `reading` takes a stream to a time whose deadline is `due`: each slot with a deadline before
-- `reading` ends before that time, and if there was no slot yet, no Quiet reaches the time. `slot` is the deadline of
-- the next slot, if there is one; the deadlines of later slots follow at intervals of `frames`
abbrev pub IsNotPast : Option ℤ → Bool → ℕ → ℤ → ℤ → Type 0
IsNotPast None slotless frames due reading = reading ≤ℤ due
IsNotPast (Some slot) slotless frames due reading =
    ((count : ℕ) → (slot +ℤ pos (count * frames)) <ℤ reading → ((slot +ℤ pos (count * frames)) +ℤ pos frames) <ℤ due) × (slotless ≡ true → reading ≤ℤ due)

-- the parts of an engine that is open and idle: the mixer was fed all marks of the events
pub record IsIdle (studio : Studio) (events : List TraceEvent) (mixer : MixerState) (cursors : List CursorState) (time : ℤ) (next : ℕ) : Type 0 where
  pub runs : IsRunnableBy studio events
  pub open_yet : closed_at false events ≡ false
  pub time_is : time ≡ time_at studio.open_at events
  pub idle : AreIdle cursors
  pub taken : HaveTaken events cursors
  pub played : HasPlayed studio events (record { mixer = mixer; cursors = cursors }) next
