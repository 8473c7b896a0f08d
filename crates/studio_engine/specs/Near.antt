-- The distance of the marks of a studio's streams from one another: the reason why the capacity of its lanes is enough.
use Rattle.std.specs.Prelude.{◌≡◌, ℕ, true, false, List, map, slice_get, Some, All}
use Rattle.rtp_stream.specs.declared.stream_spec.Stream.{Stream}
use Rattle.studio_config.specs.Studio.{Studio}
use Rattle.studio_mix.specs.Mixer.{MixerState, has_space_of}
use Rattle.studio_mix.specs.Ready.{is_ready}
use Rattle.studio_mix.specs.LaneCapacity.{capacity_of, capacities_of}
use Rattle.studio_session.specs.Event.{TraceEvent}
use Rattle.studio_session.specs.Fault.{closed_at}
use Rattle.studio_session.specs.Play.{IsRunnableBy, feeds_of, stream_marks}

-- a block is still to come: the clock readings are in order, there was no close, and the block is not ready by all
-- marks of the events
pub record IsAwaited (studio : Studio) (events : List TraceEvent) (next : ℕ) : Type 0 where
  pub runs : IsRunnableBy studio events
  pub open_yet : closed_at false events ≡ false
  pub unready : is_ready studio.output (feeds_of studio events) next ≡ false

-- each lane has the capacity that its stream needs in the studio
pub record HasCapacities (studio : Studio) (mixer : MixerState) : Type 0 where
  pub capacities : capacities_of mixer.lanes ≡ map (capacity_of studio) studio.streams

-- each lane has space for every mark that the events give its stream
pub record MarksAreNear (studio : Studio) (events : List TraceEvent) (mixer : MixerState) : Type 0 where
  pub each : (i : ℕ) (stream : Stream) → slice_get studio.streams i ≡ Some stream
      → All (λ mark. has_space_of mixer i mark ≡ true) (stream_marks stream i studio.open_at events)
