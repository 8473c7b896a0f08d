-- An output by the media clock: the block at a media time has one number, whenever the studio opens.
use Rattle.std.specs.Prelude.{Bool, true, false, List, [], ◌∷◌, Option, Some, None, if◌then◌else◌}
use Rattle.std.specs.List.{list_all}
use Rattle.rtp_stream.specs.declared.stream_spec.Stream.{Stream}
use Rattle.rtp_stream.specs.declared.stream_spec.StreamClock.{StreamClock}
use Rattle.rtp_stream.specs.declared.stream_spec.StreamClock.TheVariants as stream_clock
use Rattle.mix_packets.specs.Aligned.{aligned}
use Rattle.studio_config.specs.Studio.{Studio}
use Rattle.studio_config.specs.Rows.{at_key, first_in}
use Rattle.studio_config.specs.Shift.{start_fault}
use Rattle.studio_config.specs.declared.output_clock.OutputClock.{OutputClock}
use Rattle.studio_config.specs.declared.output_clock.OutputClock.TheVariants.{Run, Media}
use Rattle.studio_config.specs.declared.config.keys.Key.TheVariants as key
use Rattle.studio_config.specs.declared.config.fault.ConfigTable.TheVariants as place
use Rattle.studio_config.specs.declared.config.fault.SpecErrorKind.TheVariants.{Streams}
use Rattle.studio_config.specs.declared.config.fault.SpecError.{SpecError}

-- a stream's clock is the media clock
abbrev pub is_media : StreamClock → Bool
is_media (stream_clock.Media offset) = true
is_media stream_clock.Arrival = false
is_media stream_clock.Follow = false

-- each of these streams has the media clock
abbrev pub are_by_media : List Stream → Bool
are_by_media streams = list_all (λ (stream : Stream). is_media stream.clock) streams

-- the studio with its output by the media clock
abbrev pub by_media : Studio → Studio
by_media studio = record studio { output = aligned studio.open_at studio.output; clock = Media }

-- the first fault of a studio whose output is to be by the media clock: a stream has another clock, or the first block
-- begins after 2 ^ 60
abbrev pub media_fault_of : Studio → Option SpecError
media_fault_of studio =
    first_in (
    at_key place.Output key.Clock (if are_by_media studio.streams then None else Some Streams)
    ∷ start_fault (aligned studio.open_at studio.output).start
    ∷ [])

-- the studio with its output by a clock, and its fault
abbrev pub by_clock : OutputClock → Studio → Studio
by_clock Run studio = studio
by_clock Media studio = by_media studio

abbrev pub clock_fault_of : OutputClock → Studio → Option SpecError
clock_fault_of Run studio = None
clock_fault_of Media studio = media_fault_of studio
