-- The blocks that were sent to a record's ring.
use Rattle.std.specs.Prelude.{◌≡◌, ◌⊎◌, ◌<◌, ℕ, zero, suc, ◌+◌, Bool, List, [], ◌∷◌, ◌++◌, length, ℤ, pos, ◌+ℤ◌, ◌-ℤ◌, FitsSigned, Option, Some, None, true, false}
use Rattle.std.specs.Int.{w64}
use Rattle.std.specs.Net.Addr.{ipv4_octets}
use Rattle.rtrb.specs.Ring.{known_free, sent}
use Rattle.pcap_file.specs.RecordedDatagram.{ArrivalView}
use Rattle.pcap_file.specs.RecordedChange.{ChangeView}
use Rattle.pcap_file.specs.Blocks.{change_block, closing_block, datagram_block, gains_interface_block, interface_block, section_block}
use Rattle.pcap_file.specs.Times.{nanoseconds_in_64}
use Rattle.pcap_file.specs.RecordedStream.{description_of}
use Rattle.pcap_file.specs.declared.encode.recorded_stream.RecordedStream.{RecordedStream}
use Rattle.rtp_wire.specs.declared.encoding.Enc.{Enc}
use Rattle.rtp_wire.specs.declared.encoding.Enc.TheVariants.{L16, L24}
use Rattle.rtp_stream.specs.declared.stream_spec.Stream.{Stream}
use Rattle.studio_config.specs.Studio.{Studio}
use Rattle.live_io.specs.Paths.{path_total}
use Rattle.live_io.specs.declared.record.block_producer.BlockProducer.{BlockProducer}
use Rattle.live_io.specs.declared.record.observer.RecordObserver.{RecordObserver}
use Rattle.run_outputs.specs.declared.events.DatagramOrigin.{DatagramOrigin}
use Rattle.studio_io.specs.declared.output_kind.OutputKind.{OutputKind}
use Rattle.studio_io.specs.declared.output_kind.OutputKind.TheVariants.{Record, Wav, Pcm}
use Rattle.studio_io.specs.declared.output_state.OutputEnd.{OutputEnd}
use Rattle.studio_io.specs.declared.output_state.OutputEnd.TheVariants.{Slow, Unfit}

-- the record ends for this reason, and nothing was sent
abbrev pub Ends : OutputEnd → BlockProducer → BlockProducer → Type 0
Ends reason old new = (new.end ≡ Some reason) × (sent new.ring ≡ sent old.ring)

-- a record that has ended stays so, for the same reason, and nothing more is sent to the ring
abbrev pub StaysEnded : BlockProducer → BlockProducer → Type 0
StaysEnded old new = (reason : OutputEnd) → old.end ≡ Some reason → (new.end ≡ Some reason) × (new.ring ≡ old.ring)

-- the end of the output of a kind, as the record's producer knows it: of the record alone
abbrev pub record_end : OutputKind → BlockProducer → Option OutputEnd
record_end Record producer = producer.end
record_end Wav producer = None
record_end Pcm producer = None

-- if the record had not ended: the whole block was sent; or the record ends as too slow, because the ring was not known to
-- have space for the block
abbrev pub Puts : BlockProducer → List ℕ → BlockProducer → Type 0
Puts old block new = old.end ≡ None
    → ((new.end ≡ None) × (sent new.ring ≡ sent old.ring ++ block)) ⊎ (Ends Slow old new × (known_free new.ring < length block))

-- the time is this many nanoseconds after the opening
abbrev pub IsSince : ℤ → ℤ → ℕ → Type 0
IsSince open_at time nanoseconds = (instants : ℕ) → time ≡ (open_at +ℤ pos instants) → nanoseconds_in_64 instants ≡ Some nanoseconds

-- the view of a datagram with these octets that arrived at this time from this origin: its path, and from which address
-- to which
pub record IsPacket (open_at time : ℤ) (origin : DatagramOrigin) (octets : List ℕ) (view : ArrivalView) : Type 0 where
  pub place_is : view.interface ≡ origin.path_index
  pub octets_are : view.octets ≡ octets
  pub since : IsSince open_at time view.nanoseconds
  pub source : (view.source ≡ ipv4_octets origin.source.ip) × (view.source_port ≡ origin.source.port)
  pub destination : (view.destination ≡ ipv4_octets origin.destination.ip) × (view.destination_port ≡ origin.destination.port)

-- the format has no space for this time: 64 bits don't hold its nanoseconds after the opening
abbrev pub IsPast : ℤ → ℤ → Type 0
IsPast open_at time = (instants : ℕ) → time ≡ (open_at +ℤ pos instants) → nanoseconds_in_64 instants ≡ None

-- if the record had not ended: the datagram's packet was put; or the record ends with what does not fit, because the
-- datagram is too long, or its time is past what the format holds
abbrev pub PutsPacket : ℤ → ℤ → DatagramOrigin → List ℕ → BlockProducer → BlockProducer → Type 0
PutsPacket open_at time origin octets old new = old.end ≡ None
    → ((view : ArrivalView) × IsPacket open_at time origin octets view × Puts old (datagram_block view) new)
    ⊎ (Ends Unfit old new × ((2048 < length octets) ⊎ IsPast open_at time))

-- the format has no space for this change of gains: the record has no interface for it, there are too many gains, or 64
-- bits don't hold the nanoseconds after the opening of its time, or the sampling instants to the time from which its
-- gains are in force
abbrev pub IsUnfit : ℤ → Option ℕ → ℤ → ℤ → List ℤ → Type 0
IsUnfit open_at interface time at gains =
    (interface ≡ None) ⊎ ((8192 < length gains) ⊎ (IsPast open_at time ⊎ (FitsSigned w64 (at -ℤ open_at) → ⊥)))

-- a change of gains, taken before this block: the gains are in force from `at` on, counted from the opening
abbrev pub change_from : ℤ → ℤ → ℕ → List ℤ → ChangeView
change_from open_at at next_block gains = record { at = at -ℤ open_at; next_block = next_block; gains = gains }

-- if the record had not ended: the change's block was put, on the interface for changes; or the record ends with what does
-- not fit, because the format has no space for the change
abbrev pub PutsChange : ℤ → Option ℕ → ℤ → ℤ → ℕ → List ℤ → BlockProducer → BlockProducer → Type 0
PutsChange open_at interface time at next_block gains old new = old.end ≡ None
    → ((number : ℕ) × (nanoseconds : ℕ) × (interface ≡ Some number) × IsSince open_at time nanoseconds
    × Puts old (change_block number nanoseconds (change_from open_at at next_block gains)) new)
    ⊎ (Ends Unfit old new × IsUnfit open_at interface time at gains)

-- if the record had not ended: the block of a close at this time was put; or the record ends with what does not fit,
-- because the format has no space for the time
abbrev pub PutsClose : ℤ → ℤ → BlockProducer → BlockProducer → Type 0
PutsClose open_at time old new = old.end ≡ None
    → ((nanoseconds : ℕ) × IsSince open_at time nanoseconds × Puts old (closing_block nanoseconds) new)
    ⊎ (Ends Unfit old new × IsPast open_at time)

-- the configuration of a stream in a record
abbrev pub bits_of : Enc → ℕ
bits_of L16 = 16
bits_of L24 = 24

abbrev pub recorded_of : Stream → RecordedStream
recorded_of stream = record {
  bits = bits_of stream.enc;
  channels = stream.channels;
  frames = stream.frames;
  pt = stream.pt;
  paths = stream.paths;
}

-- the descriptions of a stream's first `count` paths, from a to d
abbrev pub row_blocks : ℕ → List ℕ → ℕ → List ℕ
row_blocks number description zero = []
row_blocks number description (suc count) = row_blocks number description count ++ interface_block number (97 + count) description

-- the descriptions of all paths of a stream, with that of its configuration
abbrev pub stream_blocks : ℕ → Stream → List ℕ
stream_blocks number stream = row_blocks number (description_of (recorded_of stream)) stream.paths

-- the descriptions of the paths of streams, whose numbers count up from this one
abbrev pub path_blocks : ℕ → List Stream → List ℕ
path_blocks number [] = []
path_blocks number (stream ∷ streams) = stream_blocks number stream ++ path_blocks (suc number) streams

-- the record has ended as too slow, because the ring was not known to have space for these octets
abbrev pub LacksSpace : List ℕ → BlockProducer → Type 0
LacksSpace octets end = (end.end ≡ Some Slow) × (known_free end.ring < length octets)

-- if the record had not ended: these octets were sent; or not all of them, because there was no space
abbrev pub Sends : BlockProducer → List ℕ → BlockProducer → Type 0
Sends old octets new = old.end ≡ None → ((new.end ≡ None) × (sent new.ring ≡ sent old.ring ++ octets)) ⊎ LacksSpace octets new

-- the interface for changes of gains is behind those of all paths, if the gains of the run can be changed
abbrev pub gains_blocks : Bool → List ℕ
gains_blocks true = gains_interface_block
gains_blocks false = []

-- the number of the interface for changes of gains, if there is one
abbrev pub gains_interface_of : Bool → List Stream → Option ℕ
gains_interface_of true streams = Some (path_total streams)
gains_interface_of false streams = None

-- the start of a studio's record, opened at this time: its opening, its paths, and the interface for changes of gains,
-- if there is one
abbrev pub front_blocks : Bool → Studio → ℕ → List ℕ
front_blocks is_controlled studio at = section_block at ++ (path_blocks 0 studio.streams ++ gains_blocks is_controlled)

-- the start of the record was sent; or the record has ended as too slow, because the ring was not known to have space for
-- all of it
abbrev pub Opens : Bool → Studio → BlockProducer → Type 0
Opens is_controlled studio end = (at : ℕ) → studio.open_at ≡ pos at
    → ((end.end ≡ None) × (sent end.ring ≡ front_blocks is_controlled studio at)) ⊎ LacksSpace (front_blocks is_controlled studio at) end

-- the observer of a run's record has just begun: the start of the record was sent, it counts times from the studio's
-- opening, and it has the interface for changes of gains only if these can be changed
pub record BeginsRecord (is_controlled : Bool) (studio : Studio) (observer : RecordObserver) : Type 0 where
  pub opens : Opens is_controlled studio observer.blocks
  pub open_at : observer.open_at ≡ studio.open_at
  pub gains_interface : observer.gains_interface ≡ gains_interface_of is_controlled studio.streams
