-- The table of a stream: its rows, their values, and the first fault.
use Rattle.std.specs.Prelude.{ℕ, List, [], ◌∷◌, ◌++◌, Option, option_map, if◌then◌else◌}
use Rattle.rtp_stream.specs.declared.stream_spec.Stream.{Stream}
use Rattle.rtp_stream.specs.StreamSpecFacts.{spec_fault_of}
use Rattle.rtp_stream.specs.declared.stream_spec.StreamClock.{StreamClock}
use Rattle.toml.specs.Data.{Members}
use Rattle.studio_config.specs.Values.{number_at, number_or, text_at, encoding_at, clock_named, with_offset}
use Rattle.studio_config.specs.NetworkTable.{path_rows}
use Rattle.studio_config.specs.Rows.{Row, required, optional, whole, a_text, one_of, encodings, clocks, first_of, at_table, table_fault}
use Rattle.studio_config.specs.declared.config.keys.Key.TheVariants as key
use Rattle.studio_config.specs.declared.config.fault.ConfigTable.{ConfigTable}
use Rattle.studio_config.specs.declared.config.fault.SpecErrorKind.TheVariants as kind
use Rattle.studio_config.specs.declared.config.fault.SpecError.{SpecError}

-- the rows of the packet format, in the table of a stream and in that of the output
abbrev pub packet_rows : List Row
packet_rows =
    required key.Encoding (one_of encodings)
    ∷ required key.Channels (whole 0 255)
    ∷ required key.Frames (whole 0 65535)
    ∷ required key.Pt (whole 0 255)
    ∷ []

-- the rows of the source and the clock of a stream
abbrev pub source_rows : List Row
source_rows =
    optional key.Ssrc (whole 0 4294967295)
    ∷ required key.Clock (one_of clocks)
    ∷ optional key.Offset (whole 0 4294967295)
    ∷ []

-- the rows of the latency, the window and the number of paths
abbrev pub wait_rows : List Row
wait_rows =
    required key.Latency (whole 0 4294967295)
    ∷ required key.Window (whole 0 65535)
    ∷ optional key.Paths (whole 1 4)
    ∷ []

-- the rows of the UDP ports at which the paths are received
abbrev pub port_rows : List Row
port_rows =
    optional key.PortA (whole 1 65535)
    ∷ optional key.PortB (whole 1 65535)
    ∷ optional key.PortC (whole 1 65535)
    ∷ optional key.PortD (whole 1 65535)
    ∷ []

-- the row of the name of a stream, which is for people only
abbrev pub name_rows : List Row
name_rows = optional key.Name (a_text 64) ∷ []

abbrev pub stream_rows : List Row
stream_rows = packet_rows ++ source_rows ++ wait_rows ++ port_rows ++ path_rows ++ name_rows

-- the clock that a table names; the media clock has the table's offset, or 0 if it is absent
abbrev pub clock_of : Members → StreamClock
clock_of members = with_offset (clock_named (text_at members key.Clock)) (number_or members key.Offset 0)

-- the stream that a table describes; it has two paths if their number is absent
abbrev pub stream_of : Members → Stream
stream_of members = record {
  enc = encoding_at members key.Encoding;
  channels = number_or members key.Channels 0;
  frames = number_or members key.Frames 0;
  pt = number_or members key.Pt 0;
  ssrc = number_at members key.Ssrc;
  clock = clock_of members;
  latency = number_or members key.Latency 0;
  window = number_or members key.Window 0;
  paths = number_or members key.Paths 2;
}

-- the ports of a stream's paths
abbrev pub ports_of : Members → List (Option ℕ)
ports_of members = number_at members key.PortA ∷ number_at members key.PortB ∷ number_at members key.PortC ∷ number_at members key.PortD ∷ []

-- the first fault of a stream's table: of its keys, then of the stream that it describes
abbrev pub stream_fault : ConfigTable → Members → Option SpecError
stream_fault place members =
    first_of (table_fault place stream_rows members) (at_table place (option_map kind.Stream (spec_fault_of (stream_of members))))
