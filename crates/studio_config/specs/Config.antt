-- A whole configuration: the studio that it describes, or its first fault.
use Rattle.std.specs.Prelude.{ℕ, ◌-◌, pos, List, [], ◌∷◌, ◌++◌, map, length, Option, None}
use Rattle.std.specs.declared.net.ipv4_addr.Ipv4Addr.{Ipv4Addr}
use Rattle.toml.specs.Data.{Members}
use Rattle.rtp_stream.specs.declared.stream_spec.Stream.{Stream}
use Rattle.studio_config.specs.Ports.{absent_rows}
use Rattle.studio_config.specs.Studio.{Studio, channel_total}
use Rattle.studio_config.specs.OutputClock.{by_clock, clock_fault_of}
use Rattle.studio_config.specs.declared.output_clock.OutputClock.{OutputClock}
use Rattle.studio_config.specs.declared.output_clock.OutputClock.TheVariants.{Run}
use Rattle.studio_config.specs.Values.{number_at, number_or, output_clock_at, tables_at, table_at}
use Rattle.studio_config.specs.Rows.{Row, required, whole, few_tables, a_table, first_in, table_fault}
use Rattle.studio_config.specs.NetworkTable.{binds_of, sender_addresses_of, senders_of}
use Rattle.studio_config.specs.StreamTable.{stream_of, ports_of, stream_fault}
use Rattle.studio_config.specs.OutputTable.{output_of, schedule_of, each_fault, output_fault}
use Rattle.studio_config.specs.declared.config.keys.Key.TheVariants as key
use Rattle.studio_config.specs.declared.config.fault.ConfigTable.TheVariants as place
use Rattle.studio_config.specs.declared.config.fault.SpecErrorKind.TheVariants as kind
use Rattle.studio_config.specs.declared.config.fault.SpecError.{SpecError}

abbrev pub top_rows : List Row
top_rows =
    required key.OpenAt (whole 0 1152921504606846976)
    ∷ required key.Stream (few_tables 1 16)
    ∷ required key.Output a_table
    ∷ []

-- the streams that a configuration describes
abbrev pub streams_of : Members → List Stream
streams_of members = map stream_of (tables_at members key.Stream)

-- sixteen rows: one for each of the streams, and then rows of `None`
abbrev pub row_table : {A : Type 0} → (Members → List (Option A)) → List Members → List (List (Option A))
row_table row streams = map row streams ++ absent_rows (16 - length streams)

-- the ports of the streams' paths, the addresses at which they are received, and their source addresses
abbrev pub port_table : List Members → List (List (Option ℕ))
port_table = row_table ports_of

abbrev pub bind_table : List Members → List (List (Option Ipv4Addr))
bind_table = row_table binds_of

abbrev pub sender_table : List Members → List (List (Option Ipv4Addr))
sender_table = row_table sender_addresses_of

-- the clock of the output that a configuration describes
abbrev pub output_clock_of : Members → OutputClock
output_clock_of members = output_clock_at (table_at members key.Output) key.Clock

-- the studio that a configuration describes, with its output by the clock of the run
abbrev pub run_studio_of : Members → Studio
run_studio_of members = record {
  open_at = pos (number_or members key.OpenAt 0);
  streams = streams_of members;
  output = output_of (table_at members key.Output);
  clock = Run;
  schedule = schedule_of (table_at members key.Output);
  ports = record {
    paths = port_table (tables_at members key.Stream);
    to_a = number_at (table_at members key.Output) key.ToA;
    to_b = number_at (table_at members key.Output) key.ToB;
  };
  networks = record {
    paths = bind_table (tables_at members key.Stream);
    sources = sender_table (tables_at members key.Stream);
    output = senders_of (table_at members key.Output);
  };
  late = number_or (table_at members key.Output) key.Late 0;
}

-- the studio that a configuration describes
abbrev pub studio_of : Members → Studio
studio_of members = by_clock (output_clock_of members) (run_studio_of members)

-- the first fault of a configuration: of the top table, then of each stream's table, then of the output's table, then of
-- the output's clock
abbrev pub config_fault_of : Members → Option SpecError
config_fault_of members =
    first_in (
    table_fault place.Top top_rows members
    ∷ each_fault (λ n. stream_fault (place.Stream n)) 0 (tables_at members key.Stream)
    ∷ output_fault (channel_total (streams_of members)) (table_at members key.Output)
    ∷ clock_fault_of (output_clock_of members) (run_studio_of members)
    ∷ [])

-- the error for an allocation failure
abbrev pub no_memory : SpecError
no_memory = record { place = place.Top; key = None; kind = kind.Memory }
