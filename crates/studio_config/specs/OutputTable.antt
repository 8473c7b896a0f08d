-- The table of the output and those of its changes: their rows, their values, and the first fault.
use Rattle.std.specs.Prelude.{ℕ, ◌+◌, ℤ, pos, ◌&&◌, ◌==◌, nat_le, Bool, List, [], ◌∷◌, ◌++◌, map, length, Option, Some, None, option_map, if◌then◌else◌}
use Rattle.std.specs.List.{list_all}
use Rattle.std.specs.Int.RustNames.{unsigned_abs}
use Rattle.gain_mix.specs.Changes.{Changes}
use Rattle.gain_mix.specs.Matrix.{has_range}
use Rattle.gain_mix.specs.Schedule.{schedule_fault_of}
use Rattle.gain_mix.specs.declared.matrix.MatrixFault.{MatrixFault}
use Rattle.gain_mix.specs.declared.matrix.MatrixFault.TheVariants.{Shape, Range}
use Rattle.mix_packets.specs.declared.out_spec.Output.{Output}
use Rattle.mix_packets.specs.OutSpec.{out_fault_of}
use Rattle.toml.specs.Data.{Members}
use Rattle.studio_config.specs.Values.{number_or, encoding_at, tables_at, gains_at}
use Rattle.studio_config.specs.Rows.{Row, required, optional, whole, one_of, output_clocks, tables, gains, key_of, first_of, first_in, at_key, at_table, row_fault, rows_fault, unknown_fault, table_fault}
use Rattle.studio_config.specs.NetworkTable.{sender_rows}
use Rattle.studio_config.specs.StreamTable.{packet_rows}
use Rattle.studio_config.specs.declared.config.keys.Key.TheVariants as key
use Rattle.studio_config.specs.declared.config.fault.ConfigTable.{ConfigTable}
use Rattle.studio_config.specs.declared.config.fault.ConfigTable.TheVariants as place
use Rattle.studio_config.specs.declared.config.fault.SpecErrorKind.TheVariants as kind
use Rattle.studio_config.specs.declared.config.fault.SpecError.{SpecError}

-- the rows of the packets' source, and of the numbers of the first packet
abbrev pub number_rows : List Row
number_rows =
    required key.Ssrc (whole 0 4294967295)
    ∷ required key.Seq (whole 0 65535)
    ∷ required key.Start (whole 0 1152921504606846976)
    ∷ optional key.Offset (whole 0 4294967295)
    ∷ []

-- the row of the gains before any change
abbrev pub gains_row : Row
gains_row = required key.Gains gains

-- the row of the changes of gains
abbrev pub change_row : Row
change_row = optional key.Change tables

-- the rows of the UDP ports to which the two copies of each packet are sent
abbrev pub address_rows : List Row
address_rows =
    optional key.ToA (whole 1 65535)
    ∷ optional key.ToB (whole 1 65535)
    ∷ []

-- the rows of the output's clock, and of the delay of copies in which streams are missing
abbrev pub timing_rows : List Row
timing_rows =
    optional key.Clock (one_of output_clocks)
    ∷ optional key.Late (whole 0 4800)
    ∷ []

abbrev pub output_rows : List Row
output_rows = packet_rows ++ number_rows ++ gains_row ∷ change_row ∷ address_rows ++ sender_rows ++ timing_rows

-- the rows of a change: its time, and the gains from then on
abbrev pub change_rows : List Row
change_rows =
    required key.At (whole 0 1152921504606846976)
    ∷ required key.Gains gains
    ∷ []

-- the output that a table describes
abbrev pub output_of : Members → Output
output_of members = record {
  enc = encoding_at members key.Encoding;
  channels = number_or members key.Channels 0;
  frames = number_or members key.Frames 0;
  pt = number_or members key.Pt 0;
  ssrc = number_or members key.Ssrc 0;
  seq0 = number_or members key.Seq 0;
  start = pos (number_or members key.Start 0);
  offset = number_or members key.Offset 0;
}

-- the change that a table describes
abbrev pub change_of : Members → ℤ × List (List ℤ)
change_of members = (pos (number_or members key.At 0), gains_at members key.Gains)

-- the gains and their changes that the output's table describes
abbrev pub schedule_of : Members → Changes
schedule_of members = record { first = gains_at members key.Gains; later = map change_of (tables_at members key.Change) }

-- a gain, in units of 1/65,536, is from -16 to 16
abbrev pub is_gain : ℤ → Bool
is_gain gain = nat_le (unsigned_abs gain) 1048576

-- there are `outs` rows of `ins` gains each
abbrev pub has_rows : ℕ → ℕ → List (List ℤ) → Bool
has_rows outs ins rows = (length rows == outs) && list_all (λ row. length row == ins) rows

-- the first fault of gains for `outs` outputs and `ins` inputs: their shape, then their range
abbrev pub gains_fault : ℕ → ℕ → List (List ℤ) → Option MatrixFault
gains_fault outs ins rows = if has_rows outs ins rows then if list_all has_range rows then None else Some Range else Some Shape

-- the first fault of tables that are numbered from `n` on
abbrev pub each_fault : (ℕ → Members → Option SpecError) → ℕ → List Members → Option SpecError
each_fault fault n [] = None
each_fault fault n (members ∷ more) = first_of (fault n members) (each_fault fault (n + 1) more)

-- the first fault of a change's table
abbrev pub change_fault : ℕ → Members → Option SpecError
change_fault n members = table_fault (place.Change n) change_rows members

-- the fault of the gains of a table, for `outs` outputs and `ins` inputs
abbrev pub matrix_fault : ℕ → ℕ → ConfigTable → Members → Option SpecError
matrix_fault outs ins place members = at_key place key.Gains (option_map kind.Gains (gains_fault outs ins (gains_at members key.Gains)))

-- the first fault of the gains and their changes, once all of them are arrays of arrays of numbers
abbrev pub schedule_fault : ℕ → ℕ → Members → Option SpecError
schedule_fault outs ins members =
    first_in (
    matrix_fault outs ins place.Output members
    ∷ each_fault (λ n. matrix_fault outs ins (place.Change n)) 0 (tables_at members key.Change)
    ∷ at_key place.Output key.Change (option_map kind.Schedule (schedule_fault_of (gains_at members key.Gains) (map change_of (tables_at members key.Change))))
    ∷ [])

-- the first fault of the output's table, if the streams have `ins` channels: of its keys, with the tables of changes
-- right after their key, then of the output that the table describes, then of the gains
abbrev pub output_fault : ℕ → Members → Option SpecError
output_fault ins members =
    first_in (
    rows_fault place.Output members packet_rows
    ∷ rows_fault place.Output members number_rows
    ∷ row_fault place.Output members gains_row
    ∷ row_fault place.Output members change_row
    ∷ each_fault change_fault 0 (tables_at members key.Change)
    ∷ rows_fault place.Output members address_rows
    ∷ rows_fault place.Output members sender_rows
    ∷ rows_fault place.Output members timing_rows
    ∷ unknown_fault place.Output (map key_of output_rows) members
    ∷ at_table place.Output (option_map kind.Output (out_fault_of (output_of members)))
    ∷ schedule_fault (number_or members key.Channels 0) ins members
    ∷ [])
