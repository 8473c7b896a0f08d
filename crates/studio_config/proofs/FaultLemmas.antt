-- First faults, group by group of rows.
use Rattle.std.proofs.Common.{◌≡◌, ℕ, List, [], ◌∷◌, ◌++◌, map, Option, Some, None, option_map, refl, ap, ◌∙◌}
use Rattle.toml.specs.Data.{Members}
use Rattle.studio_config.specs.Studio.{channel_total}
use Rattle.studio_config.specs.Config.{top_rows, streams_of, output_clock_of, run_studio_of, config_fault_of}
use Rattle.studio_config.specs.OutputClock.{clock_fault_of}
use Rattle.studio_config.specs.Rows.{Row, required, whole, few_tables, a_table, key_of, first_of, first_in, at_table, row_fault, rows_fault, unknown_fault, table_fault}
use Rattle.studio_config.specs.NetworkTable.{path_rows, sender_rows}
use Rattle.studio_config.specs.StreamTable.{packet_rows, source_rows, wait_rows, port_rows, name_rows, stream_rows, stream_fault}
use Rattle.studio_config.specs.OutputTable.{number_rows, gains_row, change_row, address_rows, timing_rows, output_rows, output_of, each_fault, change_fault, schedule_fault, output_fault}
use Rattle.studio_config.specs.declared.config.fault.ConfigTable.{ConfigTable}
use Rattle.studio_config.specs.declared.config.fault.ConfigTable.TheVariants as at
use Rattle.studio_config.specs.declared.config.fault.SpecErrorKind.TheVariants as kind
use Rattle.studio_config.specs.declared.config.keys.Key.TheVariants as key
use Rattle.studio_config.specs.Values.{number_or, tables_at, table_at}
use Rattle.mix_packets.specs.OutSpec.{out_fault_of}
use Rattle.studio_config.specs.declared.config.fault.SpecError.{SpecError}

first_of-first_of : {E : Type 0} (a b c : Option E) → first_of a (first_of b c) ≡ first_of (first_of a b) c
first_of-first_of (Some e) b c = refl
first_of-first_of None b c = refl

-- the first fault of rows that follow other rows
pub rows_fault-append : (place : ConfigTable) (m : Members) (rows more : List Row) → rows_fault place m (rows ++ more) ≡ first_of (rows_fault place m rows) (rows_fault place m more)
rows_fault-append place m [] more = refl
rows_fault-append place m (row ∷ rows) more = ap (first_of (row_fault place m row)) (rows_fault-append place m rows more) ∙ first_of-first_of (row_fault place m row) (rows_fault place m rows) (rows_fault place m more)

-- the rows of a stream's table, group by group
abbrev stream_parts : ConfigTable → Members → Option SpecError
stream_parts place m =
    first_of (rows_fault place m packet_rows) (first_of (rows_fault place m source_rows) (first_of (rows_fault place m wait_rows)
    (first_of (rows_fault place m port_rows) (first_of (rows_fault place m path_rows) (rows_fault place m name_rows)))))

pub stream_rows-fault : (place : ConfigTable) (m : Members) → rows_fault place m stream_rows ≡ stream_parts place m
stream_rows-fault place m =
    rows_fault-append place m packet_rows (source_rows ++ wait_rows ++ port_rows ++ path_rows ++ name_rows)
    ∙ ap (first_of (rows_fault place m packet_rows)) (rows_fault-append place m source_rows (wait_rows ++ port_rows ++ path_rows ++ name_rows)
    ∙ ap (first_of (rows_fault place m source_rows)) (rows_fault-append place m wait_rows (port_rows ++ path_rows ++ name_rows)
    ∙ ap (first_of (rows_fault place m wait_rows)) (rows_fault-append place m port_rows (path_rows ++ name_rows)
    ∙ ap (first_of (rows_fault place m port_rows)) (rows_fault-append place m path_rows name_rows))))

-- a fault of a key is the fault of the stream's table
pub stream_fault-rows : (place : ConfigTable) (m : Members) (e : SpecError) → stream_parts place m ≡ Some e → stream_fault place m ≡ Some e
stream_fault-rows place m e faulty =
    let rows : rows_fault place m stream_rows ≡ Some e = stream_rows-fault place m ∙ faulty in
    rw rows

-- the first of two faults: the earlier one, or the later one if there is no earlier one
pub first_of-some : {E : Type 0} (a later : Option E) (e : E) → a ≡ Some e → first_of a later ≡ Some e
first_of-some a later e is = rw is

pub first_of-none : {E : Type 0} (a later : Option E) (e : E) → a ≡ None → later ≡ Some e → first_of a later ≡ Some e
first_of-none a later e none is = rw (none, is)

-- the first of five faults and a later one
module _ {E : Type 0} (a b c d f later : Option E) (e : E) where
  abbrev all : Option E
  all = first_of a (first_of b (first_of c (first_of d (first_of f later))))

  first_in-1 : a ≡ Some e → all ≡ Some e
  first_in-1 is = rw is

  first_in-2 : a ≡ None → b ≡ Some e → all ≡ Some e
  first_in-2 none is = rw (none, is)

  first_in-3 : a ≡ None → b ≡ None → c ≡ Some e → all ≡ Some e
  first_in-3 none second is = rw (none, second, is)

  first_in-4 : a ≡ None → b ≡ None → c ≡ None → d ≡ Some e → all ≡ Some e
  first_in-4 none second third is = rw (none, second, third, is)

  first_in-5 : a ≡ None → b ≡ None → c ≡ None → d ≡ None → f ≡ Some e → all ≡ Some e
  first_in-5 none second third fourth is = rw (none, second, third, fourth, is)

-- the first fault of the output's table after the faults of its keys
abbrev after_keys : ℕ → Members → Option SpecError
after_keys ins m =
    first_in (
    at_table at.Output (option_map kind.Output (out_fault_of (output_of m)))
    ∷ schedule_fault (number_or m key.Channels 0) ins m
    ∷ [])

-- the first fault of the output's table after the key of its changes
abbrev after_changes : ℕ → Members → Option SpecError
after_changes ins m =
    first_of (each_fault change_fault 0 (tables_at m key.Change))
    (first_of (rows_fault at.Output m address_rows) (first_of (rows_fault at.Output m sender_rows) (first_of (rows_fault at.Output m timing_rows) (first_of (unknown_fault at.Output (map key_of output_rows) m) (after_keys ins m)))))

-- the first fault of the output's table after its gains
abbrev after_gains : ℕ → Members → Option SpecError
after_gains ins m = first_of (row_fault at.Output m change_row) (after_changes ins m)

-- a fault of the first keys of the output's table is the fault of the table
pub output_fault-packets : (ins : ℕ) (m : Members) (e : SpecError) → rows_fault at.Output m packet_rows ≡ Some e → output_fault ins m ≡ Some e
output_fault-packets ins m e is = first_of-some (rows_fault at.Output m packet_rows) (first_of (rows_fault at.Output m number_rows) (first_of (row_fault at.Output m gains_row) (after_gains ins m))) e is

pub output_fault-numbers : (ins : ℕ) (m : Members) (e : SpecError) → rows_fault at.Output m packet_rows ≡ None → rows_fault at.Output m number_rows ≡ Some e → output_fault ins m ≡ Some e
output_fault-numbers ins m e packets is =
    let later = first_of (row_fault at.Output m gains_row) (after_gains ins m) in
    first_of-none (rows_fault at.Output m packet_rows) (first_of (rows_fault at.Output m number_rows) later) e packets (first_of-some (rows_fault at.Output m number_rows) later e is)

pub output_fault-gains : (ins : ℕ) (m : Members) (e : SpecError) → rows_fault at.Output m packet_rows ≡ None → rows_fault at.Output m number_rows ≡ None → row_fault at.Output m gains_row ≡ Some e → output_fault ins m ≡ Some e
output_fault-gains ins m e packets numbers is =
    let later = first_of (row_fault at.Output m gains_row) (after_gains ins m) in
    first_of-none (rows_fault at.Output m packet_rows) (first_of (rows_fault at.Output m number_rows) later) e packets
    (first_of-none (rows_fault at.Output m number_rows) later e numbers (first_of-some (row_fault at.Output m gains_row) (after_gains ins m) e is))

-- the keys of the output's table up to its gains have no fault
module _ (ins : ℕ) (m : Members) (e : SpecError) (packets : rows_fault at.Output m packet_rows ≡ None) (numbers : rows_fault at.Output m number_rows ≡ None) (gains : row_fault at.Output m gains_row ≡ None) where
  -- a fault after the gains is the fault of the output's table
  output_fault-after : after_gains ins m ≡ Some e → output_fault ins m ≡ Some e
  output_fault-after is =
      let later = first_of (row_fault at.Output m gains_row) (after_gains ins m) in
      first_of-none (rows_fault at.Output m packet_rows) (first_of (rows_fault at.Output m number_rows) later) e packets
      (first_of-none (rows_fault at.Output m number_rows) later e numbers (first_of-none (row_fault at.Output m gains_row) (after_gains ins m) e gains is))

  pub output_fault-changes : row_fault at.Output m change_row ≡ Some e → output_fault ins m ≡ Some e
  output_fault-changes is = output_fault-after (first_of-some (row_fault at.Output m change_row) (after_changes ins m) e is)

  module _ (changes : row_fault at.Output m change_row ≡ None) where
    output_fault-later : after_changes ins m ≡ Some e → output_fault ins m ≡ Some e
    output_fault-later is = output_fault-after (first_of-none (row_fault at.Output m change_row) (after_changes ins m) e changes is)

    pub output_fault-each : each_fault change_fault 0 (tables_at m key.Change) ≡ Some e → output_fault ins m ≡ Some e
    output_fault-each is = output_fault-later (first_in-1 (each_fault change_fault 0 (tables_at m key.Change)) (rows_fault at.Output m address_rows) (rows_fault at.Output m sender_rows) (rows_fault at.Output m timing_rows) (unknown_fault at.Output (map key_of output_rows) m) (after_keys ins m) e is)

    pub output_fault-addresses : each_fault change_fault 0 (tables_at m key.Change) ≡ None → rows_fault at.Output m address_rows ≡ Some e → output_fault ins m ≡ Some e
    output_fault-addresses each is = output_fault-later (first_in-2 (each_fault change_fault 0 (tables_at m key.Change)) (rows_fault at.Output m address_rows) (rows_fault at.Output m sender_rows) (rows_fault at.Output m timing_rows) (unknown_fault at.Output (map key_of output_rows) m) (after_keys ins m) e each is)

    pub output_fault-senders : each_fault change_fault 0 (tables_at m key.Change) ≡ None → rows_fault at.Output m address_rows ≡ None → rows_fault at.Output m sender_rows ≡ Some e → output_fault ins m ≡ Some e
    output_fault-senders each addresses is = output_fault-later (first_in-3 (each_fault change_fault 0 (tables_at m key.Change)) (rows_fault at.Output m address_rows) (rows_fault at.Output m sender_rows) (rows_fault at.Output m timing_rows) (unknown_fault at.Output (map key_of output_rows) m) (after_keys ins m) e each addresses is)

    pub output_fault-timing : each_fault change_fault 0 (tables_at m key.Change) ≡ None → rows_fault at.Output m address_rows ≡ None → rows_fault at.Output m sender_rows ≡ None → rows_fault at.Output m timing_rows ≡ Some e → output_fault ins m ≡ Some e
    output_fault-timing each addresses senders is = output_fault-later (first_in-4 (each_fault change_fault 0 (tables_at m key.Change)) (rows_fault at.Output m address_rows) (rows_fault at.Output m sender_rows) (rows_fault at.Output m timing_rows) (unknown_fault at.Output (map key_of output_rows) m) (after_keys ins m) e each addresses senders is)

    pub output_fault-unknown : each_fault change_fault 0 (tables_at m key.Change) ≡ None → rows_fault at.Output m address_rows ≡ None → rows_fault at.Output m sender_rows ≡ None → rows_fault at.Output m timing_rows ≡ None → unknown_fault at.Output (map key_of output_rows) m ≡ Some e → output_fault ins m ≡ Some e
    output_fault-unknown each addresses senders timing is = output_fault-later (first_in-5 (each_fault change_fault 0 (tables_at m key.Change)) (rows_fault at.Output m address_rows) (rows_fault at.Output m sender_rows) (rows_fault at.Output m timing_rows) (unknown_fault at.Output (map key_of output_rows) m) (after_keys ins m) e each addresses senders timing is)

-- the first of a fault and of no fault
first_of-nothing : {E : Type 0} (a : Option E) → first_of a None ≡ a
first_of-nothing (Some e) = refl
first_of-nothing None = refl

-- the top table has no fault if none of its rows has one
pub top_fault-none : (m : Members) → row_fault at.Top m (required key.OpenAt (whole 0 1152921504606846976)) ≡ None → row_fault at.Top m (required key.Stream (few_tables 1 16)) ≡ None → row_fault at.Top m (required key.Output a_table) ≡ None → unknown_fault at.Top (map key_of top_rows) m ≡ None → table_fault at.Top top_rows m ≡ None
top_fault-none m open_at streams output known = rw (open_at, streams, output, known)

-- the tables of a configuration before its output's have no fault
module _ (m : Members) (top : table_fault at.Top top_rows m ≡ None) (streams : each_fault (λ n. stream_fault (at.Stream n)) 0 (tables_at m key.Stream) ≡ None) where
  -- it has the fault of its output, if there is one
  pub config_fault-output : (e : SpecError) → output_fault (channel_total (streams_of m)) (table_at m key.Output) ≡ Some e → config_fault_of m ≡ Some e
  config_fault-output e is = rw (top, streams, is)

  -- and that of its output's clock otherwise
  pub config_fault-clock : output_fault (channel_total (streams_of m)) (table_at m key.Output) ≡ None → config_fault_of m ≡ clock_fault_of (output_clock_of m) (run_studio_of m)
  config_fault-clock none = rw (top, streams, none) (first_of-nothing (clock_fault_of (output_clock_of m) (run_studio_of m)))

-- the first fault of a table of three rows, and of what comes after it
module _ {E : Type 0} (a b c unknown later : Option E) (e : E) where
  three-1 : a ≡ Some e → first_of (first_of (first_of a (first_of b (first_of c None))) unknown) later ≡ Some e
  three-1 is = rw is

  three-2 : a ≡ None → b ≡ Some e → first_of (first_of (first_of a (first_of b (first_of c None))) unknown) later ≡ Some e
  three-2 none is = rw (none, is)

  three-3 : a ≡ None → b ≡ None → c ≡ Some e → first_of (first_of (first_of a (first_of b (first_of c None))) unknown) later ≡ Some e
  three-3 none second is = rw (none, second, is)

  three-unknown : a ≡ None → b ≡ None → c ≡ None → unknown ≡ Some e → first_of (first_of (first_of a (first_of b (first_of c None))) unknown) later ≡ Some e
  three-unknown none second third is = rw (none, second, third, is)

-- a fault of the top table is the fault of the configuration
module _ (m : Members) (e : SpecError) where
  abbrev open_at_fault : Option SpecError
  open_at_fault = row_fault at.Top m (required key.OpenAt (whole 0 1152921504606846976))

  abbrev tables_fault : Option SpecError
  tables_fault = row_fault at.Top m (required key.Stream (few_tables 1 16))

  abbrev output_table_fault : Option SpecError
  output_table_fault = row_fault at.Top m (required key.Output a_table)

  abbrev key_fault : Option SpecError
  key_fault = unknown_fault at.Top (map key_of top_rows) m

  abbrev streams_fault : Option SpecError
  streams_fault = each_fault (λ n. stream_fault (at.Stream n)) 0 (tables_at m key.Stream)

  abbrev later_fault : Option SpecError
  later_fault = first_of (output_fault (channel_total (streams_of m)) (table_at m key.Output)) (first_of (clock_fault_of (output_clock_of m) (run_studio_of m)) None)

  pub config_fault-open_at : open_at_fault ≡ Some e → config_fault_of m ≡ Some e
  config_fault-open_at is = three-1 open_at_fault tables_fault output_table_fault key_fault (first_of streams_fault later_fault) e is

  pub config_fault-tables : open_at_fault ≡ None → tables_fault ≡ Some e → config_fault_of m ≡ Some e
  config_fault-tables open_at is = three-2 open_at_fault tables_fault output_table_fault key_fault (first_of streams_fault later_fault) e open_at is

  pub config_fault-output_table : open_at_fault ≡ None → tables_fault ≡ None → output_table_fault ≡ Some e → config_fault_of m ≡ Some e
  config_fault-output_table open_at tables is = three-3 open_at_fault tables_fault output_table_fault key_fault (first_of streams_fault later_fault) e open_at tables is

  pub config_fault-unknown : open_at_fault ≡ None → tables_fault ≡ None → output_table_fault ≡ None → key_fault ≡ Some e → config_fault_of m ≡ Some e
  config_fault-unknown open_at tables output_table is = three-unknown open_at_fault tables_fault output_table_fault key_fault (first_of streams_fault later_fault) e open_at tables output_table is
