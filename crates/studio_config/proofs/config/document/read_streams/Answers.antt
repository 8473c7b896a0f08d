use Rattle.std.proofs.Common.{rules, ◌≡◌, ◌∷◌, ◌++◌, [], ℕ, ◌+◌, ◌≤◌, List, Err, length, take, map, slice_set, inr, ap, sym, ◌∙◌, arith}
use Rattle.std.proofs.lemmas.List.{length-map, length-take-le, map-append}
use Rattle.toml.specs.View.{view, table_view}
use Rattle.toml.specs.declared.value.Value.{Value}
use Rattle.studio_config.specs.Values.{members_in, is_table}
use Rattle.studio_config.specs.NetworkTable.{binds_of, sender_addresses_of}
use Rattle.studio_config.specs.StreamTable.{stream_of, ports_of, stream_fault}
use Rattle.studio_config.specs.Config.{port_table, bind_table, sender_table}
use Rattle.studio_config.specs.declared.config.fault.ConfigTable.TheVariants as at
use Rattle.studio_config.proofs.PortLemmas.{length-row_table, row_table-more}
use Rattle.studio_config.proofs.StepLemmas.{passes, map-more, map-all, fault-here, fault-later, fault-end}
use Rattle.studio_config.proofs.config.document.read_streams.Goals as goal

pub set_path_ports-requires : goal.set_path_ports-requires
set_path_ports-requires c =
    let ms = map (λ (t : Value). members_in (view t)) (take c.loop-number.number c.args.tables.now) in
    let count : length ms ≡ c.loop-number.number = length-map (take c.loop-number.number c.args.tables.now) (λ (t : Value). members_in (view t)) ∙ length-take-le c.loop-number.number c.args.tables.now (omega (arith, c.loop-number-test.true)) in
    let long : length c.loop-number.ports.paths ≡ 16 = ap length c.loop-number.invariant.rows ∙ length-row_table ports_of ms (omega (arith, count, c.loop-number-test.true, c.requires.few)) in
    omega (arith, long, count, c.loop-number-test.true, c.requires.few)

pub set_path_addresses-requires-clause-paths : goal.set_path_addresses-requires-clause-paths
set_path_addresses-requires-clause-paths c =
    let ms = map (λ (t : Value). members_in (view t)) (take c.loop-number.number c.args.tables.now) in
    let count : length ms ≡ c.loop-number.number = length-map (take c.loop-number.number c.args.tables.now) (λ (t : Value). members_in (view t)) ∙ length-take-le c.loop-number.number c.args.tables.now (omega (arith, c.loop-number-test.true)) in
    let long : length c.loop-number.networks.paths ≡ 16 = ap length c.loop-number.invariant.receive_at ∙ length-row_table binds_of ms (omega (arith, count, c.loop-number-test.true, c.requires.few)) in
    omega (arith, long, count, c.loop-number-test.true, c.requires.few)

pub set_path_addresses-requires-clause-sources : goal.set_path_addresses-requires-clause-sources
set_path_addresses-requires-clause-sources c =
    let ms = map (λ (t : Value). members_in (view t)) (take c.loop-number.number c.args.tables.now) in
    let count : length ms ≡ c.loop-number.number = length-map (take c.loop-number.number c.args.tables.now) (λ (t : Value). members_in (view t)) ∙ length-take-le c.loop-number.number c.args.tables.now (omega (arith, c.loop-number-test.true)) in
    let long : length c.loop-number.networks.sources ≡ 16 = ap length c.loop-number.invariant.sources ∙ length-row_table sender_addresses_of ms (omega (arith, count, c.loop-number-test.true, c.requires.few)) in
    omega (arith, long, count, c.loop-number-test.true, c.requires.few)

pub loop-number-preserved : goal.loop-number-preserved
loop-number-preserved c =
    let n = c.loop-number.number in
    let tables = c.args.tables.now in
    let value = c.index-tables-number.result in
    let m = members_in (view value) in
    let read = λ (t : Value). members_in (view t) in
    let ms = map read (take n tables) in
    let fault = λ (k : ℕ). stream_fault (at.Stream k) in
    let table : table_view c.table_of.result.now ≡ m = c.table_of.ensures in
    let read_more : map read (take (n + 1) tables) ≡ ms ++ m ∷ [] = map-more tables n read value c.loop-number-test.true c.index-tables-number.is in
    let count : length ms ≡ n = length-map (take n tables) read ∙ length-take-le n tables (omega (arith, c.loop-number-test.true)) in
    let pushed : c.push.new.self.items ≡ c.loop-number.streams.items ++ c.in_ok-entry.entry.spec ∷ [] = search rules in
    let so_far : c.push.new.self.items ≡ map stream_of (map read (take (n + 1) tables)) =
    pushed
    ∙ ap (λ items. items ++ c.in_ok-entry.entry.spec ∷ []) c.loop-number.invariant.so_far
    ∙ ap (λ stream. map stream_of ms ++ stream ∷ []) (c.in_ok-entry.ensures.stream ∙ ap stream_of table)
    ∙ sym (map-append stream_of ms (m ∷ []))
    ∙ ap (map stream_of) (sym read_more) in
    let rows : c.set_path_ports.new.self.paths ≡ port_table (map read (take (n + 1) tables)) =
    c.set_path_ports.ensures
    ∙ ap (λ paths. slice_set paths n c.in_ok-entry.entry.ports) c.loop-number.invariant.rows
    ∙ ap (slice_set (port_table ms) n) (c.in_ok-entry.ensures.ports ∙ ap ports_of table)
    ∙ ap (λ k. slice_set (port_table ms) k (ports_of m)) (sym count)
    ∙ row_table-more ports_of ms m (omega (arith, count, c.loop-number-test.true, c.requires.few))
    ∙ ap port_table (sym read_more) in
    let receive_at : c.set_path_addresses.new.self.paths ≡ bind_table (map read (take (n + 1) tables)) =
    c.set_path_addresses.ensures.paths
    ∙ ap (λ paths. slice_set paths n c.in_ok-entry.entry.addresses.receive_at) c.loop-number.invariant.receive_at
    ∙ ap (slice_set (bind_table ms) n) (c.in_ok-entry.ensures.receive_at ∙ ap binds_of table)
    ∙ ap (λ k. slice_set (bind_table ms) k (binds_of m)) (sym count)
    ∙ row_table-more binds_of ms m (omega (arith, count, c.loop-number-test.true, c.requires.few))
    ∙ ap bind_table (sym read_more) in
    let sources : c.set_path_addresses.new.self.sources ≡ sender_table (map read (take (n + 1) tables)) =
    c.set_path_addresses.ensures.sources
    ∙ ap (λ sources. slice_set sources n c.in_ok-entry.entry.addresses.sources) c.loop-number.invariant.sources
    ∙ ap (slice_set (sender_table ms) n) (c.in_ok-entry.ensures.sources ∙ ap sender_addresses_of table)
    ∙ ap (λ k. slice_set (sender_table ms) k (sender_addresses_of m)) (sym count)
    ∙ row_table-more sender_addresses_of ms m (omega (arith, count, c.loop-number-test.true, c.requires.few))
    ∙ ap sender_table (sym read_more) in
    let left = c.loop-number.invariant.left ∙ fault-later tables n fault read value c.loop-number-test.true c.index-tables-number.is (ap (fault n) (sym table) ∙ c.in_ok-entry.ensures.ok) in
    record { so_far = so_far; rows = rows; receive_at = receive_at; sources = sources; left = left }

pub table_of-requires : goal.table_of-requires
table_of-requires c =
    passes c.args.tables.now c.loop-number.number (λ t. is_table (view t)) c.index-tables-number.result c.requires.tables c.loop-number-test.true c.index-tables-number.is

pub returns-in_err-entry-clause-fault : goal.returns-in_err-entry-clause-fault
returns-in_err-entry-clause-fault c =
    let read = λ (t : Value). members_in (view t) in
    let fault = λ (k : ℕ). stream_fault (at.Stream k) in
    let e = c.in_err-entry.field-0.0 in
    let is : c.from_residual.result ≡ Err e = search rules in
    rw is (inr (c.loop-number.invariant.left ∙ fault-here c.args.tables.now c.loop-number.number fault read c.index-tables-number.result e c.loop-number-test.true c.index-tables-number.is (ap (fault c.loop-number.number) (sym c.table_of.ensures) ∙ c.in_err-entry.ensures.fault)))

pub returns-clause-ok : goal.returns-clause-ok
returns-clause-ok c =
    c.loop-number.invariant.left
    ∙ fault-end c.args.tables.now c.loop-number.number (λ (k : ℕ). stream_fault (at.Stream k)) (λ (t : Value). members_in (view t)) c.loop-number-test.false

-- the tables that were read, once all of them were read
all : (tables : List Value) (n : ℕ) → length tables ≤ n → map (λ (t : Value). members_in (view t)) (take n tables) ≡ map (λ (t : Value). members_in (view t)) tables
all tables n end = map-all tables n (λ (t : Value). members_in (view t)) end

pub returns-clause-streams : goal.returns-clause-streams
returns-clause-streams c = c.loop-number.invariant.so_far ∙ ap (map stream_of) (all c.args.tables.now c.loop-number.number c.loop-number-test.false)

pub returns-clause-ports : goal.returns-clause-ports
returns-clause-ports c = c.loop-number.invariant.rows ∙ ap port_table (all c.args.tables.now c.loop-number.number c.loop-number-test.false)

pub returns-clause-receive_at : goal.returns-clause-receive_at
returns-clause-receive_at c = c.loop-number.invariant.receive_at ∙ ap bind_table (all c.args.tables.now c.loop-number.number c.loop-number-test.false)

pub returns-clause-sources : goal.returns-clause-sources
returns-clause-sources c = c.loop-number.invariant.sources ∙ ap sender_table (all c.args.tables.now c.loop-number.number c.loop-number-test.false)
