use Rattle.std.proofs.lemmas.Grind.{elements}
use Rattle.std.proofs.Common.{◌≡◌, Err, None, inr, ap, sym, ◌∙◌, rules, arith}
use Rattle.toml.specs.View.{table_view}
use Rattle.studio_config.specs.OutputTable.{each_fault, change_fault}
use Rattle.studio_config.specs.declared.config.keys.Key.TheVariants as key
use Rattle.studio_config.specs.Values.{tables_at}
use Rattle.studio_config.proofs.FaultLemmas.{output_fault-packets, output_fault-numbers, output_fault-gains, output_fault-changes, output_fault-each, output_fault-addresses, output_fault-senders, output_fault-timing, output_fault-unknown}
use Rattle.studio_config.proofs.config.output.read_output.Goals as goal

pub returns-in_err-packets-clause-fault : goal.returns-in_err-packets-clause-fault
returns-in_err-packets-clause-fault c =
    let is : c.from_residual.result ≡ Err c.in_err-packets.field-0.0 = search rules in
    rw is (inr (output_fault-packets c.args.ins (table_view c.args.table.now) _ c.in_err-packets.ensures.fault))

pub returns-in_err-numbers-clause-fault : goal.returns-in_err-numbers-clause-fault
returns-in_err-numbers-clause-fault c =
    let is : c.from_residual-in_err-numbers.result ≡ Err c.in_err-numbers.field-0.0 = search rules in
    rw is (inr (output_fault-numbers c.args.ins (table_view c.args.table.now) _ c.in_ok-packets.ensures.ok c.in_err-numbers.ensures.fault))

pub returns-in_err-check_gains-clause-fault : goal.returns-in_err-check_gains-clause-fault
returns-in_err-check_gains-clause-fault c =
    let is : c.from_residual-in_err-check_gains.result ≡ Err c.in_err-check_gains.field-0.0 = search rules in
    rw is (inr (output_fault-gains c.args.ins (table_view c.args.table.now) _ c.in_ok-packets.ensures.ok c.in_ok-numbers.ensures.ok c.in_err-check_gains.ensures.fault))

pub returns-in_err-changes-clause-fault : goal.returns-in_err-changes-clause-fault
returns-in_err-changes-clause-fault c =
    let is : c.from_residual-in_err-changes.result ≡ Err c.in_err-changes.field-0.0 = search rules in
    rw is (inr (output_fault-changes c.args.ins (table_view c.args.table.now) _ c.in_ok-packets.ensures.ok c.in_ok-numbers.ensures.ok c.in_ok-check_gains.ensures.ok c.in_err-changes.ensures.fault))

pub returns-in_err-check_changes-clause-fault : goal.returns-in_err-check_changes-clause-fault
returns-in_err-check_changes-clause-fault c =
    let is : c.from_residual-in_err-check_changes.result ≡ Err c.in_err-check_changes.field-0.0 = search rules in
    rw is (inr (output_fault-each c.args.ins (table_view c.args.table.now) _ c.in_ok-packets.ensures.ok c.in_ok-numbers.ensures.ok c.in_ok-check_gains.ensures.ok c.in_ok-changes.ensures.ok (ap (each_fault change_fault 0) (sym c.in_ok-changes.ensures.tables) ∙ c.in_err-check_changes.ensures.fault)))

pub returns-in_err-addresses-clause-fault : goal.returns-in_err-addresses-clause-fault
returns-in_err-addresses-clause-fault c =
    let is : c.from_residual-in_err-addresses.result ≡ Err c.in_err-addresses.field-0.0 = search rules in
    let each : each_fault change_fault 0 (tables_at (table_view c.args.table.now) key.Change) ≡ None = ap (each_fault change_fault 0) (sym c.in_ok-changes.ensures.tables) ∙ c.in_ok-check_changes.ensures.ok in
    rw is (inr (output_fault-addresses c.args.ins (table_view c.args.table.now) _ c.in_ok-packets.ensures.ok c.in_ok-numbers.ensures.ok c.in_ok-check_gains.ensures.ok c.in_ok-changes.ensures.ok each c.in_err-addresses.ensures.fault))

pub returns-in_err-senders-clause-fault : goal.returns-in_err-senders-clause-fault
returns-in_err-senders-clause-fault c =
    let is : c.from_residual-in_err-senders.result ≡ Err c.in_err-senders.field-0.0 = search rules in
    let each : each_fault change_fault 0 (tables_at (table_view c.args.table.now) key.Change) ≡ None = ap (each_fault change_fault 0) (sym c.in_ok-changes.ensures.tables) ∙ c.in_ok-check_changes.ensures.ok in
    rw is (inr (output_fault-senders c.args.ins (table_view c.args.table.now) _ c.in_ok-packets.ensures.ok c.in_ok-numbers.ensures.ok c.in_ok-check_gains.ensures.ok c.in_ok-changes.ensures.ok each c.in_ok-addresses.ensures.ok c.in_err-senders.ensures.fault))

pub returns-in_err-timing-clause-fault : goal.returns-in_err-timing-clause-fault
returns-in_err-timing-clause-fault c =
    let is : c.from_residual-in_err-timing.result ≡ Err c.in_err-timing.field-0.0 = search rules in
    let each : each_fault change_fault 0 (tables_at (table_view c.args.table.now) key.Change) ≡ None = ap (each_fault change_fault 0) (sym c.in_ok-changes.ensures.tables) ∙ c.in_ok-check_changes.ensures.ok in
    rw is (inr (output_fault-timing c.args.ins (table_view c.args.table.now) _ c.in_ok-packets.ensures.ok c.in_ok-numbers.ensures.ok c.in_ok-check_gains.ensures.ok c.in_ok-changes.ensures.ok each c.in_ok-addresses.ensures.ok c.in_ok-senders.ensures.ok c.in_err-timing.ensures.fault))

pub returns-in_err-check_known-clause-fault : goal.returns-in_err-check_known-clause-fault
returns-in_err-check_known-clause-fault c =
    let is : c.from_residual-in_err-check_known.result ≡ Err c.in_err-check_known.field-0.0 = search rules in
    let each : each_fault change_fault 0 (tables_at (table_view c.args.table.now) key.Change) ≡ None = ap (each_fault change_fault 0) (sym c.in_ok-changes.ensures.tables) ∙ c.in_ok-check_changes.ensures.ok in
    rw is (inr (output_fault-unknown c.args.ins (table_view c.args.table.now) _ c.in_ok-packets.ensures.ok c.in_ok-numbers.ensures.ok c.in_ok-check_gains.ensures.ok c.in_ok-changes.ensures.ok each c.in_ok-addresses.ensures.ok c.in_ok-senders.ensures.ok c.in_ok-timing.ensures.ok c.in_err-check_known.ensures.fault))

pub read_schedule-requires-clause-same : goal.read_schedule-requires-clause-same
read_schedule-requires-clause-same c = grind (arith, elements)
