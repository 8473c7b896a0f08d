use Rattle.std.proofs.Common.{◌≡◌, Err, rules}
use Rattle.toml.specs.View.{table_view}
use Rattle.studio_config.proofs.FaultLemmas.{stream_fault-rows}
use Rattle.studio_config.proofs.config.stream.read_stream.Goals as goal

pub returns-in_err-packets-clause-fault : goal.returns-in_err-packets-clause-fault
returns-in_err-packets-clause-fault c =
    let is : c.from_residual.result ≡ Err c.in_err-packets.field-0.0 = search rules in
    rw is (stream_fault-rows c.args.place (table_view c.args.table.now) c.in_err-packets.field-0.0 (rw (c.in_err-packets.ensures.fault)))

pub returns-in_err-source-clause-fault : goal.returns-in_err-source-clause-fault
returns-in_err-source-clause-fault c =
    let is : c.from_residual-in_err-source.result ≡ Err c.in_err-source.field-0.0 = search rules in
    rw is (stream_fault-rows c.args.place (table_view c.args.table.now) c.in_err-source.field-0.0 (rw (c.in_ok-packets.ensures.ok, c.in_err-source.ensures.fault)))

pub returns-in_err-wait-clause-fault : goal.returns-in_err-wait-clause-fault
returns-in_err-wait-clause-fault c =
    let is : c.from_residual-in_err-wait.result ≡ Err c.in_err-wait.field-0.0 = search rules in
    rw is (stream_fault-rows c.args.place (table_view c.args.table.now) c.in_err-wait.field-0.0 (rw (c.in_ok-packets.ensures.ok, c.in_ok-source.ensures.ok, c.in_err-wait.ensures.fault)))

pub returns-in_err-ports-clause-fault : goal.returns-in_err-ports-clause-fault
returns-in_err-ports-clause-fault c =
    let is : c.from_residual-in_err-ports.result ≡ Err c.in_err-ports.field-0.0 = search rules in
    rw is (stream_fault-rows c.args.place (table_view c.args.table.now) c.in_err-ports.field-0.0 (rw (c.in_ok-packets.ensures.ok, c.in_ok-source.ensures.ok, c.in_ok-wait.ensures.ok, c.in_err-ports.ensures.fault)))

pub returns-in_err-addresses-clause-fault : goal.returns-in_err-addresses-clause-fault
returns-in_err-addresses-clause-fault c =
    let is : c.from_residual-in_err-addresses.result ≡ Err c.in_err-addresses.field-0.0 = search rules in
    rw is (stream_fault-rows c.args.place (table_view c.args.table.now) c.in_err-addresses.field-0.0 (rw (c.in_ok-packets.ensures.ok, c.in_ok-source.ensures.ok, c.in_ok-wait.ensures.ok, c.in_ok-ports.ensures.ok, c.in_err-addresses.ensures.fault)))

pub returns-in_err-check_name-clause-fault : goal.returns-in_err-check_name-clause-fault
returns-in_err-check_name-clause-fault c =
    let is : c.from_residual-in_err-check_name.result ≡ Err c.in_err-check_name.field-0.0 = search rules in
    rw is (stream_fault-rows c.args.place (table_view c.args.table.now) c.in_err-check_name.field-0.0 (rw (c.in_ok-packets.ensures.ok, c.in_ok-source.ensures.ok, c.in_ok-wait.ensures.ok, c.in_ok-ports.ensures.ok, c.in_ok-addresses.ensures.ok, c.in_err-check_name.ensures.fault)))
