use Rattle.std.proofs.Common.{◌≡◌, Err, ap, ◌∙◌, rules}
use Rattle.toml.specs.View.{table_view}
use Rattle.studio_config.specs.Rows.{rows_fault, first_of}
use Rattle.studio_config.specs.NetworkTable.{bind_rows, sender_address_rows}
use Rattle.studio_config.proofs.FaultLemmas.{rows_fault-append, first_of-some, first_of-none}
use Rattle.studio_config.proofs.config.network_keys.read_path_addresses.Goals as goal

pub returns-in_err-receive_at-clause-fault : goal.returns-in_err-receive_at-clause-fault
returns-in_err-receive_at-clause-fault c =
    let m = table_view c.args.table.now in
    let is : c.from_residual.result ≡ Err c.in_err-receive_at.field-0.0 = search rules in
    rw is (rows_fault-append c.args.place m bind_rows sender_address_rows ∙ first_of-some (rows_fault c.args.place m bind_rows) (rows_fault c.args.place m sender_address_rows) c.in_err-receive_at.field-0.0 c.in_err-receive_at.ensures.fault)

pub returns-in_err-sources-clause-fault : goal.returns-in_err-sources-clause-fault
returns-in_err-sources-clause-fault c =
    let m = table_view c.args.table.now in
    let is : c.from_residual-in_err-sources.result ≡ Err c.in_err-sources.field-0.0 = search rules in
    rw is (rows_fault-append c.args.place m bind_rows sender_address_rows ∙ first_of-none (rows_fault c.args.place m bind_rows) (rows_fault c.args.place m sender_address_rows) c.in_err-sources.field-0.0 c.in_ok-receive_at.ensures.ok c.in_err-sources.ensures.fault)

pub returns-clause-ok : goal.returns-clause-ok
returns-clause-ok c =
    let m = table_view c.args.table.now in
    rows_fault-append c.args.place m bind_rows sender_address_rows
    ∙ ap (λ first. first_of first (rows_fault c.args.place m sender_address_rows)) c.in_ok-receive_at.ensures.ok
    ∙ c.in_ok-sources.ensures.ok
