use Rattle.std.proofs.Common.{[], Err, ap, ◌∙◌}
use Rattle.pcap_flows.specs.FlowTable.{table_view, table_with}
use Rattle.pcap_replay.proofs.CaseLemmas.{some_maps}
use Rattle.pcap_replay.proofs.FlowLemmas.{seen_header, seen_none}
use Rattle.pcap_replay.proofs.flow_scan.scan_flows.Goals as goal

pub returns-in_ok-add_all-in-Ok : goal.returns-in_ok-add_all-in-Ok
returns-in_ok-add_all-in-Ok g c =
    some_maps (g.R.Read.remaining c.args.reader.now) _ _ (λ file told. c.in_ok-add_all-in-Ok.ensures file [] told (c.new-table.ensures ∙ seen_none)) c.in-Ok.ensures.returned

pub returns-in_ok-take-in-Err-Capture : goal.returns-in_ok-take-in-Err-Capture
returns-in_ok-take-in-Err-Capture g c =
    let fault = c.in-Err-Capture.fault in
    some_maps (g.R.Read.remaining c.args.reader.now) _ _ (λ file behind.
    seen_header file (table_view c.take.new.self) fault (c.in_ok-take-in-Err-Capture.ensures ∙ ap (λ t. table_with t (Err fault)) c.new-table.ensures) behind)
    (rw c.in-Err-Capture.field-0-is at c.in-Err-Capture.ensures.fault)
