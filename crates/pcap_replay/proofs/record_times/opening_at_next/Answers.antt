use Rattle.std.proofs.Common.{[], ap, sym, ◌∙◌}
use Rattle.pcap_file.specs.Reader.{part_entries}
use Rattle.pcap_replay.specs.Record.{opening_in}
use Rattle.pcap_replay.proofs.CaseLemmas.{some_when}
use Rattle.pcap_replay.proofs.RecordLemmas.{opening_told}
use Rattle.pcap_replay.proofs.record_times.opening_at_next.Goals as goal

pub returns-in-Err-clause-decided : goal.returns-in-Err-clause-decided
returns-in-Err-clause-decided c = λ file left told.
    let behind = c.in-Err.ensures.fault file [] left told in
    ap opening_in behind.all

pub returns-else-is_none-clause-decided : goal.returns-else-is_none-clause-decided
returns-else-is_none-clause-decided c = some_when c.opening_decided.result _ (λ given is file left told.
    opening_told file (part_entries c.in-Ok.part) given left _ _ _ (sym c.opening_decided.ensures ∙ is) (c.in-Ok.ensures.returned file [] left told))
