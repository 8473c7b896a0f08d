use Rattle.std.proofs.Common.{ap, of_z, w64}
use Rattle.pcap_replay.proofs.ReasonLemmas.{count_turned}
use Rattle.pcap_replay.proofs.events.count_reading.Goals as goal

pub returns : goal.returns
returns c = λ open_at events was later early is.
    count_turned open_at events c.args.before c.args.now c.args.count c.saturating_add.result (λ same. c.if-before-now.false (ap (of_z w64) same)) c.saturating_add.ensures was later early is
