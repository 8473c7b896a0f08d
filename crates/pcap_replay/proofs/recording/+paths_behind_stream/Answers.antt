use Rattle.std.proofs.Common.{arith}
use Rattle.pcap_replay.proofs.RecordedPathLemmas.{begins_more, ok_then}
use Rattle.pcap_replay.proofs.recording.+paths_behind_stream.Goals as goal

pub returns-in-Some-clause-same : goal.returns-in-Some-clause-same
returns-in-Some-clause-same t c =
    ok_then c.paths_behind_stream.result _ _
    (λ rest more. begins_more c.args.number c.args.stream.now c.args.letter _ c.args.count c.in-Some.path.now c.in-Some.rest.now c.args.paths.now rest.now
    (omega (arith, c.if-count-eq0.false)) c.in-Some.ensures.cases.0 (c.is_of.ensures.0 c.if-is_of.true) more)
    c.paths_behind_stream.ensures.same
