use Rattle.std.proofs.lemmas.Grind.{elements}
use Rattle.std.proofs.Common.{◌≡◌, ◌∙◌, Err, ap, subst, rules, arith}
use Rattle.rtp_stream.specs.declared.stream_spec.Stream.{Stream}
use Rattle.rtp_stream.specs.Counts.{tally_of}
use Rattle.studio_run.specs.Buffer.{BreaksOff, PassesOn}
use Rattle.studio_run.specs.Report.{merge_line}
use Rattle.studio_run.proofs.StudioCountsLemmas.{own_tallies, stream_after, stream_broken, stream_broken_early}
use Rattle.studio_run.proofs.outputs.report.write_stream_counts.Goals as goal

pub returns-in_err-write_paths-clause-fault : goal.returns-in_err-write_paths-clause-fault
returns-in_err-write_paths-clause-fault g c =
    let is : c.from_residual.result ≡ Err c.in_err-write_paths.field-0.0 = search rules in
    let events = g.E.EventSource.events c.args.source.now in
    let cursor = c.finish_stream.new.cursor in
    rw is (λ stream number open_at run some.
    let counts = c.finish_stream.ensures.stands stream number open_at run some in
    stream_broken_early stream cursor.spec number cursor.number open_at events counts.spec counts.stream_number _ _ _
    (c.in_err-write_paths.ensures.fault events (own_tallies stream number open_at events cursor counts)))

pub returns-in_err-write_merge_counts-clause-fault : goal.returns-in_err-write_merge_counts-clause-fault
returns-in_err-write_merge_counts-clause-fault g c =
    let is : c.from_residual-in_err-write_merge_counts.result ≡ Err c.in_err-write_merge_counts.field-0.0 = search rules in
    let events = g.E.EventSource.events c.args.source.now in
    let cursor = c.finish_stream.new.cursor in
    let paths = c.paths-paths.ensures.value ∙ ap (λ (s : Stream). s.paths) c.spec.ensures in
    rw is (λ stream number open_at run some.
    let counts = c.finish_stream.ensures.stands stream number open_at run some in
    stream_broken stream cursor.spec number cursor.number c.paths-paths.result open_at events _ counts.spec counts.stream_number paths (c.counts.ensures ∙ counts.merge) _ _ _ _ _
    (c.in_ok-write_paths.ensures.ok events (own_tallies stream number open_at events cursor counts))
    (subst (BreaksOff _ _ _) (ap (λ n. merge_line n c.paths-paths.result (tally_of c.counts.result)) c.number.ensures) c.in_err-write_merge_counts.ensures.fault))

pub returns-clause-ok : goal.returns-clause-ok
returns-clause-ok g c = λ stream number open_at run some.
    let events = g.E.EventSource.events c.args.source.now in
    let cursor = c.finish_stream.new.cursor in
    let paths = c.paths-paths.ensures.value ∙ ap (λ (s : Stream). s.paths) c.spec.ensures in
    let counts = c.finish_stream.ensures.stands stream number open_at run some in
    stream_after stream cursor.spec number cursor.number c.paths-paths.result open_at events _ counts.spec counts.stream_number paths (c.counts.ensures ∙ counts.merge) _ _ _ _ _ _
    (c.in_ok-write_paths.ensures.ok events (own_tallies stream number open_at events cursor counts))
    (subst (PassesOn _ _ _ _) (ap (λ n. merge_line n c.paths-paths.result (tally_of c.counts.result)) c.number.ensures) c.in_ok-write_merge_counts.ensures.ok)

pub returns-clause-ready : goal.returns-clause-ready
returns-clause-ready c = grind (arith, elements)
