use Rattle.std.proofs.Common.{ap, ◌∙◌}
use Rattle.rtp_stream.specs.Counts.{tally_of}
use Rattle.studio_session.specs.Counts.{path_tallies}
use Rattle.engine_run.proofs.CountLemmas.{has-stream}
use Rattle.engine_run.proofs.report.stream_counts.Goals as goal
use Rattle.engine_run.proofs.report.stream_counts.Goals.{in-Some, in-None}

pub returns : goal.returns
returns c = λ studio events datagrams s marks at.
    let spec = c.args.spec.now in
    record {
      paths = c.in_ok-paths.ensures studio events datagrams spec s at ∙ ap (path_tallies spec c.args.stream events) c.paths.ensures.value;
      merge = elim c.match-counts.branch [
        | in-Some w ↦ ap tally_of w.merge-is ∙ w.in-Some.ensures.whole studio events datagrams spec s at marks
        | in-None w ↦ absurd (has-stream studio c.args.engine.now events datagrams c.args.stream spec s at (c.counts.ensures.none w.in-None.is))
      ];
    }
