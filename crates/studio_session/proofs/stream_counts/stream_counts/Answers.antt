use Rattle.std.proofs.Common.{ap, ◌∙◌}
use Rattle.rtp_stream.specs.declared.stream_spec.Stream.{Stream}
use Rattle.studio_session.specs.Counts.{path_tallies}
use Rattle.studio_session.proofs.stream_counts.stream_counts.Goals as goal

pub returns-clause-counts : goal.returns-clause-counts
returns-clause-counts g c = λ stream number open_at run some.
    let events = g.E.EventSource.events c.args.source.now in
    let counts = c.finish_stream.ensures.stands stream number open_at run some in
    record {
      paths = c.in_ok-paths.ensures stream number events counts.paths ∙ ap (λ (s : Stream). path_tallies stream number events s.paths) counts.spec;
      merge = c.counts.ensures ∙ counts.merge;
    }
