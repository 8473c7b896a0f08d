use Rattle.std.proofs.Common.{◌≡◌, length, ap, ◌∙◌, arith}
use Rattle.rtp_stream.specs.declared.stream_spec.Stream.{Stream}
use Rattle.studio_rings.proofs.jobs.next_job.Goals as goal

pub next_paths-requires-clause-ends : goal.next_paths-requires-clause-ends
next_paths-requires-clause-ends g c =
    let count : c.paths-count.result ≡ c.args.end.spec.paths = c.paths-count.ensures.value ∙ ap (λ (s : Stream). s.paths) c.spec.ensures in
    let enough = c.requires.paths in
    omega (arith, count, enough)

pub next_paths-requires-clause-feeds : goal.next_paths-requires-clause-feeds
next_paths-requires-clause-feeds g c =
    let count : c.paths-count.result ≡ c.args.end.spec.paths = c.paths-count.ensures.value ∙ ap (λ (s : Stream). s.paths) c.spec.ensures in
    let enough = c.requires.feeds in
    omega (arith, count, enough)

pub returns-clause-count : goal.returns-clause-count
returns-clause-count g c =
    let count : c.paths-count.result ≡ c.args.end.spec.paths = c.paths-count.ensures.value ∙ ap (λ (s : Stream). s.paths) c.spec.ensures in
    let owned = c.in_ok-own.ensures.count in
    let ok = c.in_ok-own.own.ok.0 in
    let many : length c.in_ok-own.own.items ≡ c.args.end.spec.paths = omega (arith, count, owned, ok) in
    rw c.in_ok-job.ensures.parts.2 many

pub returns-clause-paths : goal.returns-clause-paths
returns-clause-paths g c = rw c.in_ok-job.ensures.parts.2 c.in_ok-own.ensures.ends

pub returns-clause-feeds : goal.returns-clause-feeds
returns-clause-feeds g c = rw c.in_ok-job.ensures.parts.2 c.in_ok-own.ensures.feeds

pub returns-clause-clocks : goal.returns-clause-clocks
returns-clause-clocks g c = rw c.in_ok-job.ensures.parts.1 c.in-Some.ensures.cases.0

pub returns-clause-left : goal.returns-clause-left
returns-clause-left g c =
    let count : c.paths-count.result ≡ c.args.end.spec.paths = c.paths-count.ensures.value ∙ ap (λ (s : Stream). s.paths) c.spec.ensures in
    let ends = c.in_ok-own.ensures.left.0 in
    let feeds = c.in_ok-own.ensures.left.1 in
    let clock = c.in-Some.ensures.cases.1 in
    (omega (arith, count, ends), omega (arith, count, feeds), omega (arith, clock))
