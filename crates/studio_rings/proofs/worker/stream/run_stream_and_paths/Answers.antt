use Rattle.std.proofs.Common.{◌≡◌, [], subst, arith}
use Rattle.std.proofs.lemmas.Result.{IfOk-weaker}
use Rattle.std.specs.List.{AllZip}
use Rattle.studio_ends.specs.declared.stream_end.StreamEnd.{StreamEnd}
use Rattle.studio_rings.specs.PathWorkers.{IsPathResult}
use Rattle.studio_rings.specs.Turns.{AreSameRings}
use Rattle.studio_rings.specs.declared.jobs.StreamResult.{StreamResult}
use Rattle.studio_rings.proofs.HandLemmas.{no_items, own_results, tokens-fit}
use Rattle.studio_rings.proofs.EndLemmas.{is-stream-result}
use Rattle.studio_rings.proofs.worker.stream.run_stream_and_paths.Goals as goal

pub end_stream-requires-clause-tokens : goal.end_stream-requires-clause-tokens
end_stream-requires-clause-tokens g c =
    let job = c.args.job in
    let r = c.in_ok-results.ensures.results in
    let none : job.results.items ≡ [] = no_items job.results.items (let e = c.requires.no_results in let k = job.results.ok.0 in omega (arith, e, k)) in
    let zip : AllZip (IsPathResult g.F.Feed.told) job.paths.items c.in_ok-results.results.items = own_results _ job.paths.items job.results.items r.0 c.in_ok-results.results.items none r.1 r.2 in
    let rings : AreSameRings job.end.sides.items c.in_ok-results.stream.end.sides.items =
    subst (λ (e : StreamEnd). AreSameRings e.sides.items c.in_ok-results.stream.end.sides.items) c.new-stream.ensures.0 c.in_ok-results.ensures.stream.rings in
    tokens-fit g.F.Feed.told job.paths.items c.in_ok-results.results.items job.end.sides.items c.in_ok-results.stream.end.sides.items c.requires.pairs rings zip

pub returns : goal.returns
returns g c =
    let job = c.args.job in
    let r = c.in_ok-results.ensures.results in
    let none : job.results.items ≡ [] = no_items job.results.items (let e = c.requires.no_results in let k = job.results.ok.0 in omega (arith, e, k)) in
    let zip : AllZip (IsPathResult g.F.Feed.told) job.paths.items c.in_ok-results.results.items = own_results _ job.paths.items job.results.items r.0 c.in_ok-results.results.items none r.1 r.2 in
    let new = c.new-stream.ensures in
    IfOk-weaker c.end_stream.result _ _ (λ (result : StreamResult) ends. is-stream-result g.F.Feed.told g.C.Clock.told job c.new-stream.result c.in_ok-results.stream c.in_ok-results.results.items result new.0 new.1 new.2 zip c.in_ok-results.ensures.stream ends) c.end_stream.ensures
