use Rattle.std.proofs.Common.{◌≡◌, ℕ, true, List, [], length, Option, Vec, Global, sym, ap, subst, ◌∙◌, arith}
use Rattle.std.specs.List.{AllZip}
use Rattle.studio_ends.specs.declared.stream_end.turns.StreamDone.{StreamDone}
use Rattle.studio_io.proofs.SumLemmas.{sums-reported}
use Rattle.studio_rings.specs.MixWorker.{MixesWith}
use Rattle.studio_rings.specs.StreamTokens.{AllGiveTokens, AreTokensOf, AreTold}
use Rattle.studio_rings.proofs.StreamTokenLemmas.{tokens-opened}
use Rattle.studio_rings.specs.StreamResults.{counts_in, dones_in, faults_in}
use Rattle.studio_rings.specs.StreamWorkers.{IsStreamResult}
use Rattle.studio_rings.proofs.HandLemmas.{no_items}
use Rattle.studio_rings.proofs.RunLemmas.{faults-of-feeds, jobs-ready, settled-run, tokens-for, zip_after}
use Rattle.studio_rings.proofs.run.WorkerDevices.run.Goals as goal

pub run_streams-requires-clause-ready : goal.run_streams-requires-clause-ready
run_streams-requires-clause-ready g c κs within =
    let o = c.requires.opened in
    jobs-ready o.0.open_at o.1 o.0.streams c.args.ends.paths.items c.args.self.feeds.items c.args.self.clocks.items c.args.ends.streams.items c.in_ok-memory.memory.jobs.items o.2.open_high o.3.streams c.in_ok-memory.ensures.jobs.0 c.in_ok-memory.ensures.jobs.1

pub collect_results-parts-requires-clause-faults : goal.collect_results-parts-requires-clause-faults
collect_results-parts-requires-clause-faults g c =
    let m = c.in_ok-memory.memory in
    let r = c.in-Ok.ensures.results in
    let results = c.in-Ok.results.items in
    let none : m.results.items ≡ [] = no_items m.results.items (let e = c.in_ok-memory.ensures.results.0 in let k = m.results.ok.0 in omega (arith, e, k)) in
    let zip : AllZip (IsStreamResult g.F.Feed.told g.C.Clock.told) m.jobs.items results = zip_after _ m.jobs.items m.results.items r.0 results none r.1 r.2 in
    let all = faults-of-feeds g.F.Feed.told g.C.Clock.told c.args.ends.paths.items c.args.self.feeds.items c.args.self.clocks.items c.args.ends.streams.items m.jobs.items results c.in_ok-memory.ensures.jobs.0 zip in
    let space = c.in_ok-memory.ensures.faults.1 in
    let ok = c.args.self.feeds.ok.0 in
    (c.in_ok-memory.ensures.faults.0, omega (arith, all, space, ok))

pub returns-clause-faults : goal.returns-clause-faults
returns-clause-faults g c =
    let m = c.in_ok-memory.memory in
    let r = c.in-Ok.ensures.results in
    let results = c.in-Ok.results.items in
    let none : m.results.items ≡ [] = no_items m.results.items (let e = c.in_ok-memory.ensures.results.0 in let k = m.results.ok.0 in omega (arith, e, k)) in
    let zip : AllZip (IsStreamResult g.F.Feed.told g.C.Clock.told) m.jobs.items results = zip_after _ m.jobs.items m.results.items r.0 results none r.1 r.2 in
    let all = faults-of-feeds g.F.Feed.told g.C.Clock.told c.args.ends.paths.items c.args.self.feeds.items c.args.self.clocks.items c.args.ends.streams.items m.jobs.items results c.in_ok-memory.ensures.jobs.0 zip in
    ap (λ (l : Vec ℕ Global). length l.items) c.report-work.ensures.faults ∙ (ap length c.collect_results-parts.ensures.faults ∙ all)

pub returns-clause-sums : goal.returns-clause-sums
returns-clause-sums g c = sums-reported g.K.Sink.answered (g.K.Sink.answered c.args.self.sink) c.in-Ok.done.mixed.counts c.report-work.result.0 c.in-Ok.done.mixed.sink c.report-work.result.1 c.report-work.ensures.numbers c.report-work.ensures.sink c.in-Ok.ensures.mixes.1

pub report-work-requires : goal.report-work-requires
report-work-requires g c =
    let o = c.requires.opened in
    let m = c.in_ok-memory.memory in
    let r = c.in-Ok.ensures.results in
    let results = c.in-Ok.results.items in
    let none : m.results.items ≡ [] = no_items m.results.items (let e = c.in_ok-memory.ensures.results.0 in let k = m.results.ok.0 in omega (arith, e, k)) in
    let zip : AllZip (IsStreamResult g.F.Feed.told g.C.Clock.told) m.jobs.items results = zip_after _ m.jobs.items m.results.items r.0 results none r.1 r.2 in
    let tokens : AreTokensOf (dones_in results) c.in-Ok.done.mixed.end.sides.items =
    tokens-opened o.1 c.args.ends.streams.items o.3.monitors c.args.ends.mix.sides.items c.in-Ok.done.mixed.end.sides.items (dones_in results) o.3.rings c.in-Ok.ensures.mixes.0.rings
    (tokens-for g.F.Feed.told g.C.Clock.told c.args.ends.paths.items c.args.self.feeds.items c.args.self.clocks.items c.args.ends.streams.items m.jobs.items results c.in_ok-memory.ensures.jobs.0 zip) in
    record { tokens = subst (λ (l : List (Option StreamDone)). AreTokensOf l c.in-Ok.done.mixed.end.sides.items) (sym c.collect_results-parts.ensures.dones) tokens }

pub returns-clause-settled : goal.returns-clause-settled
returns-clause-settled g c =
    let m = c.in_ok-memory.memory in
    let r = c.in-Ok.ensures.results in
    let results = c.in-Ok.results.items in
    let mixed = c.in-Ok.done.mixed in
    let report = c.report-work.result.0 in
    let none : m.results.items ≡ [] = no_items m.results.items (let e = c.in_ok-memory.ensures.results.0 in let k = m.results.ok.0 in omega (arith, e, k)) in
    let zip : AllZip (IsStreamResult g.F.Feed.told g.C.Clock.told) m.jobs.items results = zip_after _ m.jobs.items m.results.items r.0 results none r.1 r.2 in
    let dones : c.collect_results-parts.result.dones.items ≡ dones_in results = c.collect_results-parts.ensures.dones in
    let streams : report.streams.items ≡ counts_in results = rw c.report-work.ensures.streams c.collect_results-parts.ensures.streams in
    let faults : report.feed_faults.items ≡ faults_in results = rw c.report-work.ensures.faults c.collect_results-parts.ensures.faults in
    let mixes : MixesWith g.K.Sink.handed c.args.ends.mix c.args.self.sink 0 true mixed.end c.report-work.result.1 report.blocks (g.G.GainSource.taken c.args.self.gains) (g.G.GainSource.taken c.in-Ok.done.gains) = rw (c.report-work.ensures.sink, c.report-work.ensures.blocks) c.in-Ok.ensures.mixes.0 in
    λ e studio places opened.
    settled-run g.F.Feed.told g.C.Clock.told g.K.Sink.handed studio places c.args.ends c.args.self.feeds.items c.args.self.clocks.items m.jobs.items results mixed.end c.args.self.sink c.report-work.result.1 report _ _
    opened c.in_ok-memory.ensures.jobs.0 zip streams faults mixes
    (subst (λ (l : List (Option StreamDone)). AllGiveTokens l) dones (c.report-work.ensures.given e))
    (λ studio' feeds datagrams told. c.report-work.ensures.settled e studio' feeds datagrams (subst (λ (l : List (Option StreamDone)). AreTold studio' l feeds) (sym dones) told))
