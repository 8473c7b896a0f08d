use Rattle.std.proofs.Common.{◌≡◌, ◌≤◌, List, [], ◌∷◌, length, sym, ap, subst, ◌∙◌, arith, length-append}
use Rattle.std.specs.Vec.Iter.{into_iter_items}
use Rattle.studio_ends.specs.declared.stream_end.StreamEnd.{StreamEnd}
use Rattle.studio_rings.specs.declared.jobs.PathJob.{PathJob}
use Rattle.studio_rings.specs.Jobs.{HaveCapacity, feeds_in}
use Rattle.studio_rings.specs.StreamWorkers.{ends_of}
use Rattle.studio_rings.specs.declared.jobs.StreamJob.{StreamJob}
use Rattle.studio_rings.proofs.HandLemmas.{no_items}
use Rattle.studio_rings.proofs.JobLemmas.{AreSomeFresh, MakesJobs, enough, fresh-left, makes-all, makes-one, map_length, none_fresh, space-more}
use Rattle.studio_rings.proofs.jobs.stream_jobs.Goals as goal

pub next_job-requires-clause-paths : goal.next_job-requires-clause-paths
next_job-requires-clause-paths g c =
    let at = c.loop-end in
    let end = c.in-Some.end in
    let fresh : AreSomeFresh (into_iter_items at.paths) (end ∷ into_iter_items c.next.new.self) = subst (λ (l : List StreamEnd). AreSomeFresh (into_iter_items at.paths) l) c.in-Some.ensures.steps.0 at.invariant.fresh in
    let some : end.spec.paths ≤ length (into_iter_items at.paths) = enough fresh.0 fresh.1 fresh.2 _ end _ fresh.3 in
    let len = at.invariant.paths_len in
    omega (arith, some, len)

pub next_job-requires-clause-feeds : goal.next_job-requires-clause-feeds
next_job-requires-clause-feeds g c =
    let at = c.loop-end in
    let end = c.in-Some.end in
    let fresh : AreSomeFresh (into_iter_items at.paths) (end ∷ into_iter_items c.next.new.self) = subst (λ (l : List StreamEnd). AreSomeFresh (into_iter_items at.paths) l) c.in-Some.ensures.steps.0 at.invariant.fresh in
    let some : end.spec.paths ≤ length (into_iter_items at.paths) = enough fresh.0 fresh.1 fresh.2 _ end _ fresh.3 in
    let len = at.invariant.paths_len in
    let same = at.invariant.feeds_too in
    omega (arith, some, len, same)

pub next_job-requires-clause-clocks : goal.next_job-requires-clause-clocks
next_job-requires-clause-clocks g c =
    let gone = c.in-Some.ensures.steps.1 in
    let clocks = c.loop-end.invariant.clocks in
    omega (arith, gone, clocks)

pub loop-end-preserved : goal.loop-end-preserved
loop-end-preserved g c =
    let at = c.loop-end in
    let end = c.in-Some.end in
    let job = c.in_ok-job.job in
    let own = job.paths.items in
    let fresh : AreSomeFresh (into_iter_items at.paths) (end ∷ into_iter_items c.next.new.self) = subst (λ (l : List StreamEnd). AreSomeFresh (into_iter_items at.paths) l) c.in-Some.ensures.steps.0 at.invariant.fresh in
    let many : length own ≡ end.spec.paths = c.in_ok-job.ensures.count in
    let gone = c.in-Some.ensures.steps.1 in
    let items = ap length c.in-Some.ensures.steps.0 in
    let left = c.in_ok-job.ensures.left in
    let left_ends = left.0 in
    let left_feeds = left.1 in
    let left_clocks = left.2 in
    let clock_items = ap length c.in_ok-job.ensures.clocks in
    let clocks_len = at.invariant.clocks_len in
    let ends_len = at.invariant.ends_len in
    let paths_len = at.invariant.paths_len in
    let feeds_len = at.invariant.feeds_len in
    let feeds_too = at.invariant.feeds_too in
    let clocks = at.invariant.clocks in
    let made_count = at.invariant.count in
    let pushed = c.push_reserved.ensures.len in
    let ends_sum = ap length c.in_ok-job.ensures.paths in
    let feeds_sum = ap length c.in_ok-job.ensures.feeds in
    record {
      made =
          subst (λ (l : List (StreamJob g.row.F.Denot g.row.C.Denot)). MakesJobs (into_iter_items c.into_iter-paths.result) (into_iter_items c.into_iter-feeds.result) (into_iter_items c.into_iter-clocks.result) (into_iter_items c.into_iter-end-iterator.result) l (into_iter_items c.next_job.new.paths) (into_iter_items c.next_job.new.feeds) (into_iter_items c.next_job.new.clocks) (into_iter_items c.next.new.self)) (sym c.push_reserved.ensures.items)
          (makes-one _ _ _ _ at.jobs.items job _ _ _ _ _ _ end (into_iter_items c.next.new.self)
          (subst (λ (l : List StreamEnd). MakesJobs (into_iter_items c.into_iter-paths.result) (into_iter_items c.into_iter-feeds.result) (into_iter_items c.into_iter-clocks.result) (into_iter_items c.into_iter-end-iterator.result) at.jobs.items (into_iter_items at.paths) (into_iter_items at.feeds) (into_iter_items at.clocks) l) c.in-Some.ensures.steps.0 at.invariant.made)
          c.in_ok-job.ensures.paths c.in_ok-job.ensures.feeds c.in_ok-job.ensures.clocks c.in_ok-job.ensures.end many);
      space = subst (λ (l : List (StreamJob g.row.F.Denot g.row.C.Denot)). HaveCapacity l) (sym c.push_reserved.ensures.items) (space-more at.jobs.items job at.invariant.space c.in_ok-job.ensures.space);
      fresh = fresh-left _ _ own end _ fresh c.in_ok-job.ensures.paths many;
      ends_len = omega (arith, gone, items, ends_len);
      paths_len = omega (arith, left_ends, paths_len, ends_sum, many, length-append (ends_of own) (into_iter_items c.next_job.new.paths), map_length (λ (p : PathJob g.row.F.Denot). p.end) own);
      feeds_len = omega (arith, left_feeds, feeds_len, feeds_sum, many, length-append (feeds_in own) (into_iter_items c.next_job.new.feeds), map_length (λ (p : PathJob g.row.F.Denot). p.feed) own);
      feeds_too = omega (arith, left_ends, left_feeds, feeds_too);
      clocks_len = omega (arith, left_clocks, clock_items, clocks_len);
      clocks = omega (arith, gone, left_clocks, clocks);
      count = omega (arith, gone, made_count, pushed);
      places = c.push_reserved.ensures.capacity ∙ at.invariant.places;
    }

pub returns-clause-jobs : goal.returns-clause-jobs
returns-clause-jobs g c =
    let at = c.loop-end in
    let none = c.in-None.ensures.steps.0 in
    let ends_len = at.invariant.ends_len in
    let feeds_len = at.invariant.feeds_len in
    let feeds_too = at.invariant.feeds_too in
    let paths_len = at.invariant.paths_len in
    let no_ends : into_iter_items at.end-iterator ≡ [] = no_items _ (omega (arith, none, ends_len)) in
    let fresh = subst (λ (l : List StreamEnd). AreSomeFresh (into_iter_items at.paths) l) no_ends at.invariant.fresh in
    let no_paths : into_iter_items at.paths ≡ [] = none_fresh fresh.0 fresh.1 fresh.2 _ fresh.3 in
    let zero = ap length no_paths in
    let no_feeds : into_iter_items at.feeds ≡ [] = no_items _ (omega (arith, zero, feeds_len, feeds_too, paths_len)) in
    let clocks = at.invariant.clocks in
    let clocks_len = at.invariant.clocks_len in
    let no_clocks : into_iter_items at.clocks ≡ [] = no_items _ (omega (arith, none, clocks, clocks_len)) in
    let made : MakesJobs c.args.paths.items c.args.feeds.items c.args.clocks.items c.args.streams.items at.jobs.items (into_iter_items at.paths) (into_iter_items at.feeds) (into_iter_items at.clocks) (into_iter_items at.end-iterator) =
    rw (← c.into_iter-paths.ensures.rest, ← c.into_iter-feeds.ensures.rest, ← c.into_iter-clocks.ensures.rest, ← c.into_iter-end-iterator.ensures.into_iter_gives.0) at.invariant.made in
    makes-all _ _ _ _ at.jobs.items _ _ _ _ made no_paths no_feeds no_clocks no_ends
