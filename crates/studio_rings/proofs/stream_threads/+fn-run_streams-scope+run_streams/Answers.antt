use Rattle.std.proofs.Common.{rules, ◌+◌, ◌<◌, ◌≤◌, length, vec_len, vec_capacity, [], ◌∷◌, ◌++◌, arith, sym, ap, ◌∙◌, append-nil, append_assoc}
use Rattle.studio_rings.proofs.ZipLemmas.{zip-none, zip-snoc}
use Rattle.studio_rings.specs.StreamWorkers.{IsStreamResult}
use Rattle.studio_rings.proofs.stream_threads.+fn-run_streams-scope+run_streams.Goals as goal

pub scope-returns : goal.scope-returns
scope-returns g t c =
    let w = c.in_ok-all.ensures.results in
    let r : IsStreamResult g.F.Feed.told g.C.Clock.told c.captures.job c.in_ok-result.field-0 = rw (← c.requires.promise, ← c.in-Ok.ensures.ok) c.in_ok-result.ensures in record {
      results = (w.0 ++ c.in_ok-result.field-0 ∷ [], c.push_reserved.ensures.items ∙ (ap (λ l. l ++ c.in_ok-result.field-0 ∷ []) w.1 ∙ append_assoc c.captures.results.items w.0 (c.in_ok-result.field-0 ∷ [])), zip-snoc _ c.captures.jobs.items w.0 c.captures.job c.in_ok-result.field-0 w.2 r);
      mixes = c.in_ok-all.ensures.mixes;
      len = search rules;
      capacity = search rules;
    }

pub returns-in_default-clause-results : goal.returns-in_default-clause-results
returns-in_default-clause-results g t c = ([], sym (append-nil c.args.results.items), zip-none _ c.args.jobs.items (let e = c.in_default.ensures.cases in let k = c.args.jobs.ok.0 in omega (arith, e.0, k)))

pub scoped-requires : goal.scoped-requires
scoped-requires g t c = record {
  at = λ a.
      let e = c.in-Some.ensures.cases in
      let space = c.requires.space in
      let flags = c.requires.flags in
      let less : vec_len c.last_job.new.jobs < vec_len c.args.jobs = omega (arith, e) in
      let space' : vec_len c.args.results + vec_len c.last_job.new.jobs + 1 ≤ vec_capacity c.args.results = omega (arith, e, space) in
      let flags' : vec_len c.last_job.new.jobs ≤ length c.args.ended.now = omega (arith, e, flags) in
      (search rules, ((λ n h. h), ((λ n h. h), ((λ n h. h), ((λ n h. h), (search rules, (c.in-Some.ensures.ready, (c.in-Some.ensures.own, (space', (flags', (c.of.ensures, (search rules, search rules, search rules))))))))))));
}

pub returns-clause-results : goal.returns-clause-results
returns-clause-results g t c = rw c.in-Some.ensures.items c.scoped.ensures.1.0
