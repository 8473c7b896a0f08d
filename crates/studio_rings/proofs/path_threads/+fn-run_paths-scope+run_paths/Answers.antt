use Rattle.std.proofs.Common.{rules, [], ◌∷◌, ◌++◌, arith, sym, ap, ◌∙◌, append-nil, append_assoc}
use Rattle.studio_rings.specs.PathWorkers.{IsPathResult}
use Rattle.studio_rings.proofs.ZipLemmas.{zip-none, zip-snoc}
use Rattle.studio_rings.proofs.path_threads.+fn-run_paths-scope+run_paths.Goals as goal

pub scope-returns : goal.scope-returns
scope-returns g t c =
    let w = c.in_ok-all.ensures.results in
    let r : IsPathResult g.F.Feed.told c.captures.job c.join-result.result = rw (← c.requires.promise, ← c.in-Ok.ensures.ok) c.join-result.ensures in record {
      results = (w.0 ++ c.join-result.result ∷ [], c.push_reserved.ensures.items ∙ (ap (λ l. l ++ c.join-result.result ∷ []) w.1 ∙ append_assoc c.captures.results.items w.0 (c.join-result.result ∷ [])), zip-snoc _ c.captures.jobs.items w.0 c.captures.job c.join-result.result w.2 r);
      stream = search rules;
      len = search rules;
      capacity = search rules;
    }

pub returns-in_default-clause-results : goal.returns-in_default-clause-results
returns-in_default-clause-results g t c = ([], sym (append-nil c.args.results.items), zip-none _ c.args.jobs.items (let e = c.in_default.ensures.cases in let k = c.args.jobs.ok.0 in omega (arith, e.0, k)))
