-- The jobs of the streams, without the last one.
use Rattle.std.proofs.Common.{◌≡◌, List, [], ◌∷◌, ◌++◌, Option, Some, None, IfSome, subst, append-nil, ◌∙◌}
use Rattle.std.specs.Option.{option_to_list}
use Rattle.studio_rings.specs.StreamWorkers.{AllReady, IsReady}
use Rattle.studio_rings.specs.declared.jobs.StreamJob.{StreamJob}

module _ {F C : Type 0} where
  ready_last : (jobs : List (StreamJob F C)) (job : StreamJob F C) → AllReady (jobs ++ job ∷ []) → AllReady jobs × IsReady job
  ready_last [] job h = (tt, h.0)
  ready_last (j ∷ js) job h = let r = ready_last js job h.1 in ((h.0, r.0), r.1)

  pub ready-rest : (all jobs : List (StreamJob F C)) (last : Option (StreamJob F C)) → all ≡ jobs ++ option_to_list last → AllReady all → AllReady jobs
  ready-rest all jobs None is h = subst (λ (l : List (StreamJob F C)). AllReady l) (is ∙ append-nil jobs) h
  ready-rest all jobs (Some job) is h = (ready_last jobs job (subst (λ (l : List (StreamJob F C)). AllReady l) is h)).0

  pub ready-own : (all jobs : List (StreamJob F C)) (last : Option (StreamJob F C)) → all ≡ jobs ++ option_to_list last → AllReady all → IfSome last (λ job. IsReady job)
  ready-own all jobs None is h = tt
  ready-own all jobs (Some job) is h = (ready_last jobs job (subst (λ (l : List (StreamJob F C)). AllReady l) is h)).1
