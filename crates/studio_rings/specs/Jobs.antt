-- The division of the ends, the feeds and the clocks of a studio among its workers.
use Rattle.std.specs.Prelude.{◌≡◌, ◌≤◌, List, [], ◌∷◌, ◌++◌, length, map, vec_len, vec_capacity}
use Rattle.studio_ends.specs.declared.path_end.PathEnd.{PathEnd}
use Rattle.studio_ends.specs.declared.stream_end.StreamEnd.{StreamEnd}
use Rattle.studio_rings.specs.declared.jobs.PathJob.{PathJob}
use Rattle.studio_rings.specs.StreamWorkers.{ends_of}
use Rattle.studio_rings.specs.declared.jobs.StreamJob.{StreamJob}

module _ {F : Type 0} where
  abbrev pub feeds_in : List (PathJob F) → List F
  feeds_in paths = map (λ (path : PathJob F). path.feed) paths

module _ {F C : Type 0} where
  -- the jobs have the paths' ends, the feeds and the clocks in their order: each job has an end and a feed for each
  -- path of its stream, and one clock
  abbrev pub AreJobsOf : List PathEnd → List F → List C → List StreamEnd → List (StreamJob F C) → Type 0
  AreJobsOf paths feeds clocks [] [] = (paths ≡ []) × (feeds ≡ []) × (clocks ≡ [])
  AreJobsOf paths feeds clocks (end ∷ ends) (job ∷ jobs) =
      (rest : List PathEnd) × (others : List F) × (left : List C) × (paths ≡ ends_of job.paths.items ++ rest) × (feeds ≡ feeds_in job.paths.items ++ others)
      × (clocks ≡ job.clock ∷ left) × (job.end ≡ end) × (length job.paths.items ≡ end.spec.paths) × AreJobsOf rest others left ends jobs
  AreJobsOf paths feeds clocks [] (job ∷ jobs) = ⊥
  AreJobsOf paths feeds clocks (end ∷ ends) [] = ⊥

  -- a job has a flag for each path, and space for the path's result, counts and number of faults
  pub record HasCapacity (job : StreamJob F C) : Type 0 where
    pub ended : vec_len job.paths ≤ vec_len job.ended
    pub no_results : vec_len job.results ≡ 0
    pub results : vec_len job.paths ≤ vec_capacity job.results
    pub no_counts : vec_len job.counts ≡ 0
    pub counts : vec_len job.paths ≤ vec_capacity job.counts
    pub no_faults : vec_len job.faults ≡ 0
    pub faults : vec_len job.paths ≤ vec_capacity job.faults

  abbrev pub HaveCapacity : List (StreamJob F C) → Type 0
  HaveCapacity [] = Unit {0}
  HaveCapacity (job ∷ jobs) = HasCapacity job × HaveCapacity jobs
