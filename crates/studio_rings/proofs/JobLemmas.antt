-- The jobs of the streams, made one after another.
use Rattle.std.proofs.Common.{◌≡◌, ℕ, ◌≤◌, List, [], ◌∷◌, ◌++◌, length, map, drop, get_or, ℤ, refl, sym, ap, subst, ◌∙◌, arith, append_assoc, append-nil, length-append}
use Rattle.rtp_stream.specs.declared.stream_spec.Stream.{Stream}
use Rattle.studio_ends.specs.FreshEnds.{AllFreshStreams, IsFreshStream}
use Rattle.studio_ends.specs.declared.path_end.PathEnd.{PathEnd}
use Rattle.studio_ends.specs.declared.stream_end.StreamEnd.{StreamEnd}
use Rattle.studio_rings.specs.declared.jobs.PathJob.{PathJob}
use Rattle.studio_rings.specs.Jobs.{AreJobsOf, HasCapacity, HaveCapacity, feeds_in}
use Rattle.studio_rings.specs.StreamWorkers.{ends_of}
use Rattle.studio_rings.specs.declared.jobs.StreamJob.{StreamJob}

-- two ways to cut a list at one place
pub cut_once : {A : Type 0} (xs xs' ys ys' : List A) → xs ++ ys ≡ xs' ++ ys' → length xs ≡ length xs' → (xs ≡ xs') × (ys ≡ ys')
cut_once [] [] ys ys' e l = (refl, e)
cut_once [] (x' ∷ xs') ys ys' e l = absurd (omega (arith, l))
cut_once (x ∷ xs) [] ys ys' e l = absurd (omega (arith, l))
cut_once (x ∷ xs) (x' ∷ xs') ys ys' e l =
    let head : x ≡ x' = ap (λ k. get_or k 0 x) e in
    let rest = cut_once xs xs' ys ys' (ap (λ k. drop 1 k) e) (omega (arith, l)) in
    (ap (λ z. z ∷ xs) head ∙ ap (λ k. x' ∷ k) rest.0, rest.1)

pub map_snoc : {A B : Type 0} (f : A → B) (xs : List A) (x : A) → map f (xs ++ x ∷ []) ≡ map f xs ++ f x ∷ []
map_snoc f [] x = refl
map_snoc f (y ∷ ys) x = ap (λ l. f y ∷ l) (map_snoc f ys x)

pub map_length : {A B : Type 0} (f : A → B) (xs : List A) → length (map f xs) ≡ length xs
map_length f [] = refl
map_length f (x ∷ xs) = let r = map_length f xs in omega (arith, r)

-- one more item was taken
pub taken-more : {A B : Type 0} (f : A → B) (all rest left : List B) (own : List A) (x : A) (y : B) → all ≡ map f own ++ rest → rest ≡ y ∷ left → f x ≡ y → all ≡ map f (own ++ x ∷ []) ++ left
taken-more f all rest left own x y is next same =
    is ∙ (ap (λ l. map f own ++ l) (next ∙ ap (λ z. z ∷ left) (sym same))
    ∙ (sym (append_assoc (map f own) (f x ∷ []) left) ∙ ap (λ l. l ++ left) (sym (map_snoc f own x))))

-- what is left when the next stream's paths are taken
pub record NextStream (open_at : ℤ) (places : ℕ) (specs : List Stream) (paths : List PathEnd) (end : StreamEnd) (ends : List StreamEnd) : Type 0 where
  pub stream : Stream
  pub own : List PathEnd
  pub rest : List PathEnd
  pub later : List Stream
  pub paths_are : paths ≡ own ++ rest
  pub fresh : IsFreshStream open_at places stream own end
  pub more : AllFreshStreams open_at places later rest ends

pub next_stream : (open_at : ℤ) (places : ℕ) (specs : List Stream) (paths : List PathEnd) (end : StreamEnd) (ends : List StreamEnd) → AllFreshStreams open_at places specs paths (end ∷ ends) → NextStream open_at places specs paths end ends
next_stream open_at places [] paths end ends h = absurd h
next_stream open_at places (stream ∷ specs) paths end ends h = record { stream = stream; own = h.0; rest = h.1; later = specs; paths_are = h.2; fresh = h.3; more = h.4 }

-- the next stream has as many paths as its specification says
pub own_count : (open_at : ℤ) (places : ℕ) (specs : List Stream) (paths : List PathEnd) (end : StreamEnd) (ends : List StreamEnd) (n : NextStream open_at places specs paths end ends) → length n.own ≡ end.spec.paths
own_count open_at places specs paths end ends n = n.fresh.count ∙ ap (λ (s : Stream). s.paths) (sym n.fresh.spec)

pub enough : (open_at : ℤ) (places : ℕ) (specs : List Stream) (paths : List PathEnd) (end : StreamEnd) (ends : List StreamEnd) → AllFreshStreams open_at places specs paths (end ∷ ends) → end.spec.paths ≤ length paths
enough open_at places specs paths end ends h =
    let n = next_stream open_at places specs paths end ends h in
    let count = own_count open_at places specs paths end ends n in
    let sum = ap length n.paths_are in
    omega (arith, count, sum, length-append n.own n.rest)

pub none_fresh : (open_at : ℤ) (places : ℕ) (specs : List Stream) (paths : List PathEnd) → AllFreshStreams open_at places specs paths [] → paths ≡ []
none_fresh open_at places [] paths h = h
none_fresh open_at places (s ∷ ss) paths h = absurd h

-- these ends are fresh ends of the streams of some studio
abbrev pub AreSomeFresh : List PathEnd → List StreamEnd → Type 0
AreSomeFresh paths ends = (open_at : ℤ) × (places : ℕ) × (specs : List Stream) × AllFreshStreams open_at places specs paths ends

module _ {F C : Type 0} where
  -- these jobs were made, and the jobs of what is left follow them
  abbrev pub MakesJobs : List PathEnd → List F → List C → List StreamEnd → List (StreamJob F C) → List PathEnd → List F → List C → List StreamEnd → Type 0
  MakesJobs paths feeds clocks ends jobs left_paths left_feeds left_clocks left_ends =
      (later : List (StreamJob F C)) → AreJobsOf left_paths left_feeds left_clocks left_ends later → AreJobsOf paths feeds clocks ends (jobs ++ later)

  pub makes-one : (paths : List PathEnd) (feeds : List F) (clocks : List C) (ends : List StreamEnd) (jobs : List (StreamJob F C)) (job : StreamJob F C) (before after : List PathEnd) (some others : List F) (ticking left : List C) (end : StreamEnd) (more : List StreamEnd)
      → MakesJobs paths feeds clocks ends jobs before some ticking (end ∷ more) → before ≡ ends_of job.paths.items ++ after → some ≡ feeds_in job.paths.items ++ others → ticking ≡ job.clock ∷ left → job.end ≡ end → length job.paths.items ≡ end.spec.paths
      → MakesJobs paths feeds clocks ends (jobs ++ job ∷ []) after others left more
  makes-one paths feeds clocks ends jobs job before after some others ticking left end more made a b k c d = λ later h.
      subst (AreJobsOf paths feeds clocks ends) (sym (append_assoc jobs (job ∷ []) later)) (made (job ∷ later) (after, others, left, a, b, k, c, d, h))

  pub makes-all : (paths : List PathEnd) (feeds : List F) (clocks : List C) (ends : List StreamEnd) (jobs : List (StreamJob F C)) (left_paths : List PathEnd) (left_feeds : List F) (left_clocks : List C) (left_ends : List StreamEnd)
      → MakesJobs paths feeds clocks ends jobs left_paths left_feeds left_clocks left_ends → left_paths ≡ [] → left_feeds ≡ [] → left_clocks ≡ [] → left_ends ≡ [] → AreJobsOf paths feeds clocks ends jobs
  makes-all paths feeds clocks ends jobs left_paths left_feeds left_clocks left_ends made a b k c =
      subst (AreJobsOf paths feeds clocks ends) (append-nil jobs) (made [] (none_left left_ends c))
    where
      none_left : (l : List StreamEnd) → l ≡ [] → AreJobsOf {F = F} {C = C} left_paths left_feeds left_clocks l []
      none_left [] e = (a, b, k)
      none_left (x ∷ xs) e = absurd (let f = ap length e in omega (arith, f))

  pub space-more : (jobs : List (StreamJob F C)) (job : StreamJob F C) → HaveCapacity jobs → HasCapacity job → HaveCapacity (jobs ++ job ∷ [])
  space-more [] job h one = (one, tt)
  space-more (j ∷ js) job h one = (h.0, space-more js job h.1 one)

-- the ends that are left are still fresh
pub fresh-left : {F : Type 0} (before after : List PathEnd) (paths : List (PathJob F)) (end : StreamEnd) (more : List StreamEnd) → AreSomeFresh before (end ∷ more) → before ≡ ends_of paths ++ after → length paths ≡ end.spec.paths → AreSomeFresh after more
fresh-left {F = F} before after paths end more h is count =
    let n = next_stream h.0 h.1 h.2 before end more h.3 in
    let own = own_count h.0 h.1 h.2 before end more n in
    let cut = cut_once n.own (ends_of paths) n.rest after (sym n.paths_are ∙ is) (own ∙ (sym count ∙ sym (map_length (λ (p : PathJob F). p.end) paths))) in
    (h.0, h.1, n.later, subst (λ (l : List PathEnd). AllFreshStreams h.0 h.1 n.later l more) cut.1 n.more)
