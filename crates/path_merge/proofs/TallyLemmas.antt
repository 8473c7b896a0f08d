-- Tallies of one more arrival or mark.
use Rattle.std.proofs.Common.{◌≡◌, ℕ, zero, suc, ◌+◌, ◌<◌, Bool, true, false, List, [], ◌∷◌, ◌++◌, Some, None, ℤ, refl, ap, ◌∙◌, arith, append-nil, length-append, if◌then◌else◌}
use Rattle.std.specs.Prelude.{count_by, cond, ◌&&◌, option_to_list, nat_eq}
use Rattle.std.proofs.lemmas.List.Sums.{sum_by-append}
use Rattle.rtp_stream.specs.Counts.{is_ahead, is_counted_fate, is_double, is_got, is_got_body, is_late, is_lost, is_lost_body, is_off_grid, is_restarted, is_taken_fate, is_unlike, is_wrong_source, taken_on, tally_of_fates}
use Rattle.rtp_stream.specs.CountsFacts.{Tally, increased_at, with_body, with_fate}
use Rattle.rtp_stream.specs.MarkFacts.{MarkView}
use Rattle.rtp_stream.specs.Marks.{quiet_mark}
use Rattle.rtp_stream.specs.declared.stream_spec.Stream.{Stream}
use Rattle.rtp_stream.specs.declared.fate.Fate.{Fate}
use Rattle.rtp_stream.specs.declared.fate.Fate.TheVariants.{Ahead, Closed, CountersFull, Double, Late, OffGrid, Restarted, Taken, Unlike, WrongSource}
use Rattle.rtp_stream.specs.declared.mark.Body.{Body}
use Rattle.rtp_stream.specs.declared.mark.Body.TheVariants.{Got, Lost}

pub count_by-first : {X : Type 0} (p : X → Bool) (x : X) (xs : List X) → count_by p (x ∷ xs) ≡ cond (p x) 1 0 + count_by p xs
count_by-first p x xs = sum_by-append (λ y. cond (p y) 1 0) (x ∷ []) xs ∙ ap (λ n. n + count_by p xs) (single (cond (p x) 1 0))
  where
    single : (n : ℕ) → 0 + n ≡ n
    single n = omega arith

count_by-push : {X : Type 0} (p : X → Bool) (xs : List X) (x : X) → count_by p (xs ++ x ∷ []) ≡ count_by p xs + cond (p x) 1 0
count_by-push p xs x = sum_by-append (λ y. cond (p y) 1 0) xs (x ∷ []) ∙ ap (λ n. count_by p xs + n) (single (cond (p x) 1 0))
  where
    single : (n : ℕ) → 0 + n ≡ n
    single n = omega arith

one_more : {X : Type 0} (p : X → Bool) (xs : List X) (x : X) → p x ≡ true → count_by p (xs ++ x ∷ []) ≡ count_by p xs + 1
one_more p xs x e = count_by-push p xs x ∙ ap (λ b. count_by p xs + cond b 1 0) e

none_more : {X : Type 0} (p : X → Bool) (xs : List X) (x : X) → p x ≡ false → count_by p (xs ++ x ∷ []) ≡ count_by p xs
none_more p xs x e = count_by-push p xs x ∙ ap (λ b. count_by p xs + cond b 1 0) e ∙ same (count_by p xs)
  where
    same : (n : ℕ) → n + 0 ≡ n
    same n = omega arith

-- the slots are counted apart from the arrivals
slots_counted_as : (fates : List (ℕ × Fate)) (given : List MarkView) (mark : MarkView) (g l : ℕ) → count_by (λ m. is_got m.kind) (given ++ mark ∷ []) ≡ g → count_by (λ m. is_lost m.kind) (given ++ mark ∷ []) ≡ l → tally_of_fates fates (given ++ mark ∷ []) ≡ record (tally_of_fates fates given) { got = g; lost = l }
slots_counted_as fates given mark g l eg el =
    ap (λ n. record (tally_of_fates fates given) { got = n; lost = count_by (λ m. is_lost m.kind) (given ++ mark ∷ []) }) eg
    ∙ ap (λ n. record (tally_of_fates fates given) { got = g; lost = n }) el

-- one more slot
pub tally-slot : (fates : List (ℕ × Fate)) (given : List MarkView) (mark : MarkView) (body : Body) → is_got mark.kind ≡ is_got_body body → is_lost mark.kind ≡ is_lost_body body → tally_of_fates fates (given ++ mark ∷ []) ≡ with_body (tally_of_fates fates given) body
tally-slot fates given mark (Got payload) eg el = slots_counted_as fates given mark _ _ (one_more (λ m. is_got m.kind) given mark eg) (none_more (λ m. is_lost m.kind) given mark el)
tally-slot fates given mark Lost eg el = slots_counted_as fates given mark _ _ (none_more (λ m. is_got m.kind) given mark eg) (one_more (λ m. is_lost m.kind) given mark el)

-- one more mark that is no slot
pub tally-other : (fates : List (ℕ × Fate)) (given : List MarkView) (mark : MarkView) → is_got mark.kind ≡ false → is_lost mark.kind ≡ false → tally_of_fates fates (given ++ mark ∷ []) ≡ tally_of_fates fates given
tally-other fates given mark eg el = slots_counted_as fates given mark _ _ (none_more (λ m. is_got m.kind) given mark eg) (none_more (λ m. is_lost m.kind) given mark el)

-- the counts do not change with a Quiet
pub tally-quiet : (fates : List (ℕ × Fate)) (given : List MarkView) (stream : Stream) (c : Bool) (u : ℤ) → tally_of_fates fates (given ++ option_to_list (if c then Some (quiet_mark stream u) else None)) ≡ tally_of_fates fates given
tally-quiet fates given stream true u = tally-other fates given (quiet_mark stream u) refl refl
tally-quiet fates given stream false u = ap (tally_of_fates fates) (append-nil given)

-- one more taken on a path
taken_on-other : (fates : List (ℕ × Fate)) (p path : ℕ) (fate : Fate) → is_taken_fate fate ≡ false → taken_on (fates ++ (path, fate) ∷ []) p ≡ taken_on fates p
taken_on-other fates p path fate e = none_more (λ f. nat_eq f.0 p && is_taken_fate f.1) fates (path, fate) (both (nat_eq path p) (is_taken_fate fate) e)
  where
    both : (a b : Bool) → b ≡ false → (a && b) ≡ false
    both true b e = e
    both false b e = refl

-- equal numbers make equal tallies
tally_of_equals : (arrived arrived' : ℕ) (taken taken' : ℕ) (taken_by taken_by' : List ℕ) (double double' : ℕ) (unlike unlike' : ℕ) (off_grid off_grid' : ℕ) (late late' : ℕ) (ahead ahead' : ℕ) (wrong_source wrong_source' : ℕ) (got got' : ℕ) (lost lost' : ℕ) (restarts restarts' : ℕ) → arrived ≡ arrived' → taken ≡ taken' → taken_by ≡ taken_by' → double ≡ double' → unlike ≡ unlike' → off_grid ≡ off_grid' → late ≡ late' → ahead ≡ ahead' → wrong_source ≡ wrong_source' → got ≡ got' → lost ≡ lost' → restarts ≡ restarts' → ◌≡◌ {A = Tally} (record { arrived = arrived; taken = taken; taken_by = taken_by; double = double; unlike = unlike; off_grid = off_grid; late = late; ahead = ahead; wrong_source = wrong_source; got = got; lost = lost; restarts = restarts }) (record { arrived = arrived'; taken = taken'; taken_by = taken_by'; double = double'; unlike = unlike'; off_grid = off_grid'; late = late'; ahead = ahead'; wrong_source = wrong_source'; got = got'; lost = lost'; restarts = restarts' })
tally_of_equals arrived arrived' taken taken' taken_by taken_by' double double' unlike unlike' off_grid off_grid' late late' ahead ahead' wrong_source wrong_source' got got' lost lost' restarts restarts' e_arrived e_taken e_taken_by e_double e_unlike e_off_grid e_late e_ahead e_wrong_source e_got e_lost e_restarts = cc

tally_is : (t u : Tally) → t.arrived ≡ u.arrived → t.taken ≡ u.taken → t.taken_by ≡ u.taken_by → t.double ≡ u.double → t.unlike ≡ u.unlike → t.off_grid ≡ u.off_grid → t.late ≡ u.late → t.ahead ≡ u.ahead → t.wrong_source ≡ u.wrong_source → t.got ≡ u.got → t.lost ≡ u.lost → t.restarts ≡ u.restarts → t ≡ u
tally_is t u = tally_of_equals t.arrived u.arrived t.taken u.taken t.taken_by u.taken_by t.double u.double t.unlike u.unlike t.off_grid u.off_grid t.late u.late t.ahead u.ahead t.wrong_source u.wrong_source t.got u.got t.lost u.lost t.restarts u.restarts

taken_by_other : (fates : List (ℕ × Fate)) (path : ℕ) (fate : Fate) → is_taken_fate fate ≡ false → (taken_on (fates ++ (path, fate) ∷ []) 0 ∷ taken_on (fates ++ (path, fate) ∷ []) 1 ∷ taken_on (fates ++ (path, fate) ∷ []) 2 ∷ taken_on (fates ++ (path, fate) ∷ []) 3 ∷ []) ≡ (taken_on fates 0 ∷ taken_on fates 1 ∷ taken_on fates 2 ∷ taken_on fates 3 ∷ [])
taken_by_other fates path fate e = rw (taken_on-other fates 0 path fate e, taken_on-other fates 1 path fate e, taken_on-other fates 2 path fate e, taken_on-other fates 3 path fate e)

taken_on-same : (fates : List (ℕ × Fate)) (p path : ℕ) (fate : Fate) → is_taken_fate fate ≡ true → nat_eq path p ≡ true → taken_on (fates ++ (path, fate) ∷ []) p ≡ taken_on fates p + 1
taken_on-same fates p path fate taken e = one_more (λ f. nat_eq f.0 p && is_taken_fate f.1) fates (path, fate) (rw (e, taken) refl)

taken_on-elsewhere : (fates : List (ℕ × Fate)) (p path : ℕ) (fate : Fate) → is_taken_fate fate ≡ true → nat_eq path p ≡ false → taken_on (fates ++ (path, fate) ∷ []) p ≡ taken_on fates p
taken_on-elsewhere fates p path fate taken e = none_more (λ f. nat_eq f.0 p && is_taken_fate f.1) fates (path, fate) (ap (λ b. b && is_taken_fate fate) e)

taken_by_path : (fates : List (ℕ × Fate)) (path : ℕ) (fate : Fate) → is_taken_fate fate ≡ true → path < 4 → (taken_on (fates ++ (path, fate) ∷ []) 0 ∷ taken_on (fates ++ (path, fate) ∷ []) 1 ∷ taken_on (fates ++ (path, fate) ∷ []) 2 ∷ taken_on (fates ++ (path, fate) ∷ []) 3 ∷ []) ≡ increased_at path (taken_on fates 0 ∷ taken_on fates 1 ∷ taken_on fates 2 ∷ taken_on fates 3 ∷ [])
taken_by_path fates zero fate taken few = rw (taken_on-same fates 0 0 fate taken refl, taken_on-elsewhere fates 1 0 fate taken refl, taken_on-elsewhere fates 2 0 fate taken refl, taken_on-elsewhere fates 3 0 fate taken refl)
taken_by_path fates (suc zero) fate taken few = rw (taken_on-elsewhere fates 0 1 fate taken refl, taken_on-same fates 1 1 fate taken refl, taken_on-elsewhere fates 2 1 fate taken refl, taken_on-elsewhere fates 3 1 fate taken refl)
taken_by_path fates (suc (suc zero)) fate taken few = rw (taken_on-elsewhere fates 0 2 fate taken refl, taken_on-elsewhere fates 1 2 fate taken refl, taken_on-same fates 2 2 fate taken refl, taken_on-elsewhere fates 3 2 fate taken refl)
taken_by_path fates (suc (suc (suc zero))) fate taken few = rw (taken_on-elsewhere fates 0 3 fate taken refl, taken_on-elsewhere fates 1 3 fate taken refl, taken_on-elsewhere fates 2 3 fate taken refl, taken_on-same fates 3 3 fate taken refl)
taken_by_path fates (suc (suc (suc (suc path)))) fate taken few = absurd (omega (arith, few))

-- one more arrival that counts
pub tally-fate : (fates : List (ℕ × Fate)) (given : List MarkView) (path : ℕ) (fate : Fate) → path < 4 → is_counted_fate fate ≡ true → tally_of_fates (fates ++ (path, fate) ∷ []) given ≡ with_fate (tally_of_fates fates given) path fate
tally-fate fates given path Closed few counted = cc
tally-fate fates given path CountersFull few counted = cc
tally-fate fates given path Taken few counted = tally_is _ _ (length-append fates ((path, Taken) ∷ [])) (one_more (λ f. is_taken_fate f.1) fates (path, Taken) refl) (taken_by_path fates path Taken refl few) (none_more (λ f. is_double f.1) fates (path, Taken) refl) (none_more (λ f. is_unlike f.1) fates (path, Taken) refl) (none_more (λ f. is_off_grid f.1) fates (path, Taken) refl) (none_more (λ f. is_late f.1) fates (path, Taken) refl) (none_more (λ f. is_ahead f.1) fates (path, Taken) refl) (none_more (λ f. is_wrong_source f.1) fates (path, Taken) refl) refl refl (none_more (λ f. is_restarted f.1) fates (path, Taken) refl)
tally-fate fates given path Double few counted = tally_is _ _ (length-append fates ((path, Double) ∷ [])) (none_more (λ f. is_taken_fate f.1) fates (path, Double) refl) (taken_by_other fates path Double refl) (one_more (λ f. is_double f.1) fates (path, Double) refl) (none_more (λ f. is_unlike f.1) fates (path, Double) refl) (none_more (λ f. is_off_grid f.1) fates (path, Double) refl) (none_more (λ f. is_late f.1) fates (path, Double) refl) (none_more (λ f. is_ahead f.1) fates (path, Double) refl) (none_more (λ f. is_wrong_source f.1) fates (path, Double) refl) refl refl (none_more (λ f. is_restarted f.1) fates (path, Double) refl)
tally-fate fates given path Unlike few counted = tally_is _ _ (length-append fates ((path, Unlike) ∷ [])) (none_more (λ f. is_taken_fate f.1) fates (path, Unlike) refl) (taken_by_other fates path Unlike refl) (none_more (λ f. is_double f.1) fates (path, Unlike) refl) (one_more (λ f. is_unlike f.1) fates (path, Unlike) refl) (none_more (λ f. is_off_grid f.1) fates (path, Unlike) refl) (none_more (λ f. is_late f.1) fates (path, Unlike) refl) (none_more (λ f. is_ahead f.1) fates (path, Unlike) refl) (none_more (λ f. is_wrong_source f.1) fates (path, Unlike) refl) refl refl (none_more (λ f. is_restarted f.1) fates (path, Unlike) refl)
tally-fate fates given path OffGrid few counted = tally_is _ _ (length-append fates ((path, OffGrid) ∷ [])) (none_more (λ f. is_taken_fate f.1) fates (path, OffGrid) refl) (taken_by_other fates path OffGrid refl) (none_more (λ f. is_double f.1) fates (path, OffGrid) refl) (none_more (λ f. is_unlike f.1) fates (path, OffGrid) refl) (one_more (λ f. is_off_grid f.1) fates (path, OffGrid) refl) (none_more (λ f. is_late f.1) fates (path, OffGrid) refl) (none_more (λ f. is_ahead f.1) fates (path, OffGrid) refl) (none_more (λ f. is_wrong_source f.1) fates (path, OffGrid) refl) refl refl (none_more (λ f. is_restarted f.1) fates (path, OffGrid) refl)
tally-fate fates given path Late few counted = tally_is _ _ (length-append fates ((path, Late) ∷ [])) (none_more (λ f. is_taken_fate f.1) fates (path, Late) refl) (taken_by_other fates path Late refl) (none_more (λ f. is_double f.1) fates (path, Late) refl) (none_more (λ f. is_unlike f.1) fates (path, Late) refl) (none_more (λ f. is_off_grid f.1) fates (path, Late) refl) (one_more (λ f. is_late f.1) fates (path, Late) refl) (none_more (λ f. is_ahead f.1) fates (path, Late) refl) (none_more (λ f. is_wrong_source f.1) fates (path, Late) refl) refl refl (none_more (λ f. is_restarted f.1) fates (path, Late) refl)
tally-fate fates given path Ahead few counted = tally_is _ _ (length-append fates ((path, Ahead) ∷ [])) (none_more (λ f. is_taken_fate f.1) fates (path, Ahead) refl) (taken_by_other fates path Ahead refl) (none_more (λ f. is_double f.1) fates (path, Ahead) refl) (none_more (λ f. is_unlike f.1) fates (path, Ahead) refl) (none_more (λ f. is_off_grid f.1) fates (path, Ahead) refl) (none_more (λ f. is_late f.1) fates (path, Ahead) refl) (one_more (λ f. is_ahead f.1) fates (path, Ahead) refl) (none_more (λ f. is_wrong_source f.1) fates (path, Ahead) refl) refl refl (none_more (λ f. is_restarted f.1) fates (path, Ahead) refl)
tally-fate fates given path WrongSource few counted = tally_is _ _ (length-append fates ((path, WrongSource) ∷ [])) (none_more (λ f. is_taken_fate f.1) fates (path, WrongSource) refl) (taken_by_other fates path WrongSource refl) (none_more (λ f. is_double f.1) fates (path, WrongSource) refl) (none_more (λ f. is_unlike f.1) fates (path, WrongSource) refl) (none_more (λ f. is_off_grid f.1) fates (path, WrongSource) refl) (none_more (λ f. is_late f.1) fates (path, WrongSource) refl) (none_more (λ f. is_ahead f.1) fates (path, WrongSource) refl) (one_more (λ f. is_wrong_source f.1) fates (path, WrongSource) refl) refl refl (none_more (λ f. is_restarted f.1) fates (path, WrongSource) refl)
tally-fate fates given path Restarted few counted = tally_is _ _ (length-append fates ((path, Restarted) ∷ [])) (one_more (λ f. is_taken_fate f.1) fates (path, Restarted) refl) (taken_by_path fates path Restarted refl few) (none_more (λ f. is_double f.1) fates (path, Restarted) refl) (none_more (λ f. is_unlike f.1) fates (path, Restarted) refl) (none_more (λ f. is_off_grid f.1) fates (path, Restarted) refl) (none_more (λ f. is_late f.1) fates (path, Restarted) refl) (none_more (λ f. is_ahead f.1) fates (path, Restarted) refl) (none_more (λ f. is_wrong_source f.1) fates (path, Restarted) refl) refl refl (one_more (λ f. is_restarted f.1) fates (path, Restarted) refl)
