-- The times of the changes to come: of a studio with one change more, and after an answer.
use Rattle.std.proofs.Common.{◌≡◌, ◌≤ℤ◌, Bool, true, false, cond, ℤ, List, [], ◌∷◌, ◌++◌, map, refl, sym, ap, ◌∙◌, arith}
use Rattle.std.specs.Int.RustNames.{int_le, int_lt}
use Rattle.std.proofs.lemmas.Int.{ints}
use Rattle.std.proofs.lemmas.List.{append-nil, map_push}
use Rattle.gain_mix.specs.Changes.{Changes, before, rest_of, with_change}
use Rattle.studio_config.specs.Studio.{Studio}
use Rattle.studio_io.specs.Gains.{changes_in}
use Rattle.studio_io.specs.declared.gain_source.GainAnswer.{GainAnswer}
use Rattle.studio_io.specs.declared.gain_source.GainAnswer.TheVariants.{Taken, Refused, Shown}
use Rattle.studio_mix.specs.Changed.{rows_in, with_changes, with_each}
use Rattle.live_gains.specs.Planned.{AreKept, behind, earlier, planned_after, planned_at, times_of, with_taken}

-- the times of the rest of a schedule
rest_step : (rows : List (List ℤ)) (c : ℤ × List (List ℤ)) (later : List (ℤ × List (List ℤ))) (t : ℤ) → times_of (rest_of c.1 later t).later ≡ behind t (times_of later)
    → (b : Bool) → times_of (cond b (rest_of c.1 later t) (record { first = rows; later = c ∷ later })).later ≡ cond b (behind t (times_of later)) (c.0 ∷ times_of later)
rest_step rows c later t same true = same
rest_step rows c later t same false = refl

times_of_rest : (later : List (ℤ × List (List ℤ))) (t : ℤ) (rows : List (List ℤ)) → times_of (rest_of rows later t).later ≡ behind t (times_of later)
times_of_rest [] t rows = refl
times_of_rest (c ∷ later) t rows = rest_step rows c later t (times_of_rest later t c.1) (int_le c.0 t)

pub planned_is : (studio : Studio) (changes : List (ℤ × List ℤ)) (t : ℤ) → planned_at studio changes t ≡ behind t (times_of (with_changes studio changes).schedule.later)
planned_is studio changes t = times_of_rest (with_changes studio changes).schedule.later t (with_changes studio changes).schedule.first

-- the times before a time, and one more
before_step : (c : ℤ × List (List ℤ)) (kept : List (ℤ × List (List ℤ))) (times : List ℤ) → times_of kept ≡ times
    → (b : Bool) → times_of (cond b (c ∷ kept) kept) ≡ cond b (c.0 ∷ times) times
before_step c kept times same true = ap (λ l. c.0 ∷ l) same
before_step c kept times same false = same

times_of_before : (at : ℤ) (later : List (ℤ × List (List ℤ))) → times_of (before at later) ≡ earlier at (times_of later)
times_of_before at [] = refl
times_of_before at (c ∷ later) = before_step c (before at later) (earlier at (times_of later)) (times_of_before at later) (int_lt c.0 at)

times_of_change : (schedule : Changes) (at : ℤ) (rows : List (List ℤ)) → times_of (with_change schedule at rows).later ≡ earlier at (times_of schedule.later) ++ at ∷ []
times_of_change schedule at rows =
    map_push (λ (change : ℤ × List (List ℤ)). change.0) (before at schedule.later) (at, rows)
    ∙ ap (λ l. l ++ at ∷ []) (times_of_before at schedule.later)

with_each-push : (schedule : Changes) (changes : List (ℤ × List (List ℤ))) (more : ℤ × List (List ℤ)) → with_each schedule (changes ++ more ∷ []) ≡ with_change (with_each schedule changes) more.0 more.1
with_each-push schedule [] more = refl
with_each-push schedule (change ∷ changes) more = with_each-push (with_change schedule change.0 change.1) changes more

-- the times of a studio's changes, with one change more
times_more : (studio : Studio) (changes : List (ℤ × List ℤ)) (at : ℤ) (gains : List ℤ)
    → times_of (with_changes studio (changes ++ (at, gains) ∷ [])).schedule.later ≡ earlier at (times_of (with_changes studio changes).schedule.later) ++ at ∷ []
times_more studio changes at gains =
    let row = rows_in studio (at, gains) in
    ap (λ (l : List (ℤ × List (List ℤ))). times_of (with_each studio.schedule l).later) (map_push (rows_in studio) changes (at, gains))
    ∙ (ap (λ (s : Changes). times_of s.later) (with_each-push studio.schedule (map (rows_in studio) changes) row)
    ∙ times_of_change (with_each studio.schedule (map (rows_in studio) changes)) at row.1)

-- the change that an answer takes
times_taken : (studio : Studio) (changes : List (ℤ × List ℤ)) (answer : GainAnswer) (gains : List ℤ)
    → times_of (with_changes studio (changes ++ changes_in answer gains)).schedule.later ≡ with_taken answer (times_of (with_changes studio changes).schedule.later)
times_taken studio changes (Taken at) gains = times_more studio changes at gains
times_taken studio changes (Refused fault) gains = ap (λ (l : List (ℤ × List ℤ)). times_of (with_changes studio l).schedule.later) (append-nil changes)
times_taken studio changes (Shown at) gains = ap (λ (l : List (ℤ × List ℤ)). times_of (with_changes studio l).schedule.later) (append-nil changes)

-- one step
due : (c : ℤ) (times : List ℤ) (t : ℤ) → c ≤ℤ t → behind t (c ∷ times) ≡ behind t times
due c times t h =
    let there : int_le c t ≡ true = grind (arith, ints, h) in
    ap (λ (b : Bool). cond b (behind t times) (c ∷ times)) there

-- the times behind a later time
later_step : (c : ℤ) (times : List ℤ) (t u : ℤ) → t ≤ℤ u → behind u (behind t times) ≡ behind u times
    → (b : Bool) → int_le c t ≡ b → behind u (cond b (behind t times) (c ∷ times)) ≡ behind u (c ∷ times)
later_step c times t u h same false e = refl
later_step c times t u h same true e =
    let there : c ≤ℤ u = grind (arith, ints, h, e) in
    same ∙ sym (due c times u there)

pub behind_behind : (times : List ℤ) (t u : ℤ) → t ≤ℤ u → behind u (behind t times) ≡ behind u times
behind_behind [] t u h = refl
behind_behind (c ∷ times) t u h = later_step c times t u h (behind_behind times t u h) (int_le c t) refl

-- one change more, whether or not times that are due were removed
kept_step : (c : ℤ) (times : List ℤ) (at t : ℤ) → c ≤ℤ t → (b : Bool) → behind t (cond b (c ∷ earlier at times) (earlier at times) ++ at ∷ []) ≡ behind t (earlier at times ++ at ∷ [])
kept_step c times at t h true = due c (earlier at times ++ at ∷ []) t h
kept_step c times at t h false = refl

gone_step : (c : ℤ) (times : List ℤ) (at t : ℤ) → behind t (earlier at (behind t times) ++ at ∷ []) ≡ behind t (earlier at times ++ at ∷ [])
    → (b : Bool) → int_le c t ≡ b → behind t (earlier at (cond b (behind t times) (c ∷ times)) ++ at ∷ []) ≡ behind t (earlier at (c ∷ times) ++ at ∷ [])
gone_step c times at t same false e = refl
gone_step c times at t same true e =
    let there : c ≤ℤ t = grind (arith, ints, e) in
    same ∙ sym (kept_step c times at t there (int_lt c at))

behind_taken : (times : List ℤ) (at t : ℤ) → behind t (earlier at (behind t times) ++ at ∷ []) ≡ behind t (earlier at times ++ at ∷ [])
behind_taken [] at t = refl
behind_taken (c ∷ times) at t = gone_step c times at t (behind_taken times at t) (int_le c t) refl

behind_with : (answer : GainAnswer) (times : List ℤ) (t : ℤ) → behind t (with_taken answer (behind t times)) ≡ behind t (with_taken answer times)
behind_with (Taken at) times t = behind_taken times at t
behind_with (Refused fault) times t = behind_behind times t t (omega (arith, ints))
behind_with (Shown at) times t = behind_behind times t t (omega (arith, ints))

-- two lists that are alike behind t are so with the change that an answer takes
alike : (answer : GainAnswer) (xs ys : List ℤ) (t : ℤ) → behind t xs ≡ behind t ys → behind t (with_taken answer xs) ≡ behind t (with_taken answer ys)
alike answer xs ys t same =
    sym (behind_with answer xs t) ∙ (ap (λ l. behind t (with_taken answer l)) same ∙ behind_with answer ys t)

-- the times that are left after an answer
left_after : (answer : GainAnswer) (next t : ℤ) (times : List ℤ) → next ≤ℤ t → behind t (planned_after answer next times) ≡ behind t (with_taken answer times)
left_after answer next t times h =
    behind_behind (with_taken answer (behind next times)) next t h
    ∙ alike answer (behind next times) times t (behind_behind times next t h)

-- are those of the changes to come of the studio with the change that the answer takes
pub kept_after : (studio : Studio) (changes : List (ℤ × List ℤ)) (answer : GainAnswer) (gains : List ℤ) (from next : ℤ) (times : List ℤ)
    → AreKept studio changes from times → from ≤ℤ next → AreKept studio (changes ++ changes_in answer gains) next (planned_after answer next times)
kept_after studio changes answer gains from next times kept h = λ t late.
    let all = times_of (with_changes studio changes).schedule.later in
    let same : behind t times ≡ behind t all = kept t (omega (arith, ints, h, late)) ∙ planned_is studio changes t in
    left_after answer next t times late
    ∙ (alike answer times all t same
    ∙ (ap (behind t) (sym (times_taken studio changes answer gains))
    ∙ sym (planned_is studio (changes ++ changes_in answer gains) t)))

-- no planned time is due
pub planned_exactly : (studio : Studio) (changes : List (ℤ × List ℤ)) (answer : GainAnswer) (gains : List ℤ) (from next : ℤ) (times : List ℤ)
    → AreKept studio changes from times → from ≤ℤ next → planned_after answer next times ≡ planned_at studio (changes ++ changes_in answer gains) next
planned_exactly studio changes answer gains from next times kept h =
    sym (behind_behind (with_taken answer (behind next times)) next next (omega (arith, ints)))
    ∙ kept_after studio changes answer gains from next times kept h next (omega (arith, ints))

-- at the opening
pub kept_first : (studio : Studio) (from : ℤ) → AreKept studio [] from (times_of studio.schedule.later)
kept_first studio from = λ t late. sym (planned_is studio [] t)
