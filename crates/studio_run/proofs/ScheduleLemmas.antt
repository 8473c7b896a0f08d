-- A schedule with one more change has no fault, if there is a place for the change.
use Rattle.std.proofs.Common.{◌≡◌, ◌<◌, ◌&&◌, Bool, true, false, cond, eqb, eq-eqb, ℤ, List, [], ◌∷◌, ◌++◌, length, Some, None, refl, ◌∙◌, arith}
use Rattle.std.specs.List.{list_all}
use Rattle.std.specs.Int.RustNames.{int_lt}
use Rattle.std.proofs.lemmas.Bool.{and_parts, le-leb}
use Rattle.std.proofs.lemmas.Int.{ints}
use Rattle.std.proofs.lemmas.List.{length_push}
use Rattle.std.proofs.lemmas.List.Folds.{list_all-append}
use Rattle.gain_mix.specs.Gain.{ins_of}
use Rattle.gain_mix.specs.Changes.{before}
use Rattle.gain_mix.specs.Schedule.{has_few, has_one_shape, has_times, is_rising, rises_from, schedule_fault_of}
use Rattle.gain_mix.specs.declared.schedule.ScheduleFault.TheVariants.{TooMany, Shape, Time, Order}
use Rattle.studio_run.specs.Gains.{is_time}

-- the tests of a schedule without a fault
pub record Passes (first : List (List ℤ)) (later : List (ℤ × List (List ℤ))) : Type 0 where
  pub shape : has_one_shape first later ≡ true
  pub times : has_times later ≡ true
  pub rising : is_rising later ≡ true

passes_if : (few shape times rising : Bool) → cond few (cond shape (cond times (cond rising None (Some Order)) (Some Time)) (Some Shape)) (Some TooMany) ≡ None
    → (shape ≡ true) × (times ≡ true) × (rising ≡ true)
passes_if true true true true none = (refl, refl, refl)
passes_if true true true false none = absurd (let no : Some Order ≡ None = none in cc)
passes_if true true false rising none = absurd (let no : Some Time ≡ None = none in cc)
passes_if true false times rising none = absurd (let no : Some Shape ≡ None = none in cc)
passes_if false shape times rising none = absurd (let no : Some TooMany ≡ None = none in cc)

Passes-from_none : (first : List (List ℤ)) (later : List (ℤ × List (List ℤ))) → schedule_fault_of first later ≡ None → Passes first later
Passes-from_none first later none =
    let parts = passes_if (has_few later) (has_one_shape first later) (has_times later) (is_rising later) none in
    record { shape = parts.0; times = parts.1; rising = parts.2 }

-- if all changes pass a test, so do those that are kept
kept_passes : (test : ℤ × List (List ℤ) → Bool) (b : Bool) (change : ℤ × List (List ℤ)) (kept : List (ℤ × List (List ℤ))) → test change ≡ true → list_all test kept ≡ true → list_all test (cond b (change ∷ kept) kept) ≡ true
kept_passes test true change kept here more = rw (here, more)
kept_passes test false change kept here more = more

before_passes : (test : ℤ × List (List ℤ) → Bool) (at : ℤ) (later : List (ℤ × List (List ℤ))) → list_all test later ≡ true → list_all test (before at later) ≡ true
before_passes test at [] all = refl
before_passes test at (change ∷ later) all =
    let (here, more) = and_parts (test change) (list_all test later) all in
    kept_passes test (int_lt change.0 at) change (before at later) here (before_passes test at later more)

push_passes : (test : ℤ × List (List ℤ) → Bool) (later : List (ℤ × List (List ℤ))) (change : ℤ × List (List ℤ)) → list_all test later ≡ true → test change ≡ true → list_all test (later ++ change ∷ []) ≡ true
push_passes test later change all here = list_all-append test later (change ∷ []) ∙ rw (all, here)

-- times that rise from a time on rise from an earlier time on
rises_earlier : (t u : ℤ) (later : List (ℤ × List (List ℤ))) → int_lt t u ≡ true → rises_from u later ≡ true → rises_from t later ≡ true
rises_earlier t u [] low rises = refl
rises_earlier t u (change ∷ later) low rises =
    let (here, more) = and_parts (int_lt u change.0) (rises_from change.0 later) rises in
    let lower : int_lt t change.0 ≡ true = grind (arith, ints, low, here) in
    rw (lower, more)

rising_from : (t : ℤ) (later : List (ℤ × List (List ℤ))) → rises_from t later ≡ true → is_rising later ≡ true
rising_from t [] rises = refl
rising_from t (change ∷ later) rises = let (here, more) = and_parts (int_lt t change.0) (rises_from change.0 later) rises in more

-- the times before that of a change, followed by that change, rise
rises_step : (t : ℤ) (change last : ℤ × List (List ℤ)) (kept : List (ℤ × List (List ℤ))) → int_lt t change.0 ≡ true
    → (int_lt change.0 last.0 ≡ true → rises_from change.0 (kept ++ last ∷ []) ≡ true) → rises_from t (kept ++ last ∷ []) ≡ true
    → (b : Bool) → int_lt change.0 last.0 ≡ b → rises_from t (cond b (change ∷ kept) kept ++ last ∷ []) ≡ true
rises_step t change last kept low rest skipped true early = let more = rest early in rw (low, more)
rises_step t change last kept low rest skipped false late = skipped

rises_push : (t : ℤ) (later : List (ℤ × List (List ℤ))) (last : ℤ × List (List ℤ)) → rises_from t later ≡ true → int_lt t last.0 ≡ true → rises_from t (before last.0 later ++ last ∷ []) ≡ true
rises_push t [] last rises low = rw low
rises_push t (change ∷ later) last rises low =
    let (here, more) = and_parts (int_lt t change.0) (rises_from change.0 later) rises in
    rises_step t change last (before last.0 later) here (rises_push change.0 later last more) (rises_push t later last (rises_earlier t change.0 later here more) low) (int_lt change.0 last.0) refl

rising_step : (change last : ℤ × List (List ℤ)) (kept : List (ℤ × List (List ℤ))) → (int_lt change.0 last.0 ≡ true → rises_from change.0 (kept ++ last ∷ []) ≡ true)
    → is_rising (kept ++ last ∷ []) ≡ true → (b : Bool) → int_lt change.0 last.0 ≡ b → is_rising (cond b (change ∷ kept) kept ++ last ∷ []) ≡ true
rising_step change last kept rest skipped true early = rest early
rising_step change last kept rest skipped false late = skipped

rising_push : (later : List (ℤ × List (List ℤ))) (last : ℤ × List (List ℤ)) → is_rising later ≡ true → is_rising (before last.0 later ++ last ∷ []) ≡ true
rising_push [] last rising = refl
rising_push (change ∷ later) last rising =
    rising_step change last (before last.0 later) (rises_push change.0 later last rising) (rising_push later last (rising_from change.0 later rising)) (int_lt change.0 last.0) refl

pub changed-no_fault : (first : List (List ℤ)) (later : List (ℤ × List (List ℤ))) (last : ℤ × List (List ℤ)) → schedule_fault_of first later ≡ None → is_time last.0 ≡ true
    → length last.1 ≡ length first → ins_of last.1 ≡ ins_of first → length (before last.0 later) < 64 → schedule_fault_of first (before last.0 later ++ last ∷ []) ≡ None
changed-no_fault first later last none time outs ins place =
    let old = Passes-from_none first later none in
    let few : has_few (before last.0 later ++ last ∷ []) ≡ true = le-leb (length (before last.0 later ++ last ∷ [])) 64 (omega (arith, length_push (before last.0 later) last)) in
    let fits : (eqb (length last.1) (length first) && eqb (ins_of last.1) (ins_of first)) ≡ true = rw (eq-eqb (length last.1) (length first) outs, eq-eqb (ins_of last.1) (ins_of first) ins) in
    let shape : has_one_shape first (before last.0 later ++ last ∷ []) ≡ true = push_passes (λ change. eqb (length change.1) (length first) && eqb (ins_of change.1) (ins_of first)) (before last.0 later) last (before_passes _ last.0 later old.shape) fits in
    let times : has_times (before last.0 later ++ last ∷ []) ≡ true = push_passes (λ change. is_time change.0) (before last.0 later) last (before_passes _ last.0 later old.times) time in
    let rising : is_rising (before last.0 later ++ last ∷ []) ≡ true = rising_push later last old.rising in
    rw (few, shape, times, rising)
