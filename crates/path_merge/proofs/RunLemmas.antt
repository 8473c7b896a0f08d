-- A run over a list of events.
use Rattle.std.proofs.Common.{◌≡◌, ℕ, zero, suc, ◌+◌, ◌^◌, ◌<◌, ◌≤◌, Bool, true, false, ◌&&◌, List, [], ◌∷◌, ◌++◌, length, take, drop, Option, Some, None, ℤ, pos, ◌≤ℤ◌, ◌<ℤ◌, refl, sym, ap, subst, ◌∙◌, arith, length-append, if◌then◌else◌, get_or}
use Rattle.std.specs.Option.{option_map}
use Rattle.std.specs.Prelude.{int_lt, option_to_list, All}
use Rattle.std.proofs.lemmas.Int.{ints}
use Rattle.std.proofs.Math.Seq.{take-append_seam}
use Rattle.std.proofs.lemmas.List.{take-append-drop, take_more}
use Rattle.std.proofs.lemmas.List.Elements.{All-get_or}
use Rattle.path_merge.proofs.CloseLemmas.{marks_of-close, marks_of-none}
use Rattle.path_merge.proofs.HistoryLemmas.{is_well_timed_from-append}
use Rattle.path_merge.proofs.JoinLemmas.{alike-trans, stands_alike}
use Rattle.path_merge.proofs.MarkGrowthLemmas.{well_timed_tick}
use Rattle.rtp_stream.specs.Copies.{copies_of_all}
use Rattle.rtp_stream.specs.History.{clock_after, first_clock_fault_from, is_closed, is_tick_in_order, is_well_timed, is_well_timed_from, time_of}
use Rattle.rtp_stream.specs.MarkFacts.{MarkView}
use Rattle.rtp_stream.specs.Marks.{is_slot, marks_at, marks_of}
use Rattle.path_merge.specs.Merge.{HasHistory}
use Rattle.path_merge.specs.MergeState.{MergeState}
use Rattle.path_merge.specs.Run.{HasGiven, IsEventOf, IsInOrder}
use Rattle.path_merge.specs.Clock.{clock_fault_of}
use Rattle.path_merge.specs.Steps.{Advances, Drains, IsAlike, Moves, MovesBy, Offers, is_slot_mark, stop_at}
use Rattle.rtp_stream.specs.declared.stream_spec.Stream.{Stream}
use Rattle.rtp_stream.specs.declared.event.Event.{Event}
use Rattle.rtp_stream.specs.declared.event.Event.TheVariants.{Arrive, Close, Tick}
use Rattle.rtp_stream.specs.declared.fate.Fate.{Fate}
use Rattle.path_merge.specs.declared.clock.ClockFault.TheVariants.{TooFar, WentBack, Closed as ClockClosed}
use Rattle.rtp_stream.specs.declared.packet.Packet.{Packet}

-- the place of a fault in the rest of a list
abbrev pub shifted_by : ℕ → Option ℕ → Option ℕ
shifted_by i o = option_map (λ k. i + k) o

pub shifted_by-zero : (o : Option ℕ) → o ≡ shifted_by 0 o
shifted_by-zero None = refl
shifted_by-zero (Some k) = ap (λ n. Some n) (omega arith)

pub shifted_by-suc : (i : ℕ) (o : Option ℕ) → shifted_by i (option_map suc o) ≡ shifted_by (i + 1) o
shifted_by-suc i None = refl
shifted_by-suc i (Some k) = ap (λ n. Some n) (omega arith)

some_pair : (x y : ℤ × Bool) → Some x ≡ Some y → x ≡ y
some_pair x y e = cc

pair_inj : (a b : ℤ) (c d : Bool) → ◌≡◌ {A = Option (ℤ × Bool)} (Some (a, c)) (Some (b, d)) → (a ≡ b) × (c ≡ d)
pair_inj a b c d e =
    let p = some_pair (a, c) (b, d) e in
    (ap (λ (x : ℤ × Bool). x.0) p, ap (λ (x : ℤ × Bool). x.1) p)

some_none : (x : ℤ × Bool) → Some x ≡ None → ⊥
some_none x e = cc

pub fault_later : (time : ℤ) (closed : Bool) (event : Event) (rest : List Event) (now : ℤ) (shut : Bool) → clock_after time closed event ≡ Some (now, shut) → first_clock_fault_from time closed (event ∷ rest) ≡ option_map suc (first_clock_fault_from now shut rest)
fault_later time closed (Arrive path packet) rest now shut e =
    let t : time ≡ now = (pair_inj time now closed shut e).0 in
    let c : closed ≡ shut = (pair_inj time now closed shut e).1 in
    ap (λ t. option_map suc (first_clock_fault_from t closed rest)) t ∙ ap (λ c. option_map suc (first_clock_fault_from now c rest)) c
fault_later time closed (Tick u) rest now shut e = by_test (Some (u, closed)) refl (Some (now, shut)) refl (is_tick_in_order time closed u) e
  where
    by_test : (passed : Option (ℤ × Bool)) → Some (u, closed) ≡ passed → (next : Option (ℤ × Bool)) → next ≡ Some (now, shut) → (b : Bool) → (if b then passed else None) ≡ next → (if b then option_map suc (first_clock_fault_from u closed rest) else Some 0) ≡ option_map suc (first_clock_fault_from now shut rest)
    by_test passed is next are true e =
        let p = pair_inj u now closed shut (is ∙ e ∙ are) in
        ap (λ t. option_map suc (first_clock_fault_from t closed rest)) p.0 ∙ ap (λ c. option_map suc (first_clock_fault_from now c rest)) p.1
    by_test passed is next are false e = absurd (some_none (now, shut) (sym (e ∙ are)))
fault_later time closed Close rest now shut e =
    let t : time ≡ now = (pair_inj time now true shut e).0 in
    let c : true ≡ shut = (pair_inj time now true shut e).1 in
    ap (λ t. option_map suc (first_clock_fault_from t true rest)) t ∙ ap (λ c. option_map suc (first_clock_fault_from now c rest)) c

pub fault_here : (time : ℤ) (closed : Bool) (event : Event) (rest : List Event) → clock_after time closed event ≡ None → first_clock_fault_from time closed (event ∷ rest) ≡ Some 0
fault_here time closed (Arrive path packet) rest e = cc
fault_here time closed (Tick u) rest e = by_test (Some (u, closed)) (some_none (u, closed)) (is_tick_in_order time closed u) e
  where
    by_test : (passed : Option (ℤ × Bool)) → (passed ≡ None → ⊥) → (b : Bool) → (if b then passed else None) ≡ None → (if b then option_map suc (first_clock_fault_from u closed rest) else Some 0) ≡ Some 0
    by_test passed never true e = absurd (never e)
    by_test passed never false e = refl
fault_here time closed Close rest e = cc

-- a list with no clock fault is well timed
pub no_fault-well_timed : (time : ℤ) (closed : Bool) (events : List Event) → first_clock_fault_from time closed events ≡ None → is_well_timed_from time closed events ≡ true
no_fault-well_timed time closed [] e = refl
no_fault-well_timed time closed (Arrive path packet ∷ events) e = no_fault-well_timed time closed events (unmapped (first_clock_fault_from time closed events) e)
  where
    unmapped : (o : Option ℕ) → option_map suc o ≡ None → o ≡ None
    unmapped None e = refl
    unmapped (Some k) e = cc
no_fault-well_timed time closed (Tick u ∷ events) e = by_test (λ f. no_fault-well_timed u closed events f) (is_tick_in_order time closed u) e
  where
    unmapped : (o : Option ℕ) → option_map suc o ≡ None → o ≡ None
    unmapped None e = refl
    unmapped (Some k) e = cc

    by_test : (first_clock_fault_from u closed events ≡ None → is_well_timed_from u closed events ≡ true) → (b : Bool) → (if b then option_map suc (first_clock_fault_from u closed events) else Some 0) ≡ None → (b && is_well_timed_from u closed events) ≡ true
    by_test rest true e = rest (unmapped (first_clock_fault_from u closed events) e)
    by_test rest false e = cc
no_fault-well_timed time closed (Close ∷ events) e = no_fault-well_timed time true events (unmapped (first_clock_fault_from time true events) e)
  where
    unmapped : (o : Option ℕ) → option_map suc o ≡ None → o ≡ None
    unmapped None e = refl
    unmapped (Some k) e = cc

all_false : {A : Type 0} (a b c : Bool) (x y z : A) → (if a then Some x else if b then Some y else if c then Some z else None) ≡ None → (a ≡ false) × (b ≡ false) × (c ≡ false)
all_false false false false x y z e = (refl, refl, refl)
all_false true b c x y z e = cc
all_false false true c x y z e = cc
all_false false false true x y z e = cc

-- a clock reading without a fault is in order
pub no_fault : (time : ℤ) (closed : Bool) (now : ℤ) → clock_fault_of time closed now ≡ None → (time ≤ℤ now) × (now ≤ℤ pos (2 ^ 60)) × (closed ≡ false)
no_fault time closed now e =
    let tests = all_false (int_lt now time) (int_lt (pos (2 ^ 60)) now) closed WentBack TooFar ClockClosed e in
    (grind (arith, ints, tests.0), grind (arith, ints, tests.1), tests.2)

pub still_no_fault : (time : ℤ) (closed : Bool) (now : ℤ) → time ≤ℤ now → now ≤ℤ pos (2 ^ 60) → closed ≡ false → clock_fault_of time closed now ≡ None
still_no_fault time closed now le far open_yet =
    let x : int_lt now time ≡ false = grind (arith, ints, le) in
    let y : int_lt (pos (2 ^ 60)) now ≡ false = grind (arith, ints, far) in
    rw (x, y, open_yet)

module _ (stream : Stream) (open_at : ℤ) (old new : MergeState) (now : ℤ) (events so_far : List Event) (marks : List MarkView) (before : HasGiven stream open_at old so_far marks) (same : IsAlike stream open_at (so_far ++ Tick now ∷ []) (events ++ Tick now ∷ [])) where
  -- one more slot on the way
  pub one_more : (mark : MarkView) → is_slot_mark (Some mark) ≡ true → Advances stream open_at old new so_far (length marks) now (Some mark) → (h : List Event) × HasGiven stream open_at new h (marks ++ mark ∷ []) × IsAlike stream open_at (h ++ Tick now ∷ []) (events ++ Tick now ∷ [])
  one_more mark slot step = (so_far ++ Tick (stop_at stream old.anchor old.base now) ∷ [], record { stands = rw (length-append marks (mark ∷ [])) step.stands; all = ap (λ l. l ++ mark ∷ []) before.all ∙ sym step.gained }, alike-trans stream open_at ((so_far ++ Tick (stop_at stream old.anchor old.base now) ∷ []) ++ Tick now ∷ []) (so_far ++ Tick now ∷ []) (events ++ Tick now ∷ []) (step.joins slot) same)

  -- the last step
  pub last_step : (mark : Option MarkView) → new.time ≡ now → Advances stream open_at old new so_far (length marks) now mark → HasGiven stream open_at new (events ++ Tick now ∷ []) (marks ++ option_to_list mark)
  last_step mark there step =
      let stop : stop_at stream old.anchor old.base now ≡ now = sym step.time ∙ there in
      let all : marks ++ option_to_list mark ≡ marks_of stream open_at (events ++ Tick now ∷ []) = ap (λ l. l ++ option_to_list mark) before.all ∙ sym step.gained ∙ ap (λ t. marks_of stream open_at (so_far ++ Tick t ∷ [])) stop ∙ same.marks in
      record { stands = rw (length-append marks (option_to_list mark)) (stands_alike stream open_at new (so_far ++ Tick now ∷ []) (events ++ Tick now ∷ []) (length marks + length (option_to_list mark)) same (subst (λ t. HasHistory stream open_at new (so_far ++ Tick t ∷ []) (length marks + length (option_to_list mark))) stop step.stands)); all = all }

-- the time after a slot, and after another mark
pub moves_by_slot : (old new : MergeState) (now : ℤ) (mark : MarkView) → is_slot mark.kind ≡ true → Moves old new now (Some mark) → (old.time <ℤ new.time) × (new.time ≤ℤ now) × (new.closed ≡ old.closed)
moves_by_slot old new now mark slot moves = subst (MovesBy old new now) slot moves

pub moves_by_other : (old new : MergeState) (now : ℤ) (mark : MarkView) → is_slot mark.kind ≡ false → Moves old new now (Some mark) → new.time ≡ now
moves_by_other old new now mark other moves = (subst (MovesBy old new now) other moves).0

-- one mark more
take_one_more : (xs : List MarkView) (k : ℕ) → take (k + 1) xs ≡ take k xs ++ take 1 (drop k xs)
take_one_more [] zero = refl
take_one_more [] (suc k) = let up : suc k + 1 ≡ suc (k + 1) = omega arith in ap (λ n. take n []) up
take_one_more (x ∷ xs) zero = refl
take_one_more (x ∷ xs) (suc k) = let up : suc k + 1 ≡ suc (k + 1) = omega arith in ap (λ n. take n (x ∷ xs)) up ∙ ap (λ l. x ∷ l) (take_one_more xs k)

nothing_dropped : (xs : List MarkView) (k : ℕ) → [] ≡ take 1 (drop k xs) → take k xs ≡ xs
nothing_dropped [] zero e = refl
nothing_dropped [] (suc k) e = refl
nothing_dropped (x ∷ xs) zero e = cc
nothing_dropped (x ∷ xs) (suc k) e = ap (λ l. x ∷ l) (nothing_dropped xs k e)

take_length : (xs : List MarkView) (k : ℕ) → k ≤ length xs → length (take k xs) ≡ k
take_length [] zero le = refl
take_length [] (suc k) le = absurd (omega (arith, le))
take_length (x ∷ xs) zero le = refl
take_length (x ∷ xs) (suc k) le = omega (arith, take_length xs k (omega (arith, le)))

pub drained_more : (stream : Stream) (open_at : ℤ) (new : MergeState) (events : List Event) (k : ℕ) (mark : MarkView) (marks : List MarkView) → Drains stream open_at new events k (Some mark) → marks ≡ take k (marks_of stream open_at events) → HasHistory stream open_at new events (k + 1) × (marks ++ mark ∷ [] ≡ take (k + 1) (marks_of stream open_at events))
drained_more stream open_at new events k mark marks drains all = (drains.stands, rw all (sym (take_one_more (marks_of stream open_at events) k ∙ ap (λ l. take k (marks_of stream open_at events) ++ l) (sym drains.given))))

pub drained_all : (stream : Stream) (open_at : ℤ) (new : MergeState) (events : List Event) (k : ℕ) (marks : List MarkView) → Drains stream open_at new events k None → marks ≡ take k (marks_of stream open_at events) → HasGiven stream open_at new events marks
drained_all stream open_at new events k marks drains all =
    let same : take k (marks_of stream open_at events) ≡ marks_of stream open_at events = nothing_dropped (marks_of stream open_at events) k drains.given in
    let whole : k + 0 ≡ length marks = omega (arith, sym (take_length (marks_of stream open_at events) (k + 0) drains.stands.given), ap length (all ∙ ap (λ n. take n (marks_of stream open_at events)) (zero_more k))) in
    record { stands = subst (λ n. HasHistory stream open_at new events n) whole drains.stands; all = all ∙ same }
  where
    zero_more : (n : ℕ) → n ≡ n + 0
    zero_more n = omega arith

-- the marks of each event
pub given_offered : (stream : Stream) (open_at : ℤ) (new : MergeState) (events : List Event) (marks : List MarkView) (path : ℕ) (packet : Packet) (answer : Fate) → marks ≡ marks_of stream open_at events → Offers stream open_at new events (length marks) path packet answer → HasGiven stream open_at new (events ++ Arrive path packet ∷ []) marks
given_offered stream open_at new events marks path packet answer all offers = record { stands = offers.stands; all = all ∙ sym offers.kept }

pub given_closed : (stream : Stream) (open_at : ℤ) (new : MergeState) (events : List Event) (marks : List MarkView) → marks ≡ marks_of stream open_at events → marks ≡ take (length marks) (marks_of stream open_at (events ++ Close ∷ []))
given_closed stream open_at new events marks all =
    all ∙ sym (ap (take (length marks)) (marks_of-close stream open_at events) ∙ ap (λ n. take n (marks_of stream open_at events ++ marks_at stream open_at (copies_of_all stream open_at events) (marks_of stream open_at events) events Close)) (ap length all) ∙ take-append_seam (marks_of stream open_at events) _)

-- the next event of a well-timed list is in order
in_order : (open_at : ℤ) (m : MergeState) (before : List Event) (event : Event) → m.time ≡ time_of open_at before → m.closed ≡ is_closed before → is_well_timed open_at (before ++ event ∷ []) ≡ true → IsInOrder m event
in_order open_at m before (Arrive path packet) time closed well_timed = tt
in_order open_at m before (Tick u) time closed well_timed =
    let tick = well_timed_tick open_at before u well_timed in
    still_no_fault m.time m.closed u (rw time tick.not_back) tick.not_far (closed ∙ tick.open_yet)
in_order open_at m before Close time closed well_timed = tt

both_left : (a b : Bool) → (a && b) ≡ true → a ≡ true
both_left true b e = refl
both_left false b e = cc

pub next_in_order : (stream : Stream) (open_at : ℤ) (m : MergeState) (events : List Event) (marks : List MarkView) (i : ℕ) (event : Event) → is_well_timed open_at events ≡ true → i < length events → event ≡ get_or events i event → HasGiven stream open_at m (take i events) marks → IsInOrder m event
next_in_order stream open_at m events marks i event well_timed lt is given =
    let whole : take (i + 1) events ++ drop (i + 1) events ≡ events = take-append-drop (i + 1) events in
    let parts = is_well_timed_from-append open_at false (take (i + 1) events) (drop (i + 1) events) in
    let first : is_well_timed open_at (take (i + 1) events) ≡ true = both_left _ _ (sym parts ∙ ap (is_well_timed open_at) whole ∙ well_timed) in
    let one : take (i + 1) events ≡ take i events ++ event ∷ [] = take_more events i event lt ∙ ap (λ e. take i events ++ e ∷ []) (sym is) in
    in_order open_at m (take i events) event given.stands.time given.stands.closed (rw one at first)

pub given_more : (stream : Stream) (open_at : ℤ) (m : MergeState) (events : List Event) (marks : List MarkView) (i : ℕ) (event : Event) → i < length events → event ≡ get_or events i event → HasGiven stream open_at m (take i events ++ event ∷ []) marks → HasGiven stream open_at m (take (i + 1) events) marks
given_more stream open_at m events marks i event lt is given =
    let one : take i events ++ event ∷ [] ≡ take (i + 1) events = sym (take_more events i event lt ∙ ap (λ e. take i events ++ e ∷ []) (sym is)) in
    subst (λ l. HasGiven stream open_at m l marks) one given

pub given_at_start : (stream : Stream) (open_at : ℤ) (m : MergeState) (marks : List MarkView) → HasHistory stream open_at m [] 0 → marks ≡ [] → HasGiven stream open_at m [] marks
given_at_start stream open_at m marks at none = rw none (record { stands = at; all = sym (marks_of-none stream open_at) })

pub of_stream_at : (stream spec : Stream) (events : List Event) (i : ℕ) (event : Event) → All (IsEventOf stream) events → spec ≡ stream → i < length events → event ≡ get_or events i event → IsEventOf spec event
of_stream_at stream spec events i event all same lt is = rw same (subst (IsEventOf stream) (sym is) (All-get_or (IsEventOf stream) events i event lt all))
