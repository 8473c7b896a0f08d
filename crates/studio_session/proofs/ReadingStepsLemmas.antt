-- A merge that moves to a clock reading, slot by slot.
use Rattle.std.proofs.Common.{inl, inr, ◌-◌, ◌≡◌, ◌<◌, ◌+◌, ◌^◌, ℕ, Bool, true, false, List, [], ◌∷◌, ◌++◌, length, take, drop, ℤ, pos, ◌≤ℤ◌, Option, Some, None, if◌then◌else◌, refl, sym, ap, subst, ◌∙◌, arith}
use Rattle.std.specs.Option.{option_to_list}
use Rattle.std.proofs.lemmas.Int.{ints}
use Rattle.std.proofs.lemmas.Bool.Decides.{nat_tests}
use Rattle.std.proofs.lemmas.List.{drop_at, drop-take, drop_all, take-take}
use Rattle.std.proofs.lemmas.Bool.{cases_lt}
use Rattle.path_merge.proofs.MarkGrowthLemmas.{well_timed_tick}
use Rattle.rtp_stream.specs.declared.stream_spec.Stream.{Stream}
use Rattle.rtp_stream.specs.MarkFacts.{MarkView}
use Rattle.rtp_stream.specs.declared.event.Event.{Event}
use Rattle.rtp_stream.specs.declared.event.Event.TheVariants.{Tick}
use Rattle.rtp_stream.specs.History.{time_of, is_closed, is_well_timed}
use Rattle.rtp_stream.specs.Marks.{marks_of, is_slot}
use Rattle.path_merge.specs.MergeState.{MergeState}
use Rattle.path_merge.specs.Merge.{HasHistory}
use Rattle.path_merge.specs.Clock.{clock_fault_of}
use Rattle.path_merge.specs.Steps.{Advances, IsAlike, Moves, stop_at}
use Rattle.path_merge.proofs.HistoryLemmas.{is_well_timed_from-append}
use Rattle.path_merge.proofs.LawLemmas.{marks_stay}
use Rattle.path_merge.proofs.JoinLemmas.{stands_alike, alike-trans}
use Rattle.path_merge.proofs.RunLemmas.{no_fault, still_no_fault, moves_by_slot, moves_by_other}
use Rattle.studio_session.specs.ReadingSteps.{IsOnWay, WentOn}

-- one more reading that is in order
timed_more : (open_at : ℤ) (events : List Event) (u : ℤ) → is_well_timed open_at events ≡ true → is_closed events ≡ false → time_of open_at events ≤ℤ u → u ≤ℤ pos (2 ^ 60)
    → is_well_timed open_at (events ++ Tick u ∷ []) ≡ true
timed_more open_at events u timed open_yet low high = is_well_timed_from-append open_at false events (Tick u ∷ []) ∙ grind (arith, ints, nat_tests, timed, open_yet, low, high)

-- no merge refuses a reading that is in order
pub in_time : (open_at : ℤ) (m : MergeState) (events : List Event) (u : ℤ) → m.time ≡ time_of open_at events → m.closed ≡ is_closed events
    → is_well_timed open_at (events ++ Tick u ∷ []) ≡ true → clock_fault_of m.time m.closed u ≡ None
in_time open_at m events u time closed well_timed =
    let tick = well_timed_tick open_at events u well_timed in
    still_no_fault m.time m.closed u (rw time tick.not_back) tick.not_far (closed ∙ tick.open_yet)

-- a mark that is next in the first part of a list is next in the whole list
pub next_in_whole : (xs ys : List MarkView) (k : ℕ) (m : MarkView) → take (length xs) ys ≡ xs → m ∷ [] ≡ take 1 (drop k xs) → m ∷ [] ≡ take 1 (drop k ys)
next_in_whole xs ys k m part is = elim (cases_lt k (length xs)) [
  | inl h ↦
      let j = length xs - k in
      let e : length xs ≡ k + j = omega arith in
      is
      ∙ ap (λ l. take 1 (drop k l)) (sym part ∙ ap (λ n. take n ys) e)
      ∙ ap (take 1) (drop-take k j ys)
      ∙ take-take 1 j (drop k ys) (omega arith)
  | inr h ↦ absurd (let none : m ∷ [] ≡ [] = is ∙ ap (take 1) (drop_all k xs h) in let two : length (m ∷ []) ≡ 0 = ap length none in omega (arith, two))
]

-- the last of some marks
last_mark : (xs : List MarkView) (m : MarkView) (k : ℕ) → k ≡ length xs → m ∷ [] ≡ take 1 (drop k (xs ++ m ∷ []))
last_mark xs m k e = ap (take 1) (sym (drop_at xs (m ∷ []) k (sym e)))

pub by_slot : (stream : Stream) (open_at : ℤ) (old new : MergeState) (so_far events : List Event) (k : ℕ) (u : ℤ) (m : MarkView) → 0 < stream.frames
    → HasHistory stream open_at old so_far k → clock_fault_of old.time old.closed u ≡ None → IsAlike stream open_at (so_far ++ Tick u ∷ []) events
    → Advances stream open_at old new so_far k u (Some m) → Moves old new u (Some m) → is_slot m.kind ≡ true
    → (m ∷ [] ≡ take 1 (drop k (marks_of stream open_at events))) × IsOnWay stream open_at new (Some u) events (k + 1)
by_slot stream open_at old new so_far events k u m some stands free alike adv moves slot =
    let stop = stop_at stream old.anchor old.base u in
    let e1 = so_far ++ Tick stop ∷ [] in
    let no = no_fault old.time old.closed u free in
    let moved = moves_by_slot old new u m slot moves in
    let joins = adv.joins slot in
    let shut : is_closed e1 ≡ false = sym adv.stands.closed ∙ moved.2 ∙ no.2 in
    let time : time_of open_at e1 ≡ new.time = sym adv.stands.time in
    let timed = timed_more open_at e1 u adv.stands.well_timed shut (let a = moved.1 in subst (λ t. t ≤ℤ u) (sym time) a) no.1 in
    let all : k ≡ length (marks_of stream open_at so_far) = stands.all_given (sym stands.closed ∙ no.2) in
    let part : take (length (marks_of stream open_at e1)) (marks_of stream open_at events) ≡ marks_of stream open_at e1 =
    ap (take (length (marks_of stream open_at e1))) (sym (joins.marks ∙ alike.marks)) ∙ marks_stay stream open_at some e1 (Tick u ∷ []) timed in
    let last : m ∷ [] ≡ take 1 (drop k (marks_of stream open_at e1)) = last_mark (marks_of stream open_at so_far) m k all ∙ ap (λ l. take 1 (drop k l)) (sym adv.gained) in (
      next_in_whole (marks_of stream open_at e1) (marks_of stream open_at events) k m part last,
      (e1, adv.stands, still_no_fault new.time new.closed u moved.1 no.1 (moved.2 ∙ no.2), alike-trans stream open_at (e1 ++ Tick u ∷ []) (so_far ++ Tick u ∷ []) events joins alike),
    )

-- the merge reached the reading
reached : (stream : Stream) (open_at : ℤ) (old new : MergeState) (so_far events : List Event) (k : ℕ) (u : ℤ) (mark : Option MarkView)
    → IsAlike stream open_at (so_far ++ Tick u ∷ []) events → Advances stream open_at old new so_far k u mark → new.time ≡ u
    → HasHistory stream open_at new events (k + length (option_to_list mark))
reached stream open_at old new so_far events k u mark alike adv time =
    let there : stop_at stream old.anchor old.base u ≡ u = sym adv.time ∙ time in
    stands_alike stream open_at new (so_far ++ Tick u ∷ []) events (k + length (option_to_list mark)) alike
    (subst (λ t. HasHistory stream open_at new (so_far ++ Tick t ∷ []) (k + length (option_to_list mark))) there adv.stands)

by_other : (stream : Stream) (open_at : ℤ) (old new : MergeState) (so_far events : List Event) (k : ℕ) (u : ℤ) (m : MarkView)
    → HasHistory stream open_at old so_far k → clock_fault_of old.time old.closed u ≡ None → IsAlike stream open_at (so_far ++ Tick u ∷ []) events
    → Advances stream open_at old new so_far k u (Some m) → new.time ≡ u
    → m ∷ [] ≡ take 1 (drop k (marks_of stream open_at events))
by_other stream open_at old new so_far events k u m stands free alike adv time =
    let no = no_fault old.time old.closed u free in
    let there : stop_at stream old.anchor old.base u ≡ u = sym adv.time ∙ time in
    let all : k ≡ length (marks_of stream open_at so_far) = stands.all_given (sym stands.closed ∙ no.2) in
    let gained : marks_of stream open_at events ≡ marks_of stream open_at so_far ++ m ∷ [] =
    sym alike.marks ∙ ap (λ t. marks_of stream open_at (so_far ++ Tick t ∷ [])) (sym there) ∙ adv.gained in
    last_mark (marks_of stream open_at so_far) m k all ∙ ap (λ l. take 1 (drop k l)) (sym gained)

abbrev mark_said : Option MarkView → MarkView → MarkView
mark_said None d = d
mark_said (Some m) d = m

-- one call of a merge that moves to a reading
pub went_on : (stream : Stream) (open_at : ℤ) (old new : MergeState) (events : List Event) (k : ℕ) (u : ℤ) (mark : Option MarkView) → 0 < stream.frames
    → IsOnWay stream open_at old (Some u) events k
    → ((so_far : List Event) → HasHistory stream open_at old so_far k → Advances stream open_at old new so_far k u mark) → Moves old new u mark
    → WentOn stream open_at new u events k mark
went_on stream open_at old new events k u None some way adv moves = record {
  given = λ m e. absurd (let f : None ≡ Some m = e in cc);
  stands = reached stream open_at old new way.0 events k u None way.3 (adv way.0 way.1) moves.0;
}
went_on stream open_at old new events k u (Some m) some way adv moves = by_test (is_slot m.kind) refl
  where
    by_test : (b : Bool) → is_slot m.kind ≡ b → WentOn stream open_at new u events k (Some m)
    by_test true slot =
        let both = by_slot stream open_at old new way.0 events k u m some way.1 way.2 way.3 (adv way.0 way.1) moves slot in
        record {
          given = λ m' e. subst (λ (x : MarkView). x ∷ [] ≡ take 1 (drop k (marks_of stream open_at events))) (ap (λ o. mark_said o m) e) both.0;
          stands = subst (λ b. IsOnWay stream open_at new (if b then Some u else None) events (k + 1)) (sym slot) both.1;
        }
    by_test false other =
        let time = moves_by_other old new u m other moves in
        let is = by_other stream open_at old new way.0 events k u m way.1 way.2 way.3 (adv way.0 way.1) time in
        record {
          given = λ m' e. subst (λ (x : MarkView). x ∷ [] ≡ take 1 (drop k (marks_of stream open_at events))) (ap (λ o. mark_said o m) e) is;
          stands = subst (λ b. IsOnWay stream open_at new (if b then Some u else None) events (k + 1)) (sym other) (reached stream open_at old new way.0 events k u (Some m) way.3 (adv way.0 way.1) time);
        }
