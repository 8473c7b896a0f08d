-- A merge on its way to a reading, mark by mark.
use Rattle.std.proofs.Common.{◌≡◌, ℕ, ◌+◌, ◌^◌, ◌<◌, Bool, true, false, List, [], ◌∷◌, ◌++◌, length, take, Option, Some, None, ℤ, pos, ◌≤ℤ◌, ◌<ℤ◌, refl, sym, ap, subst, ◌∙◌, arith, append-nil, append_assoc, length-append, if◌then◌else◌}
use Rattle.std.specs.Prelude.{int_le, option_to_list}
use Rattle.std.proofs.lemmas.Bool.Decides.{nat_tests}
use Rattle.std.proofs.lemmas.Int.{ints}
use Rattle.path_merge.proofs.AgainLemmas.{tick_again}
use Rattle.path_merge.proofs.HistoryLemmas.{is_closed-append, is_well_timed_from-append, time_of-append}
use Rattle.path_merge.proofs.JoinLemmas.{alike-refl, alike-trans, stands_alike}
use Rattle.path_merge.proofs.LawLemmas.{tick_split}
use Rattle.rtp_stream.specs.Anchor.{deadline_of}
use Rattle.rtp_stream.specs.History.{is_closed, is_well_timed, time_of}
use Rattle.rtp_stream.specs.Laws.{IsOpen}
use Rattle.rtp_stream.specs.MarkFacts.{MarkView}
use Rattle.rtp_stream.specs.Marks.{marks_of}
use Rattle.path_merge.specs.Merge.{HasHistory, IsBaseOf}
use Rattle.path_merge.specs.MergeState.{MergeState}
use Rattle.path_merge.specs.Steps.{Advances, IsAlike, Moves, MovesBy, is_slot_mark, stop_at}
use Rattle.rtp_stream.specs.declared.stream_spec.Stream.{Stream}
use Rattle.path_merge.specs.ReadingSteps.{IsOnWay}
use Rattle.rtp_stream.specs.declared.anchor.Anchor.{Anchor}
use Rattle.rtp_stream.specs.declared.event.Event.{Event}
use Rattle.rtp_stream.specs.declared.event.Event.TheVariants.{Tick}

-- alike the other way round
pub alike-sym : (stream : Stream) (open_at : ℤ) (e f : List Event) → IsAlike stream open_at e f → is_well_timed open_at e ≡ true → IsAlike stream open_at f e
alike-sym stream open_at e f same timed = record {
  well_timed = λ _. timed;
  time = sym same.time;
  closed = sym same.closed;
  fates = sym same.fates;
  anchor = sym same.anchor;
  heard = λ path. sym (same.heard path);
  standings = sym same.standings;
  copies = sym same.copies;
  marks = sym same.marks;
  before_close = sym same.before_close;
}

-- one reading in order more
pub timed_more : (open_at : ℤ) (events : List Event) (u : ℤ) → is_well_timed open_at events ≡ true → is_closed events ≡ false → time_of open_at events ≤ℤ u → u ≤ℤ pos (2 ^ 60) → is_well_timed open_at (events ++ Tick u ∷ []) ≡ true
timed_more open_at events u timed open_yet low high = is_well_timed_from-append open_at false events (Tick u ∷ []) ∙ grind (arith, ints, nat_tests, timed, open_yet, low, high)

pub open_more : (open_at : ℤ) (events : List Event) (u : ℤ) → IsOpen open_at events → time_of open_at events ≤ℤ u → u ≤ℤ pos (2 ^ 60) → IsOpen open_at (events ++ Tick u ∷ [])
open_more open_at events u still low high = record {
  well_timed = timed_more open_at events u still.well_timed still.open_yet low high;
  open_yet = is_closed-append events (Tick u ∷ []) ∙ ap (λ b. if b then true else false) still.open_yet;
}

-- a reading that is repeated has the effect of one
twice : (stream : Stream) (open_at : ℤ) (events : List Event) (t u : ℤ) → 0 < stream.frames → IsOpen open_at events → time_of open_at events ≤ℤ t → t ≤ℤ pos (2 ^ 60) → u ≡ t → IsAlike stream open_at ((events ++ Tick t ∷ []) ++ Tick u ∷ []) (events ++ Tick u ∷ [])
twice stream open_at events t u some still low high same =
    let time : time_of open_at (events ++ Tick t ∷ []) ≡ u = time_of-append open_at events (Tick t ∷ []) ∙ sym same in
    let one : IsAlike stream open_at ((events ++ Tick t ∷ []) ++ Tick u ∷ []) (events ++ Tick t ∷ []) = subst (λ v. IsAlike stream open_at ((events ++ Tick t ∷ []) ++ Tick v ∷ []) (events ++ Tick t ∷ [])) time (tick_again stream open_at some (events ++ Tick t ∷ []) (open_more open_at events t still low high)) in
    subst (λ v. IsAlike stream open_at ((events ++ Tick t ∷ []) ++ Tick u ∷ []) (events ++ Tick v ∷ [])) (sym same) one

-- the way begins at the history
pub way_starts : (stream : Stream) (open_at : ℤ) (m : MergeState) (events : List Event) (now : ℤ) (k : ℕ) → HasHistory stream open_at m events k → IsOnWay stream open_at m events now k []
way_starts stream open_at m events now k at = record {
  so_far = events;
  stands = subst (HasHistory stream open_at m events) (let none : k ≡ k + 0 = omega arith in none) at;
  marks = sym (append-nil (marks_of stream open_at events));
  joins = λ u low high. alike-refl stream open_at (events ++ Tick u ∷ []);
}

module _ (stream : Stream) (open_at : ℤ) (m : MergeState) (events : List Event) (now : ℤ) (k : ℕ) (more : List MarkView) (some : 0 < stream.frames) (low : m.time ≤ℤ now) (high : now ≤ℤ pos (2 ^ 60)) (open_yet : m.closed ≡ false) (way : IsOnWay stream open_at m events now k more) where
  still : IsOpen open_at way.so_far
  still = record { well_timed = way.stands.well_timed; open_yet = sym way.stands.closed ∙ open_yet }

  -- so far the history has the effect of a reading of the merge's time
  there : IsAlike stream open_at way.so_far (events ++ Tick m.time ∷ [])
  there =
      let time : time_of open_at way.so_far ≡ m.time = sym way.stands.time in
      let again : IsAlike stream open_at (way.so_far ++ Tick m.time ∷ []) way.so_far = subst (λ u. IsAlike stream open_at (way.so_far ++ Tick u ∷ []) way.so_far) time (tick_again stream open_at some way.so_far still) in
      let timed : is_well_timed open_at (way.so_far ++ Tick m.time ∷ []) ≡ true = timed_more open_at way.so_far m.time way.stands.well_timed still.open_yet (omega (arith, ints, time)) (omega (arith, ints, low, high)) in
      alike-trans stream open_at way.so_far (way.so_far ++ Tick m.time ∷ []) (events ++ Tick m.time ∷ []) (alike-sym stream open_at (way.so_far ++ Tick m.time ∷ []) way.so_far again timed) (way.joins m.time (omega (arith, ints)) low)

  pub way_stands : HasHistory stream open_at m (events ++ Tick m.time ∷ []) (k + length more)
  way_stands = stands_alike stream open_at m way.so_far (events ++ Tick m.time ∷ []) (k + length more) there way.stands

  pub way_marks : marks_of stream open_at (events ++ Tick m.time ∷ []) ≡ marks_of stream open_at events ++ more
  way_marks = sym there.marks ∙ way.marks

  -- a call stops at a deadline on the way, or at its end
  by_stop : (u : ℤ) (o : Option Anchor) → m.anchor ≡ o → m.time <ℤ stop_at stream o m.base now → stop_at stream o m.base now ≤ℤ u → u ≤ℤ now → IsAlike stream open_at ((way.so_far ++ Tick (stop_at stream o m.base now) ∷ []) ++ Tick u ∷ []) (way.so_far ++ Tick u ∷ [])
  by_stop u None is after from to = twice stream open_at way.so_far now u some still (omega (arith, ints, way.stands.time, low)) high (omega (arith, ints, from, to))
  by_stop u (Some a) is after from to = by_test (int_le (deadline_of stream a m.base) now) after from
    where
      by_test : (b : Bool) → m.time <ℤ (if b then deadline_of stream a m.base else now) → (if b then deadline_of stream a m.base else now) ≤ℤ u → IsAlike stream open_at ((way.so_far ++ Tick (if b then deadline_of stream a m.base else now) ∷ []) ++ Tick u ∷ []) (way.so_far ++ Tick u ∷ [])
      by_test false after from = twice stream open_at way.so_far now u some still (omega (arith, ints, way.stands.time, low)) high (omega (arith, ints, from, to))
      by_test true after from = tick_split stream open_at some way.so_far still a m.base u (record {
        anchored = sym way.stands.anchor ∙ is;
        from_anchor = let base : IsBaseOf (Some a) m.base (take (k + length more) (marks_of stream open_at way.so_far)) = subst (λ o. IsBaseOf o m.base (take (k + length more) (marks_of stream open_at way.so_far))) is way.stands.base in omega (arith, base);
        after = omega (arith, ints, way.stands.time, after);
        not_after = from;
        in_range = omega (arith, ints, high, to);
      })

  -- one call further
  pub way_goes_on : (new : MergeState) (mark : Option MarkView) → Advances stream open_at m new way.so_far (k + length more) now mark → Moves m new now mark → IsOnWay stream open_at new events now k (more ++ option_to_list mark)
  way_goes_on new mark step moves = record {
    so_far = way.so_far ++ Tick stop ∷ [];
    stands = subst (HasHistory stream open_at new (way.so_far ++ Tick stop ∷ [])) (omega (arith, length-append more (option_to_list mark))) step.stands;
    marks = step.gained ∙ (ap (λ l. l ++ option_to_list mark) way.marks ∙ append_assoc (marks_of stream open_at events) more (option_to_list mark));
    joins = λ u from to. alike-trans stream open_at ((way.so_far ++ Tick stop ∷ []) ++ Tick u ∷ []) (way.so_far ++ Tick u ∷ []) (events ++ Tick u ∷ []) (by_mark u from to (is_slot_mark mark) moves) (way.joins u (passed (is_slot_mark mark) moves u from) to);
  }
    where
      stop : ℤ
      stop = stop_at stream m.anchor m.base now

      passed : (b : Bool) → MovesBy m new now b → (u : ℤ) → new.time ≤ℤ u → m.time ≤ℤ u
      passed true moved u from = omega (arith, ints, moved.0, from)
      passed false moved u from = omega (arith, ints, moved.0, low, from)

      by_mark : (u : ℤ) → new.time ≤ℤ u → u ≤ℤ now → (b : Bool) → MovesBy m new now b → IsAlike stream open_at ((way.so_far ++ Tick stop ∷ []) ++ Tick u ∷ []) (way.so_far ++ Tick u ∷ [])
      by_mark u from to true moved = by_stop u m.anchor refl (omega (arith, ints, step.time, moved.0)) (omega (arith, ints, step.time, from)) to
      by_mark u from to false moved = twice stream open_at way.so_far stop u some still (omega (arith, ints, step.time, moved.0, way.stands.time, low)) (omega (arith, ints, step.time, moved.0, high)) (omega (arith, ints, step.time, moved.0, from, to))
