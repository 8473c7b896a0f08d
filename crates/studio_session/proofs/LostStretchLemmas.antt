-- Lost slots that a cursor passes at once are the next marks of its events.
use Rattle.std.proofs.Common.{◌≡◌, ◌<◌, ◌+◌, ℕ, false, List, [], ◌∷◌, ◌++◌, length, take, drop, ℤ, ◌≤ℤ◌, Option, Some, None, refl, sym, ap, subst, ◌∙◌, arith, length-append}
use Rattle.std.proofs.lemmas.Int.{ints}
use Rattle.std.proofs.lemmas.List.{drop_at, drop-take}
use Rattle.rtp_stream.specs.declared.stream_spec.Stream.{Stream}
use Rattle.rtp_stream.specs.declared.anchor.Anchor.{Anchor}
use Rattle.rtp_stream.specs.declared.event.Event.{Event}
use Rattle.rtp_stream.specs.declared.event.Event.TheVariants.{Tick}
use Rattle.rtp_stream.specs.History.{is_closed, time_of}
use Rattle.rtp_stream.specs.MarkFacts.{MarkView}
use Rattle.rtp_stream.specs.Marks.{marks_of}
use Rattle.path_merge.specs.Clock.{clock_fault_of}
use Rattle.path_merge.specs.Merge.{HasHistory}
use Rattle.path_merge.specs.MergeState.{MergeState}
use Rattle.path_merge.specs.PassLost.{LosesSlots, lost_due, lost_from, lost_marks, lost_under}
use Rattle.path_merge.proofs.JoinLemmas.{alike-trans}
use Rattle.path_merge.proofs.LawLemmas.{marks_stay}
use Rattle.path_merge.proofs.PassLostLemmas.{slots_from-length}
use Rattle.path_merge.proofs.ReadingStepsLemmas.{timed_more}
use Rattle.path_merge.proofs.RunLemmas.{no_fault}
use Rattle.studio_session.specs.Event.{TraceEvent}
use Rattle.studio_session.specs.Session.{stream_history}
use Rattle.studio_session.specs.ReadingSteps.{IsOnWay}
use Rattle.studio_session.specs.Cursor.{CursorState, HasPulled}
use Rattle.studio_session.specs.LostStretch.{PassesStretch}

lost_marks-length : (m : MergeState) (now : ℤ) (count : ℕ) → count ≡ lost_due m now → length (lost_marks m count) ≡ count
lost_marks-length m now count is = by_anchor m.anchor is
  where
    by_anchor : (o : Option Anchor) → count ≡ lost_under m now o → length (lost_from m o count) ≡ count
    by_anchor None none = sym none
    by_anchor (Some a) some = slots_from-length m.spec a m.base count

no_marks : (m : MergeState) → [] ≡ lost_marks m 0
no_marks m = by_anchor m.anchor
  where
    by_anchor : (o : Option Anchor) → [] ≡ lost_from m o 0
    by_anchor None = refl
    by_anchor (Some a) = refl

-- the marks that follow the first ones of a list
next_some : (xs more ys : List MarkView) (k count : ℕ) → length xs ≡ k → length more ≡ count → take (length (xs ++ more)) ys ≡ xs ++ more → take count (drop k ys) ≡ more
next_some xs more ys k count before many part =
    let all : length (xs ++ more) ≡ k + count = omega (arith, length-append xs more, before, many) in
    sym (drop-take k count ys) ∙ ap (λ n. drop k (take n ys)) (sym all) ∙ ap (drop k) part ∙ drop_at xs more k before

-- a merge on its way to a reading passed lost slots
record LosesOnWay (stream : Stream) (open_at : ℤ) (old new : MergeState) (u : ℤ) (events : List Event) (k count : ℕ) : Type 0 where
  marks : take count (drop k (marks_of stream open_at events)) ≡ lost_marks old count
  stands : IsOnWay stream open_at new (Some u) events (k + count)

loses_on_way : (stream : Stream) (open_at : ℤ) (old new : MergeState) (u : ℤ) (events : List Event) (k count : ℕ) → 0 < stream.frames
    → IsOnWay stream open_at old (Some u) events k
    → ((so_far : List Event) → HasHistory stream open_at old so_far k → LosesSlots stream open_at old new so_far k u count)
    → clock_fault_of new.time new.closed u ≡ None → count ≡ lost_due old u
    → LosesOnWay stream open_at old new u events k count
loses_on_way stream open_at old new u events k count some way loses can is =
    let on = (loses way.0 way.1).on_way in
    let many : length (lost_marks old count) ≡ count = lost_marks-length old u count is in
    let before = no_fault old.time old.closed u way.2 in
    let now = no_fault new.time new.closed u can in
    let joins = on.joins u now.0 (omega (arith, ints)) in
    let all : length (marks_of stream open_at way.0) ≡ k = sym (way.1.all_given (sym way.1.closed ∙ before.2)) in
    let shut : is_closed on.so_far ≡ false = sym on.stands.closed ∙ now.2 in
    let time : time_of open_at on.so_far ≡ new.time = sym on.stands.time in
    let timed = timed_more open_at on.so_far u on.stands.well_timed shut (let a = now.0 in subst (λ t. t ≤ℤ u) (sym time) a) now.1 in
    let part : take (length (marks_of stream open_at on.so_far)) (marks_of stream open_at events) ≡ marks_of stream open_at on.so_far =
    ap (take (length (marks_of stream open_at on.so_far))) (sym (joins.marks ∙ way.3.marks)) ∙ marks_stay stream open_at some on.so_far (Tick u ∷ []) timed in
    record {
      marks = next_some (marks_of stream open_at way.0) (lost_marks old count) (marks_of stream open_at events) k count all many
          (subst (λ l. take (length l) (marks_of stream open_at events) ≡ l) on.marks part);
      stands = (on.so_far, subst (λ n. HasHistory stream open_at new on.so_far (k + n)) many on.stands, can, alike-trans stream open_at (on.so_far ++ Tick u ∷ []) (way.0 ++ Tick u ∷ []) events joins way.3);
    }

-- a cursor passed no slot
pub passes_none : (stream : Stream) (number : ℕ) (open_at : ℤ) (events : List TraceEvent) (x : CursorState) (k : ℕ) → HasPulled stream number open_at events x k
    → PassesStretch stream number open_at events x x k None
passes_none stream number open_at events x k pulled = record {
  marks = no_marks x.merge;
  stands = let same : k ≡ k + 0 = omega arith in subst (λ n. HasPulled stream number open_at events x n) same pulled;
}

-- a cursor passed some slots
pub passes_some : (stream : Stream) (number : ℕ) (open_at : ℤ) (events : List TraceEvent) (x : CursorState) (new : MergeState) (u media : ℤ) (k count : ℕ) → 0 < stream.frames
    → HasPulled stream number open_at events x k → x.reading ≡ Some u
    → ((so_far : List Event) → HasHistory stream open_at x.merge so_far k → LosesSlots stream open_at x.merge new so_far k u count)
    → clock_fault_of new.time new.closed u ≡ None → count ≡ lost_due x.merge u
    → PassesStretch stream number open_at events x (record x { merge = new }) k (Some (record { media = media; count = count }))
passes_some stream number open_at events x new u media k count some pulled reading loses can is =
    let h = stream_history stream number (take x.place events) in
    let way : IsOnWay stream open_at x.merge (Some u) h k = subst (λ r. IsOnWay stream open_at x.merge r h k) reading pulled.stands in
    let lost = loses_on_way stream open_at x.merge new u h k count some way loses can is in
    record {
      marks = lost.marks;
      stands = record {
        spec = pulled.spec;
        stream_number = pulled.stream_number;
        within = pulled.within;
        counted = pulled.counted;
        stands = subst (λ r. IsOnWay stream open_at new r h (k + count)) (sym reading) lost.stands;
      };
    }
