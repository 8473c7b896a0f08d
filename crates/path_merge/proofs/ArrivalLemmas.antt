-- One more arrival changes no mark, and takes the history on.
use Rattle.std.proofs.Common.{◌≡◌, ℕ, ◌^◌, ◌<◌, ◌≤◌, Bool, true, false, ◌&&◌, List, [], ◌∷◌, ◌++◌, length, Option, Some, None, ℤ, refl, sym, ap, ◌∙◌, arith, append-nil, if◌then◌else◌}
use Rattle.std.specs.Prelude.{nat_eq, nat_lt}
use Rattle.path_merge.proofs.StepLemmas.{take_all}
use Rattle.path_merge.specs.Merge.{HasHistory, IsBaseOf, heard_of, standings_of}
use Rattle.rtp_stream.specs.FollowTrack.{track_at, track_of}
use Rattle.rtp_stream.specs.Follow.{standings_on}
use Rattle.path_merge.specs.MergeState.{MergeState}
use Rattle.rtp_stream.specs.PathProbation.{probation_at, probation_of}
use Rattle.std.specs.FinMap.{get}
use Rattle.std.proofs.lemmas.Bool.Decides.{nat_tests}
use Rattle.path_merge.proofs.HistoryLemmas.{IsNextEpoch, anchor_made, made_next, or_else, anchor_of-push, copies_of_all-push, events_until_close-open, is_closed-append, is_well_timed_from-append, marks_in, marks_in-push, marks_of-in, time_of-append}
use Rattle.path_merge.proofs.MarkGrowthLemmas.{AllLater, AllLaterThan, marks_in-more}
use Rattle.rtp_stream.specs.Anchor.{next_number}
use Rattle.rtp_stream.specs.Epochs.{anchor_of, anchors_of, last_of, width_in_force}
use Rattle.rtp_stream.specs.Copies.{copies_at, copies_of_all, first_copy, copies_under_with, with_epoch}
use Rattle.rtp_stream.specs.Grid.{extended_number, of_width, is_on_grid}
use Rattle.rtp_stream.specs.Counts.{counts_of}
use Rattle.rtp_stream.specs.History.{arrival_count, is_closed, is_counting, is_well_timed, time_of}
use Rattle.rtp_stream.specs.Marks.{marks_of}
use Rattle.rtp_stream.specs.declared.stream_spec.Stream.{Stream}
use Rattle.rtp_stream.specs.declared.anchor.Anchor.{Anchor}
use Rattle.rtp_stream.specs.declared.event.Event.{Event}
use Rattle.rtp_stream.specs.declared.event.Event.TheVariants.{Arrive}
use Rattle.rtp_stream.specs.declared.packet.Packet.{Packet}

module _ (stream : Stream) (open_at : ℤ) (some : 0 < stream.frames) (events : List Event) (well_timed : is_well_timed open_at events ≡ true) (open_yet : is_closed events ≡ false) (path : ℕ) (packet : Packet) where
  -- a copy is of a number that has had no slot, or of a new epoch
  copies_under-later : (width : ℕ) (time : ℤ) (hearing : Bool) (o made : Option Anchor) → IsNextEpoch stream open_at o made → AllLater stream o time (copies_under_with (of_width stream width) time hearing (or_else made o) packet)
  copies_under-later width time hearing None None next = tt
  copies_under-later width time hearing None (Some a) next = by_test (extended_number packet (next_number stream a time)) _
    where
      by_test : (n : ℕ) (b : Bool) → AllLater stream None time (with_epoch (Some a) (if b then (n, packet) ∷ [] else []))
      by_test n true = (tt, tt)
      by_test n false = tt
  copies_under-later width time hearing (Some a) None next = by_test (extended_number packet (next_number stream a time)) hearing (nat_eq packet.ssrc a.source) (is_on_grid stream a (extended_number packet (next_number stream a time)) packet.ts) _ (λ le. grind (arith, nat_tests, le))
    where
      by_test : (n : ℕ) (h s g w : Bool) → (w ≡ true → next_number stream a time ≤ n) → AllLater stream (Some a) time (with_epoch (Some a) (if h && (s && (g && w)) then (n, packet) ∷ [] else []))
      by_test n true true true true e = ((omega arith, λ same. e refl), tt)
      by_test n true true true false e = tt
      by_test n true true false w e = tt
      by_test n true false g w e = tt
      by_test n false s g w e = tt
  copies_under-later width time hearing (Some a) (Some b) next = by_test (extended_number packet (next_number stream b time)) _
    where
      by_test : (n : ℕ) (c : Bool) → AllLater stream (Some a) time (with_epoch (Some b) (if c then (n, packet) ∷ [] else []))
      by_test n true = ((omega (arith, next), λ same. absurd (omega (arith, next, same))), tt)
      by_test n false = tt

  copies_at-later : AllLaterThan stream open_at events (copies_at stream open_at events (Arrive path packet))
  copies_at-later = rw (anchor_of-push stream open_at events (Arrive path packet)) (copies_under-later (width_in_force stream open_at (last_of (anchors_of stream open_at (events ++ Arrive path packet ∷ []))) events) (time_of open_at events) (is_counting events) (anchor_of stream open_at events) (anchor_made stream open_at events (Arrive path packet)) (made_next stream open_at events (Arrive path packet)))

  -- an arrival changes no mark, even if it opens an epoch
  pub marks_of-arrive : marks_of stream open_at (events ++ Arrive path packet ∷ []) ≡ marks_of stream open_at events
  marks_of-arrive =
      marks_of-in stream open_at (events ++ Arrive path packet ∷ [])
      ∙ ap (λ c. marks_in stream open_at c (events ++ Arrive path packet ∷ [])) (copies_of_all-push stream open_at events (Arrive path packet))
      ∙ marks_in-push stream open_at (copies_of_all stream open_at events ++ copies_at stream open_at events (Arrive path packet)) events (Arrive path packet)
      ∙ append-nil _
      ∙ marks_in-more stream open_at some (copies_of_all stream open_at events) (copies_at stream open_at events (Arrive path packet)) events well_timed open_yet copies_at-later
      ∙ sym (marks_of-in stream open_at events)

-- the parts of a merge that an arrival may change
pub record IsArrivalStep (stream : Stream) (open_at : ℤ) (old new : MergeState) (events : List Event) (event : Event) : Type 0 where
  pub spec : new.spec ≡ old.spec
  pub time : new.time ≡ old.time
  pub anchor : new.anchor ≡ anchor_of stream open_at (events ++ event ∷ [])
  pub base : IsBaseOf new.anchor new.base (marks_of stream open_at events)
  pub held : (n : ℕ) → get new.held n ≡ (if nat_lt n new.base then None else first_copy stream open_at (events ++ event ∷ []) n)
  pub probation : (path : ℕ) → path < 4 → probation_at new.probations path ≡ probation_of stream (heard_of stream open_at (last_of (anchors_of stream open_at (events ++ event ∷ []))) (events ++ event ∷ []) path)
  pub tracks : (path : ℕ) → path < 4 → track_at new.tracks path ≡ track_of (standings_on path (standings_of stream open_at (last_of (anchors_of stream open_at (events ++ event ∷ []))) (events ++ event ∷ [])))
  pub quiet : new.quiet ≡ old.quiet
  pub counts : new.counts ≡ counts_of stream open_at (events ++ event ∷ []) (marks_of stream open_at events)
  pub closed : new.closed ≡ old.closed
  pub ended : new.ended ≡ old.ended

pub stands_after_arrival : (stream : Stream) (open_at : ℤ) (some : 0 < stream.frames) (m new : MergeState) (events : List Event) (k : ℕ) (path : ℕ) (packet : Packet) → HasHistory stream open_at m events k → m.closed ≡ false → arrival_count events < 2 ^ 62 → IsArrivalStep stream open_at m new events (Arrive path packet) → HasHistory stream open_at new (events ++ Arrive path packet ∷ []) k
stands_after_arrival stream open_at some m new events k path packet at open_yet few step =
    let shut = sym at.closed ∙ open_yet in
    let same = marks_of-arrive stream open_at some events at.well_timed shut path packet in
    let all = take_all (marks_of stream open_at events) k (at.all_given shut) in
    record {
      spec = step.spec ∙ at.spec;
      well_timed = is_well_timed_from-append open_at false events (Arrive path packet ∷ []) ∙ rw at.well_timed;
      time = step.time ∙ at.time ∙ sym (time_of-append open_at events (Arrive path packet ∷ []));
      anchor = step.anchor;
      closed = step.closed ∙ at.closed ∙ shut ∙ sym (is_closed-append events (Arrive path packet ∷ []) ∙ rw shut);
      counts = step.counts ∙ rw (same, all) refl;
      given = rw same at.given;
      all_given = λ _. at.all_given shut ∙ ap length (sym same);
      before_close = rw (events_until_close-open (events ++ Arrive path packet ∷ []) (is_closed-append events (Arrive path packet ∷ []) ∙ rw shut), same) (omega (arith, at.all_given shut));
      base = rw (same, all) step.base;
      held = step.held;
      probation = step.probation;
      tracks = step.tracks;
      quiet = step.quiet ∙ at.quiet ∙ rw same;
      ended = step.ended ∙ at.ended ∙ rw same;
    }
