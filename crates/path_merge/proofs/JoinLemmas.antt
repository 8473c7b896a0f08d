-- A reading to a deadline on the way to a later reading changes nothing.
use Rattle.path_merge.proofs.EpochLemmas.{heard_of-tick, standings_of-tick}
use Rattle.rtp_stream.specs.FollowTrack.{track_of}
use Rattle.rtp_stream.specs.Follow.{standings_on}
use Rattle.rtp_stream.specs.PathProbation.{probation_of}
use Rattle.rtp_stream.specs.Epochs.{anchor_of}
use Rattle.rtp_stream.specs.Grid.{first_with}
use Rattle.std.proofs.Common.{◌≡◌, ℕ, suc, ◌-◌, ◌^◌, ◌<◌, true, false, List, [], ◌∷◌, ◌++◌, length, Some, ℤ, pos, ◌≤ℤ◌, refl, sym, ap, ◌∙◌, arith, append_assoc, ◌||◌, Bool}
use Rattle.std.proofs.lemmas.Int.{ints}
use Rattle.path_merge.proofs.HistoryLemmas.{anchor_of-tick, copies_of-tick, events_until_close-open, fates_of-tick, is_closed-append, time_of-append}
use Rattle.path_merge.proofs.MarkGrowthLemmas.{IsTickAt, tick_well_timed}
use Rattle.path_merge.proofs.DueLemmas.{next_number-rises}
use Rattle.path_merge.proofs.StepLemmas.{marks_of-tick}
use Rattle.rtp_stream.specs.Anchor.{next_number}
use Rattle.rtp_stream.specs.Copies.{copies_of}
use Rattle.rtp_stream.specs.History.{is_closed, time_of}
use Rattle.rtp_stream.specs.MarkFacts.{MarkView}
use Rattle.rtp_stream.specs.Marks.{body_of, has_slot, is_slot, marks_of, slot_mark, slots_between, slots_from, slots_or_quiet}
use Rattle.path_merge.specs.Merge.{HasHistory}
use Rattle.path_merge.specs.MergeState.{MergeState}
use Rattle.path_merge.specs.Steps.{IsAlike}
use Rattle.rtp_stream.specs.declared.stream_spec.Stream.{Stream}
use Rattle.rtp_stream.specs.declared.anchor.Anchor.{Anchor}
use Rattle.rtp_stream.specs.declared.event.Event.{Event}
use Rattle.rtp_stream.specs.declared.event.Event.TheVariants.{Tick}

pub alike-refl : (stream : Stream) (open_at : ℤ) (e : List Event) → IsAlike stream open_at e e
alike-refl stream open_at e = record { well_timed = λ l. l; time = refl; closed = refl; fates = refl; anchor = refl; heard = λ path. refl; standings = refl; copies = refl; marks = refl; before_close = refl }

pub alike-trans : (stream : Stream) (open_at : ℤ) (e f g : List Event) → IsAlike stream open_at e f → IsAlike stream open_at f g → IsAlike stream open_at e g
alike-trans stream open_at e f g a b = record {
  well_timed = λ l. b.well_timed (a.well_timed l);
  time = a.time ∙ b.time;
  closed = a.closed ∙ b.closed;
  fates = a.fates ∙ b.fates;
  anchor = a.anchor ∙ b.anchor;
  heard = λ path. a.heard path ∙ b.heard path;
  standings = a.standings ∙ b.standings;
  copies = a.copies ∙ b.copies;
  marks = a.marks ∙ b.marks;
  before_close = a.before_close ∙ b.before_close;
}

pub stands_alike : (stream : Stream) (open_at : ℤ) (m : MergeState) (e f : List Event) (k : ℕ) → IsAlike stream open_at e f → HasHistory stream open_at m e k → HasHistory stream open_at m f k
stands_alike stream open_at m e f k same at = record {
  spec = at.spec;
  well_timed = same.well_timed at.well_timed;
  time = at.time ∙ same.time;
  anchor = at.anchor ∙ same.anchor;
  closed = at.closed ∙ same.closed;
  counts = at.counts ∙ rw (← same.marks, ← same.fates) refl;
  given = rw (← same.marks) at.given;
  all_given = λ o. at.all_given (same.closed ∙ o) ∙ ap length same.marks;
  before_close = rw (← same.before_close) at.before_close;
  base = rw (← same.marks) at.base;
  held = λ n. rw (← same.copies) (at.held n);
  probation = λ path few. at.probation path few ∙ ap (probation_of stream) (same.heard path);
  tracks = λ path few. at.tracks path few ∙ ap (λ l. track_of (standings_on path l)) same.standings;
  quiet = rw (← same.marks) at.quiet;
  ended = rw (← same.marks) at.ended;
}

pub has_slot-append : (xs : List MarkView) (mark : MarkView) (ys : List MarkView) → is_slot mark.kind ≡ true → has_slot (xs ++ mark ∷ ys) ≡ true
has_slot-append [] mark ys e = rw e refl
has_slot-append (x ∷ xs) mark ys e = rw (has_slot-append xs mark ys e) (or_true (is_slot x.kind))
  where
    or_true : (b : Bool) → (b || true) ≡ true
    or_true true = refl
    or_true false = refl

-- no Quiet after a slot
pub slots_or_quiet-slotted : (stream : Stream) (open_at : ℤ) (given : List MarkView) (u : ℤ) (marks : List MarkView) → has_slot given ≡ true → slots_or_quiet stream open_at given u marks ≡ marks
slots_or_quiet-slotted stream open_at given u [] slotted = rw slotted
slots_or_quiet-slotted stream open_at given u (mark ∷ marks) slotted = refl

-- a reading to the next deadline, and then one to a later time
module _ (stream : Stream) (open_at : ℤ) (some : 0 < stream.frames) (events : List Event) (a : Anchor) (is_a : anchor_of stream open_at events ≡ Some a) (u v : ℤ) (tick : IsTickAt open_at events u) (later : u ≤ℤ v) (far : v ≤ℤ pos (2 ^ 60)) (n : ℕ) (next : next_number stream a (time_of open_at events) ≡ n) (after : next_number stream a u ≡ suc n) where
  abbrev first_mark : MarkView
  first_mark = slot_mark stream a n (body_of (first_with n (copies_of stream open_at events)))

  at_u : marks_of stream open_at (events ++ Tick u ∷ []) ≡ marks_of stream open_at events ++ slot_mark stream a n (body_of (first_with n (copies_of stream open_at events))) ∷ []
  at_u =
      let count : next_number stream a u - next_number stream a (time_of open_at events) ≡ 1 = omega (arith, next, after) in
      marks_of-tick stream open_at events u tick.open_yet ∙ rw (is_a, count, next)

  open_u : is_closed (events ++ Tick u ∷ []) ≡ false
  open_u = is_closed-append events (Tick u ∷ []) ∙ rw tick.open_yet

  joined_marks : marks_of stream open_at ((events ++ Tick u ∷ []) ++ Tick v ∷ []) ≡ marks_of stream open_at (events ++ Tick v ∷ [])
  joined_marks =
      let rises = next_number-rises stream a u v some later in
      let split : next_number stream a v - next_number stream a (time_of open_at events) ≡ suc (next_number stream a v - suc n) = omega (arith, next, after) in
      let one_way : marks_of stream open_at ((events ++ Tick u ∷ []) ++ Tick v ∷ []) ≡ marks_of stream open_at events ++ slot_mark stream a n (body_of (first_with n (copies_of stream open_at events))) ∷ slots_from stream a (copies_of stream open_at events) (suc n) (next_number stream a v - suc n) =
      marks_of-tick stream open_at (events ++ Tick u ∷ []) v open_u
      ∙ or_is
      ∙ ap (λ l. l ++ slots_from stream a (copies_of stream open_at events) (suc n) (next_number stream a v - suc n)) at_u
      ∙ append_assoc (marks_of stream open_at events) (slot_mark stream a n (body_of (first_with n (copies_of stream open_at events))) ∷ []) (slots_from stream a (copies_of stream open_at events) (suc n) (next_number stream a v - suc n)) in
      let other_way : marks_of stream open_at (events ++ Tick v ∷ []) ≡ marks_of stream open_at events ++ slot_mark stream a n (body_of (first_with n (copies_of stream open_at events))) ∷ slots_from stream a (copies_of stream open_at events) (suc n) (next_number stream a v - suc n) =
      marks_of-tick stream open_at events v tick.open_yet ∙ rw (is_a, split, next) in
      one_way ∙ sym other_way
    where
      or_is : marks_of stream open_at (events ++ Tick u ∷ []) ++ slots_or_quiet stream open_at (marks_of stream open_at (events ++ Tick u ∷ [])) v (slots_between stream (copies_of stream open_at (events ++ Tick u ∷ [])) (anchor_of stream open_at (events ++ Tick u ∷ [])) (time_of open_at (events ++ Tick u ∷ [])) v)
          ≡ marks_of stream open_at (events ++ Tick u ∷ []) ++ slots_from stream a (copies_of stream open_at events) (suc n) (next_number stream a v - suc n)
      or_is = ap (λ l. marks_of stream open_at (events ++ Tick u ∷ []) ++ l) (slots_or_quiet-slotted stream open_at (marks_of stream open_at (events ++ Tick u ∷ [])) v _ (ap has_slot at_u ∙ has_slot-append (marks_of stream open_at events) first_mark [] refl))
          ∙ rw (copies_of-tick stream open_at events u, anchor_of-tick stream open_at events u, is_a, time_of-append open_at events (Tick u ∷ []), after)

  pub joined : IsAlike stream open_at ((events ++ Tick u ∷ []) ++ Tick v ∷ []) (events ++ Tick v ∷ [])
  joined = record {
    well_timed = λ _. tick_well_timed open_at events v (record { before = tick.before; open_yet = tick.open_yet; not_back = omega (arith, ints, tick.not_back); not_far = far });
    time = time_of-append open_at (events ++ Tick u ∷ []) (Tick v ∷ []) ∙ sym (time_of-append open_at events (Tick v ∷ []));
    closed = is_closed-append (events ++ Tick u ∷ []) (Tick v ∷ []) ∙ (rw open_u (sym (is_closed-append events (Tick v ∷ []) ∙ rw tick.open_yet)));
    fates = fates_of-tick stream open_at (events ++ Tick u ∷ []) v ∙ fates_of-tick stream open_at events u ∙ sym (fates_of-tick stream open_at events v);
    anchor = anchor_of-tick stream open_at (events ++ Tick u ∷ []) v ∙ anchor_of-tick stream open_at events u ∙ sym (anchor_of-tick stream open_at events v);
    heard = λ path. heard_of-tick stream open_at (events ++ Tick u ∷ []) v path ∙ heard_of-tick stream open_at events u path ∙ sym (heard_of-tick stream open_at events v path);
    standings = standings_of-tick stream open_at (events ++ Tick u ∷ []) v ∙ standings_of-tick stream open_at events u ∙ sym (standings_of-tick stream open_at events v);
    copies = copies_of-tick stream open_at (events ++ Tick u ∷ []) v ∙ copies_of-tick stream open_at events u ∙ sym (copies_of-tick stream open_at events v);
    marks = joined_marks;
    before_close = rw (events_until_close-open ((events ++ Tick u ∷ []) ++ Tick v ∷ []) (is_closed-append (events ++ Tick u ∷ []) (Tick v ∷ []) ∙ rw open_u), events_until_close-open (events ++ Tick v ∷ []) (is_closed-append events (Tick v ∷ []) ∙ rw tick.open_yet)) joined_marks;
  }
