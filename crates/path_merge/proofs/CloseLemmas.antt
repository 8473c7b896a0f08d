-- The start of a merge, its close, and the marks that are left then.
use Rattle.path_merge.proofs.EpochLemmas.{anchor_is, copies_of-since, heard_of-close, no_anchors, standings_of-close}
use Rattle.rtp_stream.specs.FollowTrack.{no_track, track_at, track_of}
use Rattle.rtp_stream.specs.Follow.{standings_on}
use Rattle.rtp_stream.specs.declared.follow.Track.{Track}
use Rattle.path_merge.proofs.HistoryLemmas.{copies_of_all-close, anchor_of-close, copies_of-close, events_until_close-close, events_until_close-closed, fates_of-close, is_closed-append, is_well_timed_from-append, marks_in, marks_in-none, marks_in-push, marks_of-in, time_of-append}
use Rattle.rtp_stream.specs.Copies.{copies_of_all, copies_of}
use Rattle.rtp_stream.specs.Epochs.{anchors_of, last_of, anchor_of}
use Rattle.path_merge.specs.Merge.{heard_of, standings_of, HasHistory}
use Rattle.rtp_stream.specs.PathProbation.{no_probation, probation_at, probation_of}
use Rattle.rtp_stream.specs.declared.probation.Probation.{Probation}
use Rattle.std.specs.Prelude.{Option, nat_lt}
use Rattle.rtp_stream.specs.declared.packet.Packet.{Packet}
use Rattle.std.proofs.Common.{◌≡◌, ℕ, ◌^◌, ◌≤◌, Bool, true, false, List, [], ◌∷◌, ◌++◌, length, take, None, ℤ, pos, ◌-ℤ◌, ◌≤ℤ◌, refl, sym, ap, ◌∙◌, arith, length-append, if◌then◌else◌}
use Rattle.std.specs.Ordering.{nat_cmp}
use Rattle.std.specs.FinMap.{FinMap}
use Rattle.std.proofs.lemmas.List.{take-append-le}
use Rattle.std.proofs.lemmas.Int.{ints}
use Rattle.rtp_stream.specs.Counts.{fates_of, tally_of_fates}
use Rattle.rtp_stream.specs.CountsFacts.{Tally, empty_tally}
use Rattle.rtp_stream.specs.History.{at_places, events_until_close, is_closed}
use Rattle.rtp_stream.specs.Marks.{marks_at, marks_of}
use Rattle.path_merge.specs.MergeState.{IsSound, MergeState}
use Rattle.rtp_stream.specs.declared.stream_spec.Stream.{Stream}
use Rattle.rtp_stream.specs.StreamSpecFacts.{IsStream}
use Rattle.path_merge.specs.Window.{IsEmpty}
use Rattle.rtp_stream.specs.declared.event.Event.{Event}
use Rattle.rtp_stream.specs.declared.event.Event.TheVariants.{Close}

module _ (stream : Stream) (open_at : ℤ) where
  -- nothing has happened
  anchor_of-none : anchor_of stream open_at [] ≡ None
  anchor_of-none = anchor_is stream open_at [] ∙ rw (no_anchors stream open_at) refl

  copies_of-none : copies_of stream open_at [] ≡ []
  copies_of-none = copies_of-since stream open_at [] ∙ rw (no_anchors stream open_at) refl

  heard_of-none : (path : ℕ) → heard_of stream open_at (last_of (anchors_of stream open_at [])) [] path ≡ []
  heard_of-none path = rw (no_anchors stream open_at) refl

  standings_of-none : standings_of stream open_at (last_of (anchors_of stream open_at [])) [] ≡ []
  standings_of-none = rw (no_anchors stream open_at) refl

  fates_of-none : fates_of stream open_at [] ≡ []
  unfolding fates_of at_places
  fates_of-none = refl

  pub marks_of-none : marks_of stream open_at [] ≡ []
  marks_of-none = marks_of-in stream open_at [] ∙ marks_in-none stream open_at (copies_of_all stream open_at [])

  pub stands_at_start : (time' : ℤ) (base size : ℕ) (h : FinMap nat_cmp Packet) (quiet : ℤ) (counts : Tally) (probations : List Probation) (tracks : List Track) → time' ≡ open_at → IsEmpty h → quiet ≡ open_at -ℤ pos stream.latency → counts ≡ empty_tally → ((path : ℕ) → probation_at probations path ≡ no_probation) → ((path : ℕ) → track_at tracks path ≡ no_track) → HasHistory stream open_at (record { spec = stream; time = time'; anchor = None; base = base; size = size; held = h; quiet = quiet; counts = counts; closed = false; ended = false; probations = probations; tracks = tracks }) [] 0
  stands_at_start time' base size h quiet counts probations tracks is_time empty is_quiet is_counts fresh untracked = record {
    spec = refl;
    well_timed = refl;
    time = is_time;
    anchor = sym anchor_of-none;
    closed = refl;
    counts = is_counts ∙ sym (ap (λ f. tally_of_fates f []) fates_of-none);
    given = omega arith;
    all_given = λ _. rw marks_of-none refl;
    before_close = rw marks_of-none (omega arith);
    base = tt;
    held = λ n. empty n ∙ rw copies_of-none (none (nat_lt n base));
    probation = λ path few. fresh path ∙ ap (probation_of stream) (sym (heard_of-none path));
    tracks = λ path few. untracked path ∙ ap (λ l. track_of (standings_on path l)) (sym standings_of-none);
    quiet = is_quiet;
    ended = refl;
  }
    where
      none : (b : Bool) → ◌≡◌ {A = Option Packet} None (if b then None else None)
      none true = refl
      none false = refl

  -- a close adds its own marks
  pub marks_of-close : (events : List Event) → marks_of stream open_at (events ++ Close ∷ []) ≡ marks_of stream open_at events ++ marks_at stream open_at (copies_of_all stream open_at events) (marks_of stream open_at events) events Close
  marks_of-close events =
      marks_of-in stream open_at (events ++ Close ∷ [])
      ∙ ap (λ c. marks_in stream open_at c (events ++ Close ∷ [])) (copies_of_all-close stream open_at events)
      ∙ marks_in-push stream open_at (copies_of_all stream open_at events) events Close
      ∙ rw (← marks_of-in stream open_at events)

  closes : (events : List Event) → is_closed (events ++ Close ∷ []) ≡ true
  closes events = is_closed-append events (Close ∷ []) ∙ either (is_closed events)
    where
      either : (b : Bool) → (if b then true else true) ≡ true
      either true = refl
      either false = refl

  pub stands_after_close : (m : MergeState) (events : List Event) (k : ℕ) → HasHistory stream open_at m events k → HasHistory stream open_at (record m { closed = true }) (events ++ Close ∷ []) k
  stands_after_close m events k at =
      let same : take k (marks_of stream open_at (events ++ Close ∷ [])) ≡ take k (marks_of stream open_at events) = ap (take k) (marks_of-close events) ∙ take-append-le k (marks_of stream open_at events) (marks_at stream open_at (copies_of_all stream open_at events) (marks_of stream open_at events) events Close) at.given in
      let longer : length (marks_of stream open_at events) ≤ length (marks_of stream open_at (events ++ Close ∷ [])) = omega (arith, ap length (marks_of-close events), length-append (marks_of stream open_at events) (marks_at stream open_at (copies_of_all stream open_at events) (marks_of stream open_at events) events Close)) in
      record {
        spec = at.spec;
        well_timed = is_well_timed_from-append open_at false events (Close ∷ []) ∙ rw at.well_timed;
        time = at.time ∙ sym (time_of-append open_at events (Close ∷ []));
        anchor = at.anchor ∙ sym (anchor_of-close stream open_at events);
        closed = sym (closes events);
        counts = at.counts ∙ rw (same, fates_of-close stream open_at events) refl;
        given = omega (arith, at.given, longer);
        all_given = λ o. absurd (let c = closes events in cc);
        before_close = by_test (is_closed events) refl;
        base = rw same at.base;
        held = λ n. at.held n ∙ rw (copies_of-close stream open_at events);
        probation = λ path few. at.probation path few ∙ ap (probation_of stream) (sym (heard_of-close stream open_at events path));
        tracks = λ path few. at.tracks path few ∙ ap (λ l. track_of (standings_on path l)) (sym (standings_of-close stream open_at events));
        quiet = at.quiet ∙ rw same;
        ended = at.ended ∙ rw same;
      }
    where
      by_test : (b : Bool) → is_closed events ≡ b → length (marks_of stream open_at (events_until_close (events ++ Close ∷ []))) ≤ k
      by_test true is = rw (events_until_close-closed events (Close ∷ []) is) at.before_close
      by_test false is = rw (events_until_close-close events [] is) (omega (arith, at.all_given is))

-- a new merge is sound
pub sound_start : (stream : Stream) (open_at time' media quiet : ℤ) (base size : ℕ) (h : FinMap nat_cmp Packet) (counts : Tally) (probations : List Probation) (tracks : List Track) → IsStream stream → pos 0 ≤ℤ open_at → open_at ≤ℤ pos (2 ^ 60) → time' ≡ open_at → IsEmpty h → size ≡ stream.window → counts ≡ empty_tally → IsSound (record { spec = stream; time = time'; anchor = None; base = base; size = size; held = h; quiet = quiet; counts = counts; closed = false; ended = false; probations = probations; tracks = tracks }) media
sound_start stream open_at time' media quiet base size h counts probations tracks spec low high is_time empty is_size is_counts = rw is_counts (record {
  spec_ok = spec;
  time_low = omega (arith, ints, is_time, low);
  time_high = omega (arith, ints, is_time, high);
  size_is = is_size;
  few_arrived = omega arith;
  anchored = record { empty = empty; none_taken = refl; none_got = refl; none_lost = refl; none_restarted = refl };
})
