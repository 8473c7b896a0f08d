-- An offer to a closed or full merge isn't counted: it is added to the history, and changes nothing else.
use Rattle.std.proofs.Common.{◌≡◌, ℕ, ◌^◌, ◌≤◌, Bool, true, false, List, [], ◌∷◌, ◌++◌, length, None, ℤ, refl, sym, ap, ◌∙◌, arith, append-nil, if◌then◌else◌}
use Rattle.std.specs.Prelude.{nat_lt}
use Rattle.std.proofs.lemmas.Bool.Decides.{nat_tests}
use Rattle.path_merge.proofs.EpochLemmas.{deaf_anchor, deaf_copies, deaf_copies_all, deaf_heard, deaf_standings}
use Rattle.rtp_stream.specs.FollowTrack.{track_of}
use Rattle.rtp_stream.specs.Follow.{standings_on}
use Rattle.path_merge.proofs.HistoryLemmas.{events_until_close-closed, events_until_close-open, fates_of-push, is_closed-append, is_well_timed_from-append, marks_in, marks_in-push, marks_of-in, time_of-append}
use Rattle.path_merge.proofs.RestartOfferLemmas.{counted_arrivals}
use Rattle.rtp_stream.specs.Copies.{copies_of_all}
use Rattle.rtp_stream.specs.Counts.{fates_of}
use Rattle.rtp_stream.specs.CountsFacts.{Tally}
use Rattle.rtp_stream.specs.Grid.{first_with}
use Rattle.rtp_stream.specs.History.{arrival_count, events_until_close, is_closed, is_counting}
use Rattle.rtp_stream.specs.Marks.{marks_of}
use Rattle.path_merge.specs.Merge.{HasHistory}
use Rattle.path_merge.specs.MergeState.{MergeState}
use Rattle.rtp_stream.specs.PathProbation.{probation_of}
use Rattle.path_merge.specs.Steps.{Offers}
use Rattle.rtp_stream.specs.declared.stream_spec.Stream.{Stream}
use Rattle.rtp_stream.specs.declared.event.Event.{Event}
use Rattle.rtp_stream.specs.declared.event.Event.TheVariants.{Arrive}
use Rattle.rtp_stream.specs.declared.fate.Fate.TheVariants.{Closed, CountersFull}
use Rattle.rtp_stream.specs.declared.packet.Packet.{Packet}

module _ (stream : Stream) (open_at : ℤ) (m : MergeState) (events : List Event) (k : ℕ) (at : HasHistory stream open_at m events k) (deaf : is_counting events ≡ false) (path : ℕ) (packet : Packet) where
  deaf_marks : marks_of stream open_at (events ++ Arrive path packet ∷ []) ≡ marks_of stream open_at events
  deaf_marks = marks_of-in stream open_at (events ++ Arrive path packet ∷ []) ∙ ap (λ c. marks_in stream open_at c (events ++ Arrive path packet ∷ [])) (deaf_copies_all stream open_at events deaf path packet) ∙ marks_in-push stream open_at (copies_of_all stream open_at events) events (Arrive path packet) ∙ append-nil _ ∙ sym (marks_of-in stream open_at events)

  deaf_fates : fates_of stream open_at (events ++ Arrive path packet ∷ []) ≡ fates_of stream open_at events
  deaf_fates = fates_of-push stream open_at events (Arrive path packet) ∙ rw deaf (append-nil _)

  either : (b c : Bool) → c ≡ false → (if b then true else c) ≡ b
  either true c e = refl
  either false c e = e

  shut_as : is_closed (events ++ Arrive path packet ∷ []) ≡ is_closed events
  shut_as = is_closed-append events (Arrive path packet ∷ []) ∙ either (is_closed events) false refl

  stands_unheard : HasHistory stream open_at m (events ++ Arrive path packet ∷ []) k
  stands_unheard = record {
    spec = at.spec;
    well_timed = is_well_timed_from-append open_at false events (Arrive path packet ∷ []) ∙ rw at.well_timed;
    time = at.time ∙ sym (time_of-append open_at events (Arrive path packet ∷ []));
    anchor = at.anchor ∙ sym (deaf_anchor stream open_at events deaf path packet);
    closed = at.closed ∙ sym shut_as;
    counts = at.counts ∙ rw (deaf_marks, deaf_fates) refl;
    given = rw deaf_marks at.given;
    all_given = λ o. at.all_given (sym shut_as ∙ o) ∙ ap length (sym deaf_marks);
    before_close = by_test (is_closed events) refl;
    base = rw deaf_marks at.base;
    held = λ n. at.held n ∙ ap (λ l. if nat_lt n m.base then None else first_with n l) (sym (deaf_copies stream open_at events deaf path packet));
    probation = λ on few. at.probation on few ∙ ap (probation_of stream) (sym (deaf_heard stream open_at events deaf path packet on));
    tracks = λ on few. at.tracks on few ∙ ap (λ l. track_of (standings_on on l)) (sym (deaf_standings stream open_at events deaf path packet));
    quiet = at.quiet ∙ rw deaf_marks;
    ended = at.ended ∙ rw deaf_marks;
  }
    where
      by_test : (b : Bool) → is_closed events ≡ b → length (marks_of stream open_at (events_until_close (events ++ Arrive path packet ∷ []))) ≤ k
      by_test true is = rw (events_until_close-closed events (Arrive path packet ∷ []) is) at.before_close
      by_test false is = rw (events_until_close-open (events ++ Arrive path packet ∷ []) (shut_as ∙ is), deaf_marks) (omega (arith, at.all_given is))

pub offers_closed : (stream : Stream) (open_at : ℤ) (m : MergeState) (events : List Event) (k : ℕ) → HasHistory stream open_at m events k → m.closed ≡ true → (path : ℕ) (packet : Packet) → Offers stream open_at m events k path packet Closed
offers_closed stream open_at m events k at shut path packet =
    let closed : is_closed events ≡ true = sym at.closed ∙ shut in
    record { fate_is = sym (rw closed refl); stands = stands_unheard stream open_at m events k at (rw closed refl) path packet; kept = deaf_marks stream open_at m events k at (rw closed refl) path packet }

pub offers_full : (stream : Stream) (open_at : ℤ) (m : MergeState) (events : List Event) (k : ℕ) → HasHistory stream open_at m events k → m.closed ≡ false → m.counts.arrived ≡ 2 ^ 62 → (path : ℕ) (packet : Packet) → Offers stream open_at m events k path packet CountersFull
offers_full stream open_at m events k at open_yet full path packet =
    let still : is_closed events ≡ false = sym at.closed ∙ open_yet in
    let many : 2 ^ 62 ≤ arrival_count events = omega (arith, full, ap (λ (t : Tally). t.arrived) at.counts, counted_arrivals stream open_at events still) in
    let not_less : nat_lt (arrival_count events) (2 ^ 62) ≡ false = at_least (arrival_count events) many in
    record { fate_is = sym (rw (still, not_less) refl); stands = stands_unheard stream open_at m events k at (rw (still, not_less) refl) path packet; kept = deaf_marks stream open_at m events k at (rw (still, not_less) refl) path packet }
  where
    at_least : (n : ℕ) → 2 ^ 62 ≤ n → nat_lt n (2 ^ 62) ≡ false
    at_least n h = grind (arith, nat_tests, h)
