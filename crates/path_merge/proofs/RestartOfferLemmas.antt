-- An offer that opens an epoch takes the history on.
use Rattle.std.proofs.Common.{◌≡◌, ℕ, ◌+◌, ◌^◌, ◌<◌, ◌≤◌, Bool, true, false, not, ◌&&◌, ◌||◌, List, [], ◌∷◌, ◌++◌, length, reverse, take, min, Some, None, ℤ, refl, sym, ap, subst, ◌∙◌, arith, append-nil, length-append, if◌then◌else◌}
use Rattle.std.specs.Prelude.{IsSome, is_some, nat_eq, nat_le, nat_lt, ◌-◌}
use Rattle.std.specs.FinMap.{get}
use Rattle.std.proofs.lemmas.Bool.Decides.{nat_tests}
use Rattle.path_merge.proofs.ArrivalLemmas.{marks_of-arrive, stands_after_arrival}
use Rattle.path_merge.proofs.EpochLemmas.{WithinLength, anchor_is, copies_of-since, copies_since-made, heard_of-made, heard_of-push, last-push, place_within, width_made, since_of, standings_of-made, standings_since-push}
use Rattle.rtp_stream.proofs.FollowLemmas.{early_is, end_is, since_is, track_of-push}
use Rattle.rtp_stream.specs.FollowTrack.{is_early, is_slip_by, width_by, standing_by, track_after, track_at, track_of}
use Rattle.rtp_stream.specs.Follow.{are_many_at, astray_since, empties, end_of_standings, end_since, has_wire_size, is_astray, is_beyond, is_following, is_for_long, is_slip, run_of, width_after, width_since, standing_after, standing_of, standings_on, standings_since}
use Rattle.rtp_stream.specs.declared.follow.Standing.{Standing}
use Rattle.rtp_stream.specs.declared.follow.Track.{Track}
use Rattle.path_merge.proofs.HistoryLemmas.{arrival_count-append, by_last_event, fates_of-push, fates_of-tick, is_closed-append, marks_of-in, or_else}
use Rattle.path_merge.proofs.MarkGrowthLemmas.{AllSlotsBelow, IsSlotBelow, limit_of, slots_below}
use Rattle.rtp_stream.proofs.ProbationLemmas.{complete_is, probation_of-push}
use Rattle.path_merge.proofs.AnewLemmas.{GoesOn, in_reach, itself_eq, own_copy}
use Rattle.path_merge.proofs.SoundLemmas.{anchored_at, some_window}
use Rattle.path_merge.proofs.StepLemmas.{take_all}
use Rattle.path_merge.proofs.TallyLemmas.{tally-fate}
use Rattle.rtp_stream.specs.Anchor.{is_restart_in_reach, is_source_wanted, media_time_of, next_number, restart_from, restart_media_time}
use Rattle.rtp_stream.specs.Copies.{copies_of, copies_of_all}
use Rattle.rtp_stream.specs.Counts.{counts_of, fates_of, is_counted_fate, tally_of_fates}
use Rattle.rtp_stream.specs.CountsFacts.{Tally, with_fate}
use Rattle.rtp_stream.specs.Epochs.{anchor_in, anchor_of, anchors_at, anchors_of, can_restart, copies_since, continues_media_time, is_all_given, last_of}
use Rattle.rtp_stream.specs.Fate.{fate_of}
use Rattle.rtp_stream.specs.Grid.{copies_under, end_of_copies, first_with, of_width}
use Rattle.rtp_stream.specs.History.{arrival_count, at_places, is_closed, is_counting, time_of}
use Rattle.rtp_stream.specs.MarkFacts.{MarkView}
use Rattle.rtp_stream.specs.Marks.{marks_of}
use Rattle.path_merge.specs.Merge.{HasHistory, heard_of, is_slot_in, slot_count, standings_of}
use Rattle.path_merge.specs.MergeState.{IsSound, MergeState, holds_nothing}
use Rattle.rtp_stream.specs.PathProbation.{is_complete, probation_after, probation_at, probation_heard, probation_of}
use Rattle.rtp_stream.specs.Probation.{completes_probation, heard_since, is_off}
use Rattle.path_merge.specs.Steps.{IsRestartStep, Offers, opens_epoch}
use Rattle.rtp_stream.specs.declared.stream_spec.Stream.{Stream}
use Rattle.rtp_stream.specs.declared.anchor.Anchor.{Anchor}
use Rattle.rtp_stream.specs.declared.event.Event.{Event}
use Rattle.rtp_stream.specs.declared.event.Event.TheVariants.{Arrive, Close, Tick}
use Rattle.rtp_stream.specs.declared.fate.Fate.{Fate}
use Rattle.rtp_stream.specs.declared.fate.Fate.TheVariants.{CountersFull, Restarted}
use Rattle.rtp_stream.specs.declared.mark.MarkKind.{MarkKind}
use Rattle.rtp_stream.specs.declared.mark.MarkKind.TheVariants.{End, Quiet, Slot}
use Rattle.path_merge.proofs.OpeningLemmas.{nothing_is}
use Rattle.path_merge.proofs.CopiesLemmas.{first_with-below, first_with-last}
use Rattle.rtp_stream.specs.declared.packet.Packet.{Packet}

-- no slot of an epoch that is still to come
not_of : (epoch : ℕ) (kind : MarkKind) → IsSlotBelow epoch kind → is_slot_in epoch kind ≡ false
not_of epoch (Slot e n m b) below = grind (arith, nat_tests, below)
not_of epoch (Quiet u) below = refl
not_of epoch End below = refl

pub none_above : (epoch : ℕ) (marks : List MarkView) → AllSlotsBelow epoch marks → slot_count epoch marks ≡ 0
none_above epoch [] all = refl
none_above epoch (mark ∷ marks) all = ap (λ b. (if b then 1 else 0) + slot_count epoch marks) (not_of epoch mark.kind all.0) ∙ omega (arith, none_above epoch marks all.1)

-- one packet alone
pub one_held : (n b : ℕ) (packet : Packet) → (if nat_lt n b then None else (if nat_eq b n then Some packet else None)) ≡ (if nat_eq n b then Some packet else None)
one_held n b packet = by_tests (nat_lt n b) (nat_eq b n) (nat_eq n b) refl refl refl
  where
    by_tests : (l e f : Bool) → nat_lt n b ≡ l → nat_eq b n ≡ e → nat_eq n b ≡ f → (if l then None else (if e then Some packet else None)) ≡ (if f then Some packet else None)
    by_tests true e false el ee ef = refl
    by_tests true e true el ee ef = absurd (grind (arith, nat_tests, el, ef))
    by_tests false true true el ee ef = refl
    by_tests false false false el ee ef = refl
    by_tests false true false el ee ef = absurd (grind (arith, nat_tests, ee, ef))
    by_tests false false true el ee ef = absurd (grind (arith, nat_tests, ee, ef))

no_arrivals : (stream : Stream) (open_at : ℤ) → length (fates_of stream open_at []) ≡ min 0 (2 ^ 62)
unfolding fates_of at_places
no_arrivals stream open_at = refl

-- while nothing is closed, the arrivals that count are the first 2^62
pub counted_arrivals : (stream : Stream) (open_at : ℤ) (events : List Event) → is_closed events ≡ false → length (fates_of stream open_at events) ≡ min (arrival_count events) (2 ^ 62)
counted_arrivals stream open_at = by_last_event (λ events. is_closed events ≡ false → length (fates_of stream open_at events) ≡ min (arrival_count events) (2 ^ 62)) (λ o. no_arrivals stream open_at) step
  where
    open_part : (a b : Bool) → (if a then true else b) ≡ false → a ≡ false
    open_part false b e = refl
    open_part true b e = cc

    step : (events : List Event) (event : Event) → (is_closed events ≡ false → length (fates_of stream open_at events) ≡ min (arrival_count events) (2 ^ 62)) → is_closed (events ++ event ∷ []) ≡ false → length (fates_of stream open_at (events ++ event ∷ [])) ≡ min (arrival_count (events ++ event ∷ [])) (2 ^ 62)
    step events (Tick u) before o =
        let shut = open_part (is_closed events) false (sym (is_closed-append events (Tick u ∷ [])) ∙ o) in
        ap length (fates_of-tick stream open_at events u) ∙ before shut ∙ ap (λ n. min n (2 ^ 62)) (omega (arith, arrival_count-append events (Tick u ∷ [])))
    step events Close before o = absurd (closes (is_closed events) (sym (is_closed-append events (Close ∷ [])) ∙ o))
      where
        closes : (a : Bool) → (if a then true else true) ≡ false → ⊥
        closes true e = cc
        closes false e = cc
    step events (Arrive path packet) before o =
        let shut = open_part (is_closed events) false (sym (is_closed-append events (Arrive path packet ∷ [])) ∙ o) in
        let counts : is_counting events ≡ nat_lt (arrival_count events) (2 ^ 62) = rw shut refl in
        ap length (fates_of-push stream open_at events (Arrive path packet)) ∙ ap (λ b. length (fates_of stream open_at events ++ (if b then (path, fate_of stream open_at events path packet) ∷ [] else []))) counts ∙ by_count (nat_lt (arrival_count events) (2 ^ 62)) refl (before shut)
      where
        by_count : (b : Bool) → nat_lt (arrival_count events) (2 ^ 62) ≡ b → length (fates_of stream open_at events) ≡ min (arrival_count events) (2 ^ 62) → length (fates_of stream open_at events ++ (if b then (path, fate_of stream open_at events path packet) ∷ [] else [])) ≡ min (arrival_count (events ++ Arrive path packet ∷ [])) (2 ^ 62)
        by_count true is same =
            let less : arrival_count events < 2 ^ 62 = grind (arith, nat_tests, is) in
            omega (arith, same, less, length-append (fates_of stream open_at events) ((path, fate_of stream open_at events path packet) ∷ []), arrival_count-append events (Arrive path packet ∷ []))
        by_count false is same =
            let many : 2 ^ 62 ≤ arrival_count events = grind (arith, nat_tests, is) in
            ap length (append-nil (fates_of stream open_at events)) ∙ omega (arith, same, many, arrival_count-append events (Arrive path packet ∷ []))

-- the standings of the arrivals on a path, with one arrival more
pub standings_on-own : (path : ℕ) (standings : List Standing) (s : Standing) → s.path ≡ path → standings_on path (standings ++ s ∷ []) ≡ standings_on path standings ++ s ∷ []
standings_on-own path [] s is = let same : nat_eq s.path path ≡ true = grind (arith, nat_tests, is) in rw same refl
standings_on-own path (x ∷ standings) s is = by_test (nat_eq x.path path) (standings_on-own path standings s is)
  where
    by_test : (b : Bool) → standings_on path (standings ++ s ∷ []) ≡ standings_on path standings ++ s ∷ [] → (if b then x ∷ standings_on path (standings ++ s ∷ []) else standings_on path (standings ++ s ∷ [])) ≡ (if b then x ∷ standings_on path standings else standings_on path standings) ++ s ∷ []
    by_test true rest = ap (λ l. x ∷ l) rest
    by_test false rest = rest

pub standings_on-other : (on : ℕ) (standings : List Standing) (s : Standing) → nat_eq s.path on ≡ false → standings_on on (standings ++ s ∷ []) ≡ standings_on on standings
standings_on-other on [] s apart = rw apart refl
standings_on-other on (x ∷ standings) s apart = ap (λ l. if nat_eq x.path on then x ∷ l else l) (standings_on-other on standings s apart)

-- the emptying of a stream is the same if it is the same on each of four paths
pub empties_same : (a : Anchor) (next : ℕ) (e f : ℕ → Bool) (n o : ℕ → ℕ) → ((path : ℕ) → path < 4 → e path ≡ f path) → ((path : ℕ) → path < 4 → n path ≡ o path) → empties a next e n ≡ empties a next f o
empties_same a next e f n o early ends =
    let e0 = early 0 (omega arith) in
    let e1 = early 1 (omega arith) in
    let e2 = early 2 (omega arith) in
    let e3 = early 3 (omega arith) in
    let n0 = ends 0 (omega arith) in
    let n1 = ends 1 (omega arith) in
    let n2 = ends 2 (omega arith) in
    let n3 = ends 3 (omega arith) in
    rw (e0, e1, e2, e3, n0, n1, n2, n3) refl

pub end_same : (a : Anchor) (n o : ℕ → ℕ) → ((path : ℕ) → path < 4 → n path ≡ o path) → end_since a n ≡ end_since a o
end_same a n o ends =
    let n0 = ends 0 (omega arith) in
    let n1 = ends 1 (omega arith) in
    let n2 = ends 2 (omega arith) in
    let n3 = ends 3 (omega arith) in
    rw (n0, n1, n2, n3) refl

module _ (stream : Stream) (open_at : ℤ) (m : MergeState) (media : ℤ) (s : IsSound m media) (open_yet : m.closed ≡ false) (events : List Event) (k : ℕ) (at : HasHistory stream open_at m events k) where
  pub some_frames : 0 < stream.frames
  some_frames = rw at.spec at s.spec_ok.some_frames

  pub shut : is_closed events ≡ false
  shut = sym at.closed ∙ open_yet

  pub all : take k (marks_of stream open_at events) ≡ marks_of stream open_at events
  all = take_all (marks_of stream open_at events) k (at.all_given shut)

  pub few : m.counts.arrived < 2 ^ 62 → arrival_count events < 2 ^ 62
  few lt = omega (arith, lt, ap (λ (t : Tally). t.arrived) at.counts, counted_arrivals stream open_at events shut)

  pub hears : m.counts.arrived < 2 ^ 62 → is_counting events ≡ true
  hears lt = rw shut (less (arrival_count events) (few lt))
    where
      less : (n : ℕ) → n < 2 ^ 62 → (not false && nat_lt n (2 ^ 62)) ≡ true
      less n h = grind (arith, nat_tests, h)

  -- the counts of one more arrival that counts
  pub counts_heard : (path : ℕ) (packet : Packet) → m.counts.arrived < 2 ^ 62 → (fate : Fate) → fate ≡ fate_of stream open_at events path packet → is_counted_fate fate ≡ true → path < 4 → counts_of stream open_at (events ++ Arrive path packet ∷ []) (marks_of stream open_at events) ≡ with_fate (counts_of stream open_at events (marks_of stream open_at events)) path fate
  counts_heard path packet lt fate is counted few_paths =
      let one : fates_of stream open_at (events ++ Arrive path packet ∷ []) ≡ fates_of stream open_at events ++ (path, fate) ∷ [] = fates_of-push stream open_at events (Arrive path packet) ∙ rw (hears lt, is) refl in
      ap (λ f. tally_of_fates f (marks_of stream open_at events)) one ∙ tally-fate (fates_of stream open_at events) (marks_of stream open_at events) path fate few_paths counted

  -- an arrival that opens an epoch
  module _ (space : m.counts.arrived < 2 ^ 62) (a : Anchor) (is_a : m.anchor ≡ Some a) (place : ℕ) (last : last_of (anchors_of stream open_at events) ≡ Some (place, a)) (path : ℕ) (packet : Packet) (few_paths : path < 4) where
    pub next_is : m.base ≡ next_number stream a m.time
    next_is = rw at.spec at (anchored_at m media m.anchor a is_a s.anchored).next_open open_yet

    -- the merge's probation and track show whether the arrival opens an epoch
    pub heard_here : is_source_wanted stream.ssrc packet.ssrc ≡ true → heard_since stream open_at place a (events ++ Arrive path packet ∷ []) path ≡ heard_since stream open_at place a events path ++ (is_off stream a m.base packet, packet) ∷ []
    heard_here wanted =
        heard_of-push stream open_at (Some (place, a)) events (Arrive path packet) path (subst (WithinLength (length events)) last (place_within stream open_at events))
        ∙ ap (λ l. heard_since stream open_at place a events path ++ l) (rw (hears space, itself_eq path, wanted, next_is, at.time) refl)

    completes_is : is_source_wanted stream.ssrc packet.ssrc ≡ true → completes_probation stream (heard_since stream open_at place a (events ++ Arrive path packet ∷ []) path) ≡ is_complete (probation_heard stream (probation_at m.probations path) (is_off stream a m.base packet) packet)
    completes_is wanted =
        complete_is stream (heard_since stream open_at place a (events ++ Arrive path packet ∷ []) path)
        ∙ ap (λ l. is_complete (probation_of stream l)) (heard_here wanted)
        ∙ ap is_complete (probation_of-push stream (heard_since stream open_at place a events path) (is_off stream a m.base packet, packet))
        ∙ ap (λ p. is_complete (probation_after stream p (is_off stream a m.base packet, packet))) (sym (at.probation path few_paths ∙ ap (λ o. probation_of stream (heard_of stream open_at o events path)) last))
        ∙ sym (rw wanted refl)

    -- the standings since the anchor, and the tracks that keep them
    abbrev standings_now : List Standing
    standings_now = standings_since stream open_at place a events

    pub was_track : (on : ℕ) → on < 4 → track_at m.tracks on ≡ track_of (standings_on on (standings_since stream open_at place a events))
    was_track on few_on = at.tracks on few_on ∙ ap (λ o. track_of (standings_on on (standings_of stream open_at o events))) last

    next_then : m.base ≡ next_number stream a (time_of open_at events)
    next_then = next_is ∙ ap (next_number stream a) at.time

    width_here : width_by stream a m.base m.time m.tracks ≡ width_after stream a m.base m.time (standings_since stream open_at place a events)
    width_here = ap (λ b. if is_following stream.clock && b then 0 else stream.window) (empties_same a m.base (λ on. is_early (track_at m.tracks on) m.time) (λ on. are_many_at is_beyond m.time (standings_on on (standings_since stream open_at place a events))) (λ on. (track_at m.tracks on).end) (λ on. end_of_standings (standings_on on (standings_since stream open_at place a events)))
        (λ on few_on. ap (λ (t : Track). is_early t m.time) (was_track on few_on) ∙ early_is (standings_on on (standings_since stream open_at place a events)) m.time)
        (λ on few_on. ap (λ (t : Track). t.end) (was_track on few_on) ∙ end_is (standings_on on (standings_since stream open_at place a events))))

    pub width_is : width_by stream a m.base m.time m.tracks ≡ width_since stream open_at place a events
    width_is =
        width_here
        ∙ ap (λ b. width_after stream a b m.time (standings_since stream open_at place a events)) next_then
        ∙ ap (λ t. width_after stream a (next_number stream a (time_of open_at events)) t (standings_since stream open_at place a events)) at.time

    pub stands_is : standing_by stream a m.base m.time m.tracks path packet ≡ standing_after stream a (next_number stream a (time_of open_at events)) (time_of open_at events) (standings_since stream open_at place a events) path packet
    stands_is =
        ap (λ r. standing_of stream a m.base m.time r (end_since a (λ on. (track_at m.tracks on).end)) path packet) width_here
        ∙ ap (λ e. standing_of stream a m.base m.time (width_after stream a m.base m.time (standings_since stream open_at place a events)) e path packet) (end_same a (λ on. (track_at m.tracks on).end) (λ on. end_of_standings (standings_on on (standings_since stream open_at place a events))) (λ on few_on. ap (λ (t : Track). t.end) (was_track on few_on) ∙ end_is (standings_on on (standings_since stream open_at place a events))))
        ∙ ap (λ b. standing_after stream a b m.time (standings_since stream open_at place a events) path packet) next_then
        ∙ ap (λ t. standing_after stream a (next_number stream a (time_of open_at events)) t (standings_since stream open_at place a events) path packet) at.time

    -- an arrival that is judged
    pub judged_here : is_following stream.clock ≡ true → is_source_wanted stream.ssrc packet.ssrc ≡ true → standings_on path (standings_since stream open_at place a (events ++ Arrive path packet ∷ [])) ≡ standings_on path (standings_since stream open_at place a events) ++ standing_by stream a m.base m.time m.tracks path packet ∷ []
    judged_here follows wanted =
        ap (standings_on path) (standings_since-push stream open_at a place events (Arrive path packet) (subst (WithinLength (length events)) last (place_within stream open_at events))
        ∙ ap (λ l. standings_since stream open_at place a events ++ l) (one (is_following stream.clock) (is_counting events) (is_source_wanted stream.ssrc packet.ssrc) (standing_after stream a (next_number stream a (time_of open_at events)) (time_of open_at events) (standings_since stream open_at place a events) path packet) follows (hears space) wanted
        ∙ ap (λ s. s ∷ []) (sym stands_is)))
        ∙ standings_on-own path (standings_since stream open_at place a events) (standing_by stream a m.base m.time m.tracks path packet) refl
      where
        one : (f c w : Bool) (s : Standing) → f ≡ true → c ≡ true → w ≡ true → (if f && (c && w) then s ∷ [] else []) ≡ s ∷ []
        one f c w s ef ec ew = rw (ef, ec, ew) refl

    since_here : is_following stream.clock ≡ true → is_source_wanted stream.ssrc packet.ssrc ≡ true → is_for_long (track_after (track_at m.tracks path) (standing_by stream a m.base m.time m.tracks path packet)).since m.time ≡ is_for_long (astray_since (run_of (reverse (standings_on path (standings_since stream open_at place a (events ++ Arrive path packet ∷ [])))))) (time_of open_at events)
    since_here follows wanted =
        ap (λ t. is_for_long (track_after t (standing_by stream a m.base m.time m.tracks path packet)).since m.time) (was_track path few_paths)
        ∙ ap (λ (t : Track). is_for_long t.since m.time) (sym (track_of-push (standings_on path (standings_since stream open_at place a events)) (standing_by stream a m.base m.time m.tracks path packet)))
        ∙ ap (λ since. is_for_long since m.time) (since_is (standings_on path (standings_since stream open_at place a events) ++ standing_by stream a m.base m.time m.tracks path packet ∷ []))
        ∙ ap (λ l. is_for_long (astray_since (run_of (reverse l))) m.time) (sym (judged_here follows wanted))
        ∙ ap (is_for_long (astray_since (run_of (reverse (standings_on path (standings_since stream open_at place a (events ++ Arrive path packet ∷ []))))))) at.time

    slips_is : is_source_wanted stream.ssrc packet.ssrc ≡ true → is_slip_by stream a m.base m.time m.tracks path packet ≡ is_slip stream open_at place a events path packet
    slips_is wanted = by_clock (is_following stream.clock) refl
      where
        by_clock : (f : Bool) → is_following stream.clock ≡ f
            → (f && (has_wire_size packet && (is_astray (standing_by stream a m.base m.time m.tracks path packet) && is_for_long (track_after (track_at m.tracks path) (standing_by stream a m.base m.time m.tracks path packet)).since m.time)))
            ≡ (f && (has_wire_size packet && (is_astray (standing_after stream a (next_number stream a (time_of open_at events)) (time_of open_at events) (standings_since stream open_at place a events) path packet) && is_for_long (astray_since (run_of (reverse (standings_on path (standings_since stream open_at place a (events ++ Arrive path packet ∷ [])))))) (time_of open_at events))))
        by_clock false follows = refl
        by_clock true follows =
            ap (λ b. has_wire_size packet && (is_astray (standing_by stream a m.base m.time m.tracks path packet) && b)) (since_here follows wanted)
            ∙ ap (λ s. has_wire_size packet && (is_astray s && is_for_long (astray_since (run_of (reverse (standings_on path (standings_since stream open_at place a (events ++ Arrive path packet ∷ [])))))) (time_of open_at events))) stands_is

    copies_are : copies_of stream open_at events ≡ copies_since stream open_at place a events
    copies_are = copies_of-since stream open_at events ∙ ap (λ o. since_of stream open_at o events) last

    given_is : holds_nothing m ≡ is_all_given stream open_at place a events
    given_is =
        nothing_is m media a s is_a open_yet (end_of_copies (copies_of stream open_at events)) (λ n low some. first_with-below n (copies_of stream open_at events) (subst IsSome (held_copy n low) some)) (λ lt. subst IsSome (sym (held_copy (end_of_copies (copies_of stream open_at events) - 1) (omega (arith, lt)))) (first_with-last (end_of_copies (copies_of stream open_at events) - 1) (copies_of stream open_at events) (omega (arith, lt))))
        ∙ ap (λ l. nat_le (end_of_copies l) m.base) copies_are
        ∙ ap (nat_le (end_of_copies (copies_since stream open_at place a events))) (next_is ∙ ap (next_number stream a) at.time)
      where
        held_copy : (n : ℕ) → m.base ≤ n → get m.held n ≡ first_with n (copies_of stream open_at events)
        held_copy n low = let past : nat_lt n m.base ≡ false = grind (arith, nat_tests, low) in at.held n ∙ rw past refl

    goes_is : is_restart_in_reach stream m.time (media_time_of stream a m.base) (restart_media_time stream.clock packet.ts m.time (media_time_of stream a m.base)) ≡ continues_media_time stream (time_of open_at events) a packet
    goes_is = ap (λ b. is_restart_in_reach stream m.time (media_time_of stream a b) (restart_media_time stream.clock packet.ts m.time (media_time_of stream a b))) next_is ∙ ap (λ t. continues_media_time stream t a packet) at.time

    pub opens_is : opens_epoch m a path packet ≡ can_restart stream open_at place a events path packet
    opens_is =
        ap (λ sp. is_some (if is_source_wanted sp.ssrc packet.ssrc && (is_complete (probation_heard sp (probation_at m.probations path) (is_off sp a m.base packet) packet) || is_slip_by sp a m.base m.time m.tracks path packet) then (if holds_nothing m && is_restart_in_reach sp m.time (media_time_of sp a m.base) (restart_media_time sp.clock packet.ts m.time (media_time_of sp a m.base)) then Some (restart_media_time sp.clock packet.ts m.time (media_time_of sp a m.base)) else None) else None)) at.spec
        ∙ by_tests (is_source_wanted stream.ssrc packet.ssrc) _ _ _ _ _ _ (restart_media_time stream.clock packet.ts m.time (media_time_of stream a m.base)) (λ wanted. ap (λ b. b || is_slip_by stream a m.base m.time m.tracks path packet) (sym (completes_is wanted)) ∙ ap (λ b. completes_probation stream (heard_since stream open_at place a (events ++ Arrive path packet ∷ []) path) || b) (slips_is wanted)) given_is goes_is
      where
        in_order : (c g r : Bool) (z : ℤ) → is_some (if c then (if g && r then Some z else None) else None) ≡ (r && (g && c))
        in_order true true true z = refl
        in_order true true false z = refl
        in_order true false true z = refl
        in_order true false false z = refl
        in_order false true true z = refl
        in_order false true false z = refl
        in_order false false true z = refl
        in_order false false false z = refl

        by_tests : (w c c' g g' r r' : Bool) (z : ℤ) → (w ≡ true → c ≡ c') → g ≡ g' → r ≡ r' → is_some (if w && c then (if g && r then Some z else None) else None) ≡ (r' && (g' && (w && c')))
        by_tests false c c' g g' r r' z same is_g is_r = in_order false g r z ∙ ap (λ b. r && (b && false)) is_g ∙ ap (λ b. b && (g' && false)) is_r
        by_tests true c c' g g' r r' z same is_g is_r = in_order c g r z ∙ ap (λ b. r && (g && b)) (same refl) ∙ ap (λ b. r && (b && c')) is_g ∙ ap (λ b. b && (g' && c')) is_r

    -- the facts if the arrival opens an epoch
    module _ (opens : can_restart stream open_at place a events path packet ≡ true) (seq : packet.seq < 65536) (ts : packet.ts < 2 ^ 32) where
      abbrev media_then : ℤ
      media_then = restart_media_time stream.clock packet.ts m.time (media_time_of stream a m.base)

      first : GoesOn stream m.time (media_time_of stream a m.base) (restart_media_time stream.clock packet.ts m.time (media_time_of stream a m.base))
      first = in_reach_then (continues_media_time stream (time_of open_at events) a packet) refl opens
        where
          in_reach_then : (b : Bool) → continues_media_time stream (time_of open_at events) a packet ≡ b → (b && (is_all_given stream open_at place a events && (is_source_wanted stream.ssrc packet.ssrc && (completes_probation stream (heard_since stream open_at place a (events ++ Arrive path packet ∷ []) path) || is_slip stream open_at place a events path packet)))) ≡ true → GoesOn stream m.time (media_time_of stream a m.base) (restart_media_time stream.clock packet.ts m.time (media_time_of stream a m.base))
          in_reach_then true is e = in_reach stream m.time (media_time_of stream a m.base) (restart_media_time stream.clock packet.ts m.time (media_time_of stream a m.base)) (rw (next_is, at.time) is)
          in_reach_then false is e = cc

      made_then : last_of (anchors_of stream open_at (events ++ Arrive path packet ∷ [])) ≡ Some (length events, restart_from stream m.time a m.base packet)
      made_then =
          let made : last_of (anchors_at stream open_at (anchors_of stream open_at events) events (Arrive path packet)) ≡ Some (length events, restart_from stream m.time a m.base packet) = rw (hears space, last, opens, next_is, at.time) refl in
          last-push stream open_at events (Arrive path packet) ∙ ap (λ o. or_else o (last_of (anchors_of stream open_at events))) made

      anchor_then : anchor_of stream open_at (events ++ Arrive path packet ∷ []) ≡ Some (restart_from stream m.time a m.base packet)
      anchor_then = anchor_is stream open_at (events ++ Arrive path packet ∷ []) ∙ ap anchor_in made_then

      copies_then : copies_of stream open_at (events ++ Arrive path packet ∷ []) ≡ (65536 + packet.seq, packet) ∷ []
      copies_then =
          copies_of-since stream open_at (events ++ Arrive path packet ∷ [])
          ∙ ap (λ o. since_of stream open_at o (events ++ Arrive path packet ∷ [])) made_then
          ∙ copies_since-made stream open_at events (Arrive path packet) (restart_from stream m.time a m.base packet)
          ∙ ap (λ r. copies_under (of_width stream r) (time_of open_at events) (is_counting events) (Some (restart_from stream m.time a m.base packet)) packet) (width_made stream open_at (restart_from stream m.time a m.base packet) events)
          ∙ rw (← at.time, hears space) (own_copy (of_width stream stream.window) m.time packet (a.epoch + 1) (restart_media_time stream.clock packet.ts m.time (media_time_of stream a m.base)) some_frames (rw at.spec at (some_window m.spec s.spec_ok)) seq ts first.after)

      -- the new epoch has no slot yet
      none_yet : slot_count (a.epoch + 1) (marks_of stream open_at events) ≡ 0
      none_yet = none_above (a.epoch + 1) (marks_of stream open_at events) (subst (λ o. AllSlotsBelow (limit_of stream o) (marks_of stream open_at events)) (sym at.anchor ∙ is_a) (rw (marks_of-in stream open_at events) (slots_below stream open_at some_frames (copies_of_all stream open_at events) events at.well_timed shut)))

      pub fate_restart : Restarted ≡ fate_of stream open_at events path packet
      fate_restart = sym (rw (shut, last, opens) (by_count (arrival_count events) (few space)))
        where
          by_count : (n : ℕ) → n < 2 ^ 62 → (if not (nat_lt n (2 ^ 62)) then CountersFull else Restarted) ≡ Restarted
          by_count n h = let yes : nat_lt n (2 ^ 62) ≡ true = grind (arith, nat_tests, h) in rw yes refl

      -- the merge has the history with the arrival, in the new epoch
      pub stands_restart : (new : MergeState) (fate : Fate) → IsRestartStep stream m new a path packet fate → HasHistory stream open_at new (events ++ Arrive path packet ∷ []) k
      stands_restart new fate step = stands_after_arrival stream open_at some_frames m new events k path packet at open_yet (few space) (record {
        spec = ap (λ (x : MergeState). x.spec) step.changed;
        time = ap (λ (x : MergeState). x.time) step.changed;
        anchor = ap (λ (x : MergeState). x.anchor) step.changed ∙ sym anchor_then;
        base = rw (ap (λ (x : MergeState). x.anchor) step.changed) (omega (arith, ap (λ (x : MergeState). x.base) step.changed, none_yet));
        held = λ n. step.held n ∙ sym (ap (λ b. if nat_lt n b then None else first_with n (copies_of stream open_at (events ++ Arrive path packet ∷ []))) (ap (λ (x : MergeState). x.base) step.changed) ∙ ap (λ l. if nat_lt n (65536 + packet.seq) then None else first_with n l) copies_then ∙ one_held n (65536 + packet.seq) packet);
        probation = λ other few_others. step.probations other ∙ sym (ap (λ o. probation_of stream (heard_of stream open_at o (events ++ Arrive path packet ∷ []) other)) made_then ∙ ap (probation_of stream) (heard_of-made stream open_at (restart_from stream m.time a m.base packet) events (Arrive path packet) other));
        tracks = λ other few_others. step.tracks other ∙ sym (ap (λ o. track_of (standings_on other (standings_of stream open_at o (events ++ Arrive path packet ∷ [])))) made_then ∙ ap (λ l. track_of (standings_on other l)) (standings_of-made stream open_at (restart_from stream m.time a m.base packet) events (Arrive path packet)));
        quiet = ap (λ (x : MergeState). x.quiet) step.changed;
        counts = ap (λ (x : MergeState). x.counts) step.changed ∙ ap (λ t. with_fate t path Restarted) (at.counts ∙ ap (counts_of stream open_at events) all) ∙ sym (counts_heard path packet space Restarted fate_restart refl few_paths);
        closed = ap (λ (x : MergeState). x.closed) step.changed;
        ended = ap (λ (x : MergeState). x.ended) step.changed;
      })

      -- an offer that opens an epoch
      pub offers_restart : (new : MergeState) (fate : Fate) → IsRestartStep stream m new a path packet fate → Offers stream open_at new events k path packet fate
      offers_restart new fate step = record {
        fate_is = step.fate_is ∙ fate_restart;
        stands = stands_restart new fate step;
        kept = marks_of-arrive stream open_at some_frames events at.well_timed shut path packet;
      }
