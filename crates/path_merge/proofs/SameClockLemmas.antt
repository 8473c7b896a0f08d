-- A history in which no arrival is behind or beyond has the same fates and marks by the clocks `Follow` and `Arrival`.
use Rattle.std.proofs.Common.{◌≡◌, ℕ, zero, suc, ◌+◌, ◌-◌, ◌^◌, Bool, true, false, not, ◌&&◌, ◌||◌, List, [], ◌∷◌, ◌++◌, length, take, drop, reverse, count_by, Option, Some, None, ℤ, pos, ◌-ℤ◌, refl, sym, ap, subst, ◌∙◌, arith, append_assoc, append-nil, if◌then◌else◌}
use Rattle.std.specs.Prelude.{nat_le, nat_lt, nat_eq}
use Rattle.std.proofs.lemmas.List.{reverse-append}
use Rattle.path_merge.proofs.EpochLemmas.{MadeAt, WithinLength, anchor_is, copies_of-since, last-push, made_at, no_anchors, place_within, width_made, width_plain, since_of, standings_of-close, standings_of-made, standings_of-push, standings_of-tick}
use Rattle.path_merge.proofs.HistoryLemmas.{anchors_of-push, by_last_event, copies_of-with, copies_of_all-close, copies_of_all-push, copies_of_all-tick, fates_of-close, fates_of-push, fates_of-tick, marks_in, marks_in-none, marks_in-push, marks_of-in, or_else}
use Rattle.path_merge.specs.Merge.{standings_of}
use Rattle.rtp_stream.specs.Anchor.{is_source_wanted, next_number, restart_from, anchor_from, can_anchor}
use Rattle.rtp_stream.specs.Copies.{copies_at, copies_of, copies_of_all, copies_under_with, copies_with}
use Rattle.rtp_stream.specs.Counts.{fates_at, fates_of}
use Rattle.rtp_stream.specs.Epochs.{anchor_in, anchor_of, anchors_after, anchors_at, anchors_of, can_restart, copies_since, continues_media_time, is_all_given, last_of, placed, width_in_force}
use Rattle.rtp_stream.specs.Fate.{counted_fate, fate_of, is_restart}
use Rattle.path_merge.specs.FollowLaws.{IsNeverAstray, NoneAstray, by_clock, standings_under}
use Rattle.rtp_stream.specs.Grid.{end_of_copies, first_with, of_width}
use Rattle.rtp_stream.specs.History.{arrival_count, at_places, is_closed, is_counting, time_of}
use Rattle.rtp_stream.specs.MarkFacts.{MarkView}
use Rattle.rtp_stream.specs.Marks.{body_of, end_mark, marks_at, marks_of, marks_under, slot_mark, slots_at_close, slots_between, slots_from, slots_or_quiet}
use Rattle.rtp_stream.specs.Probation.{completes_probation, heard_at, heard_since, is_next_of, is_sequence, last_few}
use Rattle.rtp_stream.specs.Follow.{are_many_at, astray_since, has_wire_size, is_astray, is_beyond, is_following, is_for_long, is_silent, is_slip, latest_time, run_at, run_of, width_after, width_since, standing_after, standings_at, standings_on, standings_since}
use Rattle.rtp_stream.specs.declared.stream_spec.Stream.{Stream}
use Rattle.rtp_stream.specs.declared.stream_spec.StreamClock.TheVariants.{Arrival, Follow}
use Rattle.rtp_stream.specs.declared.anchor.Anchor.{Anchor}
use Rattle.rtp_stream.specs.declared.event.Event.{Event}
use Rattle.rtp_stream.specs.declared.event.Event.TheVariants.{Arrive, Close, Tick}
use Rattle.rtp_stream.specs.declared.fate.Fate.{Fate}
use Rattle.rtp_stream.specs.declared.fate.Fate.TheVariants.{Closed, CountersFull, Restarted}
use Rattle.rtp_stream.specs.declared.packet.Packet.{Packet}
use Rattle.rtp_stream.specs.declared.follow.Standing.{Standing}

-- no standing of a list is astray; so it is with its parts, and with the list in reverse
none-append : (xs ys : List Standing) → NoneAstray xs → NoneAstray ys → NoneAstray (xs ++ ys)
none-append [] ys p q = q
none-append (x ∷ xs) ys p q = (p.0, none-append xs ys p.1 q)

none-take : (n : ℕ) (xs : List Standing) → NoneAstray xs → NoneAstray (take n xs)
none-take zero xs p = tt
none-take (suc n) [] p = tt
none-take (suc n) (x ∷ xs) p = (p.0, none-take n xs p.1)

none-reverse : (xs : List Standing) → NoneAstray xs → NoneAstray (reverse xs)
none-reverse [] p = tt
none-reverse (x ∷ xs) p = subst NoneAstray (sym (reverse-append (x ∷ []) xs)) (none-append (reverse xs) (x ∷ []) (none-reverse xs p.1) (p.0, tt))

none-on : (path : ℕ) (xs : List Standing) → NoneAstray xs → NoneAstray (standings_on path xs)
none-on path [] p = tt
none-on path (x ∷ xs) p = by_test (nat_eq x.path path) (none-on path xs p.1)
  where
    by_test : (b : Bool) → NoneAstray (standings_on path xs) → NoneAstray (if b then x ∷ standings_on path xs else standings_on path xs)
    by_test true rest = (p.0, rest)
    by_test false rest = rest

not_beyond : (behind beyond : Bool) → (behind || beyond) ≡ false → beyond ≡ false
not_beyond true beyond e = cc
not_beyond false beyond e = e

count_none : (xs : List Standing) → NoneAstray xs → count_by is_beyond xs ≡ 0
count_none [] p = refl
count_none (x ∷ xs) p =
    let no = not_beyond x.behind x.beyond p.0 in
    rw (no, count_none xs p.1) refl

none-run : (xs : List Standing) → NoneAstray xs → NoneAstray (run_of xs)
none-run [] p = tt
none-run (x ∷ xs) p = (p.0, by_silence (is_silent (latest_time xs) x.time) (none-run xs p.1))
  where
    by_silence : (b : Bool) → NoneAstray (run_of xs) → NoneAstray (if b then [] else run_of xs)
    by_silence true rest = tt
    by_silence false rest = rest

none-run_at : (time : ℤ) (xs : List Standing) → NoneAstray xs → NoneAstray (run_at time xs)
none-run_at time xs p = by_silence (is_silent (latest_time xs) time)
  where
    by_silence : (b : Bool) → NoneAstray (if b then [] else run_of xs)
    by_silence true = tt
    by_silence false = none-run xs p

few_early : (path : ℕ) (time : ℤ) (xs : List Standing) → NoneAstray xs → are_many_at is_beyond time (standings_on path xs) ≡ false
few_early path time xs p =
    let none = none-run_at time (reverse (standings_on path xs)) (none-reverse (standings_on path xs) (none-on path xs p)) in
    ap (nat_le 8) (count_none (take 256 (run_at time (reverse (standings_on path xs)))) (none-take 256 (run_at time (reverse (standings_on path xs))) none))

-- if none is astray, the window has its width
width_calm : (stream : Stream) (a : Anchor) (next : ℕ) (time : ℤ) (xs : List Standing) → NoneAstray xs → width_after stream a next time xs ≡ stream.window
width_calm stream a next time xs p =
    let e0 = few_early 0 time xs p in
    let e1 = few_early 1 time xs p in
    let e2 = few_early 2 time xs p in
    let e3 = few_early 3 time xs p in
    rw (e0, e1, e2, e3) (by_tests (is_following stream.clock) (nat_lt a.number next))
  where
    by_tests : (f l : Bool) → (if f && (l && false) then 0 else stream.window) ≡ stream.window
    by_tests true true = refl
    by_tests true false = refl
    by_tests false l = refl

at_places-same : {A : Type 0} (f g : List Event → Event → List A) → ((before : List Event) (event : Event) → f before event ≡ g before event) → (before events : List Event) → at_places f before events ≡ at_places g before events
unfolding at_places
at_places-same f g same before [] = refl
at_places-same f g same before (event ∷ events) = ap (λ l. l ++ at_places f (before ++ event ∷ []) events) (same before event) ∙ ap (λ l. g before event ++ l) (at_places-same f g same (before ++ event ∷ []) events)

-- the fate of an arrival that counts
abbrev fate_if : ℕ → Bool → Fate → List (ℕ × Fate)
fate_if path counts fate = if counts then (path, fate) ∷ [] else []

module _ (stream : Stream) (open_at : ℤ) where
  heard_same : (place : ℕ) (a : Anchor) (events : List Event) (path : ℕ) → heard_since (by_clock Follow stream) open_at place a events path ≡ heard_since (by_clock Arrival stream) open_at place a events path
  heard_same place a events path = at_places-same (heard_at (by_clock Follow stream) a path open_at) (heard_at (by_clock Arrival stream) a path open_at) one (take (suc place) events) (drop (suc place) events)
    where
      one : (before : List Event) (event : Event) → heard_at (by_clock Follow stream) a path open_at before event ≡ heard_at (by_clock Arrival stream) a path open_at before event
      one before (Arrive on packet) = refl
      one before (Tick u) = refl
      one before Close = refl

  is_sequence-same : (heard : List (Bool × Packet)) → is_sequence (by_clock Follow stream) heard ≡ is_sequence (by_clock Arrival stream) heard
  is_sequence-same [] = refl
  is_sequence-same ((off, packet) ∷ []) = refl
  is_sequence-same ((off, packet) ∷ (off', packet') ∷ rest) = ap (λ b. off && (is_next_of (by_clock Arrival stream) packet packet' && b)) (is_sequence-same ((off', packet') ∷ rest))

  sequence_same : (heard : List (Bool × Packet)) → (completes_probation (by_clock Follow stream) heard || false) ≡ (completes_probation (by_clock Arrival stream) heard || false)
  sequence_same heard = ap (λ b. (nat_le 8 (length heard) && b) || false) (is_sequence-same (last_few 8 heard))

  under_same : (width : ℕ) (time : ℤ) (counts : Bool) (o : Option Anchor) (packet : Packet) → copies_under_with (of_width (by_clock Follow stream) width) time counts o packet ≡ copies_under_with (of_width (by_clock Arrival stream) width) time counts o packet
  under_same width time counts None packet = refl
  under_same width time counts (Some a) packet = refl

  record IsSame (events : List Event) : Type 0 where
    anchors : anchors_of (by_clock Follow stream) open_at events ≡ anchors_of (by_clock Arrival stream) open_at events
    copies : copies_of_all (by_clock Follow stream) open_at events ≡ copies_of_all (by_clock Arrival stream) open_at events
    fates : fates_of (by_clock Follow stream) open_at events ≡ fates_of (by_clock Arrival stream) open_at events
    calm : NoneAstray (standings_of (by_clock Follow stream) open_at (last_of (anchors_of (by_clock Follow stream) open_at events)) events)

  anchor_same : (events : List Event) → IsSame events → anchor_of (by_clock Follow stream) open_at events ≡ anchor_of (by_clock Arrival stream) open_at events
  anchor_same events same = anchor_is (by_clock Follow stream) open_at events ∙ ap (λ l. anchor_in (last_of l)) same.anchors ∙ sym (anchor_is (by_clock Arrival stream) open_at events)

  copies_same : (events : List Event) → IsSame events → copies_of (by_clock Follow stream) open_at events ≡ copies_of (by_clock Arrival stream) open_at events
  copies_same events same =
      sym (copies_of-with (by_clock Follow stream) open_at events)
      ∙ ap (λ o. copies_with o (copies_of_all (by_clock Follow stream) open_at events)) (anchor_same events same)
      ∙ ap (copies_with (anchor_of (by_clock Arrival stream) open_at events)) same.copies
      ∙ copies_of-with (by_clock Arrival stream) open_at events

  -- the copies since the anchor in force
  since_same : (events : List Event) → IsSame events → (place : ℕ) (a : Anchor) → last_of (anchors_of (by_clock Follow stream) open_at events) ≡ Some (place, a) → copies_since (by_clock Follow stream) open_at place a events ≡ copies_since (by_clock Arrival stream) open_at place a events
  since_same events same place a last =
      let last' : last_of (anchors_of (by_clock Arrival stream) open_at events) ≡ Some (place, a) = ap last_of (sym same.anchors) ∙ last in
      ap (λ o. since_of (by_clock Follow stream) open_at o events) (sym last)
      ∙ sym (copies_of-since (by_clock Follow stream) open_at events)
      ∙ copies_same events same
      ∙ copies_of-since (by_clock Arrival stream) open_at events
      ∙ ap (λ o. since_of (by_clock Arrival stream) open_at o events) last'

  module _ (events : List Event) (same : IsSame events) (path : ℕ) (packet : Packet) (steady : NoneAstray (standings_under (by_clock Follow stream) open_at (last_of (anchors_of (by_clock Follow stream) open_at events)) events (Arrive path packet))) where
    -- an arrival that is not astray shows no slip
    no_slip : (place : ℕ) (a : Anchor) → last_of (anchors_of (by_clock Follow stream) open_at events) ≡ Some (place, a) → is_counting events ≡ true → is_source_wanted stream.ssrc packet.ssrc ≡ true → is_slip (by_clock Follow stream) open_at place a events path packet ≡ false
    no_slip place a last counts wanted =
        ap (λ b. has_wire_size packet && (b && is_for_long (astray_since (run_of (reverse (standings_on path (standings_since (by_clock Follow stream) open_at place a (events ++ Arrive path packet ∷ [])))))) (time_of open_at events))) (own (is_counting events) (is_source_wanted stream.ssrc packet.ssrc) counts wanted (subst (λ o. NoneAstray (standings_under (by_clock Follow stream) open_at o events (Arrive path packet))) last steady))
        ∙ never (has_wire_size packet)
      where
        never : (b : Bool) → (b && false) ≡ false
        never true = refl
        never false = refl

        own : (c w : Bool) → c ≡ true → w ≡ true → NoneAstray (if c && w then standing_after (by_clock Follow stream) a (next_number (by_clock Follow stream) a (time_of open_at events)) (time_of open_at events) (standings_since (by_clock Follow stream) open_at place a events) path packet ∷ [] else []) → is_astray (standing_after (by_clock Follow stream) a (next_number (by_clock Follow stream) a (time_of open_at events)) (time_of open_at events) (standings_since (by_clock Follow stream) open_at place a events) path packet) ≡ false
        own true true ec ew none = none.0
        own false w ec ew none = cc
        own true false ec ew none = cc

    can_same : (place : ℕ) (a : Anchor) → last_of (anchors_of (by_clock Follow stream) open_at events) ≡ Some (place, a) → is_counting events ≡ true → can_restart (by_clock Follow stream) open_at place a events path packet ≡ can_restart (by_clock Arrival stream) open_at place a events path packet
    can_same place a last counts = by_wanted (is_source_wanted stream.ssrc packet.ssrc) refl
      where
        by_wanted : (w : Bool) → is_source_wanted stream.ssrc packet.ssrc ≡ w
            → (continues_media_time (by_clock Follow stream) (time_of open_at events) a packet && (is_all_given (by_clock Follow stream) open_at place a events && (w && (completes_probation (by_clock Follow stream) (heard_since (by_clock Follow stream) open_at place a (events ++ Arrive path packet ∷ []) path) || is_slip (by_clock Follow stream) open_at place a events path packet))))
            ≡ (continues_media_time (by_clock Arrival stream) (time_of open_at events) a packet && (is_all_given (by_clock Arrival stream) open_at place a events && (w && (completes_probation (by_clock Arrival stream) (heard_since (by_clock Arrival stream) open_at place a (events ++ Arrive path packet ∷ []) path) || is_slip (by_clock Arrival stream) open_at place a events path packet))))
        by_wanted false wanted = ap (λ l. continues_media_time (by_clock Arrival stream) (time_of open_at events) a packet && (nat_le (end_of_copies l) (next_number stream a (time_of open_at events)) && false)) (since_same events same place a last)
        by_wanted true wanted =
            ap (λ l. continues_media_time (by_clock Arrival stream) (time_of open_at events) a packet && (nat_le (end_of_copies l) (next_number stream a (time_of open_at events)) && (completes_probation (by_clock Follow stream) (heard_since (by_clock Follow stream) open_at place a (events ++ Arrive path packet ∷ []) path) || is_slip (by_clock Follow stream) open_at place a events path packet))) (since_same events same place a last)
            ∙ ap (λ b. continues_media_time (by_clock Arrival stream) (time_of open_at events) a packet && (is_all_given (by_clock Arrival stream) open_at place a events && b)) (ap (λ b. completes_probation (by_clock Follow stream) (heard_since (by_clock Follow stream) open_at place a (events ++ Arrive path packet ∷ []) path) || b) (no_slip place a last counts wanted) ∙ ap (λ l. completes_probation (by_clock Follow stream) l || false) (heard_same place a (events ++ Arrive path packet ∷ []) path) ∙ sequence_same (heard_since (by_clock Arrival stream) open_at place a (events ++ Arrive path packet ∷ []) path))

    -- so the arrival makes the same anchor
    made_same : anchors_at (by_clock Follow stream) open_at (anchors_of (by_clock Follow stream) open_at events) events (Arrive path packet) ≡ anchors_at (by_clock Arrival stream) open_at (anchors_of (by_clock Arrival stream) open_at events) events (Arrive path packet)
    made_same =
        by_counting (is_counting events) refl (last_of (anchors_of (by_clock Follow stream) open_at events)) refl
        ∙ ap (λ l. anchors_at (by_clock Arrival stream) open_at l events (Arrive path packet)) same.anchors
      where
        by_counting : (c : Bool) → is_counting events ≡ c → (o : Option (ℕ × Anchor)) → last_of (anchors_of (by_clock Follow stream) open_at events) ≡ o → (if c then placed (length events) (anchors_after (by_clock Follow stream) open_at o events path packet) else []) ≡ (if c then placed (length events) (anchors_after (by_clock Arrival stream) open_at o events path packet) else [])
        by_counting false counts o last = refl
        by_counting true counts None last = refl
        by_counting true counts (Some (place, a)) last = ap (λ b. placed (length events) (if b then restart_from (by_clock Arrival stream) (time_of open_at events) a (next_number stream a (time_of open_at events)) packet ∷ [] else [])) (can_same place a last counts)

    -- the width is the window, by both
    width_same : width_in_force (by_clock Follow stream) open_at (last_of (anchors_of (by_clock Follow stream) open_at (events ++ Arrive path packet ∷ []))) events ≡ stream.window
    width_same = ap (λ o. width_in_force (by_clock Follow stream) open_at o events) (last-push (by_clock Follow stream) open_at events (Arrive path packet)) ∙ by_made (last_of (anchors_at (by_clock Follow stream) open_at (anchors_of (by_clock Follow stream) open_at events) events (Arrive path packet))) (last_of (anchors_of (by_clock Follow stream) open_at events)) (made_at (by_clock Follow stream) open_at (anchors_of (by_clock Follow stream) open_at events) events (Arrive path packet)) same.calm
      where
        by_made : (made old : Option (ℕ × Anchor)) → MadeAt (length events) made → NoneAstray (standings_of (by_clock Follow stream) open_at old events) → width_in_force (by_clock Follow stream) open_at (or_else made old) events ≡ stream.window
        by_made None None at none = refl
        by_made None (Some (place, a)) at none = width_calm (by_clock Follow stream) a (next_number stream a (time_of open_at events)) (time_of open_at events) (standings_since (by_clock Follow stream) open_at place a events) none
        by_made (Some (place, a)) old at none = ap (λ n. width_since (by_clock Follow stream) open_at n a events) at ∙ width_made (by_clock Follow stream) open_at a events

    anchors_then : anchors_of (by_clock Follow stream) open_at (events ++ Arrive path packet ∷ []) ≡ anchors_of (by_clock Arrival stream) open_at (events ++ Arrive path packet ∷ [])
    anchors_then = anchors_of-push (by_clock Follow stream) open_at events (Arrive path packet) ∙ ap (λ l. anchors_of (by_clock Follow stream) open_at events ++ l) made_same ∙ ap (λ l. l ++ anchors_at (by_clock Arrival stream) open_at (anchors_of (by_clock Arrival stream) open_at events) events (Arrive path packet)) same.anchors ∙ sym (anchors_of-push (by_clock Arrival stream) open_at events (Arrive path packet))

    last_same : last_of (anchors_of (by_clock Follow stream) open_at (events ++ Arrive path packet ∷ [])) ≡ last_of (anchors_of (by_clock Arrival stream) open_at (events ++ Arrive path packet ∷ []))
    last_same = ap last_of anchors_then

    anchor_then : anchor_of (by_clock Follow stream) open_at (events ++ Arrive path packet ∷ []) ≡ anchor_of (by_clock Arrival stream) open_at (events ++ Arrive path packet ∷ [])
    anchor_then = anchor_is (by_clock Follow stream) open_at (events ++ Arrive path packet ∷ []) ∙ ap anchor_in last_same ∙ sym (anchor_is (by_clock Arrival stream) open_at (events ++ Arrive path packet ∷ []))

    copy_same : copies_at (by_clock Follow stream) open_at events (Arrive path packet) ≡ copies_at (by_clock Arrival stream) open_at events (Arrive path packet)
    copy_same =
        ap (λ r. copies_under_with (of_width (by_clock Follow stream) r) (time_of open_at events) (is_counting events) (anchor_of (by_clock Follow stream) open_at (events ++ Arrive path packet ∷ [])) packet) width_same
        ∙ ap (λ o. copies_under_with (of_width (by_clock Follow stream) stream.window) (time_of open_at events) (is_counting events) o packet) anchor_then
        ∙ under_same stream.window (time_of open_at events) (is_counting events) (anchor_of (by_clock Arrival stream) open_at (events ++ Arrive path packet ∷ [])) packet
        ∙ sym (ap (λ r. copies_under_with (of_width (by_clock Arrival stream) r) (time_of open_at events) (is_counting events) (anchor_of (by_clock Arrival stream) open_at (events ++ Arrive path packet ∷ [])) packet) (width_plain (by_clock Arrival stream) open_at refl (last_of (anchors_of (by_clock Arrival stream) open_at (events ++ Arrive path packet ∷ []))) events))

    width_now : (o : Option (ℕ × Anchor)) → NoneAstray (standings_of (by_clock Follow stream) open_at o events) → width_in_force (by_clock Follow stream) open_at o events ≡ stream.window
    width_now None none = refl
    width_now (Some (place, a)) none = width_calm (by_clock Follow stream) a (next_number stream a (time_of open_at events)) (time_of open_at events) (standings_since (by_clock Follow stream) open_at place a events) none

    restart_same : is_counting events ≡ true → is_restart (by_clock Follow stream) open_at (last_of (anchors_of (by_clock Follow stream) open_at events)) events path packet ≡ is_restart (by_clock Arrival stream) open_at (last_of (anchors_of (by_clock Arrival stream) open_at events)) events path packet
    restart_same counts = by_last (last_of (anchors_of (by_clock Follow stream) open_at events)) refl ∙ ap (λ l. is_restart (by_clock Arrival stream) open_at (last_of l) events path packet) same.anchors
      where
        by_last : (o : Option (ℕ × Anchor)) → last_of (anchors_of (by_clock Follow stream) open_at events) ≡ o → is_restart (by_clock Follow stream) open_at o events path packet ≡ is_restart (by_clock Arrival stream) open_at o events path packet
        by_last None last = refl
        by_last (Some (place, a)) last = can_same place a last counts

    counted_same : (o : Option Anchor) (copies : List (ℕ × Packet)) → counted_fate (by_clock Follow stream) stream.window (time_of open_at events) o copies packet ≡ counted_fate (by_clock Arrival stream) stream.window (time_of open_at events) o copies packet
    counted_same None copies = refl
    counted_same (Some a) copies = refl

    fate_same : is_counting events ≡ true → fate_of (by_clock Follow stream) open_at events path packet ≡ fate_of (by_clock Arrival stream) open_at events path packet
    fate_same counts =
        ap (λ b. if is_closed events then Closed else if not (nat_lt (arrival_count events) (2 ^ 62)) then CountersFull else if b then Restarted else counted_fate (by_clock Follow stream) (width_in_force (by_clock Follow stream) open_at (last_of (anchors_of (by_clock Follow stream) open_at events)) events) (time_of open_at events) (anchor_of (by_clock Follow stream) open_at events) (copies_of (by_clock Follow stream) open_at events) packet) (restart_same counts)
        ∙ ap (λ f. if is_closed events then Closed else if not (nat_lt (arrival_count events) (2 ^ 62)) then CountersFull else if is_restart (by_clock Arrival stream) open_at (last_of (anchors_of (by_clock Arrival stream) open_at events)) events path packet then Restarted else f)
        (ap (λ r. counted_fate (by_clock Follow stream) r (time_of open_at events) (anchor_of (by_clock Follow stream) open_at events) (copies_of (by_clock Follow stream) open_at events) packet) (width_now (last_of (anchors_of (by_clock Follow stream) open_at events)) same.calm)
        ∙ counted_same (anchor_of (by_clock Follow stream) open_at events) (copies_of (by_clock Follow stream) open_at events)
        ∙ ap (λ o. counted_fate (by_clock Arrival stream) stream.window (time_of open_at events) o (copies_of (by_clock Follow stream) open_at events) packet) (anchor_same events same)
        ∙ ap (λ l. counted_fate (by_clock Arrival stream) stream.window (time_of open_at events) (anchor_of (by_clock Arrival stream) open_at events) l packet) (copies_same events same)
        ∙ sym (ap (λ r. counted_fate (by_clock Arrival stream) r (time_of open_at events) (anchor_of (by_clock Arrival stream) open_at events) (copies_of (by_clock Arrival stream) open_at events) packet) (width_plain (by_clock Arrival stream) open_at refl (last_of (anchors_of (by_clock Arrival stream) open_at events)) events)))

    fates_same : fates_at (by_clock Follow stream) open_at events (Arrive path packet) ≡ fates_at (by_clock Arrival stream) open_at events (Arrive path packet)
    fates_same = by_counting (is_counting events) refl
      where
        by_counting : (c : Bool) → is_counting events ≡ c → fate_if path c (fate_of (by_clock Follow stream) open_at events path packet) ≡ fate_if path c (fate_of (by_clock Arrival stream) open_at events path packet)
        by_counting false counts = refl
        by_counting true counts = ap (fate_if path true) (fate_same counts)

    calm_then : NoneAstray (standings_of (by_clock Follow stream) open_at (last_of (anchors_of (by_clock Follow stream) open_at (events ++ Arrive path packet ∷ []))) (events ++ Arrive path packet ∷ []))
    calm_then = subst (λ o. NoneAstray (standings_of (by_clock Follow stream) open_at o (events ++ Arrive path packet ∷ []))) (sym (last-push (by_clock Follow stream) open_at events (Arrive path packet))) (by_made (last_of (anchors_at (by_clock Follow stream) open_at (anchors_of (by_clock Follow stream) open_at events) events (Arrive path packet))) (last_of (anchors_of (by_clock Follow stream) open_at events)) (made_at (by_clock Follow stream) open_at (anchors_of (by_clock Follow stream) open_at events) events (Arrive path packet)) (place_within (by_clock Follow stream) open_at events) same.calm steady)
      where
        by_made : (made old : Option (ℕ × Anchor)) → MadeAt (length events) made → WithinLength (length events) old → NoneAstray (standings_of (by_clock Follow stream) open_at old events) → NoneAstray (standings_under (by_clock Follow stream) open_at old events (Arrive path packet)) → NoneAstray (standings_of (by_clock Follow stream) open_at (or_else made old) (events ++ Arrive path packet ∷ []))
        by_made None None at within none new = tt
        by_made None (Some (place, a)) at within none new = subst NoneAstray (sym (standings_of-push (by_clock Follow stream) open_at (Some (place, a)) events (Arrive path packet) within)) (none-append (standings_since (by_clock Follow stream) open_at place a events) (standings_at (by_clock Follow stream) a open_at (standings_since (by_clock Follow stream) open_at place a events) events (Arrive path packet)) none new)
        by_made (Some (place, a)) old at within none new = subst (λ n. NoneAstray (standings_of (by_clock Follow stream) open_at (Some (n, a)) (events ++ Arrive path packet ∷ []))) (sym at) (subst NoneAstray (sym (standings_of-made (by_clock Follow stream) open_at a events (Arrive path packet))) tt)

    same_arrival : IsSame (events ++ Arrive path packet ∷ [])
    same_arrival = record {
      anchors = anchors_then;
      copies = copies_of_all-push (by_clock Follow stream) open_at events (Arrive path packet) ∙ ap (λ l. l ++ copies_at (by_clock Follow stream) open_at events (Arrive path packet)) same.copies ∙ ap (λ l. copies_of_all (by_clock Arrival stream) open_at events ++ l) copy_same ∙ sym (copies_of_all-push (by_clock Arrival stream) open_at events (Arrive path packet));
      fates = fates_of-push (by_clock Follow stream) open_at events (Arrive path packet) ∙ ap (λ l. l ++ fates_at (by_clock Follow stream) open_at events (Arrive path packet)) same.fates ∙ ap (λ l. fates_of (by_clock Arrival stream) open_at events ++ l) fates_same ∙ sym (fates_of-push (by_clock Arrival stream) open_at events (Arrive path packet));
      calm = calm_then;
    }

  same_tick : (events : List Event) (u : ℤ) → IsSame events → IsSame (events ++ Tick u ∷ [])
  same_tick events u same = record {
    anchors = anchors_of-push (by_clock Follow stream) open_at events (Tick u) ∙ ap (λ l. l ++ []) same.anchors ∙ sym (anchors_of-push (by_clock Arrival stream) open_at events (Tick u));
    copies = copies_of_all-tick (by_clock Follow stream) open_at events u ∙ same.copies ∙ sym (copies_of_all-tick (by_clock Arrival stream) open_at events u);
    fates = fates_of-tick (by_clock Follow stream) open_at events u ∙ same.fates ∙ sym (fates_of-tick (by_clock Arrival stream) open_at events u);
    calm = subst NoneAstray (sym (standings_of-tick (by_clock Follow stream) open_at events u)) same.calm;
  }

  same_close : (events : List Event) → IsSame events → IsSame (events ++ Close ∷ [])
  same_close events same = record {
    anchors = anchors_of-push (by_clock Follow stream) open_at events Close ∙ ap (λ l. l ++ []) same.anchors ∙ sym (anchors_of-push (by_clock Arrival stream) open_at events Close);
    copies = copies_of_all-close (by_clock Follow stream) open_at events ∙ same.copies ∙ sym (copies_of_all-close (by_clock Arrival stream) open_at events);
    fates = fates_of-close (by_clock Follow stream) open_at events ∙ same.fates ∙ sym (fates_of-close (by_clock Arrival stream) open_at events);
    calm = subst NoneAstray (sym (standings_of-close (by_clock Follow stream) open_at events)) same.calm;
  }

  same_start : IsSame []
  unfolding copies_of_all fates_of at_places
  same_start = record {
    anchors = no_anchors (by_clock Follow stream) open_at ∙ sym (no_anchors (by_clock Arrival stream) open_at);
    copies = refl;
    fates = refl;
    calm = subst (λ l. NoneAstray (standings_of (by_clock Follow stream) open_at (last_of l) [])) (sym (no_anchors (by_clock Follow stream) open_at)) tt;
  }

  -- a prefix of a history that is never astray is never astray
  shorter : (events : List Event) (event : Event) → IsNeverAstray (by_clock Follow stream) open_at (events ++ event ∷ []) → IsNeverAstray (by_clock Follow stream) open_at events
  shorter events event never = record { at_each = λ before e after is. never.at_each before e (after ++ event ∷ []) (ap (λ l. l ++ event ∷ []) is ∙ append_assoc before (e ∷ after) (event ∷ [])) }

  same_history : (events : List Event) → IsNeverAstray (by_clock Follow stream) open_at events → IsSame events
  same_history = by_last_event (λ events. IsNeverAstray (by_clock Follow stream) open_at events → IsSame events) (λ never. same_start) step
    where
      step : (events : List Event) (event : Event) → (IsNeverAstray (by_clock Follow stream) open_at events → IsSame events) → IsNeverAstray (by_clock Follow stream) open_at (events ++ event ∷ []) → IsSame (events ++ event ∷ [])
      step events (Arrive path packet) before never = same_arrival events (before (shorter events (Arrive path packet) never)) path packet (never.at_each events (Arrive path packet) [] refl)
      step events (Tick u) before never = same_tick events u (before (shorter events (Tick u) never))
      step events Close before never = same_close events (before (shorter events Close never))

  -- the marks of each event
  slots_same : (a : Anchor) (copies : List (ℕ × Packet)) (n count : ℕ) → slots_from (by_clock Follow stream) a copies n count ≡ slots_from (by_clock Arrival stream) a copies n count
  slots_same a copies n zero = refl
  slots_same a copies n (suc count) = ap (λ l. slot_mark (by_clock Arrival stream) a n (body_of (first_with n copies)) ∷ l) (slots_same a copies (suc n) count)

  quiet_same : (given : List MarkView) (u : ℤ) (marks : List MarkView) → slots_or_quiet (by_clock Follow stream) open_at given u marks ≡ slots_or_quiet (by_clock Arrival stream) open_at given u marks
  quiet_same given u [] = refl
  quiet_same given u (mark ∷ marks) = refl

  under_same_marks : (o : Option Anchor) (copies : List (ℕ × Packet)) (given : List MarkView) (before : List Event) (event : Event) → marks_under (by_clock Follow stream) open_at o copies given before event ≡ marks_under (by_clock Arrival stream) open_at o copies given before event
  under_same_marks o copies given before (Arrive path packet) = refl
  under_same_marks None copies given before (Tick u) = ap (λ l. if is_closed before then [] else l) (quiet_same given u [])
  under_same_marks (Some a) copies given before (Tick u) =
      ap (λ l. if is_closed before then [] else l)
      (quiet_same given u (slots_from (by_clock Follow stream) a copies (next_number stream a (time_of open_at before)) (next_number stream a u - next_number stream a (time_of open_at before)))
      ∙ ap (slots_or_quiet (by_clock Arrival stream) open_at given u) (slots_same a copies (next_number stream a (time_of open_at before)) (next_number stream a u - next_number stream a (time_of open_at before))))
  under_same_marks None copies given before Close = refl
  under_same_marks (Some a) copies given before Close = ap (λ l. if is_closed before then [] else l ++ end_mark (by_clock Arrival stream) ∷ []) (slots_same a copies (next_number stream a (time_of open_at before)) (end_of_copies copies - next_number stream a (time_of open_at before)))

  marks_same : (copies : List (ℕ × (ℕ × Packet))) (events : List Event) → IsNeverAstray (by_clock Follow stream) open_at events → marks_in (by_clock Follow stream) open_at copies events ≡ marks_in (by_clock Arrival stream) open_at copies events
  marks_same copies = by_last_event (λ events. IsNeverAstray (by_clock Follow stream) open_at events → marks_in (by_clock Follow stream) open_at copies events ≡ marks_in (by_clock Arrival stream) open_at copies events)
      (λ never. marks_in-none (by_clock Follow stream) open_at copies ∙ sym (marks_in-none (by_clock Arrival stream) open_at copies))
      (λ events event before never.
      let same = same_history events (shorter events event never) in
      marks_in-push (by_clock Follow stream) open_at copies events event
      ∙ ap (λ l. l ++ marks_at (by_clock Follow stream) open_at copies l events event) (before (shorter events event never))
      ∙ ap (λ l. marks_in (by_clock Arrival stream) open_at copies events ++ l)
      (ap (λ o. marks_under (by_clock Follow stream) open_at o (copies_with o copies) (marks_in (by_clock Arrival stream) open_at copies events) events event) (anchor_same events same)
      ∙ under_same_marks (anchor_of (by_clock Arrival stream) open_at events) (copies_with (anchor_of (by_clock Arrival stream) open_at events) copies) (marks_in (by_clock Arrival stream) open_at copies events) events event)
      ∙ sym (marks_in-push (by_clock Arrival stream) open_at copies events event))

  pub fates_as_by_arrival : (events : List Event) → IsNeverAstray (by_clock Follow stream) open_at events → fates_of (by_clock Follow stream) open_at events ≡ fates_of (by_clock Arrival stream) open_at events
  fates_as_by_arrival events never = (same_history events never).fates

  pub marks_as_by_arrival : (events : List Event) → IsNeverAstray (by_clock Follow stream) open_at events → marks_of (by_clock Follow stream) open_at events ≡ marks_of (by_clock Arrival stream) open_at events
  marks_as_by_arrival events never =
      marks_of-in (by_clock Follow stream) open_at events ∙ ap (λ c. marks_in (by_clock Follow stream) open_at c events) (same_history events never).copies ∙ marks_same (copies_of_all (by_clock Arrival stream) open_at events) events never ∙ sym (marks_of-in (by_clock Arrival stream) open_at events)
