-- An offer under an anchor extends the history, whether it opens an epoch or not.
use Rattle.std.proofs.Common.{◌≡◌, ℕ, ◌^◌, ◌<◌, ◌≤◌, Bool, true, false, not, ◌&&◌, List, [], ◌∷◌, ◌++◌, length, Option, Some, None, Result, Ok, Err, ℤ, refl, sym, ap, subst, ◌∙◌, arith, append-nil, if◌then◌else◌}
use Rattle.std.specs.Prelude.{nat_eq, nat_lt}
use Rattle.std.specs.FinMap.{get}
use Rattle.std.proofs.lemmas.Bool.Decides.{nat_tests}
use Rattle.path_merge.proofs.ArrivalLemmas.{marks_of-arrive, stands_after_arrival}
use Rattle.path_merge.proofs.EpochLemmas.{WithinLength, all_tags, heard_by, anchor_is, heard_of-push, last-push, place_within, standings_since-push}
use Rattle.rtp_stream.proofs.FollowLemmas.{track_of-push}
use Rattle.rtp_stream.specs.FollowTrack.{width_by, standing_by, track_after, track_at, track_heard, track_of}
use Rattle.rtp_stream.specs.Follow.{is_following, standing_after, standings_at, standings_on, standings_since}
use Rattle.rtp_stream.specs.declared.follow.Standing.{Standing}
use Rattle.path_merge.proofs.HistoryLemmas.{copies_of-push, or_else}
use Rattle.rtp_stream.proofs.ProbationLemmas.{probation_of-push}
use Rattle.path_merge.proofs.RestartOfferLemmas.{all, counts_heard, few, hears, next_is, width_is, shut, some_frames, stands_is, offers_restart, opens_is, standings_on-other, standings_on-own, was_track}
use Rattle.path_merge.proofs.PlaceLemmas.{counts_at, has_no_place, has_place, is_none, taken_answer}
use Rattle.path_merge.proofs.AnewLemmas.{itself_eq}
use Rattle.rtp_stream.specs.Anchor.{is_source_wanted, next_number}
use Rattle.rtp_stream.specs.Copies.{copies_of, copies_under_with, copies_with, first_copy}
use Rattle.rtp_stream.specs.Counts.{counts_of, is_counted_fate, is_taken_fate}
use Rattle.rtp_stream.specs.CountsFacts.{with_fate}
use Rattle.rtp_stream.specs.Epochs.{anchor_in, anchor_of, anchors_at, anchors_of, can_restart, last_of, width_in_force}
use Rattle.rtp_stream.specs.Fate.{counted_fate, fate_at, fate_of, fate_of_put, is_restart, next_fate, place_of}
use Rattle.rtp_stream.specs.Grid.{extended_number, first_with, of_width, is_in_time}
use Rattle.rtp_stream.specs.History.{arrival_count, is_closed, is_counting, time_of}
use Rattle.path_merge.specs.Merge.{HasHistory, heard_of, standings_of}
use Rattle.path_merge.specs.MergeState.{IsSound, MergeState}
use Rattle.rtp_stream.specs.PathProbation.{probation_after, probation_at, probation_heard, probation_of}
use Rattle.rtp_stream.specs.Probation.{heard_since, is_off}
use Rattle.path_merge.specs.Steps.{IsNextStep, Offers, IsRefusal, IsRestartStep, opens_epoch}
use Rattle.rtp_stream.specs.Put.{put_answer}
use Rattle.rtp_stream.specs.declared.stream_spec.Stream.{Stream}
use Rattle.rtp_stream.specs.declared.anchor.Anchor.{Anchor}
use Rattle.rtp_stream.specs.declared.event.Event.{Event}
use Rattle.rtp_stream.specs.declared.event.Event.TheVariants.{Arrive}
use Rattle.rtp_stream.specs.declared.fate.Fate.{Fate}
use Rattle.rtp_stream.specs.declared.fate.Fate.TheVariants.{Closed, CountersFull, Restarted}
use Rattle.path_merge.proofs.CopiesLemmas.{first_with-append}
use Rattle.rtp_stream.specs.declared.packet.Packet.{Packet}

-- what is held after a put is the first copy after it
put_held : (n number base : ℕ) (packet : Packet) (f g : Option Packet) → base ≤ number → g ≡ (if nat_lt n base then None else f) → (there : Option Packet) → (n ≡ number → there ≡ f) → (if is_none there && nat_eq n number then Some packet else g) ≡ (if nat_lt n base then None else or_else f (if nat_eq number n then Some packet else None))
put_held n number base packet f g low is there same = by_tests (nat_lt n base) (nat_eq n number) (nat_eq number n) refl refl refl is
  where
    or_none : (o : Option Packet) → o ≡ or_else o None
    or_none None = refl
    or_none (Some p) = refl

    not_both : (b : Bool) → (if b && false then Some packet else g) ≡ g
    not_both true = refl
    not_both false = refl

    at_number : (t f : Option Packet) → t ≡ f → g ≡ f → (if is_none t && true then Some packet else g) ≡ or_else f (Some packet)
    at_number None None e h = refl
    at_number (Some p) (Some q) e h = h
    at_number None (Some q) e h = cc
    at_number (Some p) None e h = cc

    by_tests : (l e e' : Bool) → nat_lt n base ≡ l → nat_eq n number ≡ e → nat_eq number n ≡ e' → g ≡ (if l then None else f) → (if is_none there && e then Some packet else g) ≡ (if l then None else or_else f (if e' then Some packet else None))
    by_tests true true e' el ee ee' is = absurd (grind (arith, nat_tests, el, ee, low))
    by_tests true false e' el ee ee' is = not_both (is_none there) ∙ is
    by_tests false true true el ee ee' is = at_number there f (same (grind (arith, nat_tests, ee))) is
    by_tests false true false el ee ee' is = absurd (grind (arith, nat_tests, ee, ee'))
    by_tests false false true el ee ee' is = absurd (grind (arith, nat_tests, ee, ee'))
    by_tests false false false el ee ee' is = not_both (is_none there) ∙ is ∙ or_none f

module _ (stream : Stream) (open_at : ℤ) (m : MergeState) (media : ℤ) (s : IsSound m media) (open_yet : m.closed ≡ false) (events : List Event) (k : ℕ) (at : HasHistory stream open_at m events k) (space : m.counts.arrived < 2 ^ 62) (a : Anchor) (is_a : m.anchor ≡ Some a) (place : ℕ) (last : last_of (anchors_of stream open_at events) ≡ Some (place, a)) (path : ℕ) (packet : Packet) (few_paths : path < 4) (stays : can_restart stream open_at place a events path packet ≡ false) where
  next : m.base ≡ next_number stream a m.time
  next = next_is stream open_at m media s open_yet events k at space a is_a place last path packet few_paths

  hearing : is_counting events ≡ true
  hearing = hears stream open_at m media s open_yet events k at space

  same_last : last_of (anchors_of stream open_at (events ++ Arrive path packet ∷ [])) ≡ Some (place, a)
  same_last =
      let none : last_of (anchors_at stream open_at (anchors_of stream open_at events) events (Arrive path packet)) ≡ None = rw (hearing, last, stays) refl in
      last-push stream open_at events (Arrive path packet) ∙ ap (λ o. or_else o (last_of (anchors_of stream open_at events))) none ∙ last

  anchor_now : anchor_of stream open_at events ≡ Some a
  anchor_now = sym at.anchor ∙ is_a

  anchor_then : anchor_of stream open_at (events ++ Arrive path packet ∷ []) ≡ Some a
  anchor_then = anchor_is stream open_at (events ++ Arrive path packet ∷ []) ∙ ap anchor_in same_last

  -- the width that the tracks leave is that of the history
  width_then : (o : Option (ℕ × Anchor)) → o ≡ Some (place, a) → width_in_force stream open_at o events ≡ width_by stream a m.base m.time m.tracks
  width_then o is = ap (λ o. width_in_force stream open_at o events) is ∙ sym (width_is stream open_at m media s open_yet events k at space a is_a place last path packet few_paths)

  copies_of_width : (r : ℕ) → copies_with (anchor_of stream open_at events) (copies_under_with (of_width stream r) (time_of open_at events) (is_counting events) (anchor_of stream open_at (events ++ Arrive path packet ∷ [])) packet) ≡ (if is_in_time (of_width stream r) a m.base packet then (extended_number packet m.base, packet) ∷ [] else [])
  copies_of_width r = rw (anchor_now, anchor_then, hearing, next, at.time) (all_tags stream open_at a (if is_in_time (of_width stream r) a (next_number stream a (time_of open_at events)) packet then (extended_number packet (next_number stream a (time_of open_at events)), packet) ∷ [] else []))

  copies_then : copies_of stream open_at (events ++ Arrive path packet ∷ []) ≡ copies_of stream open_at events ++ (if is_in_time (of_width stream (width_by stream a m.base m.time m.tracks)) a m.base packet then (extended_number packet m.base, packet) ∷ [] else [])
  copies_then =
      copies_of-push stream open_at events (Arrive path packet) (anchor_then ∙ sym anchor_now)
      ∙ ap (λ l. copies_of stream open_at events ++ l)
      (ap (λ r. copies_with (anchor_of stream open_at events) (copies_under_with (of_width stream r) (time_of open_at events) (is_counting events) (anchor_of stream open_at (events ++ Arrive path packet ∷ [])) packet)) (width_then (last_of (anchors_of stream open_at (events ++ Arrive path packet ∷ []))) same_last)
      ∙ copies_of_width (width_by stream a m.base m.time m.tracks))

  held_from : (n : ℕ) → m.base ≤ n → get m.held n ≡ first_copy stream open_at events n
  held_from n le = let past : nat_lt n m.base ≡ false = grind (arith, nat_tests, le) in at.held n ∙ rw past refl

  next_held : (new : MergeState) (fate : Fate) → IsNextStep stream m new a path packet fate → (n : ℕ) → get new.held n ≡ (if nat_lt n m.base then None else first_copy stream open_at (events ++ Arrive path packet ∷ []) n)
  next_held new fate step n = by_place (place_of (of_width stream (width_by stream a m.base m.time m.tracks)) a m.base packet) refl
    where
      by_place : (place : Result ℕ Fate) → place_of (of_width stream (width_by stream a m.base m.time m.tracks)) a m.base packet ≡ place → get new.held n ≡ (if nat_lt n m.base then None else first_copy stream open_at (events ++ Arrive path packet ∷ []) n)
      by_place (Err fault) is =
          let out = has_no_place (of_width stream (width_by stream a m.base m.time m.tracks)) a m.base packet fault is in
          let fate_f : fate ≡ fault = step.puts.fate_is ∙ ap (λ o. fate_at o (get m.held) packet) is in
          let same : copies_of stream open_at (events ++ Arrive path packet ∷ []) ≡ copies_of stream open_at events = copies_then ∙ ap (λ b. copies_of stream open_at events ++ (if b then (extended_number packet m.base, packet) ∷ [] else [])) out.out_of_time ∙ append-nil _ in
          step.puts.held n ∙ ap (λ b. if b && nat_eq n (extended_number packet m.base) then Some packet else get m.held n) (ap is_taken_fate fate_f ∙ out.untaken) ∙ at.held n
          ∙ ap (λ l. if nat_lt n m.base then None else first_with n l) (sym same)
      by_place (Ok number) is =
          let here = has_place (of_width stream (width_by stream a m.base m.time m.tracks)) a m.base packet number is in
          let fate_p : fate ≡ fate_of_put (put_answer (get m.held number) packet) = step.puts.fate_is ∙ ap (λ o. fate_at o (get m.held) packet) is in
          let one : copies_of stream open_at (events ++ Arrive path packet ∷ []) ≡ copies_of stream open_at events ++ (number, packet) ∷ [] = copies_then ∙ ap (λ b. copies_of stream open_at events ++ (if b then (extended_number packet m.base, packet) ∷ [] else [])) here.in_time ∙ ap (λ x. copies_of stream open_at events ++ (x, packet) ∷ []) (sym here.is) in
          step.puts.held n ∙ ap (λ b. if b && nat_eq n (extended_number packet m.base) then Some packet else get m.held n) (ap is_taken_fate fate_p ∙ taken_answer (get m.held number) packet)
          ∙ ap (λ x. if is_none (get m.held number) && nat_eq n x then Some packet else get m.held n) (sym here.is)
          ∙ put_held n number m.base packet (first_copy stream open_at events n) (get m.held n) here.low (at.held n) (get m.held number) (λ e. held_from number here.low ∙ ap (first_copy stream open_at events) (sym e))
          ∙ ap (λ o. if nat_lt n m.base then None else o) (sym (first_with-append n (copies_of stream open_at events) ((number, packet) ∷ [])))
          ∙ ap (λ l. if nat_lt n m.base then None else first_with n l) (sym one)

  fate_of_width : (r : ℕ) → (if is_closed events then Closed
      else if not (nat_lt (arrival_count events) (2 ^ 62)) then CountersFull
      else if is_restart stream open_at (last_of (anchors_of stream open_at events)) events path packet then Restarted
      else counted_fate stream r (time_of open_at events) (anchor_of stream open_at events) (copies_of stream open_at events) packet)
      ≡ next_fate (of_width stream r) a m.base (copies_of stream open_at events) packet
  fate_of_width r = rw (shut stream open_at m media s open_yet events k at, last, stays, anchor_now, ← at.time, ← next) (by_count (arrival_count events) (few stream open_at m media s open_yet events k at space))
    where
      by_count : (n : ℕ) → n < 2 ^ 62 → (if not (nat_lt n (2 ^ 62)) then CountersFull else next_fate (of_width stream r) a m.base (copies_of stream open_at events) packet) ≡ next_fate (of_width stream r) a m.base (copies_of stream open_at events) packet
      by_count n h = let yes : nat_lt n (2 ^ 62) ≡ true = grind (arith, nat_tests, h) in rw yes refl

  fate_heard : fate_of stream open_at events path packet ≡ next_fate (of_width stream (width_by stream a m.base m.time m.tracks)) a m.base (copies_of stream open_at events) packet
  fate_heard =
      fate_of_width (width_in_force stream open_at (last_of (anchors_of stream open_at events)) events)
      ∙ ap (λ r. next_fate (of_width stream r) a m.base (copies_of stream open_at events) packet) (width_then (last_of (anchors_of stream open_at events)) last)

  pub fate_next : (new : MergeState) (fate : Fate) → IsNextStep stream m new a path packet fate → fate ≡ fate_of stream open_at events path packet
  fate_next new answer step =
      step.puts.fate_is ∙ by_place (place_of (of_width stream (width_by stream a m.base m.time m.tracks)) a m.base packet) refl ∙ sym fate_heard
    where
      by_place : (place : Result ℕ Fate) → place_of (of_width stream (width_by stream a m.base m.time m.tracks)) a m.base packet ≡ place → fate_at (place_of (of_width stream (width_by stream a m.base m.time m.tracks)) a m.base packet) (get m.held) packet ≡ fate_at (place_of (of_width stream (width_by stream a m.base m.time m.tracks)) a m.base packet) (first_copy stream open_at events) packet
      by_place (Err fault) is = ap (λ o. fate_at o (get m.held) packet) is ∙ sym (ap (λ o. fate_at o (first_copy stream open_at events) packet) is)
      by_place (Ok number) is = ap (λ o. fate_at o (get m.held) packet) is ∙ ap (λ g. fate_of_put (put_answer g packet)) (held_from number (has_place (of_width stream (width_by stream a m.base m.time m.tracks)) a m.base packet number is).low) ∙ sym (ap (λ o. fate_at o (first_copy stream open_at events) packet) is)

  -- each path's probation
  heard_then : (on : ℕ) → heard_of stream open_at (last_of (anchors_of stream open_at (events ++ Arrive path packet ∷ []))) (events ++ Arrive path packet ∷ []) on ≡ heard_since stream open_at place a events on ++ heard_by stream open_at (Some (place, a)) events (Arrive path packet) on
  heard_then on = ap (λ o. heard_of stream open_at o (events ++ Arrive path packet ∷ []) on) same_last ∙ heard_of-push stream open_at (Some (place, a)) events (Arrive path packet) on (subst (WithinLength (length events)) last (place_within stream open_at events))

  was : (on : ℕ) → on < 4 → probation_at m.probations on ≡ probation_of stream (heard_since stream open_at place a events on)
  was on few_on = at.probation on few_on ∙ ap (λ o. probation_of stream (heard_of stream open_at o events on)) last

  next_probation : (new : MergeState) (fate : Fate) → IsNextStep stream m new a path packet fate → (on : ℕ) → on < 4 → probation_at new.probations on ≡ probation_of stream (heard_of stream open_at (last_of (anchors_of stream open_at (events ++ Arrive path packet ∷ []))) (events ++ Arrive path packet ∷ []) on)
  next_probation new fate step on few_on = by_path (nat_eq on path) (nat_eq path on) refl refl
    where
      by_path : (e e' : Bool) → nat_eq on path ≡ e → nat_eq path on ≡ e' → probation_at new.probations on ≡ probation_of stream (heard_of stream open_at (last_of (anchors_of stream open_at (events ++ Arrive path packet ∷ []))) (events ++ Arrive path packet ∷ []) on)
      by_path false true ee ee' = absurd (grind (arith, nat_tests, ee, ee'))
      by_path true false ee ee' = absurd (grind (arith, nat_tests, ee, ee'))
      by_path false false ee ee' =
          let none : heard_by stream open_at (Some (place, a)) events (Arrive path packet) on ≡ [] = rw (hearing, ee') refl in
          ap (λ (x : MergeState). probation_at x.probations on) step.puts.changed ∙ step.hears.other_paths on ee ∙ was on few_on ∙ ap (probation_of stream) (sym (heard_then on ∙ ap (λ l. heard_since stream open_at place a events on ++ l) none ∙ append-nil _))
      by_path true true ee ee' = subst (λ x. probation_at new.probations x ≡ probation_of stream (heard_of stream open_at (last_of (anchors_of stream open_at (events ++ Arrive path packet ∷ []))) (events ++ Arrive path packet ∷ []) x)) same (ap (λ (x : MergeState). probation_at x.probations path) step.puts.changed ∙ step.hears.probation ∙ ap (λ sp. probation_heard sp (probation_at m.probations path) (is_off sp a m.base packet) packet) at.spec ∙ by_wanted (is_source_wanted stream.ssrc packet.ssrc) refl ∙ ap (probation_of stream) (sym (heard_then path)))
        where
          same : path ≡ on
          same = grind (arith, nat_tests, ee')

          by_wanted : (w : Bool) → is_source_wanted stream.ssrc packet.ssrc ≡ w → (if w then probation_after stream (probation_at m.probations path) (is_off stream a m.base packet, packet) else probation_at m.probations path) ≡ probation_of stream (heard_since stream open_at place a events path ++ heard_by stream open_at (Some (place, a)) events (Arrive path packet) path)
          by_wanted false is =
              let none : heard_by stream open_at (Some (place, a)) events (Arrive path packet) path ≡ [] = rw (hearing, itself_eq path, is) refl in
              was path few_paths ∙ ap (probation_of stream) (sym (ap (λ l. heard_since stream open_at place a events path ++ l) none ∙ append-nil _))
          by_wanted true is =
              let one : heard_by stream open_at (Some (place, a)) events (Arrive path packet) path ≡ (is_off stream a m.base packet, packet) ∷ [] = rw (hearing, itself_eq path, is, next, at.time) refl in
              ap (λ p. probation_after stream p (is_off stream a m.base packet, packet)) (was path few_paths) ∙ sym (probation_of-push stream (heard_since stream open_at place a events path) (is_off stream a m.base packet, packet)) ∙ ap (λ l. probation_of stream (heard_since stream open_at place a events path ++ l)) (sym one)

  -- each path's track
  standings_then : standings_of stream open_at (last_of (anchors_of stream open_at (events ++ Arrive path packet ∷ []))) (events ++ Arrive path packet ∷ []) ≡ standings_since stream open_at place a events ++ standings_at stream a open_at (standings_since stream open_at place a events) events (Arrive path packet)
  standings_then = ap (λ o. standings_of stream open_at o (events ++ Arrive path packet ∷ [])) same_last ∙ standings_since-push stream open_at a place events (Arrive path packet) (subst (WithinLength (length events)) last (place_within stream open_at events))

  tracked_before : (on : ℕ) → on < 4 → track_at m.tracks on ≡ track_of (standings_on on (standings_since stream open_at place a events))
  tracked_before on few_on = was_track stream open_at m media s open_yet events k at space a is_a place last path packet few_paths on few_on

  -- the standings on the other paths stay the same
  on_other : (on : ℕ) → nat_eq path on ≡ false → standings_on on (standings_since stream open_at place a events ++ standings_at stream a open_at (standings_since stream open_at place a events) events (Arrive path packet)) ≡ standings_on on (standings_since stream open_at place a events)
  on_other on apart = by_test (is_following stream.clock && (is_counting events && is_source_wanted stream.ssrc packet.ssrc)) (standing_after stream a (next_number stream a (time_of open_at events)) (time_of open_at events) (standings_since stream open_at place a events) path packet) refl
    where
      by_test : (b : Bool) (x : Standing) → x.path ≡ path → standings_on on (standings_since stream open_at place a events ++ (if b then x ∷ [] else [])) ≡ standings_on on (standings_since stream open_at place a events)
      by_test true x own = standings_on-other on (standings_since stream open_at place a events) x (ap (λ p. nat_eq p on) own ∙ apart)
      by_test false x own = ap (standings_on on) (append-nil _)

  on_own : track_heard stream a m.base m.time m.tracks path packet ≡ track_of (standings_on path (standings_since stream open_at place a events ++ standings_at stream a open_at (standings_since stream open_at place a events) events (Arrive path packet)))
  on_own = by_tests (is_following stream.clock) (is_counting events) (is_source_wanted stream.ssrc packet.ssrc) (standing_by stream a m.base m.time m.tracks path packet) (standing_after stream a (next_number stream a (time_of open_at events)) (time_of open_at events) (standings_since stream open_at place a events) path packet) hearing (stands_is stream open_at m media s open_yet events k at space a is_a place last path packet few_paths) refl
    where
      left : standings_on path (standings_since stream open_at place a events) ≡ standings_on path (standings_since stream open_at place a events ++ [])
      left = ap (standings_on path) (sym (append-nil _))

      by_tests : (f c w : Bool) (x y : Standing) → c ≡ true → x ≡ y → y.path ≡ path → (if f && w then track_after (track_at m.tracks path) x else track_at m.tracks path) ≡ track_of (standings_on path (standings_since stream open_at place a events ++ (if f && (c && w) then y ∷ [] else [])))
      by_tests true true true x y ec same own =
          ap (λ z. track_after (track_at m.tracks path) z) same
          ∙ ap (λ t. track_after t y) (tracked_before path few_paths)
          ∙ sym (track_of-push (standings_on path (standings_since stream open_at place a events)) y)
          ∙ ap track_of (sym (standings_on-own path (standings_since stream open_at place a events) y own))
      by_tests true true false x y ec same own = tracked_before path few_paths ∙ ap track_of left
      by_tests false c w x y ec same own = tracked_before path few_paths ∙ ap track_of left
      by_tests true false w x y ec same own = cc

  next_tracks : (new : MergeState) (fate : Fate) → IsNextStep stream m new a path packet fate → (on : ℕ) → on < 4 → track_at new.tracks on ≡ track_of (standings_on on (standings_of stream open_at (last_of (anchors_of stream open_at (events ++ Arrive path packet ∷ []))) (events ++ Arrive path packet ∷ [])))
  next_tracks new fate step on few_on = by_path (nat_eq on path) (nat_eq path on) refl refl ∙ ap (λ l. track_of (standings_on on l)) (sym standings_then)
    where
      by_path : (e e' : Bool) → nat_eq on path ≡ e → nat_eq path on ≡ e' → track_at new.tracks on ≡ track_of (standings_on on (standings_since stream open_at place a events ++ standings_at stream a open_at (standings_since stream open_at place a events) events (Arrive path packet)))
      by_path false true ee ee' = absurd (grind (arith, nat_tests, ee, ee'))
      by_path true false ee ee' = absurd (grind (arith, nat_tests, ee, ee'))
      by_path false false ee ee' =
          ap (λ (x : MergeState). track_at x.tracks on) step.puts.changed ∙ step.hears.other_tracks on ee ∙ tracked_before on few_on ∙ ap track_of (sym (on_other on ee'))
      by_path true true ee ee' =
          let same : path ≡ on = grind (arith, nat_tests, ee') in
          subst (λ x. track_at new.tracks x ≡ track_of (standings_on x (standings_since stream open_at place a events ++ standings_at stream a open_at (standings_since stream open_at place a events) events (Arrive path packet)))) same
          (ap (λ (x : MergeState). track_at x.tracks path) step.puts.changed ∙ step.hears.track ∙ ap (λ sp. track_heard sp a m.base m.time m.tracks path packet) at.spec ∙ on_own)

  pub stands_next : (new : MergeState) (fate : Fate) → IsNextStep stream m new a path packet fate → HasHistory stream open_at new (events ++ Arrive path packet ∷ []) k
  stands_next new fate step = stands_after_arrival stream open_at (some_frames stream open_at m media s open_yet events k at) m new events k path packet at open_yet (few stream open_at m media s open_yet events k at space) (record {
    spec = ap (λ (x : MergeState). x.spec) step.puts.changed;
    time = ap (λ (x : MergeState). x.time) step.puts.changed;
    anchor = ap (λ (x : MergeState). x.anchor) step.puts.changed ∙ is_a ∙ sym anchor_then;
    base = rw (ap (λ (x : MergeState). x.anchor) step.puts.changed, ap (λ (x : MergeState). x.base) step.puts.changed, ← all stream open_at m media s open_yet events k at) at.base;
    held = λ n. next_held new fate step n ∙ rw (ap (λ (x : MergeState). x.base) step.puts.changed);
    probation = next_probation new fate step;
    tracks = next_tracks new fate step;
    quiet = ap (λ (x : MergeState). x.quiet) step.puts.changed;
    counts = ap (λ (x : MergeState). x.counts) step.puts.changed ∙ ap (λ t. with_fate t path fate) (at.counts ∙ ap (counts_of stream open_at events) (all stream open_at m media s open_yet events k at)) ∙ sym (counts_heard stream open_at m media s open_yet events k at path packet space fate (fate_next new fate step) (ap is_counted_fate (fate_next new fate step ∙ fate_heard) ∙ counts_at (of_width stream (width_by stream a m.base m.time m.tracks)) a m.base packet (λ number. first_with number (copies_of stream open_at events))) few_paths);
    closed = ap (λ (x : MergeState). x.closed) step.puts.changed;
    ended = ap (λ (x : MergeState). x.ended) step.puts.changed;
  })

  pub offers_next : (new : MergeState) (fate : Fate) → IsNextStep stream m new a path packet fate → Offers stream open_at new events k path packet fate
  offers_next new fate step = record {
    fate_is = fate_next new fate step;
    stands = stands_next new fate step;
    kept = marks_of-arrive stream open_at (some_frames stream open_at m media s open_yet events k at) events at.well_timed (shut stream open_at m media s open_yet events k at) path packet;
  }

pub refused_next : (stream : Stream) (old new : MergeState) (a : Anchor) (path : ℕ) (packet : Packet) (fate : Fate) → IsNextStep stream old new a path packet fate → is_taken_fate fate ≡ false → IsRefusal old new path fate
refused_next stream old new a path packet fate step untaken = record {
  held = λ n. step.puts.held n ∙ ap (λ b. if b && nat_eq n (extended_number packet old.base) then Some packet else get old.held n) untaken;
  other_paths = λ other apart. ap (λ (x : MergeState). probation_at x.probations other) step.puts.changed ∙ step.hears.other_paths other apart;
  other_tracks = λ other apart. ap (λ (x : MergeState). track_at x.tracks other) step.puts.changed ∙ step.hears.other_tracks other apart;
  changed =
      step.puts.changed
      ∙ ap (λ l. record old { held = new.held; probations = l; tracks = step.noted; counts = with_fate old.counts path fate }) (sym (ap (λ (x : MergeState). x.probations) step.puts.changed))
      ∙ ap (λ l. record old { held = new.held; probations = new.probations; tracks = l; counts = with_fate old.counts path fate }) (sym (ap (λ (x : MergeState). x.tracks) step.puts.changed));
}

module _ (m new : MergeState) (a : Anchor) (path : ℕ) (packet : Packet) (fate : Fate) (next : opens_epoch m a path packet ≡ false → IsNextStep m.spec m new a path packet fate) (restart : opens_epoch m a path packet ≡ true → IsRestartStep m.spec m new a path packet fate) where
  by_opening : (P : Type 0) → (opens_epoch m a path packet ≡ false → IsNextStep m.spec m new a path packet fate → P) → (opens_epoch m a path packet ≡ true → IsRestartStep m.spec m new a path packet fate → P) → P
  by_opening P on_next on_restart = by_test (opens_epoch m a path packet) refl
    where
      by_test : (b : Bool) → opens_epoch m a path packet ≡ b → P
      by_test false e = on_next e (next e)
      by_test true e = on_restart e (restart e)

  pub refused_anchored : is_taken_fate fate ≡ false → IsRefusal m new path fate
  refused_anchored untaken = by_opening (IsRefusal m new path fate) (λ e step. refused_next m.spec m new a path packet fate step untaken) (λ e step. absurd (let taken = sym untaken ∙ ap is_taken_fate step.fate_is in cc))

  pub kept_anchored : (new.time ≡ m.time) × (new.closed ≡ m.closed) × (new.spec ≡ m.spec)
  kept_anchored = by_opening ((new.time ≡ m.time) × (new.closed ≡ m.closed) × (new.spec ≡ m.spec))
      (λ e step. (ap (λ (x : MergeState). x.time) step.puts.changed, ap (λ (x : MergeState). x.closed) step.puts.changed, ap (λ (x : MergeState). x.spec) step.puts.changed))
      (λ e step. (ap (λ (x : MergeState). x.time) step.changed, ap (λ (x : MergeState). x.closed) step.changed, ap (λ (x : MergeState). x.spec) step.changed))

  pub counted_anchored : is_counted_fate fate ≡ true
  counted_anchored = by_opening (is_counted_fate fate ≡ true)
      (λ e step. ap is_counted_fate step.puts.fate_is ∙ counts_at (of_width m.spec (width_by m.spec a m.base m.time m.tracks)) a m.base packet (get m.held))
      (λ e step. ap is_counted_fate step.fate_is)

  -- an offer extends the history, with the fate of the definition
  pub offers_anchored : (stream : Stream) (open_at : ℤ) (media : ℤ) → IsSound m media → m.closed ≡ false → (events : List Event) (k : ℕ) → HasHistory stream open_at m events k → m.counts.arrived < 2 ^ 62 → m.anchor ≡ Some a → path < 4 → packet.seq < 65536 → packet.ts < 2 ^ 32 → Offers stream open_at new events k path packet fate
  offers_anchored stream open_at media s open_yet events k at space is_a few_paths seq ts = by_last (last_of (anchors_of stream open_at events)) refl (sym (anchor_is stream open_at events) ∙ sym at.anchor ∙ is_a)
    where
      some_inj : {x y : Anchor} → Some x ≡ Some y → x ≡ y
      some_inj e = cc

      by_last : (o : Option (ℕ × Anchor)) → last_of (anchors_of stream open_at events) ≡ o → anchor_in o ≡ Some a → Offers stream open_at new events k path packet fate
      by_last None last e = cc
      by_last (Some (place, b)) last e = by_test (can_restart stream open_at place a events path packet) refl
        where
          there : last_of (anchors_of stream open_at events) ≡ Some (place, a)
          there = last ∙ ap (λ x. Some (place, x)) (some_inj e)

          opens : opens_epoch m a path packet ≡ can_restart stream open_at place a events path packet
          opens = opens_is stream open_at m media s open_yet events k at space a is_a place there path packet few_paths

          by_test : (b : Bool) → can_restart stream open_at place a events path packet ≡ b → Offers stream open_at new events k path packet fate
          by_test false stays = offers_next stream open_at m media s open_yet events k at space a is_a place there path packet few_paths stays new fate (subst (λ sp. IsNextStep sp m new a path packet fate) at.spec (next (opens ∙ stays)))
          by_test true can = offers_restart stream open_at m media s open_yet events k at space a is_a place there path packet few_paths can seq ts new fate (subst (λ sp. IsRestartStep sp m new a path packet fate) at.spec (restart (opens ∙ can)))
