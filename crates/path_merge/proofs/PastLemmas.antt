-- An arrival in step that opens an epoch has a number past all that was heard in the epoch before.
use Rattle.std.proofs.Common.{◌≡◌, ℕ, ◌+◌, ◌^◌, ◌<◌, ◌≤◌, Bool, true, false, not, ◌&&◌, ◌||◌, List, [], ◌∷◌, ◌++◌, length, reverse, Option, Some, None, Ok, Err, ℤ, refl, sym, ap, subst, ◌∙◌, arith, if◌then◌else◌}
use Rattle.std.specs.Prelude.{bytes_eq, int_le, nat_eq, nat_le, nat_lt, pos, ◌+ℤ◌, ◌-ℤ◌, ◌*◌}
use Rattle.std.proofs.lemmas.Bool.Decides.{nat_tests}
use Rattle.path_merge.proofs.AnewLemmas.{itself_eq}
use Rattle.path_merge.proofs.EndLemmas.{both, ends_within, EndsWithin}
use Rattle.path_merge.proofs.EpochLemmas.{WithinLength, anchor_is, copies_of-since, heard_of-push, place_within, since_of}
use Rattle.rtp_stream.proofs.ProbationLemmas.{complete_is, probation_of-push}
use Rattle.rtp_stream.specs.Anchor.{first_media_time, is_source_wanted, next_number}
use Rattle.rtp_stream.specs.Copies.{copies_of}
use Rattle.rtp_stream.specs.Epochs.{anchor_in, anchor_of, anchors_of, can_restart, continues_media_time, copies_since, is_all_given, last_of, width_in_force}
use Rattle.rtp_stream.specs.Fate.{counted_fate, fate_at, fate_of, fate_of_put, fault_or, is_restart}
use Rattle.rtp_stream.specs.Grid.{end_of_copies, extended_number, first_with, of_width, is_on_grid}
use Rattle.rtp_stream.specs.History.{arrival_count, is_closed, is_counting, time_of}
use Rattle.rtp_stream.specs.PathProbation.{is_complete}
use Rattle.rtp_stream.specs.Probation.{completes_probation, heard_since, is_off}
use Rattle.rtp_stream.specs.Put.{put_answer}
use Rattle.rtp_stream.specs.Follow.{astray_since, end_of_standings, end_since, has_wire_size, is_astray, is_following, is_for_long, is_slip, run_of, width_after, standing_after, standings_on, standings_since}
use Rattle.path_merge.specs.HeardOnce.{HasFewPaths}
use Rattle.rtp_stream.specs.declared.stream_spec.Stream.{Stream}
use Rattle.rtp_stream.specs.declared.anchor.Anchor.{Anchor}
use Rattle.rtp_stream.specs.declared.event.Event.{Event}
use Rattle.rtp_stream.specs.declared.event.Event.TheVariants.{Arrive}
use Rattle.rtp_stream.specs.declared.fate.Fate.TheVariants.{Ahead, Closed, CountersFull, Late, OffGrid, Restarted, Taken, WrongSource}
use Rattle.rtp_stream.specs.declared.fate.Put.TheVariants.{Double, Unlike}
use Rattle.rtp_stream.specs.declared.packet.Packet.{Packet}

-- only an arrival that opens an epoch has the fate Restarted
put_never : (o : Option Packet) (packet : Packet) → fate_of_put (put_answer o packet) ≡ Restarted → ⊥
put_never None packet e = cc
put_never (Some first) packet e = by_same (bytes_eq first.payload.items packet.payload.items) e
  where
    by_same : (b : Bool) → fate_of_put (if b then Double else Unlike) ≡ Restarted → ⊥
    by_same true e = cc
    by_same false e = cc

counted_never : (stream : Stream) (width : ℕ) (time : ℤ) (o : Option Anchor) (copies : List (ℕ × Packet)) (packet : Packet) → counted_fate stream width time o copies packet ≡ Restarted → ⊥
counted_never stream width time None copies packet = by_tests (is_source_wanted stream.ssrc packet.ssrc) (int_le (first_media_time stream.clock packet.ts time) (time -ℤ pos stream.latency)) (int_le (time -ℤ pos stream.latency +ℤ pos (stream.window * stream.frames)) (first_media_time stream.clock packet.ts time))
  where
    by_tests : (w l h : Bool) → (if not w then WrongSource else fault_or (if l then Some Late else if h then Some Ahead else None) Taken) ≡ Restarted → ⊥
    by_tests false l h e = cc
    by_tests true true h e = cc
    by_tests true false true e = cc
    by_tests true false false e = cc
counted_never stream width time (Some a) copies packet = by_tests (nat_eq packet.ssrc a.source) (is_on_grid (of_width stream width) a (extended_number packet (next_number (of_width stream width) a time)) packet.ts) (nat_lt (extended_number packet (next_number (of_width stream width) a time)) (next_number (of_width stream width) a time)) (nat_lt (extended_number packet (next_number (of_width stream width) a time)) (next_number (of_width stream width) a time + width)) (extended_number packet (next_number (of_width stream width) a time))
  where
    by_tests : (t g l h : Bool) (n : ℕ) → fate_at (if not t then Err WrongSource else if not g then Err OffGrid else if l then Err Late else if not h then Err Ahead else Ok n) (λ number. first_with number copies) packet ≡ Restarted → ⊥
    by_tests false g l h n e = cc
    by_tests true false l h n e = cc
    by_tests true true true h n e = cc
    by_tests true true false false n e = cc
    by_tests true true false true n e = put_never (first_with n copies) packet e

pub opens_by_fate : (stream : Stream) (open_at : ℤ) (events : List Event) (path : ℕ) (packet : Packet) → fate_of stream open_at events path packet ≡ Restarted → (is_counting events ≡ true) × (is_restart stream open_at (last_of (anchors_of stream open_at events)) events path packet ≡ true)
opens_by_fate stream open_at events path packet = by_tests (is_closed events) (nat_lt (arrival_count events) (2 ^ 62)) (is_restart stream open_at (last_of (anchors_of stream open_at events)) events path packet)
  where
    by_tests : (s r o : Bool) → (if s then Closed else if not r then CountersFull else if o then Restarted else counted_fate stream (width_in_force stream open_at (last_of (anchors_of stream open_at events)) events) (time_of open_at events) (anchor_of stream open_at events) (copies_of stream open_at events) packet) ≡ Restarted → ((not s && r) ≡ true) × (o ≡ true)
    by_tests false true true e = (refl, refl)
    by_tests false true false e = absurd (counted_never stream (width_in_force stream open_at (last_of (anchors_of stream open_at events)) events) (time_of open_at events) (anchor_of stream open_at events) (copies_of stream open_at events) packet e)
    by_tests false false o e = cc
    by_tests true r o e = cc

-- an arrival that is astray has a number of at least the limit, if neither the end nor the number due next is below it
astray_past : (limit end next n : ℕ) (off l e b r : Bool) → nat_le end n ≡ e → nat_le next n ≡ b → limit ≤ end → limit ≤ next → ((not off && (l && e)) || (not off && (b && r))) ≡ true → limit ≤ n
astray_past limit end next n true l e b r is_e is_b low high is = cc
astray_past limit end next n false true true b r is_e is_b low high is = let le : end ≤ n = grind (arith, nat_tests, is_e) in omega (arith, low, le)
astray_past limit end next n false true false true r is_e is_b low high is = let le : next ≤ n = grind (arith, nat_tests, is_b) in omega (arith, high, le)
astray_past limit end next n false false e true r is_e is_b low high is = let le : next ≤ n = grind (arith, nat_tests, is_b) in omega (arith, high, le)
astray_past limit end next n false true false false r is_e is_b low high is = cc
astray_past limit end next n false false e false r is_e is_b low high is = cc

-- this number is past all numbers that were heard under an anchor
pub record IsPast (a : Anchor) (copies : List (ℕ × Packet)) (n : ℕ) : Type 0 where
  pub from_anchor : a.number ≤ n
  pub past : end_of_copies copies ≤ n

module _ (stream : Stream) (open_at : ℤ) (some : 0 < stream.frames) (events : List Event) (path : ℕ) (packet : Packet) (place : ℕ) (a : Anchor) where
  -- a packet in step completes no probation, so it opens an epoch only if its sender is astray
  slips : place < length events → is_counting events ≡ true → is_off stream a (next_number stream a (time_of open_at events)) packet ≡ false → is_source_wanted stream.ssrc packet.ssrc ≡ true → (completes_probation stream (heard_since stream open_at place a (events ++ Arrive path packet ∷ []) path) || is_slip stream open_at place a events path packet) ≡ true → is_slip stream open_at place a events path packet ≡ true
  slips within counts on wanted either = sym (ap (λ c. c || is_slip stream open_at place a events path packet) none) ∙ either
    where
      heard : heard_since stream open_at place a (events ++ Arrive path packet ∷ []) path ≡ heard_since stream open_at place a events path ++ (false, packet) ∷ []
      heard =
          heard_of-push stream open_at (Some (place, a)) events (Arrive path packet) path within
          ∙ ap (λ l. heard_since stream open_at place a events path ++ l) (rw (counts, itself_eq path, wanted, on) refl)

      none : completes_probation stream (heard_since stream open_at place a (events ++ Arrive path packet ∷ []) path) ≡ false
      none =
          ap (completes_probation stream) heard
          ∙ complete_is stream (heard_since stream open_at place a events path ++ (false, packet) ∷ [])
          ∙ ap is_complete (probation_of-push stream (heard_since stream open_at place a events path) (false, packet))

  pub begins_past : last_of (anchors_of stream open_at events) ≡ Some (place, a) → HasFewPaths events → is_counting events ≡ true → can_restart stream open_at place a events path packet ≡ true → is_off stream a (next_number stream a (time_of open_at events)) packet ≡ false → IsPast a (copies_since stream open_at place a events) (extended_number packet (next_number stream a (time_of open_at events)))
  begins_past last few counts can on =
      let parts = both (continues_media_time stream (time_of open_at events) a packet) (is_all_given stream open_at place a events && (is_source_wanted stream.ssrc packet.ssrc && (completes_probation stream (heard_since stream open_at place a (events ++ Arrive path packet ∷ []) path) || is_slip stream open_at place a events path packet))) can in
      let rest = both (is_all_given stream open_at place a events) (is_source_wanted stream.ssrc packet.ssrc && (completes_probation stream (heard_since stream open_at place a (events ++ Arrive path packet ∷ []) path) || is_slip stream open_at place a events path packet)) parts.1 in
      let end = both (is_source_wanted stream.ssrc packet.ssrc) (completes_probation stream (heard_since stream open_at place a (events ++ Arrive path packet ∷ []) path) || is_slip stream open_at place a events path packet) rest.1 in
      let within : place < length events = subst (WithinLength (length events)) last (place_within stream open_at events) in
      let slip = slips within counts on end.0 end.1 in
      let follows = both (is_following stream.clock) (has_wire_size packet && (is_astray (standing_after stream a (next_number stream a (time_of open_at events)) (time_of open_at events) (standings_since stream open_at place a events) path packet) && is_for_long (astray_since (run_of (reverse (standings_on path (standings_since stream open_at place a (events ++ Arrive path packet ∷ [])))))) (time_of open_at events))) slip in
      let sized = both (has_wire_size packet) (is_astray (standing_after stream a (next_number stream a (time_of open_at events)) (time_of open_at events) (standings_since stream open_at place a events) path packet) && is_for_long (astray_since (run_of (reverse (standings_on path (standings_since stream open_at place a (events ++ Arrive path packet ∷ [])))))) (time_of open_at events)) follows.1 in
      let astray = both (is_astray (standing_after stream a (next_number stream a (time_of open_at events)) (time_of open_at events) (standings_since stream open_at place a events) path packet)) (is_for_long (astray_since (run_of (reverse (standings_on path (standings_since stream open_at place a (events ++ Arrive path packet ∷ [])))))) (time_of open_at events)) sized.1 in
      let ends : EndsWithin stream open_at some (Some (place, a)) events = subst (λ o. EndsWithin stream open_at some o events) last (ends_within stream open_at some follows.0 events few) in
      let given : end_of_copies (copies_since stream open_at place a events) ≤ next_number stream a (time_of open_at events) = all_given rest.0 in
      record {
        from_anchor = by_limit a.number (omega arith) (omega arith) astray.0;
        past = by_limit (end_of_copies (copies_since stream open_at place a events)) ends.1 given astray.0;
      }
    where
      all_given : is_all_given stream open_at place a events ≡ true → end_of_copies (copies_since stream open_at place a events) ≤ next_number stream a (time_of open_at events)
      all_given is = grind (arith, nat_tests, is)

      by_limit : (limit : ℕ) → limit ≤ end_since a (λ on. end_of_standings (standings_on on (standings_since stream open_at place a events))) → limit ≤ next_number stream a (time_of open_at events) → is_astray (standing_after stream a (next_number stream a (time_of open_at events)) (time_of open_at events) (standings_since stream open_at place a events) path packet) ≡ true → limit ≤ extended_number packet (next_number stream a (time_of open_at events))
      by_limit limit low high is = astray_past limit (end_since a (λ on. end_of_standings (standings_on on (standings_since stream open_at place a events)))) (next_number stream a (time_of open_at events)) (extended_number packet (next_number stream a (time_of open_at events)))
          (is_off stream a (next_number stream a (time_of open_at events)) packet)
          (nat_lt (extended_number packet (next_number stream a (time_of open_at events))) (next_number stream a (time_of open_at events)))
          (nat_le (end_since a (λ on. end_of_standings (standings_on on (standings_since stream open_at place a events)))) (extended_number packet (next_number stream a (time_of open_at events))))
          (nat_le (next_number stream a (time_of open_at events)) (extended_number packet (next_number stream a (time_of open_at events))))
          (nat_le (next_number stream a (time_of open_at events) + width_after stream a (next_number stream a (time_of open_at events)) (time_of open_at events) (standings_since stream open_at place a events)) (extended_number packet (next_number stream a (time_of open_at events))))
          refl refl low high is

-- the same, by the fate of the arrival
pub past_by_fate : (stream : Stream) (open_at : ℤ) (some : 0 < stream.frames) (events : List Event) (path : ℕ) (packet : Packet) (a : Anchor) → HasFewPaths events → anchor_of stream open_at events ≡ Some a → fate_of stream open_at events path packet ≡ Restarted → is_off stream a (next_number stream a (time_of open_at events)) packet ≡ false → end_of_copies (copies_of stream open_at events) ≤ extended_number packet (next_number stream a (time_of open_at events))
past_by_fate stream open_at some events path packet a few is_a fate on =
    by_last (last_of (anchors_of stream open_at events)) refl (sym (anchor_is stream open_at events) ∙ is_a)
    (opens_by_fate stream open_at events path packet fate).1
  where
    same : {b c : Anchor} → Some b ≡ Some c → b ≡ c
    same e = cc

    by_last : (o : Option (ℕ × Anchor)) → last_of (anchors_of stream open_at events) ≡ o → anchor_in o ≡ Some a → is_restart stream open_at o events path packet ≡ true → end_of_copies (copies_of stream open_at events) ≤ extended_number packet (next_number stream a (time_of open_at events))
    by_last None last is opens = cc
    by_last (Some (place, b)) last is opens =
        let is_b : b ≡ a = same is in
        let last_a : last_of (anchors_of stream open_at events) ≡ Some (place, a) = last ∙ ap (λ c. Some (place, c)) is_b in
        let can : can_restart stream open_at place a events path packet ≡ true = ap (λ c. can_restart stream open_at place c events path packet) (sym is_b) ∙ opens in
        let copies : copies_of stream open_at events ≡ copies_since stream open_at place a events = copies_of-since stream open_at events ∙ ap (λ l. since_of stream open_at l events) last_a in
        subst (λ l. end_of_copies l ≤ extended_number packet (next_number stream a (time_of open_at events))) (sym copies)
        (begins_past stream open_at some events path packet place a last_a few (opens_by_fate stream open_at events path packet fate).0 can on).past
