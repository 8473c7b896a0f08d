-- No copy in time since an anchor is past the end of the standings under it.
use Rattle.std.proofs.Common.{◌≡◌, ℕ, zero, suc, ◌+◌, ◌<◌, ◌≤◌, max, Bool, true, false, ◌&&◌, ◌||◌, List, [], ◌∷◌, ◌++◌, length, Option, Some, None, ℤ, pos, ◌+ℤ◌, ◌-ℤ◌, ◌<ℤ◌, refl, sym, ap, subst, ◌∙◌, arith, append-nil, if◌then◌else◌, unsigned_abs}
use Rattle.std.specs.Prelude.{nat_eq}
use Rattle.std.specs.Int.{int_rem_euclid}
use Rattle.std.proofs.lemmas.Bool.Decides.{nat_tests}
use Rattle.std.proofs.lemmas.Int.{ints}
use Rattle.rtp_stream.proofs.NearestLemmas.{rem_same, rem_small}
use Rattle.path_merge.proofs.AnewLemmas.{GoesOn, in_reach, itself_eq, next_number-fresh}
use Rattle.path_merge.proofs.EpochLemmas.{WithinLength, copies_since-made, from_place-push, last-push, no_anchors, place_within, standings_since-push}
use Rattle.path_merge.proofs.FirstLemmas.{is_first}
use Rattle.path_merge.proofs.HistoryLemmas.{by_last_event, or_else}
use Rattle.rtp_stream.specs.Anchor.{anchor_from, can_anchor, first_media_time, is_first_in_reach, is_source_wanted, media_time_of, next_number, restart_from, restart_media_time}
use Rattle.rtp_stream.specs.Epochs.{anchors_after, anchors_at, anchors_of, can_restart, continues_media_time, copies_since, copies_under_at, is_all_given, last_of, placed}
use Rattle.rtp_stream.specs.Grid.{end_of_copies, extended_number, of_width, is_in_time}
use Rattle.rtp_stream.specs.History.{is_counting, time_of}
use Rattle.rtp_stream.specs.Probation.{completes_probation, heard_since}
use Rattle.rtp_stream.specs.Follow.{end_of_standings, end_since, is_following, is_slip, width_since, standing_after, standings_at, standings_on, standings_since}
use Rattle.path_merge.specs.HeardOnce.{HasFewPaths}
use Rattle.rtp_stream.specs.declared.stream_spec.Stream.{Stream}
use Rattle.rtp_stream.specs.declared.anchor.Anchor.{Anchor}
use Rattle.rtp_stream.specs.declared.event.Event.{Event}
use Rattle.rtp_stream.specs.declared.event.Event.TheVariants.{Arrive, Close, Tick}
use Rattle.rtp_stream.specs.declared.packet.Packet.{Packet}
use Rattle.rtp_stream.specs.declared.follow.Standing.{Standing}

pub both : (a b : Bool) → (a && b) ≡ true → (a ≡ true) × (b ≡ true)
both true b e = (refl, e)
both false b e = cc

-- the ends of one more arrival
abbrev end_on : List Standing → ℕ → ℕ
end_on standings on = end_of_standings (standings_on on standings)

end_rises : (on : ℕ) (standings : List Standing) (s : Standing) → end_of_standings (standings_on on standings) ≤ end_of_standings (standings_on on (standings ++ s ∷ []))
end_rises on [] s = omega arith
end_rises on (x ∷ standings) s = by_test (nat_eq x.path on) (end_rises on standings s)
  where
    by_test : (b : Bool) → end_of_standings (standings_on on standings) ≤ end_of_standings (standings_on on (standings ++ s ∷ [])) → end_of_standings (if b then x ∷ standings_on on standings else standings_on on standings) ≤ end_of_standings (if b then x ∷ standings_on on (standings ++ s ∷ []) else standings_on on (standings ++ s ∷ []))
    by_test true le = omega (arith, le)
    by_test false le = le

end_own : (standings : List Standing) (s : Standing) → s.end ≤ end_of_standings (standings_on s.path (standings ++ s ∷ []))
end_own [] s = rw (itself_eq s.path) (omega arith)
end_own (x ∷ standings) s = by_test (nat_eq x.path s.path) (end_own standings s)
  where
    by_test : (b : Bool) → s.end ≤ end_of_standings (standings_on s.path (standings ++ s ∷ [])) → s.end ≤ end_of_standings (if b then x ∷ standings_on s.path (standings ++ s ∷ []) else standings_on s.path (standings ++ s ∷ []))
    by_test true le = omega (arith, le)
    by_test false le = le

-- the end of all paths
since_rises : (a : Anchor) (f g : ℕ → ℕ) → ((on : ℕ) → f on ≤ g on) → end_since a f ≤ end_since a g
since_rises a f g le = omega (arith, le 0, le 1, le 2, le 3)

since_own : (a : Anchor) (f : ℕ → ℕ) (path : ℕ) → path < 4 → f path ≤ end_since a f
since_own a f zero few = omega arith
since_own a f (suc zero) few = omega arith
since_own a f (suc (suc zero)) few = omega arith
since_own a f (suc (suc (suc zero))) few = omega arith
since_own a f (suc (suc (suc (suc path)))) few = absurd (omega (arith, few))

pub end_of_copies-push : (copies : List (ℕ × Packet)) (n : ℕ) (packet : Packet) → end_of_copies (copies ++ (n, packet) ∷ []) ≡ max (end_of_copies copies) (suc n)
end_of_copies-push [] n packet = omega arith
end_of_copies-push ((m, first) ∷ copies) n packet = omega (arith, end_of_copies-push copies n packet)

-- one more arrival under an anchor: whether it counts, its source is wanted, and it is in time
one_more : (a : Anchor) (standings : List Standing) (copies : List (ℕ × Packet)) (c w t : Bool) (s : Standing) (n : ℕ) (packet : Packet)
    → s.end ≡ (if t then suc n else 0) → s.path < 4 → (t ≡ true → w ≡ true)
    → end_of_copies copies ≤ end_since a (λ on. end_of_standings (standings_on on standings))
    → end_of_copies (copies ++ (if c && t then (n, packet) ∷ [] else [])) ≤ end_since a (λ on. end_of_standings (standings_on on (standings ++ (if c && w then s ∷ [] else []))))
one_more a standings copies false w t s n packet end few wanted le = rw (append-nil copies, append-nil standings) le
one_more a standings copies true true true s n packet end few wanted le =
    let rises = since_rises a (λ on. end_of_standings (standings_on on standings)) (λ on. end_of_standings (standings_on on (standings ++ s ∷ []))) (λ on. end_rises on standings s) in
    let own = since_own a (λ on. end_of_standings (standings_on on (standings ++ s ∷ []))) s.path few in
    omega (arith, end_of_copies-push copies n packet, le, rises, own, end_own standings s, end)
one_more a standings copies true false true s n packet end few wanted le = absurd (let w = wanted refl in cc)
one_more a standings copies true true false s n packet end few wanted le =
    let rises = since_rises a (λ on. end_of_standings (standings_on on standings)) (λ on. end_of_standings (standings_on on (standings ++ s ∷ []))) (λ on. end_rises on standings s) in
    rw (append-nil copies) (omega (arith, le, rises))
one_more a standings copies true false false s n packet end few wanted le = rw (append-nil copies, append-nil standings) le

-- the paths of a shorter history
pub few_before : (events : List Event) (event : Event) → HasFewPaths (events ++ event ∷ []) → HasFewPaths events
few_before [] event few = tt
few_before (Arrive path packet ∷ events) event few = (few.0, few_before events event few.1)
few_before (Tick u ∷ events) event few = few_before events event few
few_before (Close ∷ events) event few = few_before events event few

pub few_last : (events : List Event) (path : ℕ) (packet : Packet) → HasFewPaths (events ++ Arrive path packet ∷ []) → path < 4
few_last [] path packet few = few.0
few_last (Arrive on first ∷ events) path packet few = few_last events path packet few.1
few_last (Tick u ∷ events) path packet few = few_last events path packet few
few_last (Close ∷ events) path packet few = few_last events path packet few

-- the number of an anchor's packet is nearest to itself
pub first_number : (packet : Packet) → extended_number packet (65536 + packet.seq) ≡ 65536 + packet.seq
first_number packet =
    let half : int_rem_euclid (pos packet.seq -ℤ (pos (65536 + packet.seq) -ℤ pos 32768)) (pos 65536) ≡ pos 32768 = rem_same 65536 (pos packet.seq -ℤ (pos (65536 + packet.seq) -ℤ pos 32768)) (pos 32768) 1 0 (omega arith) (omega (arith, ints)) ∙ rem_small 65536 32768 (omega arith) in
    ap (λ z. unsigned_abs ((pos (65536 + packet.seq) -ℤ pos 32768) +ℤ z)) half
    ∙ ap unsigned_abs (whole packet.seq)
  where
    whole : (seq : ℕ) → ((pos (65536 + seq) -ℤ pos 32768) +ℤ pos 32768) ≡ pos (65536 + seq)
    whole seq = omega (arith, ints)

module _ (stream : Stream) (open_at : ℤ) (some : 0 < stream.frames) where
  -- the packet opens an epoch after another one
  abbrev pub Reopens : List Event → ℕ → Packet → Option (ℕ × Anchor) → Type 0
  Reopens events path packet None = Unit {0}
  Reopens events path packet (Some (place, a)) = can_restart stream open_at place a events path packet ≡ true

  -- the anchor of a packet that opens an epoch
  pub record IsOpener (events : List Event) (path : ℕ) (packet : Packet) (old : Option (ℕ × Anchor)) (b : Anchor) : Type 0 where
    pub number : b.number ≡ 65536 + packet.seq
    pub stamp : b.timestamp ≡ packet.ts
    pub source : b.source ≡ packet.ssrc
    pub wanted : is_source_wanted stream.ssrc packet.ssrc ≡ true
    pub early : (time_of open_at events -ℤ pos stream.latency) <ℤ b.media
    pub counts : is_counting events ≡ true
    pub reopens : Reopens events path packet old

  pub by_opener : (events : List Event) (path : ℕ) (packet : Packet) (P : List (ℕ × Anchor) → Type 0) → P [] → ((b : Anchor) → IsOpener events path packet (last_of (anchors_of stream open_at events)) b → P ((length events, b) ∷ [])) → P (anchors_at stream open_at (anchors_of stream open_at events) events (Arrive path packet))
  by_opener events path packet P none = by_counting (is_counting events) refl (last_of (anchors_of stream open_at events))
    where
      by_first : is_counting events ≡ true → (c : Bool) → can_anchor stream (time_of open_at events) packet ≡ c → ((b : Anchor) → IsOpener events path packet None b → P ((length events, b) ∷ [])) → P (placed (length events) (if c then anchor_from stream (time_of open_at events) packet ∷ [] else []))
      by_first counts false can made = none
      by_first counts true can made = made (anchor_from stream (time_of open_at events) packet) (record {
        number = refl;
        stamp = refl;
        source = refl;
        wanted = (both (is_source_wanted stream.ssrc packet.ssrc) (is_first_in_reach stream (time_of open_at events) (first_media_time stream.clock packet.ts (time_of open_at events))) can).0;
        early = (is_first stream (time_of open_at events) packet can).after;
        counts = counts;
        reopens = tt;
      })

      by_next : (place : ℕ) (a : Anchor) → is_counting events ≡ true → (c : Bool) → can_restart stream open_at place a events path packet ≡ c → ((b : Anchor) → IsOpener events path packet (Some (place, a)) b → P ((length events, b) ∷ [])) → P (placed (length events) (if c then restart_from stream (time_of open_at events) a (next_number stream a (time_of open_at events)) packet ∷ [] else []))
      by_next place a counts false can made = none
      by_next place a counts true can made =
          let parts = both (continues_media_time stream (time_of open_at events) a packet) (is_all_given stream open_at place a events && (is_source_wanted stream.ssrc packet.ssrc && (completes_probation stream (heard_since stream open_at place a (events ++ Arrive path packet ∷ []) path) || is_slip stream open_at place a events path packet))) can in
          let rest = both (is_all_given stream open_at place a events) (is_source_wanted stream.ssrc packet.ssrc && (completes_probation stream (heard_since stream open_at place a (events ++ Arrive path packet ∷ []) path) || is_slip stream open_at place a events path packet)) parts.1 in
          let last = both (is_source_wanted stream.ssrc packet.ssrc) (completes_probation stream (heard_since stream open_at place a (events ++ Arrive path packet ∷ []) path) || is_slip stream open_at place a events path packet) rest.1 in
          let on : GoesOn stream (time_of open_at events) (media_time_of stream a (next_number stream a (time_of open_at events))) (restart_media_time stream.clock packet.ts (time_of open_at events) (media_time_of stream a (next_number stream a (time_of open_at events)))) = in_reach stream (time_of open_at events) (media_time_of stream a (next_number stream a (time_of open_at events))) (restart_media_time stream.clock packet.ts (time_of open_at events) (media_time_of stream a (next_number stream a (time_of open_at events)))) parts.0 in
          made (restart_from stream (time_of open_at events) a (next_number stream a (time_of open_at events)) packet) (record {
            number = refl;
            stamp = refl;
            source = refl;
            wanted = last.0;
            early = on.after;
            counts = counts;
            reopens = can;
          })

      by_counting : (c : Bool) → is_counting events ≡ c → (o : Option (ℕ × Anchor)) → ((b : Anchor) → IsOpener events path packet o b → P ((length events, b) ∷ [])) → P (if c then placed (length events) (anchors_after stream open_at o events path packet) else [])
      by_counting false counts o made = none
      by_counting true counts None made = by_first counts (can_anchor stream (time_of open_at events) packet) refl made
      by_counting true counts (Some (place, a)) made = by_next place a counts (can_restart stream open_at place a events path packet) refl made

  -- no copy in time since the anchor is past the end of the standings under it
  abbrev pub EndsWithin : Option (ℕ × Anchor) → List Event → Type 0
  EndsWithin None events = Unit {0}
  EndsWithin (Some (place, a)) events =
      (is_source_wanted stream.ssrc a.source ≡ true)
      × (end_of_copies (copies_since stream open_at place a events) ≤ end_since a (λ on. end_of_standings (standings_on on (standings_since stream open_at place a events))))

  module _ (follows : is_following stream.clock ≡ true) where
    -- an event that opens no epoch
    stays : (events : List Event) (event : Event) (place : ℕ) (a : Anchor) → place < length events → HasFewPaths (events ++ event ∷ []) → EndsWithin (Some (place, a)) events → EndsWithin (Some (place, a)) (events ++ event ∷ [])
    stays events event place a within few ends =
        let copies : copies_since stream open_at place a (events ++ event ∷ []) ≡ copies_since stream open_at place a events ++ copies_under_at stream place a open_at events event = from_place-push (copies_under_at stream place a open_at) place events event (omega (arith, within)) in
        let stand : standings_since stream open_at place a (events ++ event ∷ []) ≡ standings_since stream open_at place a events ++ standings_at stream a open_at (standings_since stream open_at place a events) events event = standings_since-push stream open_at a place events event within in (
          ends.0,
          subst (λ l. end_of_copies l ≤ end_since a (λ on. end_of_standings (standings_on on (standings_since stream open_at place a (events ++ event ∷ []))))) (sym copies)
              (subst (λ l. end_of_copies (copies_since stream open_at place a events ++ copies_under_at stream place a open_at events event) ≤ end_since a (λ on. end_of_standings (standings_on on l))) (sym stand)
              (by_event event few)),
        )
      where
        by_event : (event : Event) → HasFewPaths (events ++ event ∷ []) → end_of_copies (copies_since stream open_at place a events ++ copies_under_at stream place a open_at events event) ≤ end_since a (λ on. end_of_standings (standings_on on (standings_since stream open_at place a events ++ standings_at stream a open_at (standings_since stream open_at place a events) events event)))
        by_event (Tick u) few = rw (append-nil (copies_since stream open_at place a events), append-nil (standings_since stream open_at place a events)) ends.1
        by_event Close few = rw (append-nil (copies_since stream open_at place a events), append-nil (standings_since stream open_at place a events)) ends.1
        by_event (Arrive path packet) few =
            subst (λ f. end_of_copies (copies_since stream open_at place a events ++ copies_under_at stream place a open_at events (Arrive path packet)) ≤ end_since a (λ on. end_of_standings (standings_on on (standings_since stream open_at place a events ++ (if f && (is_counting events && is_source_wanted stream.ssrc packet.ssrc) then standing_after stream a (next_number stream a (time_of open_at events)) (time_of open_at events) (standings_since stream open_at place a events) path packet ∷ [] else []))))) (sym follows)
            (one_more a (standings_since stream open_at place a events) (copies_since stream open_at place a events) (is_counting events) (is_source_wanted stream.ssrc packet.ssrc)
            (is_in_time (of_width stream (width_since stream open_at place a events)) a (next_number stream a (time_of open_at events)) packet)
            (standing_after stream a (next_number stream a (time_of open_at events)) (time_of open_at events) (standings_since stream open_at place a events) path packet)
            (extended_number packet (next_number stream a (time_of open_at events))) packet refl (few_last events path packet few) wanted ends.1)
          where
            same_source : (b c : Bool) → nat_eq packet.ssrc a.source ≡ b → (b && c) ≡ true → packet.ssrc ≡ a.source
            same_source true c is e = grind (arith, nat_tests, is)
            same_source false c is e = cc

            wanted : is_in_time (of_width stream (width_since stream open_at place a events)) a (next_number stream a (time_of open_at events)) packet ≡ true → is_source_wanted stream.ssrc packet.ssrc ≡ true
            wanted e = ap (is_source_wanted stream.ssrc) (same_source (nat_eq packet.ssrc a.source) _ refl e) ∙ ends.0

    -- the packet that opens one
    opened : (events : List Event) (path : ℕ) (packet : Packet) (old : Option (ℕ × Anchor)) (b : Anchor) → IsOpener events path packet old b → EndsWithin (Some (length events, b)) (events ++ Arrive path packet ∷ [])
    opened events path packet old b made = (
      ap (is_source_wanted stream.ssrc) made.source ∙ made.wanted,
      subst (λ l. end_of_copies l ≤ end_since b (λ on. end_of_standings (standings_on on (standings_since stream open_at (length events) b (events ++ Arrive path packet ∷ []))))) (sym (copies_since-made stream open_at events (Arrive path packet) b))
          (by_test (is_counting events && is_in_time (of_width stream (width_since stream open_at (length events) b events)) b (next_number stream b (time_of open_at events)) packet) (extended_number packet (next_number stream b (time_of open_at events))) itself (λ on. end_of_standings (standings_on on (standings_since stream open_at (length events) b (events ++ Arrive path packet ∷ []))))),
    )
      where
        itself : extended_number packet (next_number stream b (time_of open_at events)) ≡ b.number
        itself = ap (extended_number packet) (next_number-fresh stream b (time_of open_at events) some made.early ∙ made.number) ∙ first_number packet ∙ sym made.number

        by_test : (t : Bool) (n : ℕ) → n ≡ b.number → (f : ℕ → ℕ) → end_of_copies (if t then (n, packet) ∷ [] else []) ≤ end_since b f
        by_test true n is f = omega (arith, is)
        by_test false n is f = omega arith

    pub ends_within : (events : List Event) → HasFewPaths events → EndsWithin (last_of (anchors_of stream open_at events)) events
    ends_within = by_last_event (λ events. HasFewPaths events → EndsWithin (last_of (anchors_of stream open_at events)) events) (λ few. rw (no_anchors stream open_at) tt) step
      where
        on : (events : List Event) (event : Event) (o : Option (ℕ × Anchor)) → WithinLength (length events) o → HasFewPaths (events ++ event ∷ []) → EndsWithin o events → EndsWithin o (events ++ event ∷ [])
        on events event None within few ends = tt
        on events event (Some (place, a)) within few ends = stays events event place a within few ends

        step : (events : List Event) (event : Event) → (HasFewPaths events → EndsWithin (last_of (anchors_of stream open_at events)) events) → HasFewPaths (events ++ event ∷ []) → EndsWithin (last_of (anchors_of stream open_at (events ++ event ∷ []))) (events ++ event ∷ [])
        step events (Tick u) before few = subst (λ o. EndsWithin o (events ++ Tick u ∷ [])) (sym (last-push stream open_at events (Tick u))) (on events (Tick u) (last_of (anchors_of stream open_at events)) (place_within stream open_at events) few (before (few_before events (Tick u) few)))
        step events Close before few = subst (λ o. EndsWithin o (events ++ Close ∷ [])) (sym (last-push stream open_at events Close)) (on events Close (last_of (anchors_of stream open_at events)) (place_within stream open_at events) few (before (few_before events Close few)))
        step events (Arrive path packet) before few =
            subst (λ o. EndsWithin o (events ++ Arrive path packet ∷ [])) (sym (last-push stream open_at events (Arrive path packet)))
            (by_opener events path packet (λ made. EndsWithin (or_else (last_of made) (last_of (anchors_of stream open_at events))) (events ++ Arrive path packet ∷ []))
            (on events (Arrive path packet) (last_of (anchors_of stream open_at events)) (place_within stream open_at events) few (before (few_before events (Arrive path packet) few)))
            (λ b made. opened events path packet (last_of (anchors_of stream open_at events)) b made))
