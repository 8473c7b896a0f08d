-- The media time of a packet by the media clock: in step with its timestamp, and nearest to its arrival.
use Rattle.std.proofs.Common.{◌≡◌, ℕ, ◌+◌, ◌-◌, ◌*◌, ◌<◌, ◌≤◌, Bool, true, false, ◌&&◌, List, [], ◌∷◌, ◌++◌, length, Option, Some, None, ℤ, pos, ◌+ℤ◌, ◌-ℤ◌, ◌*ℤ◌, ◌≤ℤ◌, ◌<ℤ◌, ⊎_elim, unsigned_abs, refl, sym, ap, subst, ◌∙◌, arith, if◌then◌else◌}
use Rattle.std.specs.Prelude.{nat_eq, nat_le, nat_lt}
use Rattle.std.specs.Int.{int_rem_euclid}
use Rattle.std.proofs.Math.Nat.{mul-le-mul_right}
use Rattle.std.proofs.lemmas.Bool.{cases_lt}
use Rattle.std.proofs.lemmas.Bool.Decides.{nat_tests}
use Rattle.std.proofs.lemmas.Int.{ints}
use Rattle.std.proofs.lemmas.Nat.{mul-le}
use Rattle.rtp_stream.proofs.NearestLemmas.{IsNearest-nearest_number, nearest_number-only, rem_alike, rem_apart, rem_bounds, rem_same}
use Rattle.path_merge.proofs.AliasLemmas.{size_is}
use Rattle.path_merge.proofs.AnchorLemmas.{by_anchor_made}
use Rattle.path_merge.proofs.DueLemmas.{before_next_number, media_time_of-from}
use Rattle.path_merge.proofs.EpochLemmas.{no_anchors, anchor_is, width_plain}
use Rattle.path_merge.proofs.HistoryLemmas.{anchor_made, anchor_of-close, anchor_of-push, anchor_of-tick, by_last_event, made_is, or_else, time_of-append}
use Rattle.path_merge.proofs.LawLemmas.{least_due}
use Rattle.path_merge.proofs.MarkGrowthLemmas.{well_timed_before, well_timed_tick}
use Rattle.path_merge.specs.MediaTime.{AreNearTimes, IsInTimeCopy, IsMediaTimeOf}
use Rattle.rtp_stream.specs.Anchor.{anchor_from, can_anchor, first_media_time, media_time_of, next_number, restart_from, restart_media_time}
use Rattle.rtp_stream.specs.Copies.{copies_under_with, with_epoch}
use Rattle.rtp_stream.specs.Epochs.{anchor_in, anchor_of, anchors_after, anchors_at, anchors_of, can_restart, last_of, placed, width_in_force}
use Rattle.rtp_stream.specs.Grid.{expected_timestamp, extended_number, is_in_time, is_on_grid, of_width}
use Rattle.rtp_stream.specs.Follow.{is_following}
use Rattle.rtp_stream.specs.History.{is_counting, is_well_timed, time_of}
use Rattle.rtp_stream.specs.Nearest.{IsNearest}
use Rattle.rtp_stream.specs.StreamSpecFacts.{IsStream}
use Rattle.rtp_stream.specs.declared.stream_spec.Stream.{Stream}
use Rattle.rtp_stream.specs.declared.stream_spec.StreamClock.TheVariants.{Media}
use Rattle.rtp_stream.specs.declared.anchor.Anchor.{Anchor}
use Rattle.rtp_stream.specs.declared.event.Event.{Event}
use Rattle.rtp_stream.specs.declared.event.Event.TheVariants.{Arrive, Close, Tick}
use Rattle.rtp_stream.specs.declared.packet.Packet.{Packet}

-- the remainder that is in step with a timestamp
abbrev step_of : ℕ → ℕ → ℤ
step_of offset ts = int_rem_euclid (pos ts -ℤ pos offset) (pos 4294967296)

step_size : (offset ts : ℕ) → pos (unsigned_abs (step_of offset ts)) ≡ step_of offset ts
step_size offset ts = size_is (step_of offset ts) (rem_bounds 4294967296 (pos ts -ℤ pos offset) (omega arith)).0

step_small : (offset ts : ℕ) → unsigned_abs (step_of offset ts) < 4294967296
step_small offset ts = omega (arith, ints, step_size offset ts, (rem_bounds 4294967296 (pos ts -ℤ pos offset) (omega arith)).1)

-- the media time of a first packet is in step with its timestamp
first_in_step : (offset ts : ℕ) (time : ℤ) → int_rem_euclid (first_media_time (Media offset) ts time) (pos 4294967296) ≡ step_of offset ts
first_in_step offset ts time = (IsNearest-nearest_number 2147483648 (unsigned_abs (step_of offset ts)) time (step_small offset ts)).low_bits ∙ step_size offset ts

-- a number and its timestamp move on together
move_on : (media step : ℤ) (ts offset first : ℕ) → int_rem_euclid media (pos 4294967296) ≡ step_of offset first → pos ts ≡ int_rem_euclid (pos first +ℤ step) (pos 4294967296) → int_rem_euclid (media +ℤ step) (pos 4294967296) ≡ step_of offset ts
move_on media step ts offset first same stamp =
    let p = rem_apart 4294967296 media (omega arith) in
    let q = rem_apart 4294967296 (pos first -ℤ pos offset) (omega arith) in
    let g = rem_apart 4294967296 (pos first +ℤ step) (omega arith) in
    rem_same 4294967296 (media +ℤ step) (pos ts -ℤ pos offset) (p.1 + (q.0 + g.1)) (p.0 + (q.1 + g.0)) (omega arith) (omega (arith, ints, p.2, q.2, g.2, same, stamp))

-- an anchor by the media clock: its media time is in step with its timestamp, and less than a window past `time` minus
-- the latency
record IsAbsolute (stream : Stream) (offset : ℕ) (time : ℤ) (a : Anchor) : Type 0 where
  in_step : int_rem_euclid a.media (pos 4294967296) ≡ step_of offset a.timestamp
  within : a.media <ℤ (time -ℤ pos stream.latency +ℤ pos (stream.window * stream.frames))

abbrev IsAbsoluteIn : Stream → ℕ → ℤ → Option Anchor → Type 0
IsAbsoluteIn stream offset time None = Unit {0}
IsAbsoluteIn stream offset time (Some a) = IsAbsolute stream offset time a

-- the time moves on
absolute_later : (stream : Stream) (offset : ℕ) (t u : ℤ) (o : Option Anchor) → t ≤ℤ u → IsAbsoluteIn stream offset t o → IsAbsoluteIn stream offset u o
absolute_later stream offset t u None le is = tt
absolute_later stream offset t u (Some a) le is = record { in_step = is.in_step; within = omega (arith, ints, le, is.within) }

-- a packet in time under an anchor
record IsUnder (stream : Stream) (time : ℤ) (a : Anchor) (packet : Packet) (number : ℕ) : Type 0 where
  stamp : packet.ts ≡ expected_timestamp stream a number
  low : next_number stream a time ≤ number
  high : number < next_number stream a time + stream.window

module _ (stream : Stream) (a : Anchor) where
  in_time_is : (time : ℤ) (packet : Packet) (number : ℕ) → is_in_time stream a (next_number stream a time) packet ≡ true → extended_number packet (next_number stream a time) ≡ number → IsUnder stream time a packet number
  in_time_is time packet number is same = by_tests (nat_eq packet.ssrc a.source) (is_on_grid stream a (extended_number packet (next_number stream a time)) packet.ts) (nat_le (next_number stream a time) (extended_number packet (next_number stream a time))) (nat_lt (extended_number packet (next_number stream a time)) (next_number stream a time + stream.window)) refl refl refl is
    where
      by_tests : (s g l h : Bool) → is_on_grid stream a (extended_number packet (next_number stream a time)) packet.ts ≡ g → nat_le (next_number stream a time) (extended_number packet (next_number stream a time)) ≡ l → nat_lt (extended_number packet (next_number stream a time)) (next_number stream a time + stream.window) ≡ h → (s && (g && (l && h))) ≡ true → IsUnder stream time a packet number
      by_tests true true true true eg el eh e =
          let stamp : packet.ts ≡ expected_timestamp stream a (extended_number packet (next_number stream a time)) = grind (arith, nat_tests, eg) in
          let low : next_number stream a time ≤ extended_number packet (next_number stream a time) = grind (arith, nat_tests, el) in
          let high : extended_number packet (next_number stream a time) < next_number stream a time + stream.window = grind (arith, nat_tests, eh) in
          record { stamp = stamp ∙ ap (expected_timestamp stream a) same; low = omega (arith, low, same); high = omega (arith, high, same) }
      by_tests false g l h eg el eh e = cc
      by_tests true false l h eg el eh e = cc
      by_tests true true false h eg el eh e = cc
      by_tests true true true false eg el eh e = cc

  -- its media time is in step with its timestamp
  under_in_step : (offset : ℕ) (time : ℤ) (packet : Packet) (number : ℕ) → int_rem_euclid a.media (pos 4294967296) ≡ step_of offset a.timestamp → IsUnder stream time a packet number → int_rem_euclid (media_time_of stream a number) (pos 4294967296) ≡ step_of offset packet.ts
  under_in_step offset time packet number same under =
      let size = size_is (int_rem_euclid (pos a.timestamp +ℤ (pos number -ℤ pos a.number) *ℤ pos stream.frames) (pos 4294967296)) (rem_bounds 4294967296 (pos a.timestamp +ℤ (pos number -ℤ pos a.number) *ℤ pos stream.frames) (omega arith)).0 in
      move_on a.media ((pos number -ℤ pos a.number) *ℤ pos stream.frames) packet.ts offset a.timestamp same (ap pos under.stamp ∙ size)

  -- its deadline is still to come
  under_after : (time : ℤ) (packet : Packet) (number : ℕ) → 0 < stream.frames → IsUnder stream time a packet number → (time -ℤ pos stream.latency) <ℤ media_time_of stream a number
  under_after time packet number some under =
      let due = least_due stream a time some in
      let more : (next_number stream a time - a.number) * stream.frames ≤ (number - a.number) * stream.frames = mul-le-mul_right stream.frames (omega (arith, under.low)) in
      omega (arith, ints, due.to_come, media_time_of-from stream a (next_number stream a time) due.from_anchor, media_time_of-from stream a number (omega (arith, due.from_anchor, under.low)), more)

  -- it is less than two windows past the time minus the latency
  under_before : (time : ℤ) (packet : Packet) (number : ℕ) → 0 < stream.frames → a.media <ℤ (time -ℤ pos stream.latency +ℤ pos (stream.window * stream.frames)) → IsUnder stream time a packet number → media_time_of stream a number <ℤ (time -ℤ pos stream.latency +ℤ pos (2 * (stream.window * stream.frames)))
  under_before time packet number some within under = ⊎_elim past fresh (cases_lt a.number (next_number stream a time))
    where
      whole : 1 * stream.frames ≤ stream.window * stream.frames
      whole = mul-le-mul_right stream.frames (omega (arith, under.low, under.high))

      media : media_time_of stream a number ≡ a.media +ℤ pos ((number - a.number) * stream.frames)
      media = media_time_of-from stream a number (omega (arith, under.low))

      -- the number before the next one due is past its deadline
      past : a.number < next_number stream a time → media_time_of stream a number <ℤ (time -ℤ pos stream.latency +ℤ pos (2 * (stream.window * stream.frames)))
      past lt =
          let due = before_next_number stream a time (next_number stream a time - 1) some (omega (arith, lt)) (omega (arith, lt)) in
          let last = media_time_of-from stream a (next_number stream a time - 1) (omega (arith, lt)) in
          let up : (number - a.number) * stream.frames ≤ ((next_number stream a time - 1 - a.number) + stream.window) * stream.frames = mul-le-mul_right stream.frames (omega (arith, under.high, lt)) in
          omega (arith, ints, due, last, up, media, whole, some)

      -- the anchor's number is the next one due
      fresh : next_number stream a time ≤ a.number → media_time_of stream a number <ℤ (time -ℤ pos stream.latency +ℤ pos (2 * (stream.window * stream.frames)))
      fresh ge =
          let up : (number - a.number) * stream.frames ≤ stream.window * stream.frames = mul-le-mul_right stream.frames (omega (arith, under.high, ge)) in
          omega (arith, ints, up, media, within)

-- a time in step with a timestamp that has its deadline to come, and is within two windows, is the nearest one
media_time_is : (stream : Stream) (offset ts : ℕ) (time media : ℤ) → IsStream stream → int_rem_euclid media (pos 4294967296) ≡ step_of offset ts → (time -ℤ pos stream.latency) <ℤ media → media <ℤ (time -ℤ pos stream.latency +ℤ pos (2 * (stream.window * stream.frames))) → IsMediaTimeOf stream offset ts time media
media_time_is stream offset ts time media ok same after before =
    let span : stream.window * stream.frames ≤ 16384 * 192 = mul-le stream.window stream.frames 16384 192 ok.narrow ok.few_frames in
    let nearest : IsNearest 2147483648 (unsigned_abs (step_of offset ts)) time media = record { low_bits = same ∙ sym (step_size offset ts); not_below = omega (arith, ints, after, span, ok.wide); below = omega (arith, ints, before, span) } in
    record { in_step = same; after = after; before = before; nearest = nearest_number-only 2147483648 (unsigned_abs (step_of offset ts)) time media (step_small offset ts) nearest }

-- lists of one element
same_alone : {x y : ℕ × (ℕ × Packet)} → x ∷ [] ≡ y ∷ [] → x ≡ y
same_alone e = cc

module _ (stream : Stream) (offset : ℕ) (open_at : ℤ) (some : 0 < stream.frames) (clock : stream.clock ≡ Media offset) where
  -- an anchor that an arrival makes has the media time of the packet's timestamp
  abbrev IsInStep : Option Anchor → Type 0
  IsInStep None = Unit {0}
  IsInStep (Some a) = int_rem_euclid a.media (pos 4294967296) ≡ step_of offset a.timestamp

  made_in_step : (events : List Event) (path : ℕ) (packet : Packet) → IsInStep (anchor_in (last_of (anchors_at stream open_at (anchors_of stream open_at events) events (Arrive path packet))))
  made_in_step events path packet = by_counting (is_counting events) (last_of (anchors_of stream open_at events))
    where
      first : int_rem_euclid (first_media_time stream.clock packet.ts (time_of open_at events)) (pos 4294967296) ≡ step_of offset packet.ts
      first = ap (λ k. int_rem_euclid (first_media_time k packet.ts (time_of open_at events)) (pos 4294967296)) clock ∙ first_in_step offset packet.ts (time_of open_at events)

      restart : (due : ℤ) → int_rem_euclid (restart_media_time stream.clock packet.ts (time_of open_at events) due) (pos 4294967296) ≡ step_of offset packet.ts
      restart due = ap (λ k. int_rem_euclid (restart_media_time k packet.ts (time_of open_at events) due) (pos 4294967296)) clock ∙ first_in_step offset packet.ts (time_of open_at events)

      by_test : (a : Anchor) (c : Bool) → int_rem_euclid a.media (pos 4294967296) ≡ step_of offset a.timestamp → IsInStep (anchor_in (last_of (placed (length events) (if c then a ∷ [] else []))))
      by_test a true same = same
      by_test a false same = tt

      by_counting : (c : Bool) (o : Option (ℕ × Anchor)) → IsInStep (anchor_in (last_of (if c then placed (length events) (anchors_after stream open_at o events path packet) else [])))
      by_counting false o = tt
      by_counting true None = by_test (anchor_from stream (time_of open_at events) packet) (can_anchor stream (time_of open_at events) packet) first
      by_counting true (Some (place, a)) = by_test (restart_from stream (time_of open_at events) a (next_number stream a (time_of open_at events)) packet) (can_restart stream open_at place a events path packet) (restart (media_time_of stream a (next_number stream a (time_of open_at events))))

  made_absolute : (events : List Event) (path : ℕ) (packet : Packet) → IsAbsoluteIn stream offset (time_of open_at events) (anchor_made stream open_at events (Arrive path packet))
  made_absolute events path packet =
      subst (IsAbsoluteIn stream offset (time_of open_at events)) (sym (made_is stream open_at events (Arrive path packet)))
      (by_anchor_made stream open_at some events path packet (λ made. IsInStep (anchor_in (last_of made)) → IsAbsoluteIn stream offset (time_of open_at events) (anchor_in (last_of made)))
      (λ same. tt) (λ b made same. record { in_step = same; within = made.within }) (made_in_step events path packet))

  -- the anchor in force after one more arrival, and after a history
  arrived_absolute : (events : List Event) (path : ℕ) (packet : Packet) → IsAbsoluteIn stream offset (time_of open_at events) (anchor_of stream open_at events) → IsAbsoluteIn stream offset (time_of open_at events) (anchor_of stream open_at (events ++ Arrive path packet ∷ []))
  arrived_absolute events path packet before =
      subst (IsAbsoluteIn stream offset (time_of open_at events)) (sym (anchor_of-push stream open_at events (Arrive path packet)))
      (by_made (anchor_made stream open_at events (Arrive path packet)) (anchor_of stream open_at events) (made_absolute events path packet) before)
    where
      by_made : (made old : Option Anchor) → IsAbsoluteIn stream offset (time_of open_at events) made → IsAbsoluteIn stream offset (time_of open_at events) old → IsAbsoluteIn stream offset (time_of open_at events) (or_else made old)
      by_made None old p q = q
      by_made (Some a) old p q = p

  anchor_absolute : (events : List Event) → is_well_timed open_at events ≡ true → IsAbsoluteIn stream offset (time_of open_at events) (anchor_of stream open_at events)
  anchor_absolute = by_last_event (λ events. is_well_timed open_at events ≡ true → IsAbsoluteIn stream offset (time_of open_at events) (anchor_of stream open_at events)) (λ timed. none) step
    where
      none : IsAbsoluteIn stream offset open_at (anchor_of stream open_at [])
      none = rw (anchor_is stream open_at [], no_anchors stream open_at) tt

      step : (events : List Event) (event : Event) → (is_well_timed open_at events ≡ true → IsAbsoluteIn stream offset (time_of open_at events) (anchor_of stream open_at events)) → is_well_timed open_at (events ++ event ∷ []) ≡ true → IsAbsoluteIn stream offset (time_of open_at (events ++ event ∷ [])) (anchor_of stream open_at (events ++ event ∷ []))
      step events (Arrive path packet) before timed =
          rw (time_of-append open_at events (Arrive path packet ∷ []))
          (arrived_absolute events path packet (before (well_timed_before open_at events (Arrive path packet) timed)))
      step events Close before timed =
          rw (time_of-append open_at events (Close ∷ []), anchor_of-close stream open_at events)
          (before (well_timed_before open_at events Close timed))
      step events (Tick u) before timed =
          rw (time_of-append open_at events (Tick u ∷ []), anchor_of-tick stream open_at events u)
          (absolute_later stream offset (time_of open_at events) u (anchor_of stream open_at events) (well_timed_tick open_at events u timed).not_back (before (well_timed_before open_at events (Tick u) timed)))

  -- a copy is in time under its anchor
  copy_under : (before : List Event) (path : ℕ) (packet : Packet) (a : Anchor) (number : ℕ) → IsInTimeCopy stream open_at before path packet a number → IsUnder stream (time_of open_at before) a packet number
  copy_under before path packet a number copy = by_tests width (is_counting before) (is_in_time (of_width stream width) a (next_number stream a (time_of open_at before)) packet) refl plain (ap (λ o. copies_under_with (of_width stream width) (time_of open_at before) (is_counting before) o packet) (sym copy.in_force) ∙ copy.copy)
    where
      width : ℕ
      width = width_in_force stream open_at (last_of (anchors_of stream open_at (before ++ Arrive path packet ∷ []))) before

      plain : width ≡ stream.window
      plain = width_plain stream open_at (ap is_following clock) (last_of (anchors_of stream open_at (before ++ Arrive path packet ∷ []))) before

      by_tests : (w : ℕ) (c t : Bool) → is_in_time (of_width stream w) a (next_number stream a (time_of open_at before)) packet ≡ t → w ≡ stream.window → with_epoch (Some a) (if c && t then (extended_number packet (next_number stream a (time_of open_at before)), packet) ∷ [] else []) ≡ (a.epoch, (number, packet)) ∷ [] → IsUnder stream (time_of open_at before) a packet number
      by_tests w true true is wide e =
          let under = in_time_is (of_width stream w) a (time_of open_at before) packet number is (ap (λ c. c.1.0) (same_alone e)) in
          record { stamp = under.stamp; low = under.low; high = omega (arith, under.high, wide) }
      by_tests w false t is wide e = cc
      by_tests w true false is wide e = cc

-- the media time of a copy in time is that of its timestamp
pub copy_media_time : (stream : Stream) (offset : ℕ) (open_at : ℤ) → IsStream stream → stream.clock ≡ Media offset → (before : List Event) (path : ℕ) (packet : Packet) (a : Anchor) (number : ℕ) → is_well_timed open_at before ≡ true → IsInTimeCopy stream open_at before path packet a number → IsMediaTimeOf stream offset packet.ts (time_of open_at before) (media_time_of stream a number)
copy_media_time stream offset open_at ok clock before path packet a number timed copy =
    let under = copy_under stream offset open_at ok.some_frames clock before path packet a number copy in
    let fixed : IsAbsolute stream offset (time_of open_at before) a = subst (IsAbsoluteIn stream offset (time_of open_at before)) copy.in_force (arrived_absolute stream offset open_at ok.some_frames clock before path packet (anchor_absolute stream offset open_at ok.some_frames clock before timed)) in
    media_time_is stream offset packet.ts (time_of open_at before) (media_time_of stream a number) ok
    (under_in_step stream a offset (time_of open_at before) packet number fixed.in_step under)
    (under_after stream a (time_of open_at before) packet number ok.some_frames under)
    (under_before stream a (time_of open_at before) packet number ok.some_frames fixed.within under)

-- two media times of one timestamp, at arrivals that are near to each other, are one
pub one_time : (one other : Stream) (offset ts : ℕ) (time other_time media other_media : ℤ) → IsStream one → IsStream other → AreNearTimes time other_time → IsMediaTimeOf one offset ts time media → IsMediaTimeOf other offset ts other_time other_media → media ≡ other_media
one_time one other offset ts time other_time media other_media ok other_ok near is other_is =
    let span : one.window * one.frames ≤ 16384 * 192 = mul-le one.window one.frames 16384 192 ok.narrow ok.few_frames in
    let other_span : other.window * other.frames ≤ 16384 * 192 = mul-le other.window other.frames 16384 192 other_ok.narrow other_ok.few_frames in
    rem_alike 4294967296 media other_media (omega arith) (is.in_step ∙ sym other_is.in_step)
    (omega (arith, ints, near.not_far_before, is.before, other_is.after, span, other_ok.wide, other_span))
    (omega (arith, ints, near.not_far_after, other_is.before, is.after, other_span, ok.wide, span))
