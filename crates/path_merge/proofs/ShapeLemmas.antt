-- The marks of an open history are a mark list.
use Rattle.std.proofs.Common.{◌≡◌, ℕ, zero, suc, ◌+◌, ◌-◌, ◌*◌, ◌<◌, ◌≤◌, max, Bool, true, false, not, ◌&&◌, ◌||◌, List, [], ◌∷◌, ◌++◌, length, Option, Some, None, ◌⊎◌, inl, inr, ℤ, pos, ◌+ℤ◌, ◌-ℤ◌, ◌≤ℤ◌, ◌<ℤ◌, refl, sym, ap, subst, ◌∙◌, arith, append-nil, if◌then◌else◌}
use Rattle.std.specs.Prelude.{int_lt, int_le, nat_eq}
use Rattle.std.proofs.lemmas.Bool.Decides.{nat_tests}
use Rattle.std.proofs.lemmas.Int.{ints}
use Rattle.path_merge.proofs.AnchorLemmas.{IsMade, by_anchor_made}
use Rattle.path_merge.proofs.EpochLemmas.{anchor_is, copies_of-since, copies_since-made, no_anchors, since_of}
use Rattle.path_merge.proofs.HistoryLemmas.{anchor_of-tick, anchors_of-push, copies_of-push, copies_of-tick, marks_in, marks_in-none, marks_in-push, time_of-append}
use Rattle.path_merge.proofs.LawLemmas.{least_due}
use Rattle.path_merge.proofs.MarkGrowthLemmas.{by_open_event}
use Rattle.path_merge.proofs.DueLemmas.{media_time_of-from, media_time_of-suc, next_number-rises}
use Rattle.rtp_stream.proofs.ProbationLemmas.{last_of-push}
use Rattle.path_merge.proofs.AnewLemmas.{itself_eq, next_number-fresh}
use Rattle.rtp_stream.specs.Anchor.{media_time_of, next_number}
use Rattle.rtp_stream.specs.Copies.{copies_at, copies_of, copies_with}
use Rattle.rtp_stream.specs.Epochs.{anchor_in, anchor_of, anchors_at, anchors_of, copies_since, last_of}
use Rattle.rtp_stream.specs.Grid.{end_of_copies, first_with}
use Rattle.rtp_stream.specs.History.{is_closed, is_well_timed, time_of}
use Rattle.rtp_stream.specs.MarkFacts.{MarkView}
use Rattle.rtp_stream.specs.MarkList.{can_follow, is_mark_list, is_mark_list_after, is_same_encoding, is_same_format, is_same_time, is_end}
use Rattle.rtp_stream.specs.Marks.{body_of, has_slot, is_past_quiet, is_past_quiets, is_quiet_new, is_slot, quiet_mark, slots_between, slots_from, slots_or_quiet}
use Rattle.rtp_stream.specs.declared.stream_spec.Stream.{Stream}
use Rattle.rtp_stream.specs.StreamSpecFacts.{format_of}
use Rattle.rtp_stream.specs.declared.anchor.Anchor.{Anchor}
use Rattle.rtp_stream.specs.declared.event.Event.{Event}
use Rattle.rtp_stream.specs.declared.event.Event.TheVariants.{Arrive, Tick}
use Rattle.rtp_stream.specs.declared.mark.Body.{Body}
use Rattle.rtp_stream.specs.declared.mark.PacketFormat.{PacketFormat}
use Rattle.rtp_stream.specs.declared.mark.MarkKind.{MarkKind}
use Rattle.rtp_stream.specs.declared.mark.MarkKind.TheVariants.{End, Quiet, Slot}
use Rattle.rtp_stream.specs.declared.packet.Packet.{Packet}
use Rattle.rtp_wire.specs.declared.encoding.Enc.{Enc}
use Rattle.rtp_wire.specs.declared.encoding.Enc.TheVariants.{L16, L24}

-- the last of these marks, or the last mark before them
abbrev pub last_after : Option MarkKind → List MarkView → Option MarkKind
last_after last [] = last
last_after last (mark ∷ marks) = last_after (Some mark.kind) marks

pub last_after-append : (last : Option MarkKind) (xs ys : List MarkView) → last_after last (xs ++ ys) ≡ last_after (last_after last xs) ys
last_after-append last [] ys = refl
last_after-append last (mark ∷ xs) ys = last_after-append (Some mark.kind) xs ys

and_assoc : (a b c : Bool) → (a && (b && c)) ≡ ((a && b) && c)
and_assoc false b c = refl
and_assoc true b c = refl

pub and_true : (a b : Bool) → a ≡ true → b ≡ true → (a && b) ≡ true
and_true true b e f = f
and_true false b e f = cc

pub and_left : (a b : Bool) → (a && b) ≡ true → a ≡ true
and_left true b e = refl
and_left false b e = cc

pub is_mark_list_after-append : (format : PacketFormat) (last : Option MarkKind) (xs ys : List MarkView) → is_mark_list_after format last (xs ++ ys) ≡ (is_mark_list_after format last xs && is_mark_list_after format (last_after last xs) ys)
is_mark_list_after-append format last [] ys = refl
is_mark_list_after-append format last (mark ∷ xs) ys = ap (λ b. (is_same_format mark.format format && can_follow format.frames last mark.kind) && b) (is_mark_list_after-append format (Some mark.kind) xs ys) ∙ and_assoc (is_same_format mark.format format && can_follow format.frames last mark.kind) (is_mark_list_after format (Some mark.kind) xs) (is_mark_list_after format (last_after (Some mark.kind) xs) ys)

pub same_format : (format : PacketFormat) → is_same_format format format ≡ true
same_format format = rw (same_encoding format.enc, itself_eq format.channels, itself_eq format.frames) refl
  where
    same_encoding : (e : Enc) → is_same_encoding e e ≡ true
    same_encoding L16 = refl
    same_encoding L24 = refl

same_time : (t u : ℤ) → t ≡ u → is_same_time t u ≡ true
same_time t u e =
    let x : int_le t u ≡ true = grind (arith, ints, e) in
    let y : int_le u t ≡ true = grind (arith, ints, e) in
    rw (x, y) refl

module _ (stream : Stream) (a : Anchor) (copies : List (ℕ × Packet)) where
  -- after the slot of one number, the slots of the next ones follow
  run_follows : (n count : ℕ) (body : Body) → a.number ≤ n → is_mark_list_after (format_of stream) (Some (Slot a.epoch n (media_time_of stream a n) body)) (slots_from stream a copies (suc n) count) ≡ true
  run_follows n zero body le = refl
  run_follows n (suc count) body le =
      let rest = run_follows (suc n) count (body_of (first_with (suc n) copies)) (omega (arith, le)) in
      let number : nat_eq (suc n) (n + 1) ≡ true = grind (arith, nat_tests) in
      let media : is_same_time (media_time_of stream a (suc n)) (media_time_of stream a n +ℤ pos stream.frames) ≡ true = same_time _ _ (media_time_of-suc stream a n le) in
      rw (same_format (format_of stream), itself_eq a.epoch, number, media) rest

  -- a run of at least one slot that may follow
  pub run_listed : (last : Option MarkKind) (n count : ℕ) → a.number ≤ n → can_follow stream.frames last (Slot a.epoch n (media_time_of stream a n) (body_of (first_with n copies))) ≡ true → is_mark_list_after (format_of stream) last (slots_from stream a copies n count) ≡ true
  run_listed last n zero le follows = refl
  run_listed last n (suc count) le follows = rw (same_format (format_of stream), follows) (run_follows n count (body_of (first_with n copies)) le)

-- the last slot is of the number before the next one due
pub record IsBeforeNext (stream : Stream) (a : Anchor) (time : ℤ) (epoch n : ℕ) (media : ℤ) : Type 0 where
  pub epoch_is : epoch ≡ a.epoch
  pub from_anchor : a.number ≤ n
  pub next : suc n ≡ next_number stream a time
  pub media_is : media ≡ media_time_of stream a n

-- the last slot is of the epoch before, and ends before this one, but not by a window; this one's own packet is still
-- held
pub record IsEpochBefore (stream : Stream) (a : Anchor) (time : ℤ) (held : ℕ) (epoch : ℕ) (media : ℤ) : Type 0 where
  pub epoch_is : a.epoch ≡ epoch + 1
  pub next : next_number stream a time ≡ a.number
  pub not_back : (media +ℤ pos stream.frames) ≤ℤ a.media
  pub within : a.media <ℤ (media +ℤ pos stream.frames +ℤ pos (stream.window * stream.frames))
  pub own_held : a.number < held

-- the last mark of an open history whose copies end here may be followed by the next slot; a Quiet is at most the time
-- minus the latency
abbrev pub StandsLast : Stream → Option Anchor → ℤ → ℕ → Option MarkKind → Type 0
StandsLast stream o time held None = Unit {0}
StandsLast stream None time held (Some (Slot epoch n m body)) = ⊥
StandsLast stream (Some a) time held (Some (Slot epoch n m body)) = IsBeforeNext stream a time epoch n m ⊎ IsEpochBefore stream a time held epoch m
StandsLast stream o time held (Some (Quiet until)) = until ≤ℤ (time -ℤ pos stream.latency)
StandsLast stream o time held (Some End) = ⊥

pub record IsShaped (stream : Stream) (o : Option Anchor) (time : ℤ) (held : ℕ) (marks : List MarkView) : Type 0 where
  pub listed : is_mark_list (format_of stream) marks ≡ true
  pub last : StandsLast stream o time held (last_after None marks)

-- a slot may follow the last mark
pub slot_follows : (stream : Stream) (a : Anchor) (time : ℤ) (held : ℕ) (last : Option MarkKind) (body : Body) → 0 < stream.frames → StandsLast stream (Some a) time held last → can_follow stream.frames last (Slot a.epoch (next_number stream a time) (media_time_of stream a (next_number stream a time)) body) ≡ true
slot_follows stream a time held None body some stands = refl
slot_follows stream a time held (Some (Slot epoch n m b)) body some (inl stands) =
    let e : nat_eq a.epoch epoch ≡ true = grind (arith, nat_tests, stands.epoch_is) in
    let number : nat_eq (next_number stream a time) (n + 1) ≡ true = grind (arith, nat_tests, stands.next) in
    let next = ap (media_time_of stream a) (sym stands.next) in
    let media : is_same_time (media_time_of stream a (next_number stream a time)) (m +ℤ pos stream.frames) ≡ true = same_time _ _ (sym (ap (λ z. z +ℤ pos stream.frames) stands.media_is ∙ sym (media_time_of-suc stream a n stands.from_anchor) ∙ sym next)) in
    rw (e, number, media) refl
slot_follows stream a time held (Some (Slot epoch n m b)) body some (inr stands) =
    let e : nat_eq a.epoch epoch ≡ false = grind (arith, nat_tests, stands.epoch_is) in
    let up : nat_eq a.epoch (epoch + 1) ≡ true = grind (arith, nat_tests, stands.epoch_is) in
    let none : a.number - a.number ≡ 0 = omega arith in
    let zero = ap (λ q. q * stream.frames) none in
    let at_anchor = media_time_of-from stream a a.number (omega arith) in
    let next = ap (media_time_of stream a) stands.next in
    let media : int_le (m +ℤ pos stream.frames) (media_time_of stream a (next_number stream a time)) ≡ true = grind (arith, ints, stands.not_back, at_anchor, next, zero) in
    rw (e, up, media) refl
slot_follows stream a time held (Some (Quiet until)) body some stands =
    let least = least_due stream a time some in
    grind (arith, ints, stands, least.to_come)
slot_follows stream a time held (Some End) body some stands = absurd stands

-- the last of a run
run_last : (stream : Stream) (a : Anchor) (time : ℤ) (held : ℕ) (copies : List (ℕ × Packet)) (last : Option MarkKind) (n count : ℕ) → a.number ≤ n → suc (n + count) ≡ next_number stream a time → StandsLast stream (Some a) time held (last_after last (slots_from stream a copies n (suc count)))
run_last stream a time held copies last n zero le is = inl (record { epoch_is = refl; from_anchor = le; next = omega (arith, is); media_is = refl })
run_last stream a time held copies last n (suc count) le is = run_last stream a time held copies (Some (Slot a.epoch n (media_time_of stream a n) (body_of (first_with n copies)))) (suc n) count (omega (arith, le)) (omega (arith, is))

-- what holds of every mark holds of the last
abbrev pub AllKinds : (MarkKind → Type 0) → List MarkView → Type 0
AllKinds Q [] = Unit {0}
AllKinds Q (mark ∷ marks) = Q mark.kind × AllKinds Q marks

abbrev pub OfLast : (MarkKind → Type 0) → Option MarkKind → Type 0
OfLast Q None = Unit {0}
OfLast Q (Some kind) = Q kind

pub of_last : (Q : MarkKind → Type 0) (last : Option MarkKind) (marks : List MarkView) → OfLast Q last → AllKinds Q marks → OfLast Q (last_after last marks)
of_last Q last [] l all = l
of_last Q last (mark ∷ marks) l all = of_last Q (Some mark.kind) marks all.0 all.1

-- a Quiet that is new
abbrev IsEarlierQuiet : ℤ → MarkKind → Type 0
IsEarlierQuiet until kind = (is_slot kind ≡ false) × (is_past_quiet until kind ≡ true)

not_either : (a b : Bool) → not (a || b) ≡ true → (a ≡ false) × (not b ≡ true)
not_either false b e = (refl, e)
not_either true b e = cc

both_true : (a b : Bool) → (a && b) ≡ true → (a ≡ true) × (b ≡ true)
both_true true b e = (refl, e)
both_true false b e = cc

earlier_quiets : (until : ℤ) (marks : List MarkView) → not (has_slot marks) ≡ true → is_past_quiets until marks ≡ true → AllKinds (IsEarlierQuiet until) marks
earlier_quiets until [] none past = tt
earlier_quiets until (mark ∷ marks) none past =
    let n = not_either (is_slot mark.kind) (has_slot marks) none in
    let p = both_true (is_past_quiet until mark.kind) (is_past_quiets until marks) past in
    ((n.0, p.0), earlier_quiets until marks n.1 p.1)

quiet_follows : (stream : Stream) (o : Option Anchor) (time until : ℤ) (held : ℕ) (last : Option MarkKind) → StandsLast stream o time held last → OfLast (IsEarlierQuiet until) last → can_follow stream.frames last (Quiet until) ≡ true
quiet_follows stream o time until held None stands l = refl
quiet_follows stream o time until held (Some (Slot e n m b)) stands l = let no = l.0 in cc
quiet_follows stream o time until held (Some (Quiet u)) stands l = l.1
quiet_follows stream None time until held (Some End) stands l = absurd stands
quiet_follows stream (Some a) time until held (Some End) stands l = absurd stands

-- the end may follow the last mark
pub end_follows : (frames : ℕ) (last : Option MarkKind) → OfLast (λ kind. is_end kind ≡ false) last → can_follow frames last End ≡ true
end_follows frames None l = refl
end_follows frames (Some (Slot e n m b)) l = refl
end_follows frames (Some (Quiet u)) l = refl
end_follows frames (Some End) l = cc

pub stands_no_end : (stream : Stream) (o : Option Anchor) (time : ℤ) (held : ℕ) (last : Option MarkKind) → StandsLast stream o time held last → OfLast (λ kind. is_end kind ≡ false) last
stands_no_end stream o time held None stands = tt
stands_no_end stream o time held (Some (Slot e n m b)) stands = refl
stands_no_end stream o time held (Some (Quiet u)) stands = refl
stands_no_end stream None time held (Some End) stands = absurd stands
stands_no_end stream (Some a) time held (Some End) stands = absurd stands

pub run_no_end : (stream : Stream) (a : Anchor) (copies : List (ℕ × Packet)) (n count : ℕ) → AllKinds (λ kind. is_end kind ≡ false) (slots_from stream a copies n count)
run_no_end stream a copies n zero = tt
run_no_end stream a copies n (suc count) = (refl, run_no_end stream a copies (suc n) count)

-- the number next due is the same at both times
same_next : Stream → Option Anchor → ℤ → ℤ → Type 0
same_next stream None t u = Unit {0}
same_next stream (Some a) t u = next_number stream a u ≡ next_number stream a t

module _ (stream : Stream) (open_at : ℤ) where
  stands_later : (o : Option Anchor) (t u : ℤ) (held : ℕ) (last : Option MarkKind) → t ≤ℤ u → same_next stream o t u → StandsLast stream o t held last → StandsLast stream o u held last
  unfolding same_next
  stands_later o t u held None le same stands = tt
  stands_later None t u held (Some (Slot e n m b)) le same stands = stands
  stands_later (Some a) t u held (Some (Slot e n m b)) le same (inl stands) = inl (record { epoch_is = stands.epoch_is; from_anchor = stands.from_anchor; next = stands.next ∙ sym same; media_is = stands.media_is })
  stands_later (Some a) t u held (Some (Slot e n m b)) le same (inr stands) = inr (record { epoch_is = stands.epoch_is; next = same ∙ stands.next; not_back = stands.not_back; within = stands.within; own_held = stands.own_held })
  stands_later None t u held (Some (Quiet q)) le same stands = omega (arith, ints, stands, le)
  stands_later (Some a) t u held (Some (Quiet q)) le same stands = omega (arith, ints, stands, le)
  stands_later None t u held (Some End) le same stands = stands
  stands_later (Some a) t u held (Some End) le same stands = stands

  -- a reading with no slot
  quiet_shaped : (o : Option Anchor) (t u : ℤ) (held : ℕ) (marks : List MarkView) → t ≤ℤ u → same_next stream o t u → IsShaped stream o t held marks → IsShaped stream o u held (marks ++ slots_or_quiet stream open_at marks u [])
  quiet_shaped o t u held marks le same shaped = by_test (is_quiet_new stream open_at marks (u -ℤ pos stream.latency)) refl
    where
      later : StandsLast stream o u held (last_after None marks)
      later = stands_later o t u held (last_after None marks) le same shaped.last

      stands_quiet : (o : Option Anchor) → StandsLast stream o u held (Some (Quiet (u -ℤ pos stream.latency)))
      stands_quiet None = omega (arith, ints)
      stands_quiet (Some a) = omega (arith, ints)

      by_test : (c : Bool) → is_quiet_new stream open_at marks (u -ℤ pos stream.latency) ≡ c → IsShaped stream o u held (marks ++ (if c then quiet_mark stream (u -ℤ pos stream.latency) ∷ [] else []))
      by_test false is = rw append-nil (record { listed = shaped.listed; last = later })
      by_test true is =
          let new = both_true (not (has_slot marks)) (int_lt (open_at -ℤ pos stream.latency) (u -ℤ pos stream.latency) && is_past_quiets (u -ℤ pos stream.latency) marks) is in
          let past = both_true (int_lt (open_at -ℤ pos stream.latency) (u -ℤ pos stream.latency)) (is_past_quiets (u -ℤ pos stream.latency) marks) new.1 in
          let earlier = of_last (IsEarlierQuiet (u -ℤ pos stream.latency)) None marks tt (earlier_quiets (u -ℤ pos stream.latency) marks new.0 past.1) in
          let follows = quiet_follows stream o u (u -ℤ pos stream.latency) held (last_after None marks) later earlier in
          record {
            listed = is_mark_list_after-append (format_of stream) None marks (quiet_mark stream (u -ℤ pos stream.latency) ∷ []) ∙ rw (shaped.listed, same_format (format_of stream), follows) refl;
            last = subst (StandsLast stream o u held) (sym (last_after-append None marks (quiet_mark stream (u -ℤ pos stream.latency) ∷ []))) (stands_quiet o);
          }

  -- a reading with slots
  slots_shaped : (a : Anchor) (t u : ℤ) (held : ℕ) (copies : List (ℕ × Packet)) (marks : List MarkView) (count : ℕ) → 0 < stream.frames → suc (next_number stream a t + count) ≡ next_number stream a u → IsShaped stream (Some a) t held marks → IsShaped stream (Some a) u held (marks ++ slots_from stream a copies (next_number stream a t) (suc count))
  slots_shaped a t u held copies marks count some is shaped =
      let first : a.number ≤ next_number stream a t = omega arith in
      let follows = slot_follows stream a t held (last_after None marks) (body_of (first_with (next_number stream a t) copies)) some shaped.last in
      let listed = run_listed stream a copies (last_after None marks) (next_number stream a t) (suc count) first follows in
      record {
        listed = is_mark_list_after-append (format_of stream) None marks (slots_from stream a copies (next_number stream a t) (suc count)) ∙ and_true _ _ shaped.listed listed;
        last = subst (StandsLast stream (Some a) u held) (sym (last_after-append None marks (slots_from stream a copies (next_number stream a t) (suc count)))) (run_last stream a u held copies (last_after None marks) (next_number stream a t) count first is);
      }

  tick_shaped : (o : Option Anchor) (t u : ℤ) (held : ℕ) (copies : List (ℕ × Packet)) (marks : List MarkView) → 0 < stream.frames → t ≤ℤ u → IsShaped stream o t held marks → IsShaped stream o u held (marks ++ slots_or_quiet stream open_at marks u (slots_between stream copies o t u))
  unfolding same_next
  tick_shaped None t u held copies marks some le shaped = quiet_shaped None t u held marks le tt shaped
  tick_shaped (Some a) t u held copies marks some le shaped = by_count (next_number stream a u - next_number stream a t) refl
    where
      rises : next_number stream a t ≤ next_number stream a u
      rises = next_number-rises stream a t u some le

      by_count : (c : ℕ) → next_number stream a u - next_number stream a t ≡ c → IsShaped stream (Some a) u held (marks ++ slots_or_quiet stream open_at marks u (slots_from stream a copies (next_number stream a t) c))
      by_count zero is = quiet_shaped (Some a) t u held marks le (omega (arith, is, rises)) shaped
      by_count (suc c) is = slots_shaped a t u held copies marks c some (omega (arith, is, rises)) shaped

  -- more copies
  stands_held : (o : Option Anchor) (time : ℤ) (held more : ℕ) (last : Option MarkKind) → held ≤ more → StandsLast stream o time held last → StandsLast stream o time more last
  stands_held o time held more None le stands = tt
  stands_held None time held more (Some (Slot e n m b)) le stands = stands
  stands_held (Some a) time held more (Some (Slot e n m b)) le (inl stands) = inl stands
  stands_held (Some a) time held more (Some (Slot e n m b)) le (inr stands) = inr (record { epoch_is = stands.epoch_is; next = stands.next; not_back = stands.not_back; within = stands.within; own_held = omega (arith, stands.own_held, le) })
  stands_held None time held more (Some (Quiet q)) le stands = stands
  stands_held (Some a) time held more (Some (Quiet q)) le stands = stands
  stands_held None time held more (Some End) le stands = stands
  stands_held (Some a) time held more (Some End) le stands = stands

  -- a new anchor, opened while nothing is held that had no slot
  stands_opened : 0 < stream.frames → (events : List Event) (path : ℕ) (packet : Packet) (old : Option (ℕ × Anchor)) (b : Anchor) (last : Option MarkKind) → IsMade stream open_at events path packet old b → StandsLast stream (anchor_in old) (time_of open_at events) (end_of_copies (since_of stream open_at old events)) last → StandsLast stream (Some b) (time_of open_at events) (end_of_copies (copies_since stream open_at (length events) b (events ++ Arrive path packet ∷ []))) last
  stands_opened some events path packet old b None made stands = tt
  stands_opened some events path packet None b (Some (Slot e n m body)) made stands = absurd stands
  stands_opened some events path packet (Some (place, a)) b (Some (Slot e n m body)) made (inl stands) =
      let copies : end_of_copies (copies_since stream open_at (length events) b (events ++ Arrive path packet ∷ [])) ≡ max (suc b.number) 0 = ap end_of_copies (copies_since-made stream open_at events (Arrive path packet) b ∙ made.follows.own) in
      let next = ap (media_time_of stream a) stands.next in
      let ends = ap (λ z. z +ℤ pos stream.frames) stands.media_is ∙ sym (media_time_of-suc stream a n stands.from_anchor) ∙ next in
      let least = least_due stream a (time_of open_at events) some in
      inr (record {
        epoch_is = omega (arith, made.next, stands.epoch_is);
        next = next_number-fresh stream b (time_of open_at events) some made.early;
        not_back = omega (arith, ints, ends, made.follows.not_back);
        within = omega (arith, ints, ends, made.within, least.to_come);
        own_held = omega (arith, copies);
      })
  stands_opened some events path packet (Some (place, a)) b (Some (Slot e n m body)) made (inr stands) = absurd (omega (arith, stands.own_held, stands.next, made.follows.all_given))
  stands_opened some events path packet None b (Some (Quiet q)) made stands = stands
  stands_opened some events path packet (Some (place, a)) b (Some (Quiet q)) made stands = stands
  stands_opened some events path packet None b (Some End) made stands = absurd stands
  stands_opened some events path packet (Some (place, a)) b (Some End) made stands = absurd stands

end_of_copies-append : (xs ys : List (ℕ × Packet)) → end_of_copies xs ≤ end_of_copies (xs ++ ys)
end_of_copies-append [] ys = omega arith
end_of_copies-append ((n, packet) ∷ xs) ys = omega (arith, end_of_copies-append xs ys)

pub no_anchor_yet : (stream : Stream) (open_at : ℤ) → anchor_of stream open_at [] ≡ None
no_anchor_yet stream open_at = anchor_is stream open_at [] ∙ rw (no_anchors stream open_at) refl

module _ (stream : Stream) (open_at : ℤ) (some : 0 < stream.frames) where
  abbrev pub IsShapedAt : List Event → List MarkView → Type 0
  IsShapedAt events marks = IsShaped stream (anchor_of stream open_at events) (time_of open_at events) (end_of_copies (copies_of stream open_at events)) marks

  arrived_shaped : (events : List Event) (path : ℕ) (packet : Packet) (marks : List MarkView) → IsShapedAt events marks → IsShapedAt (events ++ Arrive path packet ∷ []) marks
  arrived_shaped events path packet marks shaped = by_anchor_made stream open_at some events path packet (λ made. anchors_at stream open_at (anchors_of stream open_at events) events (Arrive path packet) ≡ made → IsShapedAt (events ++ Arrive path packet ∷ []) marks) none one refl
    where
      time : time_of open_at (events ++ Arrive path packet ∷ []) ≡ time_of open_at events
      time = time_of-append open_at events (Arrive path packet ∷ [])

      none : anchors_at stream open_at (anchors_of stream open_at events) events (Arrive path packet) ≡ [] → IsShapedAt (events ++ Arrive path packet ∷ []) marks
      none is =
          let same : anchor_of stream open_at (events ++ Arrive path packet ∷ []) ≡ anchor_of stream open_at events = anchor_is stream open_at (events ++ Arrive path packet ∷ []) ∙ ap (λ l. anchor_in (last_of l)) (anchors_of-push stream open_at events (Arrive path packet) ∙ ap (λ l. anchors_of stream open_at events ++ l) is ∙ append-nil _) ∙ sym (anchor_is stream open_at events) in
          let copies = copies_of-push stream open_at events (Arrive path packet) same in
          rw (same, time) (record { listed = shaped.listed; last = stands_held stream open_at (anchor_of stream open_at events) (time_of open_at events) (end_of_copies (copies_of stream open_at events)) (end_of_copies (copies_of stream open_at (events ++ Arrive path packet ∷ []))) (last_after None marks) (omega (arith, ap end_of_copies copies, end_of_copies-append (copies_of stream open_at events) (copies_with (anchor_of stream open_at events) (copies_at stream open_at events (Arrive path packet))))) shaped.last })

      one : (b : Anchor) → IsMade stream open_at events path packet (last_of (anchors_of stream open_at events)) b → anchors_at stream open_at (anchors_of stream open_at events) events (Arrive path packet) ≡ (length events, b) ∷ [] → IsShapedAt (events ++ Arrive path packet ∷ []) marks
      one b made is =
          let last : last_of (anchors_of stream open_at (events ++ Arrive path packet ∷ [])) ≡ Some (length events, b) = ap last_of (anchors_of-push stream open_at events (Arrive path packet) ∙ ap (λ l. anchors_of stream open_at events ++ l) is) ∙ last_of-push (anchors_of stream open_at events) (length events, b) in
          let anchor : anchor_of stream open_at (events ++ Arrive path packet ∷ []) ≡ Some b = anchor_is stream open_at (events ++ Arrive path packet ∷ []) ∙ ap anchor_in last in
          let copies : copies_of stream open_at (events ++ Arrive path packet ∷ []) ≡ copies_since stream open_at (length events) b (events ++ Arrive path packet ∷ []) = copies_of-since stream open_at (events ++ Arrive path packet ∷ []) ∙ ap (λ o. since_of stream open_at o (events ++ Arrive path packet ∷ [])) last in
          let before : StandsLast stream (anchor_in (last_of (anchors_of stream open_at events))) (time_of open_at events) (end_of_copies (since_of stream open_at (last_of (anchors_of stream open_at events)) events)) (last_after None marks) = subst (λ o. StandsLast stream o (time_of open_at events) (end_of_copies (since_of stream open_at (last_of (anchors_of stream open_at events)) events)) (last_after None marks)) (anchor_is stream open_at events) (subst (λ l. StandsLast stream (anchor_of stream open_at events) (time_of open_at events) (end_of_copies l) (last_after None marks)) (copies_of-since stream open_at events) shaped.last) in
          rw (anchor, time, copies) (record { listed = shaped.listed; last = stands_opened stream open_at some events path packet (last_of (anchors_of stream open_at events)) b (last_after None marks) made before })

  -- the marks of an open history are a mark list, which the next mark may follow
  pub shaped_open : (copies : List (ℕ × (ℕ × Packet))) (events : List Event) → is_well_timed open_at events ≡ true → is_closed events ≡ false → IsShapedAt events (marks_in stream open_at copies events)
  shaped_open copies = by_open_event stream open_at some (λ events. IsShapedAt events (marks_in stream open_at copies events))
      (rw (marks_in-none stream open_at copies, no_anchor_yet stream open_at) (record { listed = refl; last = tt }))
      (λ events path packet _ _ _ shaped.
      rw (marks_in-push stream open_at copies events (Arrive path packet), append-nil)
      (arrived_shaped events path packet (marks_in stream open_at copies events) shaped))
      (λ events u t shaped.
      rw (anchor_of-tick stream open_at events u, time_of-append open_at events (Tick u ∷ []), copies_of-tick stream open_at events u, marks_in-push stream open_at copies events (Tick u), t.open_yet)
      (tick_shaped stream open_at (anchor_of stream open_at events) (time_of open_at events) u (end_of_copies (copies_of stream open_at events)) (copies_with (anchor_of stream open_at events) copies) (marks_in stream open_at copies events) some t.not_back shaped))
