-- The marks of every history are a mark list, and media time never goes back in one.
use Rattle.std.proofs.Common.{◌≡◌, ℕ, ◌+◌, ◌-◌, ◌<◌, Bool, true, false, ◌&&◌, ◌||◌, List, [], ◌∷◌, ◌++◌, take, drop, Option, Some, None, ℤ, pos, ◌+ℤ◌, ◌≤ℤ◌, refl, sym, ap, ◌∙◌, arith}
use Rattle.std.specs.Prelude.{int_le, nat_eq}
use Rattle.std.proofs.lemmas.List.{take-append-drop}
use Rattle.std.proofs.lemmas.Int.{ints}
use Rattle.path_merge.proofs.HistoryLemmas.{marks_of-in}
use Rattle.path_merge.proofs.DrainLemmas.{closed_at}
use Rattle.path_merge.proofs.ShapeLemmas.{AllKinds, IsShaped, IsShapedAt, StandsLast, and_left, and_true, end_follows, is_mark_list_after-append, last_after, of_last, run_listed, run_no_end, same_format, shaped_open, slot_follows, stands_no_end}
use Rattle.rtp_stream.specs.Anchor.{next_number}
use Rattle.rtp_stream.specs.Copies.{copies_of, copies_of_all}
use Rattle.rtp_stream.specs.Epochs.{anchor_of}
use Rattle.rtp_stream.specs.Grid.{end_of_copies, first_with}
use Rattle.rtp_stream.specs.History.{events_until_close, is_closed, is_well_timed, time_of}
use Rattle.rtp_stream.specs.Laws.{AllTimesFrom, AreInOrder, slot_times, times_in}
use Rattle.rtp_stream.specs.MarkFacts.{MarkView}
use Rattle.rtp_stream.specs.MarkList.{can_follow, is_mark_list, is_mark_list_after, is_same_format, is_same_time, is_end}
use Rattle.rtp_stream.specs.Marks.{body_of, end_mark, marks_of, slots_at_close}
use Rattle.rtp_stream.specs.declared.stream_spec.Stream.{Stream}
use Rattle.rtp_stream.specs.StreamSpecFacts.{format_of}
use Rattle.rtp_stream.specs.declared.anchor.Anchor.{Anchor}
use Rattle.rtp_stream.specs.declared.event.Event.{Event}
use Rattle.rtp_stream.specs.declared.mark.PacketFormat.{PacketFormat}
use Rattle.rtp_stream.specs.declared.mark.MarkKind.{MarkKind}
use Rattle.rtp_stream.specs.declared.mark.MarkKind.TheVariants.{End, Quiet, Slot}
use Rattle.rtp_stream.specs.declared.packet.Packet.{Packet}

-- the marks with those of a close are a mark list
closed_listed : (stream : Stream) (o : Option Anchor) (time : ℤ) (held : ℕ) (copies : List (ℕ × Packet)) (marks : List MarkView) → 0 < stream.frames → IsShaped stream o time held marks → is_mark_list (format_of stream) (marks ++ (slots_at_close stream copies o time ++ end_mark stream ∷ [])) ≡ true
closed_listed stream o time held copies marks some shaped =
    is_mark_list_after-append (format_of stream) None marks (slots_at_close stream copies o time ++ end_mark stream ∷ [])
    ∙ and_true _ _ shaped.listed
    (is_mark_list_after-append (format_of stream) (last_after None marks) (slots_at_close stream copies o time) (end_mark stream ∷ [])
    ∙ and_true _ _ (slots_listed o shaped.last)
    (rw (same_format (format_of stream), end_follows stream.frames (last_after (last_after None marks) (slots_at_close stream copies o time)) (of_last (λ kind. is_end kind ≡ false) (last_after None marks) (slots_at_close stream copies o time) (stands_no_end stream o time held (last_after None marks) shaped.last) (slots_no_end o))) refl))
  where
    slots_listed : (o : Option Anchor) → StandsLast stream o time held (last_after None marks) → is_mark_list_after (format_of stream) (last_after None marks) (slots_at_close stream copies o time) ≡ true
    slots_listed None stands = refl
    slots_listed (Some a) stands = run_listed stream a copies (last_after None marks) (next_number stream a time) (end_of_copies copies - next_number stream a time) (omega arith) (slot_follows stream a time held (last_after None marks) (body_of (first_with (next_number stream a time) copies)) some stands)

    slots_no_end : (o : Option Anchor) → AllKinds (λ kind. is_end kind ≡ false) (slots_at_close stream copies o time)
    slots_no_end None = tt
    slots_no_end (Some a) = run_no_end stream a copies (next_number stream a time) (end_of_copies copies - next_number stream a time)

-- the marks of a history, and each first part of them
module _ (stream : Stream) (open_at : ℤ) (events : List Event) (some : 0 < stream.frames) (well_timed : is_well_timed open_at events ≡ true) where
  shaped_before : (before : List Event) → is_well_timed open_at before ≡ true → is_closed before ≡ false → IsShapedAt stream open_at some before (marks_of stream open_at before)
  shaped_before before timed still = rw (marks_of-in stream open_at before) (shaped_open stream open_at some (copies_of_all stream open_at before) before timed still)

  pub listed : is_mark_list (format_of stream) (marks_of stream open_at events) ≡ true
  listed = by_test (is_closed events) refl
    where
      by_test : (b : Bool) → is_closed events ≡ b → is_mark_list (format_of stream) (marks_of stream open_at events) ≡ true
      by_test false still = (shaped_before events well_timed still).listed
      by_test true shut =
          let c = closed_at stream open_at events well_timed shut in
          ap (is_mark_list (format_of stream)) c.marks
          ∙ closed_listed stream (anchor_of stream open_at (events_until_close events)) (time_of open_at (events_until_close events)) (end_of_copies (copies_of stream open_at (events_until_close events))) (copies_of stream open_at (events_until_close events)) (marks_of stream open_at (events_until_close events)) some (shaped_before (events_until_close events) c.well_timed c.open_yet)

  pub parts_listed : (k : ℕ) → is_mark_list (format_of stream) (take k (marks_of stream open_at events)) ≡ true
  parts_listed k = and_left _ _ (sym (is_mark_list_after-append (format_of stream) None (take k (marks_of stream open_at events)) (drop k (marks_of stream open_at events))) ∙ ap (is_mark_list (format_of stream)) (take-append-drop k (marks_of stream open_at events)) ∙ listed)

-- the slots that follow a slot begin at its end, or later
abbrev FollowsLast : ℕ → Option MarkKind → List ℤ → Type 0
FollowsLast frames None times = Unit {0}
FollowsLast frames (Some (Slot epoch number media body)) times = AllTimesFrom (media +ℤ pos frames) times
FollowsLast frames (Some (Quiet until)) times = Unit {0}
FollowsLast frames (Some End) times = Unit {0}

AllTimesFrom-lower : (low high : ℤ) (times : List ℤ) → low ≤ℤ high → AllTimesFrom high times → AllTimesFrom low times
AllTimesFrom-lower low high [] le all = tt
AllTimesFrom-lower low high (time ∷ times) le all = (omega (arith, ints, le, all.0), AllTimesFrom-lower low high times le all.1)

both : (a b : Bool) → (a && b) ≡ true → (a ≡ true) × (b ≡ true)
both true b e = (refl, e)
both false b e = cc

-- nothing follows the end
after_end : (format : PacketFormat) (marks : List MarkView) → is_mark_list_after format (Some End) marks ≡ true → slot_times marks ≡ []
after_end format [] e = refl
after_end format (mark ∷ marks) e = by_format (is_same_format mark.format format) e
  where
    by_format : (b : Bool) → ((b && false) && is_mark_list_after format (Some mark.kind) marks) ≡ true → slot_times (mark ∷ marks) ≡ []
    by_format true e = cc
    by_format false e = cc

-- a slot that follows another
next_slot : (frames epoch number epoch' number' : ℕ) (media media' : ℤ) → (((nat_eq epoch' epoch && (nat_eq number' (number + 1) && is_same_time media' (media +ℤ pos frames))) || (nat_eq epoch' (epoch + 1) && int_le (media +ℤ pos frames) media')) ≡ true) → (media +ℤ pos frames) ≤ℤ media'
next_slot frames epoch number epoch' number' media media' follows = by_tests (nat_eq epoch' epoch) (nat_eq number' (number + 1)) (int_le media' (media +ℤ pos frames)) (nat_eq epoch' (epoch + 1)) (int_le (media +ℤ pos frames) media') refl follows
  where
    by_tests : (a b c d le : Bool) → int_le (media +ℤ pos frames) media' ≡ le → ((a && (b && (c && le))) || (d && le)) ≡ true → (media +ℤ pos frames) ≤ℤ media'
    by_tests a b c d true is e = grind (arith, ints, is)
    by_tests false b c false false is e = cc
    by_tests false b c true false is e = cc
    by_tests true false c false false is e = cc
    by_tests true false c true false is e = cc
    by_tests true true false false false is e = cc
    by_tests true true false true false is e = cc
    by_tests true true true false false is e = cc
    by_tests true true true true false is e = cc

record HasTimes (format : PacketFormat) (last : Option MarkKind) (times : List ℤ) : Type 0 where
  after : FollowsLast format.frames last times
  order : AreInOrder format.frames times

-- in a mark list media time never goes back
in_order : (format : PacketFormat) (last : Option MarkKind) (marks : List MarkView) → is_mark_list_after format last marks ≡ true → HasTimes format last (slot_times marks)
in_order format last [] e = record { after = none last; order = tt }
  where
    none : (last : Option MarkKind) → FollowsLast format.frames last []
    none None = tt
    none (Some (Slot epoch number media body)) = tt
    none (Some (Quiet until)) = tt
    none (Some End) = tt
in_order format last (mark ∷ marks) e = by_kind mark.kind last ((both _ _ (both _ _ e).0).1) (in_order format (Some mark.kind) marks (both _ _ e).1) (both _ _ e).1
  where
    by_kind : (kind : MarkKind) (last : Option MarkKind) → can_follow format.frames last kind ≡ true → HasTimes format (Some kind) (slot_times marks) → is_mark_list_after format (Some kind) marks ≡ true → HasTimes format last (times_in kind ++ slot_times marks)
    by_kind (Slot e' n' m' b') None follows rest listed = record { after = tt; order = (rest.after, rest.order) }
    by_kind (Slot e' n' m' b') (Some (Slot e n m b)) follows rest listed =
        let from = next_slot format.frames e n e' n' m m' follows in
        record { after = (from, AllTimesFrom-lower (m +ℤ pos format.frames) (m' +ℤ pos format.frames) (slot_times marks) (omega (arith, ints, from)) rest.after); order = (rest.after, rest.order) }
    by_kind (Slot e' n' m' b') (Some (Quiet until)) follows rest listed = record { after = tt; order = (rest.after, rest.order) }
    by_kind (Slot e' n' m' b') (Some End) follows rest listed = cc
    by_kind (Quiet u) None follows rest listed = record { after = tt; order = rest.order }
    by_kind (Quiet u) (Some (Slot e n m b)) follows rest listed = cc
    by_kind (Quiet u) (Some (Quiet until)) follows rest listed = record { after = tt; order = rest.order }
    by_kind (Quiet u) (Some End) follows rest listed = cc
    by_kind End None follows rest listed = record { after = tt; order = rest.order }
    by_kind End (Some (Slot e n m b)) follows rest listed = record { after = rw (after_end format marks listed) tt; order = rest.order }
    by_kind End (Some (Quiet until)) follows rest listed = record { after = tt; order = rest.order }
    by_kind End (Some End) follows rest listed = cc

pub times_in_order : (stream : Stream) (open_at : ℤ) (events : List Event) → 0 < stream.frames → is_well_timed open_at events ≡ true → AreInOrder stream.frames (slot_times (marks_of stream open_at events))
times_in_order stream open_at events some well_timed = (in_order (format_of stream) None (marks_of stream open_at events) (listed stream open_at events some well_timed)).order
