-- The marks that are left after a close, and the mark that a drain takes of them.
use Rattle.path_merge.proofs.EpochLemmas.{deaf_anchor, deaf_copies, deaf_copies_all}
use Rattle.path_merge.proofs.HistoryLemmas.{copies_of-with, anchor_of-close, by_last_event, copies_of-close, events_until_close-close, events_until_close-closed, is_closed-append, marks_in, marks_in-push, marks_of-in, time_of-append}
use Rattle.path_merge.proofs.AnewLemmas.{itself_eq}
use Rattle.rtp_stream.specs.Copies.{copies_of_all, copies_of, first_copy}
use Rattle.std.specs.Prelude.{nat_lt}
use Rattle.rtp_stream.specs.Epochs.{anchor_of}
use Rattle.rtp_stream.specs.Grid.{end_of_copies}
use Rattle.std.proofs.Common.{◌≡◌, ℕ, zero, suc, ◌+◌, ◌-◌, ◌<◌, ◌≤◌, Bool, true, false, ◌||◌, List, [], ◌∷◌, ◌++◌, length, take, drop, Option, Some, None, IsSome, ℤ, pos, ◌-ℤ◌, refl, sym, ap, subst, ◌∙◌, arith, append-nil, length-append, ⊎_elim, if◌then◌else◌}
use Rattle.std.specs.FinMap.{get}
use Rattle.std.proofs.lemmas.Bool.Decides.{nat_tests}
use Rattle.std.proofs.lemmas.Bool.{cases_lt}
use Rattle.std.proofs.Math.Seq.{take-append-add, drop-append-add}
use Rattle.path_merge.proofs.CloseLemmas.{marks_of-close}
use Rattle.path_merge.proofs.MarkGrowthLemmas.{well_timed_before, well_timed_tick}
use Rattle.path_merge.proofs.SlotCountLemmas.{no_end_yet, slots_counted}
use Rattle.path_merge.proofs.StepLemmas.{base_more, has_end-append, last_quiet_or-append, or_none, slot_count-append, without}
use Rattle.path_merge.proofs.TallyLemmas.{tally-other, tally-slot}
use Rattle.rtp_stream.specs.Anchor.{next_number}
use Rattle.rtp_stream.specs.Counts.{fates_of}
use Rattle.rtp_stream.specs.CountsFacts.{with_body}
use Rattle.rtp_stream.specs.History.{events_until_close, is_closed, is_counting, is_well_timed, time_of}
use Rattle.rtp_stream.specs.MarkFacts.{MarkView}
use Rattle.rtp_stream.specs.Marks.{body_of, end_mark, marks_of, slot_mark, slots_at_close, slots_from}
use Rattle.rtp_stream.specs.MarkList.{has_end}
use Rattle.path_merge.specs.Merge.{HasHistory, slot_count}
use Rattle.path_merge.specs.MergeState.{IsSound, MergeState}
use Rattle.path_merge.specs.Steps.{Drains, HoldsMore, IsLeftStep}
use Rattle.rtp_stream.specs.declared.stream_spec.Stream.{Stream}
use Rattle.rtp_stream.specs.declared.anchor.Anchor.{Anchor}
use Rattle.rtp_stream.specs.declared.event.Event.{Event}
use Rattle.rtp_stream.specs.declared.event.Event.TheVariants.{Arrive, Close, Tick}
use Rattle.path_merge.proofs.CopiesLemmas.{first_with-below, first_with-last}
use Rattle.rtp_stream.specs.declared.packet.Packet.{Packet}

-- one mark more
one_more_taken : (k : ℕ) (xs : List MarkView) (x : MarkView) (rest : List MarkView) → drop k xs ≡ x ∷ rest → (take (k + 1) xs ≡ take k xs ++ x ∷ []) × (k + 1 ≤ length xs)
one_more_taken zero [] x rest e = cc
one_more_taken zero (y ∷ xs) x rest e = (ap (λ l. take 1 l) e, omega arith)
one_more_taken (suc k) [] x rest e = cc
one_more_taken (suc k) (y ∷ xs) x rest e =
    let t = one_more_taken k xs x rest e in
    let up : suc (k + 1) ≡ suc k + 1 = omega arith in
    (subst (λ n. take n (y ∷ xs) ≡ y ∷ (take k xs ++ x ∷ [])) up (ap (λ l. y ∷ l) t.0), omega (arith, t.1))

module _ (stream : Stream) (a : Anchor) (copies : List (ℕ × Packet)) where
  -- what follows the first j of the slots and the End
  pub record IsLeft (j n count : ℕ) : Type 0 where
    pub more : has_end (take j (slots_from stream a copies n count ++ end_mark stream ∷ [])) ≡ false → (drop j (slots_from stream a copies n count ++ end_mark stream ∷ []) ≡ slots_from stream a copies (n + j) (count - j) ++ end_mark stream ∷ []) × (slot_count a.epoch (take j (slots_from stream a copies n count ++ end_mark stream ∷ [])) ≡ j)
    pub none : has_end (take j (slots_from stream a copies n count ++ end_mark stream ∷ [])) ≡ true → drop j (slots_from stream a copies n count ++ end_mark stream ∷ []) ≡ []

  pub left : (j n count : ℕ) → j ≤ suc count → IsLeft j n count
  left zero n count le =
      let same : n + 0 ≡ n = omega arith in
      let all : count - 0 ≡ count = omega arith in
      record { more = λ _. (ap (λ c. slots_from stream a copies n c ++ end_mark stream ∷ []) (sym all) ∙ ap (λ b. slots_from stream a copies b (count - 0) ++ end_mark stream ∷ []) (sym same), refl); none = λ e. cc }
  left (suc zero) n zero le = record { more = λ e. cc; none = λ _. refl }
  left (suc (suc j)) n zero le = absurd (omega (arith, le))
  left (suc j) n (suc count) le =
      let next = left j (suc n) count (omega (arith, le)) in
      let same : n + suc j ≡ suc n + j = omega arith in
      let less : suc count - suc j ≡ count - j = omega arith in
      record {
        more = λ e. ((next.more e).0 ∙ ap (λ c. slots_from stream a copies (suc n + j) c ++ end_mark stream ∷ []) (sym less) ∙ ap (λ b. slots_from stream a copies b (suc count - suc j) ++ end_mark stream ∷ []) (sym same), omega (arith, (next.more e).1, ap (λ b. (if b then 1 else 0) + slot_count a.epoch (take j (slots_from stream a copies (suc n) count ++ end_mark stream ∷ []))) (itself_eq a.epoch)));
        none = λ e. next.none e;
      }

slots_from-length : (stream : Stream) (a : Anchor) (copies : List (ℕ × Packet)) (n count : ℕ) → length (slots_from stream a copies n count) ≡ count
slots_from-length stream a copies n zero = refl
slots_from-length stream a copies n (suc count) = omega (arith, slots_from-length stream a copies (suc n) count)

-- the events before a history's close: its marks are theirs, and then those of the close
pub record IsClosedAt (stream : Stream) (open_at : ℤ) (events before : List Event) : Type 0 where
  pub well_timed : is_well_timed open_at before ≡ true
  pub open_yet : is_closed before ≡ false
  pub time : time_of open_at events ≡ time_of open_at before
  pub anchor : anchor_of stream open_at events ≡ anchor_of stream open_at before
  pub copies : copies_of stream open_at events ≡ copies_of stream open_at before
  pub marks : marks_of stream open_at events ≡ marks_of stream open_at before ++ (slots_at_close stream (copies_of stream open_at before) (anchor_of stream open_at before) (time_of open_at before) ++ end_mark stream ∷ [])

module _ (stream : Stream) (open_at : ℤ) where
  closed_either : (a b : Bool) → b ≡ false → (if a then true else b) ≡ true → a ≡ true
  closed_either true b e h = refl
  closed_either false b e h = sym e ∙ h

  pub closed_at : (events : List Event) → is_well_timed open_at events ≡ true → is_closed events ≡ true → IsClosedAt stream open_at events (events_until_close events)
  closed_at = by_last_event (λ events. is_well_timed open_at events ≡ true → is_closed events ≡ true → IsClosedAt stream open_at events (events_until_close events)) (λ _ e. cc) step
    where
      step : (events : List Event) (event : Event) → (is_well_timed open_at events ≡ true → is_closed events ≡ true → IsClosedAt stream open_at events (events_until_close events)) → is_well_timed open_at (events ++ event ∷ []) ≡ true → is_closed (events ++ event ∷ []) ≡ true → IsClosedAt stream open_at (events ++ event ∷ []) (events_until_close (events ++ event ∷ []))
      step events (Tick u) before well_timed shut =
          absurd (let o = (well_timed_tick open_at events u well_timed).open_yet in let c = closed_either (is_closed events) false refl (sym (is_closed-append events (Tick u ∷ [])) ∙ shut) in cc)
      step events (Arrive path packet) before well_timed shut =
          let was : is_closed events ≡ true = closed_either (is_closed events) false refl (sym (is_closed-append events (Arrive path packet ∷ [])) ∙ shut) in
          let b = before (well_timed_before open_at events (Arrive path packet) well_timed) was in
          let deaf : is_counting events ≡ false = rw was refl in
          let no_mark : marks_of stream open_at (events ++ Arrive path packet ∷ []) ≡ marks_of stream open_at events =
          marks_of-in stream open_at (events ++ Arrive path packet ∷ []) ∙ ap (λ c. marks_in stream open_at c (events ++ Arrive path packet ∷ [])) (deaf_copies_all stream open_at events deaf path packet) ∙ marks_in-push stream open_at (copies_of_all stream open_at events) events (Arrive path packet) ∙ append-nil _ ∙ sym (marks_of-in stream open_at events) in
          rw (events_until_close-closed events (Arrive path packet ∷ []) was) (record {
            well_timed = b.well_timed;
            open_yet = b.open_yet;
            time = time_of-append open_at events (Arrive path packet ∷ []) ∙ b.time;
            anchor = deaf_anchor stream open_at events deaf path packet ∙ b.anchor;
            copies = deaf_copies stream open_at events deaf path packet ∙ b.copies;
            marks = no_mark ∙ b.marks;
          })
      step events Close before well_timed shut = by_test (is_closed events) refl
        where
          by_test : (c : Bool) → is_closed events ≡ c → IsClosedAt stream open_at (events ++ Close ∷ []) (events_until_close (events ++ Close ∷ []))
          by_test false is = rw (events_until_close-close events [] is) (record {
            well_timed = well_timed_before open_at events Close well_timed;
            open_yet = is;
            time = time_of-append open_at events (Close ∷ []);
            anchor = anchor_of-close stream open_at events;
            copies = copies_of-close stream open_at events;
            marks = marks_of-close stream open_at events ∙ rw (is, copies_of-with stream open_at events);
          })
          by_test true is =
              let b = before (well_timed_before open_at events Close well_timed) is in
              rw (events_until_close-closed events (Close ∷ []) is) (record {
                well_timed = b.well_timed;
                open_yet = b.open_yet;
                time = time_of-append open_at events (Close ∷ []) ∙ b.time;
                anchor = anchor_of-close stream open_at events ∙ b.anchor;
                copies = copies_of-close stream open_at events ∙ b.copies;
                marks = marks_of-close stream open_at events ∙ (rw is (append-nil _)) ∙ b.marks;
              })

-- a merge that is closed
module _ (stream : Stream) (open_at : ℤ) (m : MergeState) (media : ℤ) (s : IsSound m media) (events : List Event) (k : ℕ) (at : HasHistory stream open_at m events k) (shut : m.closed ≡ true) where
  some_frames : 0 < stream.frames
  some_frames = rw at.spec at s.spec_ok.some_frames

  before : List Event
  before = events_until_close events

  closing : IsClosedAt stream open_at events (events_until_close events)
  closing = closed_at stream open_at events at.well_timed (sym at.closed ∙ shut)

  past : ℕ
  past = k - length (marks_of stream open_at (events_until_close events))

  k_is : k ≡ length (marks_of stream open_at (events_until_close events)) + (k - length (marks_of stream open_at (events_until_close events)))
  k_is = omega (arith, at.before_close)

  taken_is : take k (marks_of stream open_at events) ≡ marks_of stream open_at (events_until_close events) ++ take (k - length (marks_of stream open_at (events_until_close events))) (slots_at_close stream (copies_of stream open_at (events_until_close events)) (anchor_of stream open_at (events_until_close events)) (time_of open_at (events_until_close events)) ++ end_mark stream ∷ [])
  taken_is = ap (λ n. take n (marks_of stream open_at events)) k_is ∙ ap (take (length (marks_of stream open_at (events_until_close events)) + (k - length (marks_of stream open_at (events_until_close events))))) closing.marks ∙ take-append-add (marks_of stream open_at (events_until_close events)) (slots_at_close stream (copies_of stream open_at (events_until_close events)) (anchor_of stream open_at (events_until_close events)) (time_of open_at (events_until_close events)) ++ end_mark stream ∷ []) (k - length (marks_of stream open_at (events_until_close events)))

  dropped_is : drop k (marks_of stream open_at events) ≡ drop (k - length (marks_of stream open_at (events_until_close events))) (slots_at_close stream (copies_of stream open_at (events_until_close events)) (anchor_of stream open_at (events_until_close events)) (time_of open_at (events_until_close events)) ++ end_mark stream ∷ [])
  dropped_is = ap (λ n. drop n (marks_of stream open_at events)) k_is ∙ ap (drop (length (marks_of stream open_at (events_until_close events)) + (k - length (marks_of stream open_at (events_until_close events))))) closing.marks ∙ drop-append-add (marks_of stream open_at (events_until_close events)) (slots_at_close stream (copies_of stream open_at (events_until_close events)) (anchor_of stream open_at (events_until_close events)) (time_of open_at (events_until_close events)) ++ end_mark stream ∷ []) (k - length (marks_of stream open_at (events_until_close events)))

  -- the End was taken exactly if it is among the marks taken after the close
  ended_is : m.ended ≡ has_end (take (k - length (marks_of stream open_at (events_until_close events))) (slots_at_close stream (copies_of stream open_at (events_until_close events)) (anchor_of stream open_at (events_until_close events)) (time_of open_at (events_until_close events)) ++ end_mark stream ∷ []))
  ended_is =
      let none : has_end (marks_of stream open_at (events_until_close events)) ≡ false = rw (marks_of-in stream open_at (events_until_close events)) (no_end_yet stream open_at some_frames (copies_of_all stream open_at (events_until_close events)) (events_until_close events) closing.well_timed closing.open_yet) in
      at.ended ∙ ap has_end taken_is ∙ has_end-append (marks_of stream open_at (events_until_close events)) _ ∙ rw none

  length_is : length (marks_of stream open_at events) ≡ length (marks_of stream open_at (events_until_close events)) + length (slots_at_close stream (copies_of stream open_at (events_until_close events)) (anchor_of stream open_at (events_until_close events)) (time_of open_at (events_until_close events)) ++ end_mark stream ∷ [])
  length_is = ap length closing.marks ∙ length-append (marks_of stream open_at (events_until_close events)) _

  -- the marks that are left, if the stream is anchored
  module _ (a : Anchor) (is_a : m.anchor ≡ Some a) where
    anchor_is : anchor_of stream open_at (events_until_close events) ≡ Some a
    anchor_is = sym closing.anchor ∙ sym at.anchor ∙ is_a

    next : ℕ
    next = next_number stream a (time_of open_at (events_until_close events))

    count : ℕ
    count = end_of_copies (copies_of stream open_at (events_until_close events)) - next_number stream a (time_of open_at (events_until_close events))

    rest_is : (slots_at_close stream (copies_of stream open_at (events_until_close events)) (anchor_of stream open_at (events_until_close events)) (time_of open_at (events_until_close events)) ++ end_mark stream ∷ []) ≡ slots_from stream a (copies_of stream open_at (events_until_close events)) (next_number stream a (time_of open_at (events_until_close events))) (end_of_copies (copies_of stream open_at (events_until_close events)) - next_number stream a (time_of open_at (events_until_close events))) ++ end_mark stream ∷ []
    rest_is = rw anchor_is refl

    short : k - length (marks_of stream open_at (events_until_close events)) ≤ suc (end_of_copies (copies_of stream open_at (events_until_close events)) - next_number stream a (time_of open_at (events_until_close events)))
    short = omega (arith, at.given, at.before_close, length_is, ap length rest_is, length-append (slots_from stream a (copies_of stream open_at (events_until_close events)) (next_number stream a (time_of open_at (events_until_close events))) (end_of_copies (copies_of stream open_at (events_until_close events)) - next_number stream a (time_of open_at (events_until_close events)))) (end_mark stream ∷ []), slots_from-length stream a (copies_of stream open_at (events_until_close events)) (next_number stream a (time_of open_at (events_until_close events))) (end_of_copies (copies_of stream open_at (events_until_close events)) - next_number stream a (time_of open_at (events_until_close events))))

    here : IsLeft stream a (copies_of stream open_at (events_until_close events)) (k - length (marks_of stream open_at (events_until_close events))) (next_number stream a (time_of open_at (events_until_close events))) (end_of_copies (copies_of stream open_at (events_until_close events)) - next_number stream a (time_of open_at (events_until_close events)))
    here = left stream a (copies_of stream open_at (events_until_close events)) _ _ _ short

    counted : next_number stream a (time_of open_at (events_until_close events)) ≡ a.number + slot_count a.epoch (marks_of stream open_at (events_until_close events))
    counted = rw (anchor_is, ← marks_of-in stream open_at (events_until_close events)) at (slots_counted stream open_at some_frames (copies_of_all stream open_at (events_until_close events)) (events_until_close events) closing.well_timed closing.open_yet)

    base_is : m.ended ≡ false → m.base ≡ next_number stream a (time_of open_at (events_until_close events)) + (k - length (marks_of stream open_at (events_until_close events)))
    base_is unended =
        let based : m.base ≡ a.number + slot_count a.epoch (take k (marks_of stream open_at events)) = rw is_a at at.base in
        let split = ap (slot_count a.epoch) (taken_is ∙ ap (λ l. marks_of stream open_at (events_until_close events) ++ take (k - length (marks_of stream open_at (events_until_close events))) l) rest_is) in
        let more = (here.more (sym (ap (λ l. has_end (take (k - length (marks_of stream open_at (events_until_close events))) l)) rest_is) ∙ sym ended_is ∙ unended)).1 in
        omega (arith, based, split, counted, more, slot_count-append a.epoch (marks_of stream open_at (events_until_close events)) (take (k - length (marks_of stream open_at (events_until_close events))) (slots_from stream a (copies_of stream open_at (events_until_close events)) (next_number stream a (time_of open_at (events_until_close events))) (end_of_copies (copies_of stream open_at (events_until_close events)) - next_number stream a (time_of open_at (events_until_close events))) ++ end_mark stream ∷ [])))

    -- the slots from the base on, and the End
    pub left_is : m.ended ≡ false → drop k (marks_of stream open_at events) ≡ slots_from stream a (copies_of stream open_at events) m.base (end_of_copies (copies_of stream open_at events) - m.base) ++ end_mark stream ∷ []
    left_is unended =
        let based = base_is unended in
        let more = (here.more (sym (ap (λ l. has_end (take (k - length (marks_of stream open_at (events_until_close events))) l)) rest_is) ∙ sym ended_is ∙ unended)).0 in
        let fewer : (end_of_copies (copies_of stream open_at (events_until_close events)) - next_number stream a (time_of open_at (events_until_close events))) - (k - length (marks_of stream open_at (events_until_close events))) ≡ end_of_copies (copies_of stream open_at (events_until_close events)) - m.base = omega (arith, based) in
        dropped_is ∙ ap (drop (k - length (marks_of stream open_at (events_until_close events)))) rest_is ∙ more
        ∙ ap (λ c. slots_from stream a (copies_of stream open_at (events_until_close events)) (next_number stream a (time_of open_at (events_until_close events)) + (k - length (marks_of stream open_at (events_until_close events)))) c ++ end_mark stream ∷ []) fewer
        ∙ ap (λ b. slots_from stream a (copies_of stream open_at (events_until_close events)) b (end_of_copies (copies_of stream open_at (events_until_close events)) - m.base) ++ end_mark stream ∷ []) (sym based)
        ∙ ap (λ cs. slots_from stream a cs m.base (end_of_copies cs - m.base) ++ end_mark stream ∷ []) (sym closing.copies)

    pub none_left : m.ended ≡ true → drop k (marks_of stream open_at events) ≡ []
    none_left ended = dropped_is ∙ ap (drop (k - length (marks_of stream open_at (events_until_close events)))) rest_is ∙ here.none (sym (ap (λ l. has_end (take (k - length (marks_of stream open_at (events_until_close events))) l)) rest_is) ∙ sym ended_is ∙ ended)

  -- the mark that is left if the stream is not anchored: the End alone
  module _ (is_none : m.anchor ≡ None) where
    no_anchor_is : anchor_of stream open_at (events_until_close events) ≡ None
    no_anchor_is = sym closing.anchor ∙ sym at.anchor ∙ is_none

    end_alone : (slots_at_close stream (copies_of stream open_at (events_until_close events)) (anchor_of stream open_at (events_until_close events)) (time_of open_at (events_until_close events)) ++ end_mark stream ∷ []) ≡ end_mark stream ∷ []
    end_alone = rw no_anchor_is refl

    by_past : (j : ℕ) → j ≤ 1 → (e : Bool) → e ≡ has_end (take j (end_mark stream ∷ [])) → (e ≡ false → drop j (end_mark stream ∷ []) ≡ end_mark stream ∷ []) × (e ≡ true → drop j (end_mark stream ∷ []) ≡ [])
    by_past zero le e is = (λ h. refl, λ h. cc)
    by_past (suc zero) le e is = (λ h. cc, λ h. refl)
    by_past (suc (suc j)) le e is = absurd (omega (arith, le))

    parts : (m.ended ≡ false → drop (k - length (marks_of stream open_at (events_until_close events))) (end_mark stream ∷ []) ≡ end_mark stream ∷ []) × (m.ended ≡ true → drop (k - length (marks_of stream open_at (events_until_close events))) (end_mark stream ∷ []) ≡ [])
    parts = by_past (k - length (marks_of stream open_at (events_until_close events))) (omega (arith, at.given, at.before_close, length_is, ap length end_alone)) m.ended (ended_is ∙ ap (λ l. has_end (take (k - length (marks_of stream open_at (events_until_close events))) l)) end_alone)

    pub end_left : m.ended ≡ false → drop k (marks_of stream open_at events) ≡ end_mark stream ∷ []
    end_left unended = dropped_is ∙ ap (drop (k - length (marks_of stream open_at (events_until_close events)))) end_alone ∙ parts.0 unended

    pub none_left_alone : m.ended ≡ true → drop k (marks_of stream open_at events) ≡ []
    none_left_alone ended = dropped_is ∙ ap (drop (k - length (marks_of stream open_at (events_until_close events)))) end_alone ∙ parts.1 ended

  first_is : (n : ℕ) → m.base ≤ n → get m.held n ≡ first_copy stream open_at events n
  first_is n le = let past : nat_lt n m.base ≡ false = grind (arith, nat_tests, le) in at.held n ∙ rw past refl

  -- the next mark is the slot of the base, if a packet is held there or later
  pub slot_next : (a : Anchor) → m.anchor ≡ Some a → m.ended ≡ false → HoldsMore m → (rest : List MarkView) × (drop k (marks_of stream open_at events) ≡ slot_mark m.spec a m.base (body_of (get m.held m.base)) ∷ rest)
  slot_next a is_a unended holds =
      let last_is : first_copy stream open_at events holds.last ≡ get m.held holds.last = sym (first_is holds.last holds.from_base) in
      let more : holds.last < end_of_copies (copies_of stream open_at events) = first_with-below holds.last (copies_of stream open_at events) (subst IsSome (sym last_is) holds.is_held) in
      let count : end_of_copies (copies_of stream open_at events) - m.base ≡ suc (end_of_copies (copies_of stream open_at events) - suc m.base) = omega (arith, more, holds.from_base) in (
        slots_from stream a (copies_of stream open_at events) (suc m.base) (end_of_copies (copies_of stream open_at events) - suc m.base) ++ end_mark stream ∷ [],
        left_is a is_a unended
            ∙ ap (λ c. slots_from stream a (copies_of stream open_at events) m.base c ++ end_mark stream ∷ []) count
            ∙ ap (λ sp. slot_mark sp a m.base (body_of (first_copy stream open_at events m.base)) ∷ slots_from stream a (copies_of stream open_at events) (suc m.base) (end_of_copies (copies_of stream open_at events) - suc m.base) ++ end_mark stream ∷ []) (sym at.spec)
            ∙ ap (λ o. slot_mark m.spec a m.base (body_of o) ∷ slots_from stream a (copies_of stream open_at events) (suc m.base) (end_of_copies (copies_of stream open_at events) - suc m.base) ++ end_mark stream ∷ []) (sym (first_is m.base (omega arith))),
      )

  -- the next mark is the End, if no packet is held
  pub end_next : m.ended ≡ false → (e : ℕ) → e ≤ m.base → ((n : ℕ) → IsSome (get m.held n) → n < e) → drop k (marks_of stream open_at events) ≡ end_mark stream ∷ []
  end_next unended e high past_all = by_anchor m.anchor refl
    where
      by_anchor : (o : Option Anchor) → m.anchor ≡ o → drop k (marks_of stream open_at events) ≡ end_mark stream ∷ []
      by_anchor None is = end_left is unended
      by_anchor (Some a) is =
          let none : end_of_copies (copies_of stream open_at events) - m.base ≡ 0 = ⊎_elim
          (λ lt.
          let last : suc (end_of_copies (copies_of stream open_at events) - 1) ≡ end_of_copies (copies_of stream open_at events) = omega (arith, lt) in
          let high_n : m.base ≤ end_of_copies (copies_of stream open_at events) - 1 = omega (arith, lt) in
          let held : IsSome (get m.held (end_of_copies (copies_of stream open_at events) - 1)) = subst IsSome (sym (first_is (end_of_copies (copies_of stream open_at events) - 1) high_n)) (first_with-last (end_of_copies (copies_of stream open_at events) - 1) (copies_of stream open_at events) last) in
          absurd (omega (arith, past_all (end_of_copies (copies_of stream open_at events) - 1) held, high, high_n)))
          (λ ge. omega (arith, ge))
          (cases_lt m.base (end_of_copies (copies_of stream open_at events))) in
          left_is a is unended ∙ ap (λ c. slots_from stream a (copies_of stream open_at events) m.base c ++ end_mark stream ∷ []) none

  pub nothing_next : m.ended ≡ true → drop k (marks_of stream open_at events) ≡ []
  nothing_next ended = by_anchor m.anchor refl
    where
      by_anchor : (o : Option Anchor) → m.anchor ≡ o → drop k (marks_of stream open_at events) ≡ []
      by_anchor None is = none_left_alone is ended
      by_anchor (Some a) is = none_left a is ended

  shut_now : is_closed events ≡ true
  shut_now = sym at.closed ∙ shut

  -- the mark of a drain
  pub drains_slot : (new : MergeState) (a : Anchor) → m.anchor ≡ Some a → m.ended ≡ false → HoldsMore m → IsLeftStep m new → Drains stream open_at new events k (Some (slot_mark m.spec a m.base (body_of (get m.held m.base))))
  drains_slot new a is_a unended holds step =
      let next = slot_next a is_a unended holds in
      let one = one_more_taken k (marks_of stream open_at events) (slot_mark m.spec a m.base (body_of (get m.held m.base))) next.0 next.1 in
      record {
        given = sym (ap (take 1) next.1);
        stands = record {
          spec = ap (λ (s : MergeState). s.spec) step.changed ∙ at.spec;
          well_timed = at.well_timed;
          time = ap (λ (s : MergeState). s.time) step.changed ∙ at.time;
          anchor = ap (λ (s : MergeState). s.anchor) step.changed ∙ at.anchor;
          closed = ap (λ (s : MergeState). s.closed) step.changed ∙ at.closed;
          counts = ap (λ (s : MergeState). s.counts) step.changed ∙ ap (λ t. with_body t (body_of (get m.held m.base))) at.counts ∙ sym (tally-slot (fates_of stream open_at events) (take k (marks_of stream open_at events)) (slot_mark m.spec a m.base (body_of (get m.held m.base))) (body_of (get m.held m.base)) refl refl) ∙ rw one.0 refl;
          given = one.1;
          all_given = λ o. absurd (let c = shut_now in cc);
          before_close = omega (arith, at.before_close);
          base = rw (one.0, ap (λ (s : MergeState). s.anchor) step.changed, is_a)
              (let based : m.base ≡ a.number + slot_count a.epoch (take k (marks_of stream open_at events)) = rw is_a at at.base in
              omega (arith, ap (λ (s : MergeState). s.base) step.changed, based, ap (λ b. (if b then 1 else 0) + 0) (itself_eq a.epoch), slot_count-append a.epoch (take k (marks_of stream open_at events)) (slot_mark m.spec a m.base (body_of (get m.held m.base)) ∷ [])));
          held = λ n. step.held n ∙ without n m.base (first_copy stream open_at events n) (get m.held n) (at.held n) ∙ rw (ap (λ (s : MergeState). s.base) step.changed);
          probation = λ path few. rw (ap (λ (s : MergeState). s.probations) step.changed) (at.probation path few);
          tracks = λ path few. rw (ap (λ (s : MergeState). s.tracks) step.changed) (at.tracks path few);
          quiet = ap (λ (s : MergeState). s.quiet) step.changed ∙ at.quiet ∙ rw (one.0, last_quiet_or-append (open_at -ℤ pos stream.latency) (take k (marks_of stream open_at events)) (slot_mark m.spec a m.base (body_of (get m.held m.base)) ∷ []));
          ended = ap (λ (s : MergeState). s.ended) step.changed ∙ at.ended ∙ rw (one.0, has_end-append (take k (marks_of stream open_at events)) (slot_mark m.spec a m.base (body_of (get m.held m.base)) ∷ []), or_none);
        };
      }

  pub drains_end : m.ended ≡ false → (e : ℕ) → e ≤ m.base → ((n : ℕ) → IsSome (get m.held n) → n < e) → Drains stream open_at (record m { ended = true }) events k (Some (end_mark stream))
  drains_end unended e high past_all =
      let next = end_next unended e high past_all in
      let one = one_more_taken k (marks_of stream open_at events) (end_mark stream) [] next in
      record {
        given = sym (ap (take 1) next);
        stands = record {
          spec = at.spec;
          well_timed = at.well_timed;
          time = at.time;
          anchor = at.anchor;
          closed = at.closed;
          counts = at.counts ∙ sym (tally-other (fates_of stream open_at events) (take k (marks_of stream open_at events)) (end_mark stream) refl refl) ∙ rw one.0 refl;
          given = one.1;
          all_given = λ o. absurd (let c = shut_now in cc);
          before_close = omega (arith, at.before_close);
          base = rw one.0 (base_more m.anchor m.base (take k (marks_of stream open_at events)) (end_mark stream ∷ []) (λ epoch. refl) at.base);
          held = at.held;
          probation = at.probation;
          tracks = at.tracks;
          quiet = at.quiet ∙ rw (one.0, last_quiet_or-append (open_at -ℤ pos stream.latency) (take k (marks_of stream open_at events)) (end_mark stream ∷ []));
          ended = sym (ap has_end one.0 ∙ has_end-append (take k (marks_of stream open_at events)) (end_mark stream ∷ []) ∙ or_true (has_end (take k (marks_of stream open_at events))));
        };
      }
    where
      or_true : (b : Bool) → (b || true) ≡ true
      or_true false = refl
      or_true true = refl

  pub drains_none : m.ended ≡ true → Drains stream open_at m events k None
  drains_none ended = record { stands = subst (λ n. HasHistory stream open_at m events n) (omega arith) at; given = sym (ap (take 1) (nothing_next ended)) }

-- before a close nothing is left
pub drains_open : (stream : Stream) (open_at : ℤ) (m : MergeState) (events : List Event) (k : ℕ) → HasHistory stream open_at m events k → m.closed ≡ false → Drains stream open_at m events k None
drains_open stream open_at m events k at open_yet =
    let same : k ≡ k + 0 = omega arith in
    record { stands = subst (λ n. HasHistory stream open_at m events n) same at; given = sym (ap (take 1) (drop_all (marks_of stream open_at events) k (at.all_given (sym at.closed ∙ open_yet)))) }
  where
    drop_all : (xs : List MarkView) (k : ℕ) → k ≡ length xs → drop k xs ≡ []
    drop_all [] k e = rw e refl
    drop_all (x ∷ xs) k e = rw e (drop_all xs (length xs) refl)

-- the end of a merge of this stream
pub end_mark_is : (stream : Stream) (open_at : ℤ) (new : MergeState) (events : List Event) (k : ℕ) (spec : Stream) → spec ≡ stream → Drains stream open_at new events k (Some (end_mark stream)) → Drains stream open_at new events k (Some (end_mark spec))
end_mark_is stream open_at new events k spec same drains = rw same drains
