-- Over epochs in which a sender's numbers go on, the numbers that are heard rise.
use Rattle.std.proofs.Common.{◌≡◌, ℕ, zero, suc, ◌+◌, ◌-◌, ◌<◌, ◌≤◌, Bool, true, false, not, ◌&&◌, ◌||◌, List, [], ◌∷◌, ◌++◌, length, take, Option, Some, None, ℤ, pos, ◌+ℤ◌, ◌-ℤ◌, ◌≤ℤ◌, refl, sym, ap, subst, ◌∙◌, arith, append-nil, length-append, if◌then◌else◌, unsigned_abs}
use Rattle.std.specs.Prelude.{IsSome, nat_eq}
use Rattle.std.proofs.lemmas.Bool.Decides.{nat_tests}
use Rattle.std.proofs.lemmas.Int.{ints}
use Rattle.std.proofs.lemmas.List.{take-append-le}
use Rattle.std.proofs.Math.Seq.{take-append_seam}
use Rattle.path_merge.proofs.AnchorLemmas.{AllWithin, all_within, has_epochs}
use Rattle.path_merge.proofs.CopiesLemmas.{first_with-below}
use Rattle.path_merge.proofs.EndLemmas.{IsOpener, Reopens, by_opener, few_before}
use Rattle.path_merge.proofs.EpochLemmas.{anchor_is, copies_of-since, no_anchors, since_of}
use Rattle.path_merge.proofs.HistoryLemmas.{anchors_of-push, by_last_event, copies_in-append, copies_of-with, copies_of_all-push}
use Rattle.path_merge.proofs.MarkGrowthLemmas.{limit_of}
use Rattle.path_merge.proofs.PastLemmas.{IsPast, begins_past}
use Rattle.path_merge.proofs.SpanLemmas.{spanned}
use Rattle.rtp_stream.proofs.ProbationLemmas.{last_of-some}
use Rattle.rtp_stream.specs.Anchor.{next_number}
use Rattle.rtp_stream.specs.Copies.{copies_at, copies_in, copies_of_all, copies_with, with_epoch}
use Rattle.rtp_stream.specs.EpochLaws.{AllSlotsAmong, HasSpans, IsSlotAmong, IsSlotUnder, anchor_with, epochs_in, spans_of}
use Rattle.rtp_stream.specs.Epochs.{anchor_in, anchor_of, anchors_at, anchors_of, can_restart, copies_since, last_of, width_in_force}
use Rattle.rtp_stream.specs.Grid.{copies_under, end_of_copies, extended_number, first_with, of_width, is_on_grid}
use Rattle.rtp_stream.specs.History.{is_counting, is_well_timed, time_of}
use Rattle.rtp_stream.specs.Laws.{names_from, names_in, numbers_from, slot_names}
use Rattle.rtp_stream.specs.MarkFacts.{MarkView}
use Rattle.rtp_stream.specs.Marks.{body_of, marks_of, span_end}
use Rattle.rtp_stream.specs.Nearest.{nearest_number}
use Rattle.rtp_stream.specs.Probation.{is_off}
use Rattle.path_merge.specs.HeardOnce.{AllGoOn, GoOn, HasFewPaths, RisesFrom, due_at, goes_on, heard_among, heard_in, number_before, number_heard, numbers_heard, shift_among, shift_from}
use Rattle.rtp_stream.specs.declared.stream_spec.Stream.{Stream}
use Rattle.rtp_stream.specs.declared.anchor.Anchor.{Anchor}
use Rattle.rtp_stream.specs.declared.event.Event.{Event}
use Rattle.rtp_stream.specs.declared.event.Event.TheVariants.{Arrive, Close, Tick}
use Rattle.rtp_stream.specs.declared.mark.Body.{Body}
use Rattle.rtp_stream.specs.declared.mark.Body.TheVariants.{Got, Lost}
use Rattle.rtp_stream.specs.declared.mark.MarkKind.{MarkKind}
use Rattle.rtp_stream.specs.declared.mark.MarkKind.TheVariants.{End, Quiet, Slot}
use Rattle.rtp_stream.specs.declared.packet.Packet.{Packet}

-- the parts of two equal lists
pub head_same : {A : Type 0} {x y : A} {xs ys : List A} → (x ∷ xs) ≡ (y ∷ ys) → x ≡ y
head_same e = cc

pub tail_same : {A : Type 0} {x y : A} {xs ys : List A} → (x ∷ xs) ≡ (y ∷ ys) → xs ≡ ys
tail_same e = cc

first_same : {a b c d : ℕ} → ◌≡◌ {A = ℕ × ℕ} (a, b) (c, d) → a ≡ c
first_same e = ap (λ (x : ℕ × ℕ). x.0) e

second_same : {a b c d : ℕ} → ◌≡◌ {A = ℕ × ℕ} (a, b) (c, d) → b ≡ d
second_same e = ap (λ (x : ℕ × ℕ). x.1) e

-- copies of an epoch have its tag alone
other_tags : (z : Anchor) (copies : List (ℕ × Packet)) (epoch : ℕ) → nat_eq z.epoch epoch ≡ false → copies_in epoch (with_epoch (Some z) copies) ≡ []
other_tags z [] epoch other = refl
other_tags z (x ∷ xs) epoch other = rw other (other_tags z xs epoch other)

-- a packet that continues the numbers of an epoch is in step with it
on_both : (x y : Bool) → (x && y) ≡ true → (not x || not y) ≡ false
on_both true true e = refl
on_both true false e = cc
on_both false y e = cc

pub same_number : (b : Anchor) (packet : Packet) (next : ℕ) → b.number ≡ 65536 + packet.seq → number_before b next ≡ extended_number packet next
same_number b packet next is =
    let low : b.number - 65536 ≡ packet.seq = omega (arith, is) in
    ap (λ s. unsigned_abs (nearest_number 32768 s (pos next))) low

module _ (stream : Stream) (open_at : ℤ) (some : 0 < stream.frames) where
  pub in_step : (a b : Anchor) (next : ℕ) (packet : Packet) → b.number ≡ 65536 + packet.seq → b.timestamp ≡ packet.ts → b.source ≡ packet.ssrc → goes_on stream a next b ≡ true → is_off stream a next packet ≡ false
  in_step a b next packet number stamp source go =
      on_both (nat_eq packet.ssrc a.source) (is_on_grid stream a (extended_number packet next) packet.ts)
      (sym (ap (λ s. nat_eq s a.source && is_on_grid stream a (number_before b next) b.timestamp) source
      ∙ ap (λ n. nat_eq packet.ssrc a.source && is_on_grid stream a n b.timestamp) (same_number b packet next number)
      ∙ ap (λ t. nat_eq packet.ssrc a.source && is_on_grid stream a (extended_number packet next) t) stamp)
      ∙ go)

  -- each later epoch begins past all that was heard in the epoch before, if the sender's numbers go on
  abbrev pub PastFrom : List Event → Anchor → List (ℕ × Anchor) → Type 0
  PastFrom events a [] = Unit {0}
  PastFrom events a ((place, b) ∷ later) =
      (goes_on stream a (due_at stream open_at events a place) b ≡ true → IsPast a (copies_in a.epoch (copies_of_all stream open_at events)) (number_before b (due_at stream open_at events a place)))
      × PastFrom events b later

  abbrev pub PastAmong : List Event → List (ℕ × Anchor) → Type 0
  PastAmong events [] = Unit {0}
  PastAmong events ((place, a) ∷ later) = PastFrom events a later

  module _ (events : List Event) (event : Event) where
    -- one more event adds no copy to an epoch before the one in force after it
    kept_copies : (epoch : ℕ) → suc (suc epoch) ≤ limit_of stream (anchor_of stream open_at (events ++ event ∷ [])) → copies_in epoch (copies_of_all stream open_at (events ++ event ∷ [])) ≡ copies_in epoch (copies_of_all stream open_at events)
    kept_copies epoch earlier =
        ap (copies_in epoch) (copies_of_all-push stream open_at events event)
        ∙ copies_in-append epoch (copies_of_all stream open_at events) (copies_at stream open_at events event)
        ∙ ap (λ l. copies_in epoch (copies_of_all stream open_at events) ++ l) (none event earlier)
        ∙ append-nil (copies_in epoch (copies_of_all stream open_at events))
      where
        by_anchor : (o : Option Anchor) (copies : List (ℕ × Packet)) → suc (suc epoch) ≤ limit_of stream o → copies_in epoch (with_epoch o copies) ≡ []
        by_anchor None copies le = refl
        by_anchor (Some z) copies le =
            let other : nat_eq z.epoch epoch ≡ false = grind (arith, nat_tests, le) in
            other_tags z copies epoch other

        none : (event : Event) → suc (suc epoch) ≤ limit_of stream (anchor_of stream open_at (events ++ event ∷ [])) → copies_in epoch (copies_at stream open_at events event) ≡ []
        none (Tick u) le = refl
        none Close le = refl
        none (Arrive path packet) le = by_anchor (anchor_of stream open_at (events ++ Arrive path packet ∷ [])) (copies_under (of_width stream (width_in_force stream open_at (last_of (anchors_of stream open_at (events ++ Arrive path packet ∷ []))) events)) (time_of open_at events) (is_counting events) (anchor_of stream open_at (events ++ Arrive path packet ∷ [])) packet) le

    pub due_stays : (a : Anchor) (place : ℕ) → place ≤ length events → due_at stream open_at (events ++ event ∷ []) a place ≡ due_at stream open_at events a place
    due_stays a place le = ap (λ l. next_number stream a (time_of open_at l)) (take-append-le place events (event ∷ []) le)

    past_stays : (i : ℕ) (a : Anchor) (later : List (ℕ × Anchor)) → a.epoch ∷ epochs_in later ≡ numbers_from i (suc (length later)) → i + suc (length later) ≤ limit_of stream (anchor_of stream open_at (events ++ event ∷ [])) → AllWithin (length events) later → PastFrom events a later → PastFrom (events ++ event ∷ []) a later
    past_stays i a [] epochs short within past = tt
    past_stays i a ((place, b) ∷ later) epochs short within past =
        let is : a.epoch ≡ i = head_same epochs in
        let copies = kept_copies a.epoch (omega (arith, is, short)) in
        let due = due_stays a place within.0 in (
          (λ go.
              subst (λ n. IsPast a (copies_in a.epoch (copies_of_all stream open_at (events ++ event ∷ []))) (number_before b n)) (sym due)
              (subst (λ l. IsPast a l (number_before b (due_at stream open_at events a place))) (sym copies)
              (past.0 (subst (λ n. goes_on stream a n b ≡ true) due go)))),
          past_stays (suc i) b later (tail_same epochs) (omega (arith, short)) within.1 past.1,
        )

    among_stays : (anchors : List (ℕ × Anchor)) → epochs_in anchors ≡ numbers_from 0 (length anchors) → length anchors ≤ limit_of stream (anchor_of stream open_at (events ++ event ∷ [])) → AllWithin (length events) anchors → PastAmong events anchors → PastAmong (events ++ event ∷ []) anchors
    among_stays [] epochs short within past = tt
    among_stays ((place, a) ∷ later) epochs short within past = past_stays 0 a later epochs (omega (arith, short)) within.1 past

    limit_is : limit_of stream (anchor_of stream open_at (events ++ event ∷ [])) ≡ length (anchors_of stream open_at (events ++ event ∷ []))
    limit_is = ap (limit_of stream) (anchor_is stream open_at (events ++ event ∷ [])) ∙ (has_epochs stream open_at some (events ++ event ∷ [])).count

    longer : length (anchors_of stream open_at (events ++ event ∷ [])) ≡ length (anchors_of stream open_at events) + length (anchors_at stream open_at (anchors_of stream open_at events) events event)
    longer = ap length (anchors_of-push stream open_at events event) ∙ length-append (anchors_of stream open_at events) (anchors_at stream open_at (anchors_of stream open_at events) events event)

    was_past : PastAmong events (anchors_of stream open_at events) → PastAmong (events ++ event ∷ []) (anchors_of stream open_at events)
    was_past past = among_stays (anchors_of stream open_at events) (has_epochs stream open_at some events).epochs (omega (arith, limit_is, longer)) (all_within stream open_at some events) past

  -- one more anchor after the last
  past_push : (events : List Event) (place : ℕ) (a : Anchor) (later : List (ℕ × Anchor)) (n : ℕ) (b : Anchor) (q : ℕ) (l : Anchor) → last_of ((place, a) ∷ later) ≡ Some (q, l)
      → (goes_on stream l (due_at stream open_at events l n) b ≡ true → IsPast l (copies_in l.epoch (copies_of_all stream open_at events)) (number_before b (due_at stream open_at events l n)))
      → PastFrom events a later → PastFrom events a (later ++ (n, b) ∷ [])
  past_push events place a [] n b q l last more past = (subst (λ x. goes_on stream x (due_at stream open_at events x n) b ≡ true → IsPast x (copies_in x.epoch (copies_of_all stream open_at events)) (number_before b (due_at stream open_at events x n))) (sym (same last)) more, tt)
    where
      inside : {x y : ℕ × Anchor} → Some x ≡ Some y → x ≡ y
      inside e = cc

      same : ◌≡◌ {A = Option (ℕ × Anchor)} (Some (place, a)) (Some (q, l)) → a ≡ l
      same e = ap (λ (x : ℕ × Anchor). x.1) (inside e)
  past_push events place a ((p, c) ∷ later) n b q l last more past = (past.0, past_push events p c later n b q l last more past.1)

  -- the anchor that an arrival makes
  one_past : (events : List Event) (path : ℕ) (packet : Packet) (b : Anchor) → HasFewPaths events → IsOpener stream open_at some events path packet (last_of (anchors_of stream open_at events)) b → anchors_at stream open_at (anchors_of stream open_at events) events (Arrive path packet) ≡ (length events, b) ∷ [] → PastAmong (events ++ Arrive path packet ∷ []) (anchors_of stream open_at events) → PastAmong (events ++ Arrive path packet ∷ []) (anchors_of stream open_at events ++ (length events, b) ∷ [])
  one_past events path packet b few made alone past = by_anchors (anchors_of stream open_at events) refl past
    where
      pair : (q : ℕ) (l : Anchor) → last_of (anchors_of stream open_at events) ≡ Some (q, l) → goes_on stream l (due_at stream open_at (events ++ Arrive path packet ∷ []) l (length events)) b ≡ true → IsPast l (copies_in l.epoch (copies_of_all stream open_at (events ++ Arrive path packet ∷ []))) (number_before b (due_at stream open_at (events ++ Arrive path packet ∷ []) l (length events)))
      pair q l last go =
          let due : due_at stream open_at (events ++ Arrive path packet ∷ []) l (length events) ≡ next_number stream l (time_of open_at events) = ap (λ x. next_number stream l (time_of open_at x)) (take-append_seam events (Arrive path packet ∷ [])) in
          let count : l.epoch + 1 ≡ length (anchors_of stream open_at events) = sym (ap (λ o. limit_of stream (anchor_in o)) last) ∙ (has_epochs stream open_at some events).count in
          let kept = kept_copies events (Arrive path packet) l.epoch (omega (arith, count, limit_is events (Arrive path packet), longer events (Arrive path packet), ap length alone)) in
          let anchor : anchor_of stream open_at events ≡ Some l = anchor_is stream open_at events ∙ ap anchor_in last in
          let copies : copies_in l.epoch (copies_of_all stream open_at (events ++ Arrive path packet ∷ [])) ≡ copies_since stream open_at q l events = kept ∙ ap (λ o. copies_with o (copies_of_all stream open_at events)) (sym anchor) ∙ copies_of-with stream open_at events ∙ copies_of-since stream open_at events ∙ ap (λ o. since_of stream open_at o events) last in
          let on : is_off stream l (next_number stream l (time_of open_at events)) packet ≡ false = in_step l b (next_number stream l (time_of open_at events)) packet made.number made.stamp made.source (subst (λ n. goes_on stream l n b ≡ true) due go) in
          let can : can_restart stream open_at q l events path packet ≡ true = subst (Reopens stream open_at some events path packet) last made.reopens in
          subst (λ n. IsPast l (copies_in l.epoch (copies_of_all stream open_at (events ++ Arrive path packet ∷ []))) (number_before b n)) (sym due)
          (subst (IsPast l (copies_in l.epoch (copies_of_all stream open_at (events ++ Arrive path packet ∷ [])))) (sym (same_number b packet (next_number stream l (time_of open_at events)) made.number))
          (subst (λ c. IsPast l c (extended_number packet (next_number stream l (time_of open_at events)))) (sym copies)
          (begins_past stream open_at some events path packet q l last few made.counts can on)))

      by_last : (place : ℕ) (a : Anchor) (later : List (ℕ × Anchor)) → anchors_of stream open_at events ≡ (place, a) ∷ later → (o : Option (ℕ × Anchor)) → last_of ((place, a) ∷ later) ≡ o → PastFrom (events ++ Arrive path packet ∷ []) a later → PastFrom (events ++ Arrive path packet ∷ []) a (later ++ (length events, b) ∷ [])
      by_last place a later is None last past = absurd (let found = last_of-some (place, a) later in cc)
      by_last place a later is (Some (q, l)) last past = past_push (events ++ Arrive path packet ∷ []) place a later (length events) b q l last (pair q l (ap last_of is ∙ last)) past

      by_anchors : (anchors : List (ℕ × Anchor)) → anchors_of stream open_at events ≡ anchors → PastAmong (events ++ Arrive path packet ∷ []) anchors → PastAmong (events ++ Arrive path packet ∷ []) (anchors ++ (length events, b) ∷ [])
      by_anchors [] is past = tt
      by_anchors ((place, a) ∷ later) is past = by_last place a later is (last_of ((place, a) ∷ later)) refl past

  pub all_past : (events : List Event) → HasFewPaths events → PastAmong events (anchors_of stream open_at events)
  all_past = by_last_event (λ events. HasFewPaths events → PastAmong events (anchors_of stream open_at events)) (λ few. rw (no_anchors stream open_at) tt) step
    where
      step : (events : List Event) (event : Event) → (HasFewPaths events → PastAmong events (anchors_of stream open_at events)) → HasFewPaths (events ++ event ∷ []) → PastAmong (events ++ event ∷ []) (anchors_of stream open_at (events ++ event ∷ []))
      step events (Tick u) before few = subst (PastAmong (events ++ Tick u ∷ [])) (sym (anchors_of-push stream open_at events (Tick u) ∙ append-nil (anchors_of stream open_at events))) (was_past events (Tick u) (before (few_before events (Tick u) few)))
      step events Close before few = subst (PastAmong (events ++ Close ∷ [])) (sym (anchors_of-push stream open_at events Close ∙ append-nil (anchors_of stream open_at events))) (was_past events Close (before (few_before events Close few)))
      step events (Arrive path packet) before few =
          let was = was_past events (Arrive path packet) (before (few_before events (Arrive path packet) few)) in
          subst (PastAmong (events ++ Arrive path packet ∷ [])) (sym (anchors_of-push stream open_at events (Arrive path packet)))
          (by_opener stream open_at some events path packet (λ made. anchors_at stream open_at (anchors_of stream open_at events) events (Arrive path packet) ≡ made → PastAmong (events ++ Arrive path packet ∷ []) (anchors_of stream open_at events ++ made))
          (λ alone. subst (PastAmong (events ++ Arrive path packet ∷ [])) (sym (append-nil (anchors_of stream open_at events))) was)
          (λ b made alone. one_past events path packet b (few_before events (Arrive path packet) few) made alone was)
          refl)

  -- the slots of a history, mark by mark
  module _ (events : List Event) (shift : ℕ → ℤ) where
    -- at this number of an anchor's epoch, all numbers that were heard so far are below this limit
    record IsAt (limit : ℤ) (a : Anchor) (later : List (ℕ × Anchor)) (n : ℕ) (far : ℤ) : Type 0 where
      shifts : (epoch : ℕ) → a.epoch ≤ epoch → shift epoch ≡ shift_from stream open_at events epoch far a later
      epochs : a.epoch ∷ epochs_in later ≡ numbers_from a.epoch (suc (length later))
      go : AllGoOn stream open_at events a later
      past : PastFrom events a later
      low : limit ≤ℤ (pos n +ℤ far)
      high : (m : ℕ) → a.number ≤ m → end_of_copies (copies_in a.epoch (copies_of_all stream open_at events)) ≤ m → limit ≤ℤ (pos m +ℤ far)

    -- to the next epoch
    next_at : (limit : ℤ) (a : Anchor) (place : ℕ) (b : Anchor) (later : List (ℕ × Anchor)) (n : ℕ) (far : ℤ) → IsAt limit a ((place, b) ∷ later) n far → IsAt limit b later b.number (far +ℤ (pos (number_before b (due_at stream open_at events a place)) -ℤ pos b.number))
    next_at limit a place b later n far at =
        let begins = at.past.0 at.go.0 in
        let up : b.epoch ≡ suc a.epoch = head_same (tail_same at.epochs) in
        let before = at.high (number_before b (due_at stream open_at events a place)) begins.from_anchor begins.past in
        record {
          shifts = λ epoch le.
              let other : nat_eq a.epoch epoch ≡ false = grind (arith, nat_tests, le, up) in
              at.shifts epoch (omega (arith, le, up)) ∙ ap (λ t. if t then far else shift_from stream open_at events epoch (far +ℤ (pos (number_before b (due_at stream open_at events a place)) -ℤ pos b.number)) b later) other;
          epochs = tail_same at.epochs ∙ ap (λ e. numbers_from e (suc (length later))) (sym up);
          go = at.go.1;
          past = at.past.1;
          low = omega (arith, ints, before);
          high = λ m le _. omega (arith, ints, before, le);
        }

    -- the spans of an anchor's epoch, and of those after it
    spans_split : (place : ℕ) (b : Anchor) (later : List (ℕ × Anchor)) → (count : ℕ) × (spans_of stream open_at events ((place, b) ∷ later) ≡ names_from b.epoch b.number count ++ spans_of stream open_at events later)
    spans_split place b [] = (span_end stream open_at events b - b.number, sym (append-nil (names_from b.epoch b.number (span_end stream open_at events b - b.number))))
    spans_split place b ((p, c) ∷ later) = (next_number stream b (time_of open_at (take p events)) - b.number, refl)

    -- to the span of the first of these slots
    skip : (later : List (ℕ × Anchor)) (limit : ℤ) (a : Anchor) (n count : ℕ) (far : ℤ) (name : ℕ × ℕ) (names : List (ℕ × ℕ)) → IsAt limit a later n far → name ∷ names ≡ names_from a.epoch n count ++ spans_of stream open_at events later
        → (R : Type 0) → ((b : Anchor) (after : List (ℕ × Anchor)) (m c : ℕ) (far' : ℤ) → IsAt limit b after m far' → name ∷ names ≡ (b.epoch, m) ∷ (names_from b.epoch (suc m) c ++ spans_of stream open_at events after) → R) → R
    skip [] limit a n zero far name names at is R on = absurd cc
    skip [] limit a n (suc c) far name names at is R on = on a [] n c far at is
    skip ((place, b) ∷ later) limit a n zero far name names at is R on =
        let split = spans_split place b later in
        skip later limit b b.number split.0 (far +ℤ (pos (number_before b (due_at stream open_at events a place)) -ℤ pos b.number)) name names (next_at limit a place b later n far at) (is ∙ split.1) R on
    skip ((place, b) ∷ later) limit a n (suc c) far name names at is R on = on a ((place, b) ∷ later) n c far at is

    abbrev Walks : List MarkView → Type 0
    Walks marks = (limit : ℤ) (a : Anchor) (later : List (ℕ × Anchor)) (n count : ℕ) (far : ℤ) → IsAt limit a later n far → slot_names marks ≡ names_from a.epoch n count ++ spans_of stream open_at events later → AllSlotsAmong stream (anchors_of stream open_at events) (copies_of_all stream open_at events) marks → RisesFrom limit (heard_among shift marks)

    shift_own : (epoch : ℕ) (far : ℤ) (a : Anchor) (later : List (ℕ × Anchor)) → epoch ≡ a.epoch → shift_from stream open_at events epoch far a later ≡ far
    shift_own epoch far a [] is = refl
    shift_own epoch far a ((place, b) ∷ later) is = let own : nat_eq a.epoch epoch ≡ true = grind (arith, nat_tests, is) in rw own refl

    -- a slot with a payload has a copy
    has_copy : (o : Option Anchor) (copies : List (ℕ × Packet)) (m : ℕ) (media : ℤ) (payload : _) → IsSlotUnder stream o copies m media (Got payload) → m < end_of_copies copies
    has_copy None copies m media payload slot = absurd slot
    has_copy (Some a) copies m media payload slot = first_with-below m copies (is_got (first_with m copies) slot.1)
      where
        is_got : (o : Option Packet) → Got payload ≡ body_of o → IsSome o
        is_got None e = cc
        is_got (Some packet) e = refl

    -- one more slot
    by_body : (marks : List MarkView) → Walks marks → (limit : ℤ) (e m : ℕ) (media : ℤ) (body : Body) (b : Anchor) (after : List (ℕ × Anchor)) (n c : ℕ) (far : ℤ) → IsAt limit b after n far → e ≡ b.epoch → m ≡ n → slot_names marks ≡ names_from b.epoch (suc n) c ++ spans_of stream open_at events after → IsSlotAmong stream (anchors_of stream open_at events) (copies_of_all stream open_at events) (Slot e m media body) → AllSlotsAmong stream (anchors_of stream open_at events) (copies_of_all stream open_at events) marks → RisesFrom limit (number_heard m (shift e) body ++ heard_among shift marks)
    by_body marks walks limit e m media Lost b after n c far at is_e is_m names slot all = walks limit b after (suc n) c far (record { shifts = at.shifts; epochs = at.epochs; go = at.go; past = at.past; low = omega (arith, ints, at.low); high = at.high }) names all
    by_body marks walks limit e m media (Got payload) b after n c far at is_e is_m names slot all = (
      omega (arith, ints, at.low, here),
      walks ((pos m +ℤ shift e) +ℤ pos 1) b after (suc n) c far (record { shifts = at.shifts; epochs = at.epochs; go = at.go; past = at.past; low = omega (arith, ints, here); high = λ x _ le. omega (arith, ints, here, le, below) }) names all,
    )
      where
        here : (pos m +ℤ shift e) ≡ (pos n +ℤ far)
        here = ap (λ x. pos x +ℤ shift e) is_m ∙ ap (λ z. pos n +ℤ z) (at.shifts e (omega (arith, is_e)) ∙ shift_own e far b after is_e)

        below : n < end_of_copies (copies_in b.epoch (copies_of_all stream open_at events))
        below = subst (λ x. x < end_of_copies (copies_in b.epoch (copies_of_all stream open_at events))) is_m (subst (λ x. m < end_of_copies (copies_in x (copies_of_all stream open_at events))) is_e (has_copy (anchor_with e (anchors_of stream open_at events)) (copies_in e (copies_of_all stream open_at events)) m media payload slot))

    walk_more : (mark : MarkView) (marks : List MarkView) → Walks marks → Walks (mark ∷ marks)
    walk_more mark marks walks limit a later n count far at names all = by_kind mark.kind names all.0
      where
        by_kind : (kind : MarkKind) → names_in kind ++ slot_names marks ≡ names_from a.epoch n count ++ spans_of stream open_at events later → IsSlotAmong stream (anchors_of stream open_at events) (copies_of_all stream open_at events) kind → RisesFrom limit (heard_in shift kind ++ heard_among shift marks)
        by_kind (Quiet until) is slot = walks limit a later n count far at is all.1
        by_kind End is slot = walks limit a later n count far at is all.1
        by_kind (Slot e m media body) is slot =
            skip later limit a n count far (e, m) (slot_names marks) at is (RisesFrom limit (number_heard m (shift e) body ++ heard_among shift marks))
            (λ b after m' c far' at' is'. by_body marks walks limit e m media body b after m' c far' at' (first_same (head_same is')) (second_same (head_same is')) (tail_same is') slot all.1)

    walk : (marks : List MarkView) → Walks marks
    walk [] = λ limit a later n count far at names all. tt
    walk (mark ∷ marks) = walk_more mark marks (walk marks)

    -- without slots no number is heard
    none_heard : (limit : ℤ) (marks : List MarkView) → slot_names marks ≡ [] → RisesFrom limit (heard_among shift marks)
    none_heard limit [] none = tt
    none_heard limit (mark ∷ marks) none = by_kind mark.kind none (none_heard limit marks)
      where
        by_kind : (kind : MarkKind) → names_in kind ++ slot_names marks ≡ [] → (slot_names marks ≡ [] → RisesFrom limit (heard_among shift marks)) → RisesFrom limit (heard_in shift kind ++ heard_among shift marks)
        by_kind (Slot e m media body) is rest = absurd cc
        by_kind (Quiet until) is rest = rest is
        by_kind End is rest = rest is

  pub heard_once : (events : List Event) → is_well_timed open_at events ≡ true → HasFewPaths events → GoOn stream open_at events (anchors_of stream open_at events) → RisesFrom (pos 0) (numbers_heard stream open_at events)
  heard_once events well_timed few go = by_anchors (anchors_of stream open_at events) refl
    where
      spans : HasSpans stream open_at events
      spans = spanned stream open_at some events well_timed

      by_anchors : (anchors : List (ℕ × Anchor)) → anchors_of stream open_at events ≡ anchors → RisesFrom (pos 0) (heard_among (shift_among stream open_at events (anchors_of stream open_at events)) (marks_of stream open_at events))
      by_anchors [] is = none_heard events (shift_among stream open_at events (anchors_of stream open_at events)) (pos 0) (marks_of stream open_at events) (spans.names ∙ ap (spans_of stream open_at events) is)
      by_anchors ((place, a) ∷ later) is =
          let split = spans_split events (shift_among stream open_at events (anchors_of stream open_at events)) place a later in
          let epochs : a.epoch ∷ epochs_in later ≡ numbers_from 0 (suc (length later)) = sym (ap epochs_in is) ∙ spans.epochs ∙ ap (λ l. numbers_from 0 (length l)) is in
          let first : a.epoch ≡ 0 = head_same epochs in
          walk events (shift_among stream open_at events (anchors_of stream open_at events)) (marks_of stream open_at events) (pos 0) a later a.number split.0 (pos 0) (record {
            shifts = λ epoch le. ap (λ l. shift_among stream open_at events l epoch) is;
            epochs = epochs ∙ ap (λ e. numbers_from e (suc (length later))) (sym first);
            go = subst (GoOn stream open_at events) is go;
            past = subst (PastAmong events) is (all_past events few);
            low = omega (arith, ints);
            high = λ m _ _. omega (arith, ints);
          }) (spans.names ∙ ap (spans_of stream open_at events) is ∙ split.1) spans.slots
