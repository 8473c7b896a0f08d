-- The marks of an open history keep up with the clock.
use Rattle.std.proofs.Common.{◌≡◌, ℕ, zero, suc, ◌+◌, ◌-◌, ◌*◌, ◌<◌, ◌≤◌, Bool, true, false, not, ◌&&◌, ◌||◌, List, [], ◌∷◌, ◌++◌, Option, Some, None, ◌⊎◌, inl, inr, ℤ, pos, ◌+ℤ◌, ◌-ℤ◌, ◌≤ℤ◌, ◌<ℤ◌, All, refl, sym, ap, subst, ◌∙◌, arith, append-nil, if◌then◌else◌}
use Rattle.std.specs.Prelude.{int_lt}
use Rattle.std.proofs.lemmas.Int.{ints, by_lt_z}
use Rattle.std.proofs.lemmas.List.Elements.{All-append, All-cons, All-head, All-nil, All-tail, All-weaker}
use Rattle.path_merge.proofs.DueLemmas.{before_next_number, due_before_next, media_time_of-from, media_time_of-suc, next_number-rises}
use Rattle.path_merge.proofs.HistoryLemmas.{marks_in, marks_in-none, marks_in-push, marks_of-in, time_of-append}
use Rattle.path_merge.proofs.JoinLemmas.{has_slot-append}
use Rattle.path_merge.proofs.LawLemmas.{least_due}
use Rattle.path_merge.proofs.MarkGrowthLemmas.{by_open_event}
use Rattle.path_merge.proofs.ShapeLemmas.{IsBeforeNext, IsEpochBefore, IsShaped, IsShapedAt, StandsLast, last_after, last_after-append, shaped_open}
use Rattle.path_merge.specs.ClockLag.{Reaches, IsDue, KeepUp, LastReaches}
use Rattle.rtp_stream.specs.Anchor.{deadline_of, media_time_of, next_number}
use Rattle.rtp_stream.specs.Copies.{copies_of, copies_of_all, copies_with}
use Rattle.rtp_stream.specs.Epochs.{anchor_of, last_of}
use Rattle.rtp_stream.specs.Grid.{end_of_copies, first_with}
use Rattle.rtp_stream.specs.History.{is_closed, is_well_timed, time_of}
use Rattle.rtp_stream.specs.Laws.{IsOpen}
use Rattle.rtp_stream.specs.MarkFacts.{MarkView}
use Rattle.rtp_stream.specs.Marks.{body_of, has_slot, is_past_quiet, is_past_quiets, is_quiet_new, is_slot, marks_of, quiet_mark, slot_mark, slots_between, slots_from, slots_or_quiet}
use Rattle.rtp_stream.specs.declared.stream_spec.Stream.{Stream}
use Rattle.rtp_stream.specs.declared.anchor.Anchor.{Anchor}
use Rattle.rtp_stream.specs.declared.event.Event.{Event}
use Rattle.rtp_stream.specs.declared.event.Event.TheVariants.{Arrive, Tick}
use Rattle.rtp_stream.specs.declared.mark.MarkKind.{MarkKind}
use Rattle.rtp_stream.specs.declared.mark.MarkKind.TheVariants.{End, Quiet, Slot}
use Rattle.rtp_stream.specs.declared.packet.Packet.{Packet}

both : (a b : Bool) → (a && b) ≡ true → (a ≡ true) × (b ≡ true)
both true b e = (refl, e)
both false b e = cc

module _ (stream : Stream) (open_at : ℤ) where
  abbrev AreDue : ℤ → List MarkView → Type 0
  AreDue time marks = All (λ mark. IsDue stream open_at time mark.kind) marks

  due_later : (t u : ℤ) → t ≤ℤ u → (kind : MarkKind) → IsDue stream open_at t kind → IsDue stream open_at u kind
  due_later t u le (Slot epoch number media body) due = record { after = due.after; not_after = omega (arith, ints, due.not_after, le) }
  due_later t u le (Quiet until) due = record { after = due.after; not_after = omega (arith, ints, due.not_after, le) }
  due_later t u le End due = due

  -- the deadlines of the numbers from the next one due on are to come
  pub to_come : (a : Anchor) (t : ℤ) (n : ℕ) → 0 < stream.frames → next_number stream a t ≤ n → t <ℤ deadline_of stream a n
  to_come a t n some le = by_lt_z t (deadline_of stream a n) (λ lt. lt) (λ ge. absurd (omega (arith, le, due_before_next stream a t n some (omega (arith, le)) ge)))

  -- the slots that come due between two times
  run_due : (a : Anchor) (copies : List (ℕ × Packet)) (t u : ℤ) (n count : ℕ) → 0 < stream.frames → open_at ≤ℤ t → next_number stream a t ≤ n → n + count ≤ next_number stream a u → AreDue u (slots_from stream a copies n count)
  run_due a copies t u n zero some from low high = All-nil (λ mark. IsDue stream open_at u mark.kind)
  run_due a copies t u n (suc count) some from low high =
      let later = to_come a t n some low in
      let come = before_next_number stream a u n some (omega (arith, low)) (omega (arith, high)) in
      All-cons (λ mark. IsDue stream open_at u mark.kind) (slot_mark stream a n (body_of (first_with n copies))) (slots_from stream a copies (suc n) count)
      (record { after = omega (arith, ints, later, from); not_after = come })
      (run_due a copies t u (suc n) count some from (omega (arith, low)) (omega (arith, high)))

  between_due : (o : Option Anchor) (copies : List (ℕ × Packet)) (t u : ℤ) → 0 < stream.frames → open_at ≤ℤ t → t ≤ℤ u → AreDue u (slots_between stream copies o t u)
  between_due None copies t u some from le = All-nil (λ mark. IsDue stream open_at u mark.kind)
  between_due (Some a) copies t u some from le = run_due a copies t u (next_number stream a t) (next_number stream a u - next_number stream a t) some from (omega arith) (omega (arith, next_number-rises stream a t u some le))

  -- the marks of a clock reading are due by it
  given_due : (given : List MarkView) (u : ℤ) (run : List MarkView) → AreDue u run → AreDue u (slots_or_quiet stream open_at given u run)
  given_due given u (mark ∷ run) due = due
  given_due given u [] due = by_test (is_quiet_new stream open_at given (u -ℤ pos stream.latency)) refl
    where
      by_test : (c : Bool) → is_quiet_new stream open_at given (u -ℤ pos stream.latency) ≡ c → AreDue u (if c then quiet_mark stream (u -ℤ pos stream.latency) ∷ [] else [])
      by_test false is = All-nil (λ mark. IsDue stream open_at u mark.kind)
      by_test true is =
          let new = both (not (has_slot given)) (int_lt (open_at -ℤ pos stream.latency) (u -ℤ pos stream.latency) && is_past_quiets (u -ℤ pos stream.latency) given) is in
          let past = both (int_lt (open_at -ℤ pos stream.latency) (u -ℤ pos stream.latency)) (is_past_quiets (u -ℤ pos stream.latency) given) new.1 in
          All-cons (λ mark. IsDue stream open_at u mark.kind) (quiet_mark stream (u -ℤ pos stream.latency)) [] (record { after = grind (arith, ints, past.0); not_after = omega (arith, ints) }) (All-nil (λ mark. IsDue stream open_at u mark.kind))

  -- before the first slot, the last Quiet reaches the time minus the latency
  abbrev IsTold : ℤ → Bool → Option MarkKind → Type 0
  IsTold time slotted None = (slotted ≡ false) × (time ≡ open_at)
  IsTold time slotted (Some (Slot epoch number media body)) = slotted ≡ true
  IsTold time slotted (Some (Quiet until)) = (slotted ≡ false) × (until ≡ time -ℤ pos stream.latency)
  IsTold time slotted (Some End) = ⊥

  record IsUpToDate (time : ℤ) (marks : List MarkView) : Type 0 where
    opened : open_at ≤ℤ time
    due : AreDue time marks
    told : IsTold time (has_slot marks) (last_after None marks)

  run_told : (a : Anchor) (copies : List (ℕ × Packet)) (time : ℤ) (last : Option MarkKind) (n count : ℕ) → IsTold time true (last_after last (slots_from stream a copies n (suc count)))
  run_told a copies time last n zero = refl
  run_told a copies time last n (suc count) = run_told a copies time (Some (Slot a.epoch n (media_time_of stream a n) (body_of (first_with n copies)))) (suc n) count

  slotted_told : (t u : ℤ) (last : Option MarkKind) → IsTold t true last → IsTold u true last
  slotted_told t u None told = let no = told.0 in cc
  slotted_told t u (Some (Slot epoch number media body)) told = refl
  slotted_told t u (Some (Quiet until)) told = let no = told.0 in cc
  slotted_told t u (Some End) told = told

  -- a later time is past every Quiet
  past_quiets : (t u : ℤ) → t <ℤ u → (marks : List MarkView) → AreDue t marks → is_past_quiets (u -ℤ pos stream.latency) marks ≡ true
  past_quiets t u lt [] due = refl
  past_quiets t u lt (mark ∷ marks) due = rw (past mark.kind (All-head (λ mark. IsDue stream open_at t mark.kind) mark marks due)) (past_quiets t u lt marks (All-tail (λ mark. IsDue stream open_at t mark.kind) mark marks due))
    where
      past : (kind : MarkKind) → IsDue stream open_at t kind → is_past_quiet (u -ℤ pos stream.latency) kind ≡ true
      past (Slot epoch number media body) d = refl
      past (Quiet until) d = grind (arith, ints, d.not_after, lt)
      past End d = refl

  -- so a later clock reading produces a new Quiet before the first slot
  quiet_new : (t u : ℤ) (marks : List MarkView) → t <ℤ u → open_at ≤ℤ t → AreDue t marks → has_slot marks ≡ false → is_quiet_new stream open_at marks (u -ℤ pos stream.latency) ≡ true
  quiet_new t u marks lt from due none =
      let started : int_lt (open_at -ℤ pos stream.latency) (u -ℤ pos stream.latency) ≡ true = grind (arith, ints, lt, from) in
      rw (none, started, past_quiets t u lt marks due) refl

  unslotted : (xs ys : List MarkView) → has_slot xs ≡ false → has_slot ys ≡ false → has_slot (xs ++ ys) ≡ false
  unslotted [] ys none nor = nor
  unslotted (mark ∷ xs) ys none nor = by_test (is_slot mark.kind) none (λ e. unslotted xs ys e nor)
    where
      by_test : (b : Bool) → (b || has_slot xs) ≡ false → (has_slot xs ≡ false → has_slot (xs ++ ys) ≡ false) → (b || has_slot (xs ++ ys)) ≡ false
      by_test false e rest = rest e
      by_test true e rest = cc

  -- a reading with no slot
  quiet_told : (t u : ℤ) (marks : List MarkView) → t ≤ℤ u → IsUpToDate t marks → IsTold u (has_slot (marks ++ slots_or_quiet stream open_at marks u [])) (last_after None (marks ++ slots_or_quiet stream open_at marks u []))
  quiet_told t u marks le up = by_test (is_quiet_new stream open_at marks (u -ℤ pos stream.latency)) refl
    where
      by_slotted : (b : Bool) → has_slot marks ≡ b → is_quiet_new stream open_at marks (u -ℤ pos stream.latency) ≡ false → IsTold u (has_slot marks) (last_after None marks)
      by_slotted true slotted is = rw slotted (slotted_told t u (last_after None marks) (rw slotted at up.told))
      by_slotted false none is = subst (λ v. IsTold v (has_slot marks) (last_after None marks)) same up.told
        where
          same : t ≡ u
          same = by_lt_z t u (λ lt. absurd (let new = quiet_new t u marks lt up.opened up.due none in cc)) (λ ge. omega (arith, ints, le, ge))

      by_test : (c : Bool) → is_quiet_new stream open_at marks (u -ℤ pos stream.latency) ≡ c → IsTold u (has_slot (marks ++ (if c then quiet_mark stream (u -ℤ pos stream.latency) ∷ [] else []))) (last_after None (marks ++ (if c then quiet_mark stream (u -ℤ pos stream.latency) ∷ [] else [])))
      by_test false is = rw append-nil (by_slotted (has_slot marks) refl is)
      by_test true is = rw last_after-append (unslotted marks (quiet_mark stream (u -ℤ pos stream.latency) ∷ []) (none (has_slot marks) (both (not (has_slot marks)) _ is).0) refl, refl)
        where
          none : (b : Bool) → not b ≡ true → b ≡ false
          none false e = refl
          none true e = cc

  tick_told : (o : Option Anchor) (copies : List (ℕ × Packet)) (t u : ℤ) (marks : List MarkView) → t ≤ℤ u → IsUpToDate t marks → IsTold u (has_slot (marks ++ slots_or_quiet stream open_at marks u (slots_between stream copies o t u))) (last_after None (marks ++ slots_or_quiet stream open_at marks u (slots_between stream copies o t u)))
  tick_told None copies t u marks le up = quiet_told t u marks le up
  tick_told (Some a) copies t u marks le up = by_count (next_number stream a u - next_number stream a t)
    where
      by_count : (count : ℕ) → IsTold u (has_slot (marks ++ slots_or_quiet stream open_at marks u (slots_from stream a copies (next_number stream a t) count))) (last_after None (marks ++ slots_or_quiet stream open_at marks u (slots_from stream a copies (next_number stream a t) count)))
      by_count zero = quiet_told t u marks le up
      by_count (suc count) =
          let slotted = has_slot-append marks (slot_mark stream a (next_number stream a t) (body_of (first_with (next_number stream a t) copies))) (slots_from stream a copies (suc (next_number stream a t)) count) refl in
          rw (slotted, last_after-append) (run_told a copies u (last_after None marks) (next_number stream a t) count)

  up_to_date : 0 < stream.frames → (copies : List (ℕ × (ℕ × Packet))) (events : List Event) → is_well_timed open_at events ≡ true → is_closed events ≡ false → IsUpToDate (time_of open_at events) (marks_in stream open_at copies events)
  up_to_date some copies = by_open_event stream open_at some (λ events. IsUpToDate (time_of open_at events) (marks_in stream open_at copies events))
      (rw (marks_in-none stream open_at copies) (record { opened = omega (arith, ints); due = All-nil (λ mark. IsDue stream open_at open_at mark.kind); told = (refl, refl) }))
      (λ events path packet _ _ _ up. rw (marks_in-push stream open_at copies events (Arrive path packet), append-nil, time_of-append open_at events (Arrive path packet ∷ [])) up)
      (λ events u t up.
      rw (time_of-append open_at events (Tick u ∷ []), marks_in-push stream open_at copies events (Tick u), t.open_yet)
      (record {
        opened = omega (arith, ints, up.opened, t.not_back);
        due = All-append (λ mark. IsDue stream open_at u mark.kind) (marks_in stream open_at copies events) _
            (All-weaker (λ mark. IsDue stream open_at (time_of open_at events) mark.kind) (λ mark. IsDue stream open_at u mark.kind) (λ mark. due_later (time_of open_at events) u t.not_back mark.kind) (marks_in stream open_at copies events) up.due)
            (given_due (marks_in stream open_at copies events) u _ (between_due (anchor_of stream open_at events) (copies_with (anchor_of stream open_at events) copies) (time_of open_at events) u some up.opened t.not_back));
        told = tick_told (anchor_of stream open_at events) (copies_with (anchor_of stream open_at events) copies) (time_of open_at events) u (marks_in stream open_at copies events) t.not_back up;
      }))

  -- the kind of the last mark
  last_is : (marks : List MarkView) (P : Option MarkKind → Type 0) → P (last_after None marks) → (time : ℤ) → ((kind : MarkKind) → P (Some kind) → Reaches stream.frames time kind) → (P None → ⊥) → LastReaches stream.frames time (last_of marks)
  last_is [] P p time ends none = none p
  last_is (mark ∷ []) P p time ends none = ends mark.kind p
  last_is (mark ∷ next ∷ marks) P p time ends none = last_is (next ∷ marks) P p time ends none

-- the last mark ends at most the latency and a window of packets before the time
module _ (stream : Stream) (open_at time : ℤ) (some : 0 < stream.frames) where
  abbrev Last : Option Anchor → ℕ → Bool → Option MarkKind → Type 0
  Last o held slotted last = StandsLast stream o time held last × IsTold stream open_at time slotted last

  slot_reaches : (a : Anchor) (held epoch n : ℕ) (media : ℤ) → IsBeforeNext stream a time epoch n media ⊎ IsEpochBefore stream a time held epoch media → (time -ℤ pos (stream.latency + stream.window * stream.frames)) ≤ℤ (media +ℤ pos stream.frames)
  slot_reaches a held epoch n media (inl stands) =
      let least = least_due stream a time some in
      let ends = ap (λ z. z +ℤ pos stream.frames) stands.media_is ∙ sym (media_time_of-suc stream a n stands.from_anchor) ∙ ap (media_time_of stream a) stands.next in
      omega (arith, ints, ends, least.to_come)
  slot_reaches a held epoch n media (inr stands) =
      let least = least_due stream a time some in
      let none : a.number - a.number ≡ 0 = omega arith in
      let zero = ap (λ q. q * stream.frames) none in
      let first = media_time_of-from stream a a.number (omega arith) in
      let next = ap (media_time_of stream a) stands.next in
      omega (arith, ints, zero, first, next, stands.within, least.to_come)

  reaches : (o : Option Anchor) (held : ℕ) (slotted : Bool) (kind : MarkKind) → Last o held slotted (Some kind) → Reaches stream.frames (time -ℤ pos (stream.latency + stream.window * stream.frames)) kind
  reaches o held slotted (Quiet until) last = omega (arith, ints, last.1.1)
  reaches None held slotted (Slot epoch n media body) last = absurd last.0
  reaches (Some a) held slotted (Slot epoch n media body) last = slot_reaches a held epoch n media last.0
  reaches o held slotted End last = absurd last.1

  not_none : open_at <ℤ time → (o : Option Anchor) (held : ℕ) (slotted : Bool) → Last o held slotted None → ⊥
  not_none past o held slotted last = omega (arith, ints, last.1.1, past)

  kept : (o : Option Anchor) (held : ℕ) (marks : List MarkView) → IsShaped stream o time held marks → IsUpToDate stream open_at time marks → KeepUp stream open_at time marks
  kept o held marks shaped up = record {
    due = up.due;
    last = λ past. last_is stream open_at marks (Last o held (has_slot marks)) (shaped.last, up.told) (time -ℤ pos (stream.latency + stream.window * stream.frames)) (reaches o held (has_slot marks)) (not_none past o held (has_slot marks));
  }

pub keep_up : (stream : Stream) (open_at : ℤ) (events : List Event) → 0 < stream.frames → IsOpen open_at events → KeepUp stream open_at (time_of open_at events) (marks_of stream open_at events)
keep_up stream open_at events some still =
    let up : IsUpToDate stream open_at (time_of open_at events) (marks_in stream open_at (copies_of_all stream open_at events) events) = up_to_date stream open_at some (copies_of_all stream open_at events) events still.well_timed still.open_yet in
    let shaped : IsShapedAt stream open_at some events (marks_in stream open_at (copies_of_all stream open_at events) events) = shaped_open stream open_at some (copies_of_all stream open_at events) events still.well_timed still.open_yet in
    rw (marks_of-in stream open_at events)
    (kept stream open_at (time_of open_at events) some (anchor_of stream open_at events) (end_of_copies (copies_of stream open_at events)) (marks_in stream open_at (copies_of_all stream open_at events) events) shaped up)

-- the time is not before the opening
pub opened : (stream : Stream) (open_at : ℤ) (events : List Event) → 0 < stream.frames → IsOpen open_at events → open_at ≤ℤ time_of open_at events
opened stream open_at events some still = (up_to_date stream open_at some (copies_of_all stream open_at events) events still.well_timed still.open_yet).opened
