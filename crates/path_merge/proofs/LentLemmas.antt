-- A mark to which a merge returns a reference for a reading is due by it.
use Rattle.std.proofs.Common.{◌≡◌, ℕ, ◌+◌, ◌<◌, Bool, true, false, ◌&&◌, List, [], ◌∷◌, take, Option, Some, None, ℤ, pos, ◌-ℤ◌, ◌≤ℤ◌, All, refl, sym, ap, subst, ◌∙◌, arith, if◌then◌else◌}
use Rattle.std.specs.Prelude.{int_lt, nat_eq}
use Rattle.std.proofs.lemmas.Int.{ints}
use Rattle.std.proofs.lemmas.List.Elements.{All-head, All-tail}
use Rattle.path_merge.proofs.HistoryLemmas.{marks_in, marks_of-in}
use Rattle.path_merge.proofs.ClockLagLemmas.{keep_up, opened, to_come}
use Rattle.path_merge.proofs.NextMarkLemmas.{due, next_is}
use Rattle.path_merge.proofs.RunLemmas.{no_fault}
use Rattle.path_merge.proofs.SlotCountLemmas.{next_of, slots_counted}
use Rattle.path_merge.proofs.StepLemmas.{take_all}
use Rattle.path_merge.specs.Clock.{clock_fault_of}
use Rattle.path_merge.specs.ClockLag.{IsDue}
use Rattle.path_merge.specs.Merge.{HasHistory, IsBaseOf, last_quiet_or, quiet_or, slot_count}
use Rattle.path_merge.specs.MergeState.{MergeState}
use Rattle.path_merge.specs.NextMark.{anchor_due, next_mark, quiet_next, slot_next}
use Rattle.rtp_stream.specs.Anchor.{media_time_of, next_number}
use Rattle.rtp_stream.specs.Copies.{copies_of_all}
use Rattle.rtp_stream.specs.Epochs.{anchor_of}
use Rattle.rtp_stream.specs.History.{is_closed, time_of}
use Rattle.rtp_stream.specs.Laws.{IsOpen}
use Rattle.rtp_stream.specs.MarkFacts.{MarkView}
use Rattle.rtp_stream.specs.Marks.{marks_of, quiet_mark}
use Rattle.rtp_stream.specs.declared.stream_spec.Stream.{Stream}
use Rattle.rtp_stream.specs.declared.anchor.Anchor.{Anchor}
use Rattle.rtp_stream.specs.declared.event.Event.{Event}
use Rattle.rtp_stream.specs.declared.mark.MarkKind.{MarkKind}
use Rattle.rtp_stream.specs.declared.mark.MarkKind.TheVariants.{End, Quiet, Slot}

-- the last silence is not before the opening's
quiet_from : (stream : Stream) (open_at time before : ℤ) (marks : List MarkView) → (open_at -ℤ pos stream.latency) ≤ℤ before → All (λ mark. IsDue stream open_at time mark.kind) marks → (open_at -ℤ pos stream.latency) ≤ℤ last_quiet_or before marks
quiet_from stream open_at time before [] le all = le
quiet_from stream open_at time before (mark ∷ marks) le all = quiet_from stream open_at time (quiet_or before mark.kind) marks (by_kind mark.kind (All-head (λ mark. IsDue stream open_at time mark.kind) mark marks all)) (All-tail (λ mark. IsDue stream open_at time mark.kind) mark marks all)
  where
    by_kind : (kind : MarkKind) → IsDue stream open_at time kind → (open_at -ℤ pos stream.latency) ≤ℤ quiet_or before kind
    by_kind (Slot epoch number media body) d = le
    by_kind (Quiet until) d = omega (arith, ints, d.after)
    by_kind End d = absurd d

module _ (stream : Stream) (open_at now : ℤ) (m : MergeState) (events : List Event) (k : ℕ) (some : 0 < stream.frames) (at : HasHistory stream open_at m events k) (free : clock_fault_of m.time m.closed now ≡ None) where
  shut : is_closed events ≡ false
  shut = sym at.closed ∙ (no_fault m.time m.closed now free).2

  still : IsOpen open_at events
  still = record { well_timed = at.well_timed; open_yet = shut }

  all : take k (marks_of stream open_at events) ≡ marks_of stream open_at events
  all = take_all (marks_of stream open_at events) k (at.all_given shut)

  -- the base is the number next due
  base_is : (a : Anchor) → m.anchor ≡ Some a → m.base ≡ next_number stream a (time_of open_at events)
  base_is a is =
      let anchor : anchor_of stream open_at events ≡ Some a = sym at.anchor ∙ is in
      let base : m.base ≡ a.number + slot_count a.epoch (marks_of stream open_at events) = subst (λ l. m.base ≡ a.number + slot_count a.epoch l) all (subst (λ o. IsBaseOf o m.base (take k (marks_of stream open_at events))) is at.base) in
      let counted : next_number stream a (time_of open_at events) ≡ a.number + slot_count a.epoch (marks_in stream open_at (copies_of_all stream open_at events) events) = subst (λ o. IsBaseOf o (next_of stream open_at some o (time_of open_at events)) (marks_in stream open_at (copies_of_all stream open_at events) events)) anchor (slots_counted stream open_at some (copies_of_all stream open_at events) events at.well_timed shut) in
      base ∙ sym (counted ∙ ap (λ l. a.number + slot_count a.epoch l) (sym (marks_of-in stream open_at events)))

  slot_due : (a : Anchor) → anchor_due m now ≡ Some a → IsDue stream open_at now (slot_next m a).kind
  slot_due a is =
      let come = due m now a is in
      let from = opened stream open_at events some still in
      let later = to_come stream open_at a (time_of open_at events) m.base some (let e = base_is a come.0 in omega (arith, e)) in
      let media : media_time_of m.spec a m.base ≡ media_time_of stream a m.base = ap (λ (s : Stream). media_time_of s a m.base) at.spec in
      let latency : m.spec.latency ≡ stream.latency = ap (λ (s : Stream). s.latency) at.spec in
      record { after = omega (arith, ints, later, from, media); not_after = omega (arith, ints, come.1, latency) }

  quiet_due : (mark : MarkView) → quiet_next m now ≡ Some mark → IsDue stream open_at now mark.kind
  quiet_due mark = by_test (nat_eq (m.counts.got + m.counts.lost) 0) (int_lt m.quiet (now -ℤ pos m.spec.latency)) refl
    where
      first : (open_at -ℤ pos stream.latency) ≤ℤ m.quiet
      first = subst (λ q. (open_at -ℤ pos stream.latency) ≤ℤ q) (sym (at.quiet ∙ ap (last_quiet_or (open_at -ℤ pos stream.latency)) all)) (quiet_from stream open_at (time_of open_at events) (open_at -ℤ pos stream.latency) (marks_of stream open_at events) (omega (arith, ints)) (keep_up stream open_at events some still).due)

      latency : m.spec.latency ≡ stream.latency
      latency = ap (λ (s : Stream). s.latency) at.spec

      by_test : (a b : Bool) → int_lt m.quiet (now -ℤ pos m.spec.latency) ≡ b → (if a && b then Some (quiet_mark m.spec (now -ℤ pos m.spec.latency)) else None) ≡ Some mark → IsDue stream open_at now mark.kind
      by_test true true later is =
          let same : quiet_mark m.spec (now -ℤ pos m.spec.latency) ≡ mark = cc in
          subst (λ (x : MarkView). IsDue stream open_at now x.kind) same (record { after = grind (arith, ints, later, first, latency); not_after = omega (arith, ints, latency) })
      by_test true false later is = cc
      by_test false b later is = cc

  pub lent_is_due : (mark : MarkView) → next_mark m now ≡ Some mark → IsDue stream open_at now mark.kind
  lent_is_due mark is = by_anchor (anchor_due m now) refl
    where
      by_anchor : (o : Option Anchor) → anchor_due m now ≡ o → IsDue stream open_at now mark.kind
      by_anchor (Some a) e =
          let told = next_is m now (Some a) e in
          let same : slot_next m a ≡ mark = cc in
          subst (λ (x : MarkView). IsDue stream open_at now x.kind) same (slot_due a e)
      by_anchor None e = quiet_due mark (sym (next_is m now None e) ∙ is)
