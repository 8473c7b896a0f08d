-- A reading at the current time changes nothing.
use Rattle.std.proofs.Common.{◌≡◌, ℕ, zero, suc, ◌-◌, ◌<◌, Bool, true, false, not, ◌&&◌, List, [], ◌∷◌, ◌++◌, Option, Some, None, ℤ, pos, ◌-ℤ◌, refl, ap, ◌∙◌, arith, append-nil, if◌then◌else◌}
use Rattle.std.specs.Prelude.{int_lt}
use Rattle.std.proofs.lemmas.Int.{ints}
use Rattle.path_merge.proofs.ArrivalLemmas.{marks_of-arrive}
use Rattle.path_merge.proofs.EpochLemmas.{heard_of-tick, standings_of-tick}
use Rattle.path_merge.proofs.HistoryLemmas.{anchor_of-tick, copies_of-tick, events_until_close-open, fates_of-tick, is_closed-append, marks_in-none, marks_of-in, time_of-append}
use Rattle.path_merge.proofs.JoinLemmas.{has_slot-append}
use Rattle.path_merge.proofs.MarkGrowthLemmas.{by_open_event}
use Rattle.path_merge.proofs.StepLemmas.{marks_of-tick}
use Rattle.rtp_stream.specs.Anchor.{next_number}
use Rattle.rtp_stream.specs.Copies.{copies_of, copies_of_all}
use Rattle.rtp_stream.specs.Epochs.{anchor_of}
use Rattle.rtp_stream.specs.Grid.{first_with}
use Rattle.rtp_stream.specs.History.{is_closed, is_well_timed, time_of}
use Rattle.rtp_stream.specs.Laws.{IsOpen}
use Rattle.rtp_stream.specs.MarkFacts.{MarkView}
use Rattle.rtp_stream.specs.Marks.{body_of, has_slot, is_past_quiet, is_past_quiets, is_quiet_new, marks_of, quiet_mark, slot_mark, slots_between, slots_from, slots_or_quiet}
use Rattle.path_merge.specs.Steps.{IsAlike}
use Rattle.rtp_stream.specs.declared.stream_spec.Stream.{Stream}
use Rattle.rtp_stream.specs.declared.anchor.Anchor.{Anchor}
use Rattle.rtp_stream.specs.declared.event.Event.{Event}
use Rattle.rtp_stream.specs.declared.event.Event.TheVariants.{Arrive, Tick}
use Rattle.rtp_stream.specs.declared.mark.MarkKind.TheVariants.{Quiet}
use Rattle.rtp_stream.specs.declared.packet.Packet.{Packet}

past_no_self : (until : ℤ) (mark : MarkView) (given : List MarkView) → mark.kind ≡ Quiet until → is_past_quiets until (given ++ mark ∷ []) ≡ false
past_no_self until mark [] e =
    let x : int_lt until until ≡ false = grind (arith, ints) in
    rw (e, x) refl
past_no_self until mark (first ∷ given) e = rw (past_no_self until mark given e) (and_false (is_past_quiet until first.kind))
  where
    and_false : (b : Bool) → (b && false) ≡ false
    and_false false = refl
    and_false true = refl

-- after a reading, no Quiet at its time is new
module _ (stream : Stream) (open_at u : ℤ) (given : List MarkView) where
  silent : is_quiet_new stream open_at (given ++ slots_or_quiet stream open_at given u []) (u -ℤ pos stream.latency) ≡ false
  silent = by_test (is_quiet_new stream open_at given (u -ℤ pos stream.latency)) refl
    where
      no_third : (a b c : Bool) → c ≡ false → (a && (b && c)) ≡ false
      no_third false b c e = refl
      no_third true false c e = refl
      no_third true true c e = e

      by_test : (b : Bool) → is_quiet_new stream open_at given (u -ℤ pos stream.latency) ≡ b → is_quiet_new stream open_at (given ++ (if b then quiet_mark stream (u -ℤ pos stream.latency) ∷ [] else [])) (u -ℤ pos stream.latency) ≡ false
      by_test false is = ap (λ l. is_quiet_new stream open_at l (u -ℤ pos stream.latency)) (append-nil given) ∙ is
      by_test true is = no_third (not (has_slot (given ++ quiet_mark stream (u -ℤ pos stream.latency) ∷ []))) (int_lt (open_at -ℤ pos stream.latency) (u -ℤ pos stream.latency)) _ (past_no_self (u -ℤ pos stream.latency) (quiet_mark stream (u -ℤ pos stream.latency)) given refl)

  told : (copies : List (ℕ × Packet)) (o : Option Anchor) (time : ℤ) → is_quiet_new stream open_at (given ++ slots_or_quiet stream open_at given u (slots_between stream copies o time u)) (u -ℤ pos stream.latency) ≡ false
  told copies None time = silent
  told copies (Some a) time = by_count (next_number stream a u - next_number stream a time)
    where
      by_count : (count : ℕ) → is_quiet_new stream open_at (given ++ slots_or_quiet stream open_at given u (slots_from stream a copies (next_number stream a time) count)) (u -ℤ pos stream.latency) ≡ false
      by_count zero = silent
      by_count (suc count) = rw (has_slot-append given (slot_mark stream a (next_number stream a time) (body_of (first_with (next_number stream a time) copies))) (slots_from stream a copies (suc (next_number stream a time)) count) refl) refl

-- no Quiet at the current time is new
pub silence_told : (stream : Stream) (open_at : ℤ) → 0 < stream.frames → (events : List Event) → is_well_timed open_at events ≡ true → is_closed events ≡ false → is_quiet_new stream open_at (marks_of stream open_at events) (time_of open_at events -ℤ pos stream.latency) ≡ false
silence_told stream open_at some = by_open_event stream open_at some (λ events. is_quiet_new stream open_at (marks_of stream open_at events) (time_of open_at events -ℤ pos stream.latency) ≡ false)
    (rw (marks_of-in stream open_at [], marks_in-none stream open_at (copies_of_all stream open_at [])) not_yet)
    (λ events path packet well_timed before open_yet is.
    rw (marks_of-arrive stream open_at some events before open_yet path packet, time_of-append open_at events (Arrive path packet ∷ [])) is)
    (λ events u t is.
    rw (marks_of-tick stream open_at events u t.open_yet, time_of-append open_at events (Tick u ∷ [])) (told stream open_at u (marks_of stream open_at events) (copies_of stream open_at events) (anchor_of stream open_at events) (time_of open_at events)))
  where
    not_yet : (int_lt (open_at -ℤ pos stream.latency) (open_at -ℤ pos stream.latency) && true) ≡ false
    not_yet =
        let x : int_lt (open_at -ℤ pos stream.latency) (open_at -ℤ pos stream.latency) ≡ false = grind (arith, ints) in
        rw x refl

-- a reading at the current time
module _ (stream : Stream) (open_at : ℤ) (some : 0 < stream.frames) (events : List Event) (still : IsOpen open_at events) where
  none_between : (o : Option Anchor) (time : ℤ) (copies : List (ℕ × Packet)) → slots_between stream copies o time time ≡ []
  none_between None time copies = refl
  none_between (Some a) time copies =
      let none : next_number stream a time - next_number stream a time ≡ 0 = omega arith in
      ap (slots_from stream a copies (next_number stream a time)) none

  same_marks : marks_of stream open_at (events ++ Tick (time_of open_at events) ∷ []) ≡ marks_of stream open_at events
  same_marks =
      marks_of-tick stream open_at events (time_of open_at events) still.open_yet
      ∙ ap (λ l. marks_of stream open_at events ++ slots_or_quiet stream open_at (marks_of stream open_at events) (time_of open_at events) l) (none_between (anchor_of stream open_at events) (time_of open_at events) (copies_of stream open_at events))
      ∙ rw (silence_told stream open_at some events still.well_timed still.open_yet) (append-nil (marks_of stream open_at events))

  pub tick_again : IsAlike stream open_at (events ++ Tick (time_of open_at events) ∷ []) events
  tick_again =
      let open_then = is_closed-append events (Tick (time_of open_at events) ∷ []) in
      record {
        well_timed = λ _. still.well_timed;
        time = time_of-append open_at events (Tick (time_of open_at events) ∷ []);
        closed = open_then ∙ rw still.open_yet refl;
        fates = fates_of-tick stream open_at events (time_of open_at events);
        anchor = anchor_of-tick stream open_at events (time_of open_at events);
        heard = heard_of-tick stream open_at events (time_of open_at events);
        standings = standings_of-tick stream open_at events (time_of open_at events);
        copies = copies_of-tick stream open_at events (time_of open_at events);
        marks = same_marks;
        before_close = rw (events_until_close-open (events ++ Tick (time_of open_at events) ∷ []) (open_then ∙ rw still.open_yet refl), events_until_close-open events still.open_yet) same_marks;
      }
