-- The marks on the way to a goal, to the last of them.
use Rattle.std.proofs.Common.{◌≡◌, ◌≤◌, ◌-◌, ℕ, zero, suc, Bool, true, false, ◌||◌, if◌then◌else◌, List, [], ◌∷◌, ◌++◌, length, take, ℤ, Option, Some, None, refl, sym, ap, subst, ◌∙◌, arith, append_assoc}
use Rattle.std.proofs.lemmas.Bool.{false≢true}
use Rattle.rtp_stream.specs.declared.stream_spec.Stream.{Stream}
use Rattle.rtp_stream.specs.MarkFacts.{MarkView}
use Rattle.rtp_stream.specs.declared.anchor.Anchor.{Anchor}
use Rattle.rtp_stream.specs.declared.packet.Packet.{Packet}
use Rattle.rtp_stream.specs.History.{events_until_close, time_of}
use Rattle.rtp_stream.specs.Anchor.{next_number}
use Rattle.rtp_stream.specs.Grid.{end_of_copies}
use Rattle.rtp_stream.specs.Epochs.{anchor_of}
use Rattle.rtp_stream.specs.Copies.{copies_of, copies_of_all}
use Rattle.rtp_stream.specs.Marks.{end_mark, marks_of, slots_at_close, slots_from}
use Rattle.rtp_stream.specs.MarkList.{has_end, is_end}
use Rattle.path_merge.specs.MergeState.{MergeState}
use Rattle.path_merge.specs.Goal.{HasGivenAll}
use Rattle.path_merge.specs.NextMark.{anchor_after_close, next_left, slot_or_end}
use Rattle.path_merge.proofs.HistoryLemmas.{marks_of-in}
use Rattle.path_merge.proofs.DrainLemmas.{closed_at}
use Rattle.path_merge.proofs.SlotCountLemmas.{no_end_yet}
use Rattle.path_merge.proofs.StepLemmas.{has_end-append}

-- the marks of a closed history have their end at the end
slots_endless : (stream : Stream) (a : Anchor) (copies : List (ℕ × Packet)) (n count : ℕ) → has_end (slots_from stream a copies n count) ≡ false
slots_endless stream a copies n zero = refl
slots_endless stream a copies n (suc count) = slots_endless stream a copies (suc n) count

slots_left_endless : (stream : Stream) (copies : List (ℕ × Packet)) (o : Option Anchor) (time : ℤ) → has_end (slots_at_close stream copies o time) ≡ false
slots_left_endless stream copies None time = refl
slots_left_endless stream copies (Some a) time = slots_endless stream a copies (next_number stream a time) (end_of_copies copies - next_number stream a time)

never_both : (a b : Bool) → (a || b) ≡ false → (a ≡ false) × (b ≡ false)
never_both false b e = (refl, e)
never_both true b e = absurd (cc)

-- if the end was taken, all marks were
end_last : (xs : List MarkView) (last : MarkView) (k : ℕ) → has_end xs ≡ false → has_end (take k (xs ++ last ∷ [])) ≡ true → length (xs ++ last ∷ []) ≤ k
end_last xs last zero none e = absurd (false≢true e)
end_last [] last (suc k) none e = omega arith
end_last (x ∷ xs) last (suc k) none e =
    let both = never_both (is_end x.kind) (has_end xs) none in
    let rest : has_end (take k (xs ++ last ∷ [])) ≡ true = subst (λ b. (b || has_end (take k (xs ++ last ∷ []))) ≡ true) both.0 e in
    let le = end_last xs last k both.1 rest in
    omega (arith, le)

pub given_all : (m : MergeState) → m.ended ≡ true → HasGivenAll m
given_all m e stream open_at events k some h = by_closed m.closed refl
  where
    by_closed : (b : Bool) → m.closed ≡ b → k ≡ length (marks_of stream open_at events)
    by_closed false is = h.all_given (sym h.closed ∙ is)
    by_closed true is =
        let before = events_until_close events in
        let closing = closed_at stream open_at events h.well_timed (sym h.closed ∙ is) in
        let slots = slots_at_close stream (copies_of stream open_at before) (anchor_of stream open_at before) (time_of open_at before) in
        let none : has_end (marks_of stream open_at before) ≡ false = rw (marks_of-in stream open_at before) (no_end_yet stream open_at some (copies_of_all stream open_at before) before closing.well_timed closing.open_yet) in
        let left : has_end slots ≡ false = slots_left_endless stream (copies_of stream open_at before) (anchor_of stream open_at before) (time_of open_at before) in
        let endless : has_end (marks_of stream open_at before ++ slots) ≡ false = has_end-append (marks_of stream open_at before) slots ∙ rw (none, left) refl in
        let whole : marks_of stream open_at events ≡ (marks_of stream open_at before ++ slots) ++ end_mark stream ∷ [] = closing.marks ∙ sym (append_assoc (marks_of stream open_at before) slots (end_mark stream ∷ [])) in
        let le = end_last (marks_of stream open_at before ++ slots) (end_mark stream) k endless (subst (λ l. has_end (take k l) ≡ true) whole (sym h.ended ∙ e)) in
        let g = h.given in
        let n = ap length whole in
        omega (arith, le, g, n)

-- before a close all were
pub given_all_yet : (m : MergeState) → m.closed ≡ false → HasGivenAll m
given_all_yet m open_yet stream open_at events k some h = h.all_given (sym h.closed ∙ open_yet)

-- if no mark is left, all marks were returned
pub given_all_left : (m : MergeState) → next_left m ≡ None → HasGivenAll m
given_all_left m none = by_tests m.closed m.ended refl refl none
  where
    by_tests : (closed ended : Bool) → m.closed ≡ closed → m.ended ≡ ended → (if closed then (if ended then None else Some (slot_or_end m (anchor_after_close m))) else None) ≡ None → HasGivenAll m
    by_tests false ended c e none = given_all_yet m c
    by_tests true true c e none = given_all m e
    by_tests true false c e none = absurd (cc)
