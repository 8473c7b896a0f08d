-- Statuses that are updated by their streams, place by place.
use Rattle.std.proofs.Common.{◌≡◌, ◌⊎◌, inl, inr, ℕ, ◌+◌, ◌<◌, ◌≤◌, ℤ, Bool, List, length, slice_get, Some, option_map, MatchOption, sym, ap, subst, ◌∙◌, arith}
use Rattle.std.proofs.lemmas.Option.{slice_get_past}
use Rattle.status_page.specs.declared.snapshot.StreamState.{StreamState}
use Rattle.live_status.specs.Each.{AreEach}
use Rattle.live_status.specs.Conditions.{Updates, UpdatesAt, SetsCondition, updated, with_condition}
use Rattle.live_status.specs.declared.stream_status.StreamStatus.{StreamStatus}
use Rattle.live_status.proofs.Each.{IsUpTo, below_next}

-- the status at this place was updated too
pub updates-step : (streams : List StreamState) (now : ℤ) (n : ℕ) (olds news next : List StreamStatus) (stream : StreamState)
    → slice_get streams n ≡ Some stream → IsUpTo (Updates streams now) n olds news → UpdatesAt n stream.counts.taken now news next → IsUpTo (Updates streams now) (n + 1) olds next
updates-step streams now n olds news next stream at upto one = record {
  length_is = one.length_is ∙ upto.length_is;
  done = λ place x y below in_olds in_next.
      elim (below_next place n below) [
        | inl less ↦ upto.done place x y less in_olds (sym (one.elsewhere place (omega arith)) ∙ in_next)
        | inr same ↦
            let was : slice_get news n ≡ Some x = upto.left n (omega arith) ∙ (ap (slice_get olds) (sym same) ∙ in_olds) in
            let is : Some (updated stream.counts.taken now x) ≡ Some y = ap (option_map (updated stream.counts.taken now)) (sym was) ∙ (sym one.here ∙ (ap (slice_get next) (sym same) ∙ in_next)) in
            let new : y ≡ updated stream.counts.taken now x = cc is in
            subst (λ k. Updates streams now k x y) (sym same) (subst (λ o. MatchOption o (y ≡ x) (λ s. y ≡ updated s.counts.taken now x)) (sym at) new)
      ];
  left = λ place above. one.elsewhere place (omega arith) ∙ upto.left place (omega arith);
}

below_or_not : (place n : ℕ) → (place < n) ⊎ (n ≤ place)
below_or_not place n = grind arith

-- after all streams each status was updated by its stream, and the others did not change
pub updates-all : (streams : List StreamState) (now : ℤ) (n : ℕ) (olds news : List StreamStatus) → length streams ≤ n → IsUpTo (Updates streams now) n olds news → AreEach (Updates streams now) olds news
updates-all streams now n olds news all upto = record {
  length_is = upto.length_is;
  each = λ place x y in_olds in_news.
      elim (below_or_not place n) [
        | inl less ↦ upto.done place x y less in_olds in_news
        | inr not_less ↦
            let same : y ≡ x = cc (upto.left place not_less, in_olds, in_news) in
            subst (λ o. MatchOption o (y ≡ x) (λ s. y ≡ updated s.counts.taken now x)) (sym (slice_get_past streams place (omega arith))) same
      ];
}

-- a stream with the condition by its status once others were updated has the condition by its status before
pub sets-before : (olds news : List StreamStatus) (now : ℤ) (has_ended : Bool) (n : ℕ) (old new : StreamState) → slice_get news n ≡ slice_get olds n → SetsCondition news now has_ended n old new → SetsCondition olds now has_ended n old new
sets-before olds news now has_ended n old new same sets = subst (λ o. MatchOption o (new ≡ old) (λ one. new ≡ with_condition one.presence now has_ended old)) same sets
