-- The sums of a sink's answers, one answer further.
use Rattle.std.proofs.Common.{◌≡◌, ℕ, ◌+◌, ◌<◌, ◌^◌, Bool, true, false, cond, not, List, [], ◌∷◌, ◌++◌, length, Option, Some, None, if◌then◌else◌, sym, ap, subst, ◌∙◌, arith, append_assoc, append-nil, length-append}
use Rattle.std.proofs.lemmas.List.Sums.{sum_by_push}
use Rattle.studio_io.specs.SendSums.{CountsAnswers, KeepsSums, ReportsAnswers, SendTally, SumsAnswers, answer_tally, count_tally, report_tally}
use Rattle.studio_io.specs.Sinks.{Returns}
use Rattle.studio_io.specs.declared.report.WorkReport.{WorkReport}
use Rattle.studio_io.specs.declared.sink.SendAnswer.{SendAnswer}
use Rattle.studio_io.specs.declared.sink.SendCounts.{SendCounts}

-- numbers that are equal one by one
pub tally-is : (s t : SendTally) → s.blocks ≡ t.blocks → s.sent_a ≡ t.sent_a → s.sent_b ≡ t.sent_b → s.fault_a ≡ t.fault_a → s.fault_b ≡ t.fault_b → s ≡ t
tally-is s t blocks sent_a sent_b fault_a fault_b =
    ap (λ n. record { blocks = n; sent_a = s.sent_a; sent_b = s.sent_b; fault_a = s.fault_a; fault_b = s.fault_b }) blocks
    ∙ (ap (λ n. record { blocks = t.blocks; sent_a = n; sent_b = s.sent_b; fault_a = s.fault_a; fault_b = s.fault_b }) sent_a
    ∙ (ap (λ n. record { blocks = t.blocks; sent_a = t.sent_a; sent_b = n; fault_a = s.fault_a; fault_b = s.fault_b }) sent_b
    ∙ (ap (λ n. record { blocks = t.blocks; sent_a = t.sent_a; sent_b = t.sent_b; fault_a = n; fault_b = s.fault_b }) fault_a
    ∙ ap (λ n. record { blocks = t.blocks; sent_a = t.sent_a; sent_b = t.sent_b; fault_a = t.fault_a; fault_b = n }) fault_b)))

-- one more datagram was sent, or failed
one_sent : (b : Bool) (sent was n : ℕ) → sent ≡ was + (if b then 1 else 0) → was ≡ n → sent ≡ n + cond b 1 0
one_sent true sent was n is was_is = omega (arith, is, was_is)
one_sent false sent was n is was_is = omega (arith, is, was_is)

one_failed : (b : Bool) (blocks sent fault all some failed n : ℕ) → some + failed ≡ all → sent + fault ≡ blocks → blocks ≡ all + 1 → sent ≡ some + (if b then 1 else 0) → failed ≡ n → fault ≡ n + cond (not b) 1 0
one_failed true blocks sent fault all some failed n was is more is_sent failed_is = omega (arith, was, is, more, is_sent, failed_is)
one_failed false blocks sent fault all some failed n was is more is_sent failed_is = omega (arith, was, is, more, is_sent, failed_is)

module _ (old new : SendCounts) (answer : SendAnswer) (more : old.blocks + 1 < 2 ^ 64 → new.blocks ≡ old.blocks + 1)
    (more_a : old.blocks + 1 < 2 ^ 64 → new.sent_a ≡ old.sent_a + (if answer.a then 1 else 0)) (more_b : old.blocks + 1 < 2 ^ 64 → new.sent_b ≡ old.sent_b + (if answer.b then 1 else 0)) where
  tally_more : (answers : List SendAnswer) → length (answers ++ answer ∷ []) < 2 ^ 64 → count_tally old ≡ answer_tally answers → count_tally new ≡ answer_tally (answers ++ answer ∷ [])
  tally_more answers few is =
      let sum = length-append answers (answer ∷ []) in
      let blocks : old.blocks ≡ length answers = ap (λ t. t.blocks) is in
      let small : old.blocks + 1 < 2 ^ 64 = omega (arith, few, sum, blocks) in
      let all = more small in
      let push = λ (p : SendAnswer → Bool). sum_by_push (λ (x : SendAnswer). cond (p x) 1 0) answers answer in
      tally-is (count_tally new) (answer_tally (answers ++ answer ∷ [])) (omega (arith, all, sum, blocks))
      (one_sent answer.a new.sent_a old.sent_a _ (more_a small) (ap (λ t. t.sent_a) is) ∙ sym (push (λ x. x.a)))
      (one_sent answer.b new.sent_b old.sent_b _ (more_b small) (ap (λ t. t.sent_b) is) ∙ sym (push (λ x. x.b)))
      (one_failed answer.a new.blocks new.sent_a new.fault_a old.blocks old.sent_a old.fault_a _ old.balanced_a new.balanced_a all (more_a small) (ap (λ t. t.fault_a) is) ∙ sym (push (λ x. not x.a)))
      (one_failed answer.b new.blocks new.sent_b new.fault_b old.blocks old.sent_b old.fault_b _ old.balanced_b new.balanced_b all (more_b small) (ap (λ t. t.fault_b) is) ∙ sym (push (λ x. not x.b)))

  sums_more : (before mid after : Option (List SendAnswer)) → Returns mid (answer ∷ []) after → CountsAnswers before old mid → CountsAnswers before new after
  sums_more before mid None k h = tt
  sums_more before None (Some all) k h = absurd k
  sums_more None (Some some) (Some all) k h = absurd h
  sums_more (Some earlier) (Some some) (Some all) k h = (
    h.0 ++ answer ∷ [],
    k ∙ (ap (λ l. l ++ answer ∷ []) h.1 ∙ append_assoc earlier h.0 (answer ∷ [])),
    λ few. tally_more h.0 few (h.2 (omega (arith, few, length-append h.0 (answer ∷ [])))),
  )

  -- a datagram whose answer was counted
  pub sums-answer : (earlier later : Option (List SendAnswer)) → Returns earlier (answer ∷ []) later → KeepsSums old earlier new later
  sums-answer earlier later k = λ before h. sums_more before earlier later k h

-- before the first datagram
pub sums-none : (counts : SendCounts) (answers : Option (List SendAnswer)) → counts.blocks ≡ 0 → CountsAnswers answers counts answers
sums-none counts None none = tt
sums-none counts (Some answers) none = (
  [],
  sym (append-nil answers),
  λ few.
      let a = counts.balanced_a in
      let b = counts.balanced_b in
      tally-is (count_tally counts) (answer_tally []) none (omega (arith, a, none)) (omega (arith, b, none)) (omega (arith, a, none)) (omega (arith, b, none)),
)

-- a report has the numbers that were counted, and the sink is returned with it
pub sums-reported : {K : Type 0} (answered : K → Option (List SendAnswer)) (before : Option (List SendAnswer)) (counts : SendCounts) (report : WorkReport) (sink after : K) → report_tally report ≡ count_tally counts → after ≡ sink
    → CountsAnswers before counts (answered sink) → ReportsAnswers before report (answered after)
sums-reported answered before counts report sink after numbers same h =
    subst (λ k. SumsAnswers before (report_tally report) (answered k)) (sym same) (subst (λ t. SumsAnswers before t (answered sink)) (sym numbers) h)
