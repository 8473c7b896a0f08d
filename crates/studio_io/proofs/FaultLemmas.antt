-- The count of a feed's faults, one result further.
use Rattle.std.proofs.Common.{◌≡◌, inl, inr, ℕ, suc, ◌+◌, ◌<◌, ◌≤◌, ◌^◌, true, false, nat_eq, List, ◌∷◌, take, refl, sym, ap, subst, ◌∙◌, arith}
use Rattle.std.proofs.lemmas.Bool.Decides.{nat_tests}
use Rattle.studio_io.specs.Answers.{Answer, Gives, Waits, Fails, Stops, Tells, reaches_end}
use Rattle.studio_io.specs.FaultCounts.{CountsFaults, HasCounted, IsFaultNumber, IsKnownToEnd, KeepsFaults, faults_left, told_faults}
use Rattle.studio_io.specs.FeedStates.{Notes, NotesFault, faults_in, new_state}
use Rattle.studio_io.specs.declared.feed.FeedAnswer.{FeedAnswer}
use Rattle.studio_io.specs.declared.feed.FeedAnswer.TheVariants.{Datagram, Nothing, Fault, Ended}
use Rattle.studio_io.specs.declared.feed_state.FeedState.{FeedState}
use Rattle.studio_io.proofs.AnswerLemmas.{told-next}

-- before the first call
pub counts-none : (told : List Answer) → CountsFaults told new_state told
counts-none told = λ whole. record { known = (omega (arith), whole); count = λ few. omega (arith) }

-- a feed that has ended
pub counts-ended : (told : List Answer) (state : FeedState) (left : List Answer) → state.ended ≡ true → CountsFaults told state left → IsFaultNumber told state.faults
counts-ended told state left ended counts = λ whole few.
    let all : state.faults + faults_left true state.in_a_row left ≡ told_faults 0 told =
    subst (λ b. state.faults + faults_left b state.in_a_row left ≡ told_faults 0 told) ended ((counts whole).count few) in
    omega (arith, all)

-- what is known of the results that are left, and the number of their faults, after the next one
known_datagram : (k : ℕ) (octets : List ℕ) (rest : List Answer) → reaches_end k (Gives octets ∷ rest) ≡ true → reaches_end 0 rest ≡ true
unfolding reaches_end
known_datagram k octets rest whole = whole

known_nothing : (k : ℕ) (rest : List Answer) → reaches_end k (Waits ∷ rest) ≡ true → reaches_end 0 rest ≡ true
unfolding reaches_end
known_nothing k rest whole = whole

known_fault : (k : ℕ) (rest : List Answer) → k < 999 → reaches_end k (Fails ∷ rest) ≡ true → reaches_end (k + 1) rest ≡ true
unfolding reaches_end
known_fault k rest more whole = let no : nat_eq k 999 ≡ false = grind (arith, nat_tests, more) in rw no at whole

left_datagram : (k : ℕ) (octets : List ℕ) (rest : List Answer) → told_faults k (Gives octets ∷ rest) ≡ told_faults 0 rest
unfolding told_faults
left_datagram k octets rest = refl

left_nothing : (k : ℕ) (rest : List Answer) → told_faults k (Waits ∷ rest) ≡ told_faults 0 rest
unfolding told_faults
left_nothing k rest = refl

left_fault : (k : ℕ) (rest : List Answer) → k < 999 → told_faults k (Fails ∷ rest) ≡ suc (told_faults (k + 1) rest)
unfolding told_faults
left_fault k rest more = let no : nat_eq k 999 ≡ false = grind (arith, nat_tests, more) in rw no refl

left_last : (rest : List Answer) → told_faults 999 (Fails ∷ rest) ≡ 1
unfolding told_faults
left_last rest = refl

left_end : (k : ℕ) (rest : List Answer) → told_faults k (Stops ∷ rest) ≡ 0
unfolding told_faults
left_end k rest = refl

module _ (old new : FeedState) (left rest : List Answer) (octets : List ℕ) (yet : old.ended ≡ false) where
  -- the next result has `f` faults, and those after it `n`
  counted : (told : List Answer) (f n : ℕ) → HasCounted told old left → told_faults old.in_a_row left ≡ f + n → (old.faults + f < 2 ^ 64 → new.faults ≡ old.faults + f)
      → IsKnownToEnd new.ended new.in_a_row rest → faults_left new.ended new.in_a_row rest ≡ n → HasCounted told new rest
  counted told f n h split more known others = record {
    known = known;
    count = λ few.
        let all : old.faults + told_faults old.in_a_row left ≡ told_faults 0 told = subst (λ b. old.faults + faults_left b old.in_a_row left ≡ told_faults 0 told) yet (h.count few) in
        let small : old.faults + f < 2 ^ 64 = omega (arith, few, all, split) in
        let now = more small in
        omega (arith, all, split, now, others);
  }

  known_still : (k : ℕ) → new.ended ≡ false → new.in_a_row ≡ k → k ≤ 999 → reaches_end k rest ≡ true → IsKnownToEnd new.ended new.in_a_row rest
  known_still k still row few whole = subst (λ b. IsKnownToEnd b new.in_a_row rest) (sym still) (subst (λ j. (j ≤ 999) × (reaches_end j rest ≡ true)) (sym row) (few, whole))

  left_still : (k : ℕ) → new.ended ≡ false → new.in_a_row ≡ k → faults_left new.ended new.in_a_row rest ≡ told_faults k rest
  left_still k still row = ap (λ b. faults_left b new.in_a_row rest) still ∙ ap (λ j. told_faults j rest) row

  known_ended : new.ended ≡ true → IsKnownToEnd new.ended new.in_a_row rest
  known_ended ended = subst (λ b. IsKnownToEnd b new.in_a_row rest) (sym ended) tt

  left_ended : new.ended ≡ true → faults_left new.ended new.in_a_row rest ≡ 0
  left_ended ended = ap (λ b. faults_left b new.in_a_row rest) ended

  known_yet : (told : List Answer) → HasCounted told old left → IsKnownToEnd false old.in_a_row left
  known_yet told h = subst (λ b. IsKnownToEnd b old.in_a_row left) yet h.known

  noted_fault : (told : List Answer) → NotesFault old new → Tells left octets Fault rest → (old.faults + 1 < 2 ^ 64 → new.faults ≡ old.faults + 1) → HasCounted told old left → HasCounted told new rest
  noted_fault told (inl notes) tells more h =
      let known = known_yet told h in
      let next : left ≡ Fails ∷ rest = told-next old.in_a_row left octets Fault rest known.1 tells in
      let fewer = notes.0 in
      let whole = known_fault old.in_a_row rest fewer (subst (λ l. reaches_end old.in_a_row l ≡ true) next known.1) in
      let split : told_faults old.in_a_row left ≡ suc (told_faults (old.in_a_row + 1) rest) = ap (λ l. told_faults old.in_a_row l) next ∙ left_fault old.in_a_row rest fewer in
      counted told 1 (told_faults (old.in_a_row + 1) rest) h (omega (arith, split)) more
      (known_still (old.in_a_row + 1) (notes.2 ∙ yet) notes.1 (omega (arith, fewer)) whole) (left_still (old.in_a_row + 1) (notes.2 ∙ yet) notes.1)
  noted_fault told (inr notes) tells more h =
      let known = known_yet told h in
      let next : left ≡ Fails ∷ rest = told-next old.in_a_row left octets Fault rest known.1 tells in
      let few = known.0 in
      let most = notes.0 in
      let row : old.in_a_row ≡ 999 = omega (arith, few, most) in
      let split = ap (λ l. told_faults old.in_a_row l) next ∙ (ap (λ k. told_faults k (Fails ∷ rest)) row ∙ left_last rest) in
      counted told 1 0 h (omega (arith, split)) more (known_ended notes.2) (left_ended notes.2)

  -- a result of the feed was noted, and the results after it are left
  pub faults-noted : (answer : FeedAnswer) → Tells left octets answer rest → Notes answer old new → (old.faults + faults_in answer < 2 ^ 64 → new.faults ≡ old.faults + faults_in answer) → KeepsFaults old left new rest
  faults-noted (Datagram n) tells notes more = λ told counts whole.
      let h = counts whole in
      let known = known_yet told h in
      let next : left ≡ Gives (take n octets) ∷ rest = told-next old.in_a_row left octets (Datagram n) rest known.1 tells in
      let split = ap (λ l. told_faults old.in_a_row l) next ∙ left_datagram old.in_a_row (take n octets) rest in
      counted told 0 (told_faults 0 rest) h (omega (arith, split)) more
      (known_still 0 (notes.1 ∙ yet) notes.0 (omega (arith)) (known_datagram old.in_a_row (take n octets) rest (subst (λ l. reaches_end old.in_a_row l ≡ true) next known.1))) (left_still 0 (notes.1 ∙ yet) notes.0)
  faults-noted Nothing tells notes more = λ told counts whole.
      let h = counts whole in
      let known = known_yet told h in
      let next : left ≡ Waits ∷ rest = told-next old.in_a_row left octets Nothing rest known.1 tells in
      let split = ap (λ l. told_faults old.in_a_row l) next ∙ left_nothing old.in_a_row rest in
      counted told 0 (told_faults 0 rest) h (omega (arith, split)) more
      (known_still 0 (notes.1 ∙ yet) notes.0 (omega (arith)) (known_nothing old.in_a_row rest (subst (λ l. reaches_end old.in_a_row l ≡ true) next known.1))) (left_still 0 (notes.1 ∙ yet) notes.0)
  faults-noted Fault tells notes more = λ told counts whole. noted_fault told notes tells more (counts whole)
  faults-noted Ended tells notes more = λ told counts whole.
      let h = counts whole in
      let known = known_yet told h in
      let next : left ≡ Stops ∷ rest = told-next old.in_a_row left octets Ended rest known.1 tells in
      let split = ap (λ l. told_faults old.in_a_row l) next ∙ left_end old.in_a_row rest in
      counted told 0 0 h (omega (arith, split)) more (known_ended notes.1) (left_ended notes.1)
