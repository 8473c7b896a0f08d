-- A feed's datagrams after one more result.
use Rattle.std.proofs.Common.{◌≡◌, ℕ, ◌+◌, ◌≤◌, ◌<◌, true, false, nat_eq, List, [], ◌∷◌, ◌++◌, take, sym, ap, subst, ◌∙◌, arith, append_assoc, append-nil, inl, inr}
use Rattle.std.proofs.lemmas.Bool.Decides.{nat_tests}
use Rattle.studio_io.specs.Answers.{Answer, Gives, Waits, Fails, Stops, Tells, reaches_end, told_datagrams}
use Rattle.studio_io.specs.FeedStates.{Notes}
use Rattle.studio_io.specs.declared.feed.FeedAnswer.{FeedAnswer}
use Rattle.studio_io.specs.declared.feed.FeedAnswer.TheVariants.{Datagram, Nothing, Fault, Ended}
use Rattle.studio_io.proofs.AnswerLemmas.{told-next}
use Rattle.engine_run.specs.Intake.{GoesOn, HasCome, IsGiven}
use Rattle.engine_run.specs.declared.feed_reader.FeedReader.{FeedReader}

come-datagram : (all : List Answer) (k : ℕ) (left : List Answer) (octets : List ℕ) (before : List (List ℕ)) → HasCome all false k (Gives octets ∷ left) before → HasCome all false 0 left (before ++ octets ∷ [])
unfolding reaches_end told_datagrams
come-datagram all k left octets before h = (omega arith, h.1, append_assoc before (octets ∷ []) (told_datagrams 0 left) ∙ h.2)

come-nothing : (all : List Answer) (k : ℕ) (left : List Answer) (before : List (List ℕ)) → HasCome all false k (Waits ∷ left) before → HasCome all false 0 left (before ++ [])
unfolding reaches_end told_datagrams
come-nothing all k left before h = (omega arith, h.1, ap (λ l. l ++ told_datagrams 0 left) (append-nil before) ∙ h.2)

come-fault : (all : List Answer) (k : ℕ) (left : List Answer) (before : List (List ℕ)) → (k ≡ 999 → ⊥) → HasCome all false k (Fails ∷ left) before → HasCome all false (k + 1) left (before ++ [])
unfolding reaches_end told_datagrams
come-fault all k left before n h =
    let no : nat_eq k 999 ≡ false = grind (arith, nat_tests) in
    let row = h.0 in
    (omega (arith, row, n), rw no at h.1, ap (λ l. l ++ told_datagrams (k + 1) left) (append-nil before) ∙ (rw no at h.2))

come-last : (all : List Answer) (left : List Answer) (before : List (List ℕ)) → HasCome all false 999 (Fails ∷ left) before → HasCome all true 999 left (before ++ [])
unfolding told_datagrams
come-last all left before h = h.2

come-end : (all : List Answer) (k : ℕ) (left : List Answer) (before : List (List ℕ)) → HasCome all false k (Stops ∷ left) before → HasCome all true k left (before ++ [])
unfolding told_datagrams
come-end all k left before h = h.2

-- the datagram of a result, if it is one
abbrev pub given_by : List ℕ → FeedAnswer → List (List ℕ)
given_by buf (Datagram n) = take n buf ∷ []
given_by buf Nothing = []
given_by buf Fault = []
given_by buf Ended = []

module _ {F : Type 0} (feed_told : F → List Answer) where
  -- no datagram comes from a feed that is not called
  pub goes-nowhere : (reader : FeedReader F) → GoesOn feed_told reader reader []
  goes-nowhere reader = λ all before given whole. subst (λ l. HasCome all reader.state.ended reader.state.in_a_row (feed_told reader.feed) l) (sym (append-nil before)) (given whole)

  -- a feed that returned the datagrams `first`, and then `more`
  pub goes-further : (a b c : FeedReader F) (first more : List (List ℕ)) → GoesOn feed_told a b first → GoesOn feed_told b c more → GoesOn feed_told a c (first ++ more)
  goes-further a b c first more h k = λ all before given. subst (IsGiven feed_told all c) (append_assoc before first more) (k all (before ++ first) (h all before given))

  asked : (old : FeedReader F) (all : List Answer) (before : List (List ℕ)) → old.state.ended ≡ false → IsGiven feed_told all old before → reaches_end 0 all ≡ true → HasCome all false old.state.in_a_row (feed_told old.feed) before
  asked old all before yet given whole = subst (λ b. HasCome all b old.state.in_a_row (feed_told old.feed) before) yet (given whole)

  goes-datagram : (old new : FeedReader F) (buf : List ℕ) (n : ℕ) → old.state.ended ≡ false → new.state.ended ≡ false → new.state.in_a_row ≡ 0 → Tells (feed_told old.feed) buf (Datagram n) (feed_told new.feed)
      → GoesOn feed_told old new (take n buf ∷ [])
  goes-datagram old new buf n yet still row tells = λ all before given whole.
      let come = asked old all before yet given whole in
      let next = told-next old.state.in_a_row (feed_told old.feed) buf (Datagram n) (feed_told new.feed) come.1 tells in
      subst (λ b. HasCome all b new.state.in_a_row (feed_told new.feed) (before ++ take n buf ∷ [])) (sym still)
      (subst (λ k. HasCome all false k (feed_told new.feed) (before ++ take n buf ∷ [])) (sym row)
      (come-datagram all old.state.in_a_row (feed_told new.feed) (take n buf) before (subst (λ l. HasCome all false old.state.in_a_row l before) next come)))

  goes-nothing : (old new : FeedReader F) (buf : List ℕ) → old.state.ended ≡ false → new.state.ended ≡ false → new.state.in_a_row ≡ 0 → Tells (feed_told old.feed) buf Nothing (feed_told new.feed)
      → GoesOn feed_told old new []
  goes-nothing old new buf yet still row tells = λ all before given whole.
      let come = asked old all before yet given whole in
      let next = told-next old.state.in_a_row (feed_told old.feed) buf Nothing (feed_told new.feed) come.1 tells in
      subst (λ b. HasCome all b new.state.in_a_row (feed_told new.feed) (before ++ [])) (sym still)
      (subst (λ k. HasCome all false k (feed_told new.feed) (before ++ [])) (sym row)
      (come-nothing all old.state.in_a_row (feed_told new.feed) before (subst (λ l. HasCome all false old.state.in_a_row l before) next come)))

  goes-fault : (old new : FeedReader F) (buf : List ℕ) → old.state.ended ≡ false → new.state.ended ≡ false → old.state.in_a_row < 999 → new.state.in_a_row ≡ old.state.in_a_row + 1
      → Tells (feed_told old.feed) buf Fault (feed_told new.feed) → GoesOn feed_told old new []
  goes-fault old new buf yet still more row tells = λ all before given whole.
      let come = asked old all before yet given whole in
      let next = told-next old.state.in_a_row (feed_told old.feed) buf Fault (feed_told new.feed) come.1 tells in
      subst (λ b. HasCome all b new.state.in_a_row (feed_told new.feed) (before ++ [])) (sym still)
      (subst (λ k. HasCome all false k (feed_told new.feed) (before ++ [])) (sym row)
      (come-fault all old.state.in_a_row (feed_told new.feed) before (λ e. absurd (omega (arith, more, e))) (subst (λ l. HasCome all false old.state.in_a_row l before) next come)))

  goes-last : (old new : FeedReader F) (buf : List ℕ) → old.state.ended ≡ false → new.state.ended ≡ true → 999 ≤ old.state.in_a_row
      → Tells (feed_told old.feed) buf Fault (feed_told new.feed) → GoesOn feed_told old new []
  goes-last old new buf yet still row tells = λ all before given whole.
      let come = asked old all before yet given whole in
      let next = told-next old.state.in_a_row (feed_told old.feed) buf Fault (feed_told new.feed) come.1 tells in
      subst (λ b. HasCome all b new.state.in_a_row (feed_told new.feed) (before ++ [])) (sym still)
      (come-last all (feed_told new.feed) before (subst (λ k. HasCome all false k (Fails ∷ feed_told new.feed) before) (let few = come.0 in omega (arith, row, few)) (subst (λ l. HasCome all false old.state.in_a_row l before) next come)))

  goes-end : (old new : FeedReader F) (buf : List ℕ) → old.state.ended ≡ false → new.state.ended ≡ true
      → Tells (feed_told old.feed) buf Ended (feed_told new.feed) → GoesOn feed_told old new []
  goes-end old new buf yet still tells = λ all before given whole.
      let come = asked old all before yet given whole in
      let next = told-next old.state.in_a_row (feed_told old.feed) buf Ended (feed_told new.feed) come.1 tells in
      subst (λ b. HasCome all b new.state.in_a_row (feed_told new.feed) (before ++ [])) (sym still)
      (come-end all old.state.in_a_row (feed_told new.feed) before (subst (λ l. HasCome all false old.state.in_a_row l before) next come))

  -- one more call of a feed, which returned the next of its known results
  goes-known : (old new : FeedReader F) (buf : List ℕ) (answer : FeedAnswer) → old.state.ended ≡ false → Notes answer old.state new.state → Tells (feed_told old.feed) buf answer (feed_told new.feed)
      → GoesOn feed_told old new (given_by buf answer)
  goes-known old new buf (Datagram n) yet notes tells = goes-datagram old new buf n yet (notes.1 ∙ yet) notes.0 tells
  goes-known old new buf Nothing yet notes tells = goes-nothing old new buf yet (notes.1 ∙ yet) notes.0 tells
  goes-known old new buf Fault yet (inl notes) tells = goes-fault old new buf yet (notes.2 ∙ yet) notes.0 notes.1 tells
  goes-known old new buf Fault yet (inr notes) tells = goes-last old new buf yet notes.2 notes.0 tells
  goes-known old new buf Ended yet notes tells = goes-end old new buf yet notes.1 tells

  pub goes-answer : (old new : FeedReader F) (buf : List ℕ) (answer known : FeedAnswer) → answer ≡ known → old.state.ended ≡ false → Notes answer old.state new.state
      → Tells (feed_told old.feed) buf answer (feed_told new.feed) → GoesOn feed_told old new (given_by buf known)
  goes-answer old new buf answer known is yet notes tells =
      goes-known old new buf known yet (subst (λ a. Notes a old.state new.state) is notes) (subst (λ a. Tells (feed_told old.feed) buf a (feed_told new.feed)) is tells)
