-- A feed that is called until it returns no datagram, after one more result.
use Rattle.std.proofs.Common.{◌≡◌, ℕ, zero, suc, ◌+◌, ◌≤◌, ◌<◌, true, false, nat_eq, List, [], ◌∷◌, ◌++◌, length, take, refl, sym, ap, subst, ◌∙◌, arith, append-nil, inl, inr}
use Rattle.std.proofs.lemmas.Bool.Decides.{nat_tests}
use Rattle.studio_io.specs.Answers.{Answer, Gives, Waits, Fails, Stops, Tells, reaches_end}
use Rattle.studio_io.specs.FeedStates.{Notes}
use Rattle.studio_io.specs.declared.feed.FeedAnswer.{FeedAnswer}
use Rattle.studio_io.specs.declared.feed.FeedAnswer.TheVariants.{Datagram, Nothing, Fault, Ended}
use Rattle.studio_io.proofs.AnswerLemmas.{told-next}
use Rattle.engine_run.specs.Asked.{AreKnown, asked_datagrams, asked_left, left_by, until_end}
use Rattle.engine_run.specs.Intake.{Asks, IsKnown, left_in}
use Rattle.engine_run.specs.declared.feed_reader.FeedReader.{FeedReader}
use Rattle.engine_run.proofs.AnswerLemmas.{given_by}

none_asked : (n : ℕ) → (asked_datagrams n [] ≡ []) × (asked_left n [] ≡ [])
unfolding asked_datagrams asked_left
none_asked zero = (refl, refl)
none_asked (suc n) = (refl, refl)

not_asked : (l : List Answer) → (asked_datagrams 0 l ≡ []) × (asked_left 0 l ≡ l)
unfolding asked_datagrams asked_left
not_asked l = (refl, refl)

-- one more call, if every result so far was a datagram
ask-more : (k : ℕ) (l : List Answer) → length (asked_datagrams k l) ≡ k
    → (asked_datagrams (k + 1) l ≡ asked_datagrams k l ++ asked_datagrams 1 (asked_left k l)) × (asked_left (k + 1) l ≡ asked_left 1 (asked_left k l))
unfolding asked_datagrams asked_left
ask-more zero l h = (refl, refl)
ask-more (suc k) [] h = absurd (omega (arith, h))
ask-more (suc k) (Gives octets ∷ l) h =
    let r = ask-more k l (omega (arith, h)) in
    let more : suc k + 1 ≡ suc (k + 1) = omega arith in
    (ap (λ n. asked_datagrams n (Gives octets ∷ l)) more ∙ ap (λ z. octets ∷ z) r.0, ap (λ n. asked_left n (Gives octets ∷ l)) more ∙ r.1)
ask-more (suc k) (Waits ∷ l) h = absurd (omega (arith, h))
ask-more (suc k) (Fails ∷ l) h = absurd (omega (arith, h))
ask-more (suc k) (Stops ∷ l) h = absurd (omega (arith, h))

-- if every result so far was a datagram, and the next is none, then more calls return no more datagrams
ask-stops : (k n : ℕ) (l : List Answer) → length (asked_datagrams k l) ≡ k → k + 1 ≤ n → asked_datagrams 1 (asked_left k l) ≡ []
    → (asked_datagrams n l ≡ asked_datagrams k l) × (asked_left n l ≡ asked_left 1 (asked_left k l))
unfolding asked_datagrams asked_left
ask-stops zero zero l h le none = absurd (omega (arith, le))
ask-stops zero (suc n) [] h le none = (refl, refl)
ask-stops zero (suc n) (Gives octets ∷ l) h le none = absurd (cc)
ask-stops zero (suc n) (Waits ∷ l) h le none = (refl, refl)
ask-stops zero (suc n) (Fails ∷ l) h le none = (refl, refl)
ask-stops zero (suc n) (Stops ∷ l) h le none = (refl, refl)
ask-stops (suc k) zero l h le none = absurd (omega (arith, le))
ask-stops (suc k) (suc n) [] h le none = absurd (omega (arith, h))
ask-stops (suc k) (suc n) (Gives octets ∷ l) h le none = let r = ask-stops k n l (omega (arith, h)) (omega (arith, le)) none in (ap (λ z. octets ∷ z) r.0, r.1)
ask-stops (suc k) (suc n) (Waits ∷ l) h le none = absurd (omega (arith, h))
ask-stops (suc k) (suc n) (Fails ∷ l) h le none = absurd (omega (arith, h))
ask-stops (suc k) (suc n) (Stops ∷ l) h le none = absurd (omega (arith, h))

-- one result of a feed whose results are known to its end
known_datagram : (k : ℕ) (octets : List ℕ) (rest : List Answer) → reaches_end k (Gives octets ∷ rest) ≡ true
    → (reaches_end 0 rest ≡ true) × (octets ∷ [] ≡ asked_datagrams 1 (until_end k (Gives octets ∷ rest))) × (until_end 0 rest ≡ asked_left 1 (until_end k (Gives octets ∷ rest)))
unfolding reaches_end until_end asked_datagrams asked_left
known_datagram k octets rest h = (h, refl, refl)

known_nothing : (k : ℕ) (rest : List Answer) → reaches_end k (Waits ∷ rest) ≡ true
    → (reaches_end 0 rest ≡ true) × ([] ≡ asked_datagrams 1 (until_end k (Waits ∷ rest))) × (until_end 0 rest ≡ asked_left 1 (until_end k (Waits ∷ rest)))
unfolding reaches_end until_end asked_datagrams asked_left
known_nothing k rest h = (h, refl, refl)

known_fault : (k : ℕ) (rest : List Answer) → nat_eq k 999 ≡ false → reaches_end k (Fails ∷ rest) ≡ true
    → (reaches_end (k + 1) rest ≡ true) × ([] ≡ asked_datagrams 1 (until_end k (Fails ∷ rest))) × (until_end (k + 1) rest ≡ asked_left 1 (until_end k (Fails ∷ rest)))
unfolding reaches_end until_end asked_datagrams asked_left
known_fault k rest unlike h = (rw unlike at h, refl, rw unlike refl)

known_last : (rest : List Answer) → ([] ≡ asked_datagrams 1 (until_end 999 (Fails ∷ rest))) × ([] ≡ asked_left 1 (until_end 999 (Fails ∷ rest)))
unfolding until_end asked_datagrams asked_left
known_last rest = (refl, refl)

known_end : (k : ℕ) (rest : List Answer) → ([] ≡ asked_datagrams 1 (until_end k (Stops ∷ rest))) × ([] ≡ asked_left 1 (until_end k (Stops ∷ rest)))
unfolding until_end asked_datagrams asked_left
known_end k rest = (refl, refl)

module _ {F : Type 0} (feed_told : F → List Answer) where
  -- a feed that has ended returns nothing
  pub asks-ended : (most : ℕ) (reader : FeedReader F) → reader.state.ended ≡ true → Asks feed_told most reader reader []
  asks-ended most reader over = λ known.
      let none : left_in feed_told reader ≡ [] = ap (λ b. left_by b reader.state.in_a_row (feed_told reader.feed)) over in
      (known, sym (ap (asked_datagrams most) none ∙ (none_asked most).0), none ∙ sym (ap (asked_left most) none ∙ (none_asked most).1))

  -- a feed that is not called returns nothing
  pub asks-none : (reader : FeedReader F) → Asks feed_told 0 reader reader []
  asks-none reader = λ known. (known, sym (not_asked (left_in feed_told reader)).0, sym (not_asked (left_in feed_told reader)).1)

  -- a feed that returned a datagram each time is called once more
  pub asks-more : (k : ℕ) (a b c : FeedReader F) (first one : List (List ℕ)) → length first ≡ k → Asks feed_told k a b first → Asks feed_told 1 b c one → Asks feed_told (k + 1) a c (first ++ one)
  asks-more k a b c first one full f s = λ known.
      let h = f known in
      let g = s h.0 in
      let l = left_in feed_told a in
      let m = ask-more k l (ap length (sym h.1) ∙ full) in (
        g.0,
        ap (λ z. z ++ one) h.1 ∙ (ap (λ z. asked_datagrams k l ++ z) (g.1 ∙ ap (asked_datagrams 1) h.2) ∙ sym m.0),
        g.2 ∙ (ap (asked_left 1) h.2 ∙ sym m.1),
      )

  -- a feed that returned a datagram each time, and then none
  pub asks-stop : (k most : ℕ) (a b c : FeedReader F) (first one : List (List ℕ)) → length first ≡ k → k + 1 ≤ most → one ≡ [] → Asks feed_told k a b first → Asks feed_told 1 b c one → Asks feed_told most a c (first ++ one)
  asks-stop k most a b c first one full le none f s = λ known.
      let h = f known in
      let g = s h.0 in
      let l = left_in feed_told a in
      let m = ask-stops k most l (ap length (sym h.1) ∙ full) le (sym (g.1 ∙ ap (asked_datagrams 1) h.2) ∙ none) in (
        g.0,
        ap (λ z. first ++ z) none ∙ (append-nil first ∙ (h.1 ∙ sym m.0)),
        g.2 ∙ (ap (asked_left 1) h.2 ∙ sym m.1),
      )

  here : (old : FeedReader F) → old.state.ended ≡ false → IsKnown feed_told old → AreKnown false old.state.in_a_row (feed_told old.feed)
  here old yet known = subst (λ b. AreKnown b old.state.in_a_row (feed_told old.feed)) yet known

  left_is : (old : FeedReader F) (answers : List Answer) → old.state.ended ≡ false → feed_told old.feed ≡ answers → left_in feed_told old ≡ until_end old.state.in_a_row answers
  left_is old answers yet is = ap (λ b. left_by b old.state.in_a_row (feed_told old.feed)) yet ∙ ap (until_end old.state.in_a_row) is

  on : (new : FeedReader F) (k : ℕ) → new.state.ended ≡ false → new.state.in_a_row ≡ k → k ≤ 999 → reaches_end k (feed_told new.feed) ≡ true → IsKnown feed_told new
  on new k still row few whole = subst (λ b. AreKnown b new.state.in_a_row (feed_told new.feed)) (sym still) (subst (λ n. AreKnown false n (feed_told new.feed)) (sym row) (few, whole))

  over : (new : FeedReader F) → new.state.ended ≡ true → IsKnown feed_told new
  over new ended = subst (λ b. AreKnown b new.state.in_a_row (feed_told new.feed)) (sym ended) tt

  gone : (new : FeedReader F) → new.state.ended ≡ true → left_in feed_told new ≡ []
  gone new ended = ap (λ b. left_by b new.state.in_a_row (feed_told new.feed)) ended

  left_on : (new : FeedReader F) (k : ℕ) → new.state.ended ≡ false → new.state.in_a_row ≡ k → left_in feed_told new ≡ until_end k (feed_told new.feed)
  left_on new k still row = ap (λ b. left_by b new.state.in_a_row (feed_told new.feed)) still ∙ ap (λ n. until_end n (feed_told new.feed)) row

  asks-datagram : (old new : FeedReader F) (buf : List ℕ) (n : ℕ) → old.state.ended ≡ false → new.state.ended ≡ false → new.state.in_a_row ≡ 0 → Tells (feed_told old.feed) buf (Datagram n) (feed_told new.feed)
      → Asks feed_told 1 old new (take n buf ∷ [])
  asks-datagram old new buf n yet still row tells = λ known.
      let k = here old yet known in
      let rest = feed_told new.feed in
      let next = told-next old.state.in_a_row (feed_told old.feed) buf (Datagram n) rest k.1 tells in
      let left = left_is old (Gives (take n buf) ∷ rest) yet next in
      let one = known_datagram old.state.in_a_row (take n buf) rest (subst (λ l. reaches_end old.state.in_a_row l ≡ true) next k.1) in
      (on new 0 still row (omega arith) one.0, one.1 ∙ sym (ap (asked_datagrams 1) left), left_on new 0 still row ∙ (one.2 ∙ sym (ap (asked_left 1) left)))

  asks-nothing : (old new : FeedReader F) (buf : List ℕ) → old.state.ended ≡ false → new.state.ended ≡ false → new.state.in_a_row ≡ 0 → Tells (feed_told old.feed) buf Nothing (feed_told new.feed)
      → Asks feed_told 1 old new []
  asks-nothing old new buf yet still row tells = λ known.
      let k = here old yet known in
      let rest = feed_told new.feed in
      let next = told-next old.state.in_a_row (feed_told old.feed) buf Nothing rest k.1 tells in
      let left = left_is old (Waits ∷ rest) yet next in
      let one = known_nothing old.state.in_a_row rest (subst (λ l. reaches_end old.state.in_a_row l ≡ true) next k.1) in
      (on new 0 still row (omega arith) one.0, one.1 ∙ sym (ap (asked_datagrams 1) left), left_on new 0 still row ∙ (one.2 ∙ sym (ap (asked_left 1) left)))

  asks-fault : (old new : FeedReader F) (buf : List ℕ) → old.state.ended ≡ false → new.state.ended ≡ false → old.state.in_a_row < 999 → new.state.in_a_row ≡ old.state.in_a_row + 1
      → Tells (feed_told old.feed) buf Fault (feed_told new.feed) → Asks feed_told 1 old new []
  asks-fault old new buf yet still more row tells = λ known.
      let k = here old yet known in
      let rest = feed_told new.feed in
      let next = told-next old.state.in_a_row (feed_told old.feed) buf Fault rest k.1 tells in
      let left = left_is old (Fails ∷ rest) yet next in
      let unlike : nat_eq old.state.in_a_row 999 ≡ false = grind (arith, nat_tests) in
      let one = known_fault old.state.in_a_row rest unlike (subst (λ l. reaches_end old.state.in_a_row l ≡ true) next k.1) in
      (on new (old.state.in_a_row + 1) still row (omega (arith, more)) one.0, one.1 ∙ sym (ap (asked_datagrams 1) left), left_on new (old.state.in_a_row + 1) still row ∙ (one.2 ∙ sym (ap (asked_left 1) left)))

  asks-last : (old new : FeedReader F) (buf : List ℕ) → old.state.ended ≡ false → new.state.ended ≡ true → 999 ≤ old.state.in_a_row
      → Tells (feed_told old.feed) buf Fault (feed_told new.feed) → Asks feed_told 1 old new []
  asks-last old new buf yet ended row tells = λ known.
      let k = here old yet known in
      let rest = feed_told new.feed in
      let next = told-next old.state.in_a_row (feed_told old.feed) buf Fault rest k.1 tells in
      let last : old.state.in_a_row ≡ 999 = (let few = k.0 in omega (arith, row, few)) in
      let left = left_is old (Fails ∷ rest) yet next ∙ ap (λ n. until_end n (Fails ∷ rest)) last in
      (over new ended, (known_last rest).0 ∙ sym (ap (asked_datagrams 1) left), gone new ended ∙ ((known_last rest).1 ∙ sym (ap (asked_left 1) left)))

  asks-end : (old new : FeedReader F) (buf : List ℕ) → old.state.ended ≡ false → new.state.ended ≡ true
      → Tells (feed_told old.feed) buf Ended (feed_told new.feed) → Asks feed_told 1 old new []
  asks-end old new buf yet ended tells = λ known.
      let k = here old yet known in
      let rest = feed_told new.feed in
      let next = told-next old.state.in_a_row (feed_told old.feed) buf Ended rest k.1 tells in
      let left = left_is old (Stops ∷ rest) yet next in
      let one = known_end old.state.in_a_row rest in
      (over new ended, one.0 ∙ sym (ap (asked_datagrams 1) left), gone new ended ∙ (one.1 ∙ sym (ap (asked_left 1) left)))

  -- one call of a feed, which returned the next of its known results
  asks-known : (old new : FeedReader F) (buf : List ℕ) (answer : FeedAnswer) → old.state.ended ≡ false → Notes answer old.state new.state → Tells (feed_told old.feed) buf answer (feed_told new.feed)
      → Asks feed_told 1 old new (given_by buf answer)
  asks-known old new buf (Datagram n) yet notes tells = asks-datagram old new buf n yet (notes.1 ∙ yet) notes.0 tells
  asks-known old new buf Nothing yet notes tells = asks-nothing old new buf yet (notes.1 ∙ yet) notes.0 tells
  asks-known old new buf Fault yet (inl notes) tells = asks-fault old new buf yet (notes.2 ∙ yet) notes.0 notes.1 tells
  asks-known old new buf Fault yet (inr notes) tells = asks-last old new buf yet notes.2 notes.0 tells
  asks-known old new buf Ended yet notes tells = asks-end old new buf yet notes.1 tells

  pub asks-answer : (old new : FeedReader F) (buf : List ℕ) (answer known : FeedAnswer) → answer ≡ known → old.state.ended ≡ false → Notes answer old.state new.state
      → Tells (feed_told old.feed) buf answer (feed_told new.feed) → Asks feed_told 1 old new (given_by buf known)
  asks-answer old new buf answer known is yet notes tells =
      asks-known old new buf known yet (subst (λ a. Notes a old.state new.state) is notes) (subst (λ a. Tells (feed_told old.feed) buf a (feed_told new.feed)) is tells)
