-- One more ring was looked at.
use Rattle.std.proofs.Common.{◌≡◌, ℕ, zero, suc, ◌+◌, ◌≤◌, ◌<◌, ◌↔◌, Bool, true, false, not, ◌||◌, IsTrue, List, [], ◌∷◌, ◌++◌, length, take, drop, get_or, set, refl, sym, ap, subst, ◌∙◌, arith}
use Rattle.std.proofs.lemmas.Bool.{false≢true}
use Rattle.std.proofs.lemmas.List.{take_more, take_more_set, length-set, drop-set-lt, drop-drop, get_or-drop}
use Rattle.std.proofs.Math.Seq.{take-length}
use Rattle.std.proofs.lemmas.List as lists
use Rattle.studio_ends.specs.DrainedRing.{IsDrained}
use Rattle.studio_ends.specs.DrainedRings.{AllDrained, AllFalse, AllLookAt, AreOpen, LooksAt}
use Rattle.studio_ends.specs.declared.rings.TokenConsumer.{TokenConsumer}

all_false-drop : (n : ℕ) (bs : List Bool) → AllFalse bs → AllFalse (drop n bs)
all_false-drop zero bs h = h
all_false-drop (suc n) [] h = h
all_false-drop (suc n) (b ∷ bs) h = all_false-drop n bs h.1

pub not_open : {P : Type 0} (d : Bool) → IsTrue d ↔ P → (not d ≡ false) ↔ P
not_open true h = (λ _. h.0 refl, λ p. refl)
not_open false h = (λ e. absurd (false≢true (sym e)), λ p. absurd (false≢true (h.1 p)))

module _ {T : Type 0} where
  all_looked-snoc : (olds news : List (TokenConsumer T)) (old new : TokenConsumer T) → AllLookAt olds news → LooksAt old new → AllLookAt (olds ++ old ∷ []) (news ++ new ∷ [])
  all_looked-snoc [] [] old new h t = (t, tt)
  all_looked-snoc (o ∷ os) (n ∷ ns) old new h t = (h.0, all_looked-snoc os ns old new h.1 t)
  all_looked-snoc [] (n ∷ ns) old new h t = absurd h
  all_looked-snoc (o ∷ os) [] old new h t = absurd h

  are_open-snoc : (bs : List Bool) (ss : List (TokenConsumer T)) (b : Bool) (s : TokenConsumer T) → length bs ≡ length ss → AreOpen bs ss → (b ≡ false) ↔ IsDrained s.ring s.done → AreOpen (bs ++ b ∷ []) (ss ++ s ∷ [])
  are_open-snoc [] [] b s len h t = (t, tt)
  are_open-snoc (c ∷ bs) (r ∷ ss) b s len h t = (h.0, are_open-snoc bs ss b s (omega (arith, len)) h.1 t)
  are_open-snoc [] (r ∷ ss) b s len h t = absurd h
  are_open-snoc (c ∷ bs) [] b s len h t = absurd (omega (arith, len))

  are_open-rest : (bs cs : List Bool) (ss : List (TokenConsumer T)) → length bs ≡ length ss → AreOpen bs ss → AllFalse cs → AreOpen (bs ++ cs) ss
  are_open-rest [] [] [] len h f = tt
  are_open-rest [] (c ∷ cs) [] len h f = (f.0, are_open-rest [] cs [] refl tt f.1)
  are_open-rest (b ∷ bs) cs (s ∷ ss) len h f = (h.0, are_open-rest bs cs ss (omega (arith, len)) h.1 f)
  are_open-rest [] cs (s ∷ ss) len h f = absurd h
  are_open-rest (b ∷ bs) cs [] len h f = absurd (omega (arith, len))

  -- no ring is open exactly if all are drained
  pub none_open : (bs : List Bool) (ss : List (TokenConsumer T)) → AreOpen bs ss → AllFalse bs ↔ AllDrained ss
  none_open [] [] h = (λ _. tt, λ _. tt)
  none_open [] (s ∷ ss) h = absurd h
  none_open (b ∷ bs) [] h = let r = none_open bs [] h.1 in (λ _. tt, λ _. (h.0, r.1 tt))
  none_open (b ∷ bs) (s ∷ ss) h = let r = none_open bs ss h.1 in (λ f. (h.0.0 f.0, r.0 f.1), λ d. (h.0.1 d.0, r.1 d.1))

  same_there : (xs ys : List (TokenConsumer T)) (n : ℕ) (d : TokenConsumer T) → drop n xs ≡ drop n ys → get_or xs n d ≡ get_or ys n d
  same_there xs ys n d e =
      let z : n + 0 ≡ n = omega arith in
      ap (λ k. get_or xs k d) (sym z) ∙ (sym (get_or-drop n xs 0 d) ∙ (ap (λ l. get_or l 0 d) e ∙ (get_or-drop n ys 0 d ∙ ap (λ k. get_or ys k d) z)))

  all_drained-snoc : (ss : List (TokenConsumer T)) (s : TokenConsumer T) (any b : Bool) → (any ≡ false) ↔ AllDrained ss → (b ≡ false) ↔ IsDrained s.ring s.done → ((any || b) ≡ false) ↔ AllDrained (ss ++ s ∷ [])
  all_drained-snoc ss s true b h t = (λ e. absurd (false≢true (sym e)), λ d. absurd (false≢true (sym (h.1 (front ss d)))))
    where
      front : (ss : List (TokenConsumer T)) → AllDrained (ss ++ s ∷ []) → AllDrained ss
      front [] d = tt
      front (r ∷ ss) d = (d.0, front ss d.1)
  all_drained-snoc ss s false b h t = (λ e. join ss (h.0 refl) (t.0 e), λ d. t.1 (last ss d))
    where
      join : (ss : List (TokenConsumer T)) → AllDrained ss → IsDrained s.ring s.done → AllDrained (ss ++ s ∷ [])
      join [] d l = (l, tt)
      join (r ∷ ss) d l = (d.0, join ss d.1 l)

      last : (ss : List (TokenConsumer T)) → AllDrained (ss ++ s ∷ []) → IsDrained s.ring s.done
      last [] d = d.0
      last (r ∷ ss) d = last ss d.1

  pub record LooksUpTo (olds items : List (TokenConsumer T)) (before open_yet : List Bool) (any : Bool) (n : ℕ) : Type 0 where
    pub any_open : (any ≡ false) ↔ AllDrained (take n items)
    pub count : length items ≡ length olds
    pub space : length open_yet ≡ length before
    pub later : drop n items ≡ drop n olds
    pub rest : drop n open_yet ≡ drop n before
    pub looked : AllLookAt (take n olds) (take n items)
    pub told : AreOpen (take n open_yet) (take n items)

  pub looked_to-none : (olds : List (TokenConsumer T)) (before : List Bool) → LooksUpTo olds olds before before false 0
  looked_to-none olds before = record { any_open = (λ _. tt, λ _. refl); count = refl; space = refl; later = refl; rest = refl; looked = tt; told = tt }

  pub looked_to-more : (olds items : List (TokenConsumer T)) (before open_yet : List Bool) (n : ℕ) (old new : TokenConsumer T) (any b : Bool)
      → n < length olds → n < length before → old ≡ get_or items n old → LooksAt old new → (b ≡ false) ↔ IsDrained new.ring new.done
      → LooksUpTo olds items before open_yet any n → LooksUpTo olds (set items n new) before (set open_yet n b) (any || b) (n + 1)
  looked_to-more olds items before open_yet n old new any b lt lt' is one drained h = record {
    any_open = subst (λ l. ((any || b) ≡ false) ↔ AllDrained l) (sym f) (all_drained-snoc (take n items) new any b h.any_open drained);
    count = length-set items n new ∙ h.count;
    space = length-set open_yet n b ∙ h.space;
    later = drop-set-lt (n + 1) items n new (omega arith) ∙ (sym (drop-drop 1 n items) ∙ (ap (drop 1) h.later ∙ drop-drop 1 n olds));
    rest = drop-set-lt (n + 1) open_yet n b (omega arith) ∙ (sym (drop-drop 1 n open_yet) ∙ (ap (drop 1) h.rest ∙ drop-drop 1 n before));
    looked =
        let e : take (n + 1) olds ≡ take n olds ++ old ∷ [] = take_more olds n old lt ∙ ap (λ (s : TokenConsumer T). take n olds ++ s ∷ []) (sym (is ∙ same_there items olds n old h.later)) in
        rw (e, f) (all_looked-snoc (take n olds) (take n items) old new h.looked one);
    told =
        let g : take (n + 1) (set open_yet n b) ≡ take n open_yet ++ b ∷ [] = take_more_set open_yet n b (let r = h.space in omega (arith, lt', r)) in
        let l : length (take n open_yet) ≡ n = lists.length-take-le n open_yet (let r = h.space in omega (arith, lt', r)) in
        let m : length (take n items) ≡ n = lists.length-take-le n items (let r = h.count in omega (arith, lt, r)) in
        rw (g, f) (are_open-snoc (take n open_yet) (take n items) b new (l ∙ sym m) h.told drained);
  }
    where
      f : take (n + 1) (set items n new) ≡ take n items ++ new ∷ []
      f = take_more_set items n new (let r = h.count in omega (arith, lt, r))

  -- all rings were looked at
  pub looked_to-all : (olds items : List (TokenConsumer T)) (before open_yet : List Bool) (any : Bool) (n : ℕ) → n ≡ length olds → n ≤ length before → AllFalse before → LooksUpTo olds items before open_yet any n
      → AllLookAt olds items × AreOpen open_yet items × ((any ≡ false) ↔ AllDrained items)
  looked_to-all olds items before open_yet any n is space clear h =
      let a : take n olds ≡ olds = ap (λ k. take k olds) is ∙ take-length olds in
      let b : take n items ≡ items = ap (λ k. take k items) (is ∙ sym h.count) ∙ take-length items in
      let c : take n open_yet ++ drop n open_yet ≡ open_yet = lists.take-append-drop n open_yet in
      let l : length (take n open_yet) ≡ n = lists.length-take-le n open_yet (let r = h.space in omega (arith, space, r)) in
      let f : AllFalse (drop n open_yet) = subst AllFalse (sym h.rest) (all_false-drop n before clear) in
      let t : AreOpen (take n open_yet) items = subst (AreOpen (take n open_yet)) b h.told in (
        subst (λ x. AllLookAt x items) a (subst (AllLookAt (take n olds)) b h.looked),
        subst (λ x. AreOpen x items) c (are_open-rest (take n open_yet) (drop n open_yet) items (let r = h.count in omega (arith, l, is, r)) t f),
        subst (λ l. (any ≡ false) ↔ AllDrained l) b h.any_open,
      )
