-- The feeds of a studio, after one more stream.
use Rattle.std.proofs.Common.{◌≡◌, ℕ, zero, suc, ◌+◌, ◌≤◌, ◌<◌, List, [], ◌∷◌, ◌++◌, drop, get_or, length, map, take, refl, sym, ap, ◌∙◌, arith, length-append}
use Rattle.std.proofs.lemmas.List.{drop-map, length-drop, take-append-drop, take-map, take_all, take_more}
use Rattle.std.proofs.lemmas.List.Sums.{sum_by-append}
use Rattle.rtp_stream.specs.declared.stream_spec.Stream.{Stream}
use Rattle.engine_run.specs.Grouping.{grouped, path_total}

module _ {X : Type 0} where
  drop_past : (n : ℕ) (xs : List X) → length xs ≤ n → drop n xs ≡ []
  drop_past zero [] h = refl
  drop_past (suc n) [] h = refl
  drop_past zero (x ∷ xs) h = absurd (omega (arith, h))
  drop_past (suc n) (x ∷ xs) h = drop_past n xs (omega (arith, h))

  none_left : (k : ℕ) (xs : List X) → drop k xs ≡ [] → length xs ≤ k
  none_left k xs e = let l = length-drop k xs in let h = ap length e in omega (arith, l, h)

  -- if nothing is left after `k` elements, taking more takes no more
  pub take-over : (k n : ℕ) (xs : List X) → k ≤ n → drop k xs ≡ [] → (take k xs ≡ take n xs) × (drop k xs ≡ drop n xs)
  take-over k n xs le e =
      let few = none_left k xs e in
      (take_all k xs few ∙ sym (take_all n xs (omega (arith, few, le))), e ∙ sym (drop_past n xs (omega (arith, few, le))))

  -- the next element was taken
  pub take-next : (k : ℕ) (xs : List X) (x : X) (rest : List X) → drop k xs ≡ x ∷ rest → (take (k + 1) xs ≡ take k xs ++ x ∷ []) × (rest ≡ drop (k + 1) xs)
  take-next zero [] x rest e = absurd (cc)
  take-next (suc k) [] x rest e = absurd (cc)
  take-next zero (y ∷ ys) x rest e = let h = ap (λ l. get_or l 0 x) e in let t = ap (λ l. drop 1 l) e in (ap (λ z. z ∷ []) h, sym t)
  take-next (suc k) (y ∷ ys) x rest e =
      let more : suc k + 1 ≡ suc (k + 1) = omega arith in
      let h = take-next k ys x rest e in
      (ap (λ n. take n (y ∷ ys)) more ∙ ap (λ l. y ∷ l) h.0, h.1 ∙ ap (λ n. drop n (y ∷ ys)) (sym more))

  -- the items that are left after those of these streams
  abbrev pub rest_of : List Stream → List X → List X
  rest_of [] xs = xs
  rest_of (stream ∷ streams) xs = rest_of streams (drop stream.paths xs)

  grouped-more : (streams : List Stream) (stream : Stream) (xs : List X) → grouped (streams ++ stream ∷ []) xs ≡ grouped streams xs ++ take stream.paths (rest_of streams xs) ∷ []
  grouped-more [] stream xs = refl
  grouped-more (s ∷ streams) stream xs = ap (λ l. take s.paths xs ∷ l) (grouped-more streams stream (drop s.paths xs))

  rest-more : (streams : List Stream) (stream : Stream) (xs : List X) → rest_of (streams ++ stream ∷ []) xs ≡ drop stream.paths (rest_of streams xs)
  rest-more [] stream xs = refl
  rest-more (s ∷ streams) stream xs = rest-more streams stream (drop s.paths xs)

  -- the items of the streams up to a place, and of one more
  pub grouped-next : (streams : List Stream) (i : ℕ) (stream : Stream) (xs : List X) → i < length streams → stream ≡ get_or streams i stream
      → grouped (take (i + 1) streams) xs ≡ grouped (take i streams) xs ++ take stream.paths (rest_of (take i streams) xs) ∷ []
  grouped-next streams i stream xs within is =
      ap (λ l. grouped l xs) (take_more streams i stream within ∙ ap (λ s. take i streams ++ s ∷ []) (sym is)) ∙ grouped-more (take i streams) stream xs

  pub rest-next : (streams : List Stream) (i : ℕ) (stream : Stream) (xs : List X) → i < length streams → stream ≡ get_or streams i stream
      → rest_of (take (i + 1) streams) xs ≡ drop stream.paths (rest_of (take i streams) xs)
  rest-next streams i stream xs within is =
      ap (λ l. rest_of l xs) (take_more streams i stream within ∙ ap (λ s. take i streams ++ s ∷ []) (sym is)) ∙ rest-more (take i streams) stream xs

  -- the number of paths after one more stream, if there was a feed for each of its paths
  pub total-next : (streams : List Stream) (i : ℕ) (stream : Stream) (all old new : List X) → i < length streams → stream ≡ get_or streams i stream
      → new ≡ drop stream.paths old → length (take stream.paths old) ≡ stream.paths → path_total (take i streams) + length old ≡ length all
      → path_total (take (i + 1) streams) + length new ≡ length all
  total-next streams i stream all old new within is left enough before =
      let more : path_total (take (i + 1) streams) ≡ path_total (take i streams) + stream.paths =
      ap path_total (take_more streams i stream within ∙ ap (λ s. take i streams ++ s ∷ []) (sym is))
      ∙ (sum_by-append (λ (s : Stream). s.paths) (take i streams) (stream ∷ []) ∙ (omega arith)) in
      let whole = ap length (take-append-drop stream.paths old) in
      let parts = length-append (take stream.paths old) (drop stream.paths old) in
      let rest = ap length left in
      omega (arith, more, whole, parts, rest, enough, before)

module _ {A B : Type 0} (v : A → B) where
  pub grouped-map : (streams : List Stream) (xs : List A) → grouped streams (map v xs) ≡ map (λ own. map v own) (grouped streams xs)
  grouped-map [] xs = refl
  grouped-map (stream ∷ streams) xs =
      ap (λ l. l ∷ grouped streams (drop stream.paths (map v xs))) (take-map v stream.paths xs)
      ∙ ap (λ l. map v (take stream.paths xs) ∷ l) (ap (grouped streams) (drop-map v stream.paths xs) ∙ grouped-map streams (drop stream.paths xs))

  pub rest-map : (streams : List Stream) (xs : List A) → rest_of streams (map v xs) ≡ map v (rest_of streams xs)
  rest-map [] xs = refl
  rest-map (stream ∷ streams) xs = ap (rest_of streams) (drop-map v stream.paths xs) ∙ rest-map streams (drop stream.paths xs)
