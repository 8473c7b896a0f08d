-- Octets that are written one behind the other.
use Rattle.std.proofs.Common.{◌≡◌, ◌≤◌, ◌+◌, ℕ, List, ◌++◌, length, take, drop, ap, ◌∙◌, arith, length-append, append_assoc}
use Rattle.std.proofs.lemmas.List.{length-take-le, drop-drop}
use Rattle.std.proofs.Math.Seq.{take-append_seam, drop-append-add}
use Rattle.pcap_file.specs.Overwrites.{written_at}

-- the octets before the end of others, and behind it
before_end : (q : ℕ) (xs rest : List ℕ) → q ≡ length xs → take q (xs ++ rest) ≡ xs
before_end q xs rest e = ap (λ m. take m (xs ++ rest)) e ∙ take-append_seam xs rest

behind_end : (q n : ℕ) (xs rest : List ℕ) → q ≡ length xs → drop (q + n) (xs ++ rest) ≡ drop n rest
behind_end q n xs rest e = ap (λ m. drop (m + n) (xs ++ rest)) e ∙ drop-append-add xs rest n

-- octets that are written behind others follow them
pub behind : (p q : ℕ) (xs ys a b c : List ℕ) → b ≡ written_at p xs a → c ≡ written_at q ys b → q ≡ p + length xs → p ≤ length a
    → c ≡ written_at p (xs ++ ys) a
behind p q xs ys a b c first then place space =
    let front : List ℕ = take p a ++ xs in
    let rest : List ℕ = drop (p + length xs) a in
    let count : q ≡ length front = omega (arith, place, length-append (take p a) xs, length-take-le p a space) in
    let same : p + length xs + length ys ≡ p + length (xs ++ ys) = omega (arith, length-append xs ys) in
    let past : drop (q + length ys) b ≡ drop (p + length (xs ++ ys)) a =
    ap (drop (q + length ys)) first ∙ behind_end q (length ys) front rest count
    ∙ drop-drop (length ys) (p + length xs) a ∙ ap (λ n. drop n a) same in
    then ∙ ap (λ l. take q l ++ ys ++ drop (q + length ys) b) first
    ∙ ap (λ l. l ++ ys ++ drop (q + length ys) b) (before_end q front rest count)
    ∙ ap (λ l. front ++ ys ++ l) past
    ∙ ap (λ l. l ++ drop (p + length (xs ++ ys)) a) (append_assoc (take p a) xs ys)

-- octets replace as many at the start of a list, and the place is behind them
pub record IsFront (place : ℕ) (octets all written : List ℕ) : Type 0 where
  pub are : written ≡ octets ++ drop place all
  pub place_is : place ≡ length octets

-- the first that are written
pub first_put : (q : ℕ) (xs ys a b : List ℕ) → b ≡ written_at 0 xs a → xs ≡ ys → q ≡ length xs → IsFront q ys a b
first_put q xs ys a b written is place = record {
  are = written ∙ ap (λ n. xs ++ drop n a) (omega (arith, place)) ∙ ap (λ l. l ++ drop q a) is;
  place_is = place ∙ ap length is;
}

-- more octets written behind them
pub more_put : (p q : ℕ) (xs ys zs a b c : List ℕ) → IsFront p xs a b → c ≡ written_at p ys b → ys ≡ zs → q ≡ p + length ys → IsFront q (xs ++ zs) a c
more_put p q xs ys zs a b c front written is place =
    let before : b ≡ written_at 0 xs a = front.are ∙ ap (λ n. xs ++ drop n a) (omega (arith, front.place_is)) in
    let both : c ≡ written_at 0 (xs ++ ys) a = behind 0 p xs ys a b c before written (omega (arith, front.place_is)) (omega arith) in
    let count : q ≡ length (xs ++ ys) = omega (arith, place, front.place_is, length-append xs ys) in
    first_put q (xs ++ ys) (xs ++ zs) a c both (ap (λ l. xs ++ l) is) count

-- a block's six pieces: the middle three are its body
pub block_put : (p : ℕ) (k l h o z m a g : List ℕ) → IsFront p (k ++ l ++ h ++ o ++ z ++ m) a g → IsFront p (k ++ l ++ (h ++ (o ++ z)) ++ m) a g
block_put p k l h o z m a g front =
    let same : k ++ l ++ h ++ o ++ z ≡ k ++ l ++ (h ++ (o ++ z)) = append_assoc (k ++ l ++ h) o z ∙ append_assoc (k ++ l) h (o ++ z) in
    record {
      are = front.are ∙ ap (λ x. x ++ m ++ drop p a) same;
      place_is = front.place_is ∙ ap (λ x. length (x ++ m)) same;
    }
