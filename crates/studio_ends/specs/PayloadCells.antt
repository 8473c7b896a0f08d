-- Octets in a cell of a fixed size.
use Rattle.std.proofs.Common.{◌≡◌, ℕ, ◌-◌, ◌≤◌, List, ◌++◌, length, take, drop, replicate, sym, ap, ◌∙◌}
use Rattle.std.proofs.lemmas.List.{take-append-drop, length-take-le}

-- the octets, followed by zeros up to the end of the cell
abbrev pub padded : ℕ → List ℕ → List ℕ
padded size octets = octets ++ replicate (size - length octets) 0

-- the cell holds `len` octets, followed by zeros
pub record IsCell (size len : ℕ) (octets : List ℕ) : Type 0 where
  pub size_is : length octets ≡ size
  pub fits : len ≤ size
  pub blank : drop len octets ≡ replicate (size - len) 0

-- the payload in a cell has the length that is stored with it
pub taken_length : (size len : ℕ) (octets : List ℕ) → IsCell size len octets → length (take len octets) ≡ len
taken_length size len octets h = length-take-le len octets (rw h.size_is h.fits)

-- the payload in a cell determines all octets of the cell
pub padded_back : (size len : ℕ) (octets : List ℕ) → IsCell size len octets → padded size (take len octets) ≡ octets
padded_back size len octets h =
    ap (λ n. take len octets ++ replicate (size - n) 0) (taken_length size len octets h)
    ∙ (ap (λ l. take len octets ++ l) (sym h.blank) ∙ take-append-drop len octets)
