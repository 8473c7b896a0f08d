-- Pieces that are added one after another.
use Rattle.std.proofs.Common.{◌≡◌, ℕ, List, ◌++◌, Option, Some, None, ap, ◌∙◌, append_assoc}
use Rattle.std.specs.Io.KnownBytes.{Appends, Keeps}

-- one piece before the others
pub before : (h i j xs ys : List ℕ) → i ≡ h ++ xs → j ≡ i ++ ys → j ≡ h ++ (xs ++ ys)
before h i j xs ys first then = then ∙ ap (λ l. l ++ ys) first ∙ append_assoc h xs ys

-- a piece by its value
pub piece : (h i xs ys : List ℕ) → i ≡ h ++ xs → xs ≡ ys → i ≡ h ++ ys
piece h i xs ys added is = added ∙ ap (λ l. h ++ l) is

-- a write is tried again if nothing was written
pub appends_kept : (a b c : Option (List ℕ)) (xs : List ℕ) → Appends a b xs → Keeps b c → Appends a c xs
appends_kept None b c xs wrote same = tt
appends_kept (Some x) None c xs wrote same = absurd wrote
appends_kept (Some x) (Some y) None xs wrote same = absurd same
appends_kept (Some x) (Some y) (Some z) xs wrote same = same ∙ wrote
