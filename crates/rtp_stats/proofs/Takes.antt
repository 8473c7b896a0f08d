-- The value that a look takes out of a ring, one value further.
use Rattle.std.proofs.Common.{◌≡◌, List, [], ◌∷◌, ◌++◌, Option, Some, refl, ap, sym, ◌∙◌, append_assoc}
use Rattle.std.specs.List.{last_or}
use mathlib.Core.List.{IsPrefix}

-- the last of a list to which a value was added is this value
pub last_or-push : {A : Type 0} (o : Option A) (xs : List A) (x : A) → last_or o (xs ++ x ∷ []) ≡ Some x
last_or-push o [] x = refl
last_or-push o (y ∷ xs) x = last_or-push (Some y) xs x

-- what was seen before stays at the front
pub seen-push : {A : Type 0} (known taken ahead rest : List A) (x : A) → IsPrefix known (taken ++ ahead) → IsPrefix ahead (x ∷ rest) → IsPrefix known ((taken ++ x ∷ []) ++ rest)
seen-push known taken ahead rest x p q =
    (p.0 ++ q.0, sym (append_assoc known p.0 q.0) ∙ (ap (λ w. w ++ q.0) p.1 ∙ (append_assoc taken ahead q.0 ∙ (ap (λ w. taken ++ w) q.1 ∙ sym (append_assoc taken (x ∷ []) rest)))))
