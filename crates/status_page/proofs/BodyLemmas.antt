-- JSON values, as lists of their items and as numbers of their members.
use Rattle.std.proofs.Common.{◌≡◌, ℕ, List, [], ◌∷◌, length, map, refl, ap, ◌∙◌, Some, None, cond, inl, inr, arith, Bor}
use Rattle.std.specs.Str.{IsUtf8, is_utf8}
use Rattle.std.proofs.lemmas.Bool.{cases_Bool}
use Rattle.std.proofs.lemmas.Str.{IsUtf8-from_is_utf8, is_utf8-from_IsUtf8}
use Rattle.json.specs.Json.{Json, document}
use Rattle.json.specs.Value.{items_view, members_view, value_view}
use Rattle.json.specs.declared.value.Value.{Value}
use Rattle.status_page.specs.GainBodies.{count_of, list_of, value_of}

pub list_of-items : {A : Type 0} (values : List (Value A)) → list_of (items_view values) ≡ map value_view values
list_of-items [] = refl
list_of-items (value ∷ values) = ap (λ rest. value_view value ∷ rest) (list_of-items values)

pub count_of-members : {A : Type 0} (members : List (Bor (List ℕ) × Value A)) → count_of (members_view members) ≡ length members
count_of-members [] = refl
count_of-members (member ∷ members) = omega (arith, count_of-members members)

-- the value of a body in UTF-8
pub value_of-text : (body : List ℕ) (value : Json) → IsUtf8 body → document body ≡ Some value → value_of body ≡ Some value
unfolding value_of
value_of-text body value text found = ap (λ b. cond b (document body) None) (is_utf8-from_IsUtf8 body text) ∙ found

-- a body that is none, in UTF-8 or not
pub value_of-none : (body : List ℕ) → (IsUtf8 body → document body ≡ None) → value_of body ≡ None
unfolding value_of
value_of-none body none =
    elim (cases_Bool (is_utf8 body)) [
      | inl text ↦ ap (λ b. cond b (document body) None) text ∙ none (IsUtf8-from_is_utf8 body text)
      | inr other ↦ ap (λ b. cond b (document body) None) other
    ]
