-- Events by their places.
use Rattle.std.proofs.Common.{◌≡◌, ℕ, ◌<◌, List, length, map, get_or, Some, slice_get, sym, ◌∙◌, arith}
use Rattle.std.proofs.lemmas.Option.{slice_get_within, get_or_from_slice_get}
use Rattle.std.proofs.lemmas.List.{get_or-map, length-map}

-- the element at a place of a list that `map` made
pub mapped_at : {X Y : Type 0} (f : X → Y) (xs : List X) (i : ℕ) (x : X) (y : Y) → slice_get (map f xs) i ≡ Some y → f (get_or xs i x) ≡ y
mapped_at f xs i x y at =
    let long : length (map f xs) ≡ length xs = length-map xs f in
    let in_map : i < length (map f xs) = slice_get_within (map f xs) i y at in
    sym (get_or-map f xs i x y (omega arith)) ∙ get_or_from_slice_get (map f xs) i y y at
