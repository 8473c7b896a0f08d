-- Values, arrays and tables, and the data that contracts see of them.
use Rattle.std.proofs.Common.{◌≡◌, Bool, ◌&&◌, List, [], ◌∷◌, map, Option, Some, option_map, String, Vec, Global, string_bytes, Bor, refl, ap, sym, ◌∙◌}
use Rattle.std.specs.List.{list_all}
use Rattle.std.specs.Map.{keys_of}
use Rattle.toml.specs.Data.{Data, as_array}
use Rattle.toml.specs.View.{view, items_view, array_view, members_view}
use Rattle.toml.specs.declared.value.Value.{Value}
use Rattle.studio_config.specs.Values.{list_of, items_in, is_array_of}
use Rattle.studio_config.specs.Rows.{names_of, is_known}
use Rattle.studio_config.specs.declared.config.keys.Key.{Key}

-- each key of a map is the name of a member
pub names_known : (keys : List Key) (es : List (String Global × Value)) → list_all (is_known keys) (names_of (members_view es)) ≡ list_all (λ name. is_known keys (string_bytes name)) (keys_of es)
names_known keys [] = refl
names_known keys (e ∷ es) = ap (λ rest. is_known keys (string_bytes e.0) && rest) (names_known keys es)

-- an array that was found in a value
pub array_found : (r : Option (Bor (Vec Value Global))) (a : Bor (Vec Value Global)) (d : Data) → option_map (λ v. array_view v.now) r ≡ as_array d → r ≡ Some a → as_array d ≡ Some (items_view a.now.items)
array_found r a d seen is = sym seen ∙ ap (option_map (λ v. array_view v.now)) is

pub list_of-view : (vs : List Value) → list_of (items_view vs) ≡ map view vs
list_of-view [] = refl
list_of-view (v ∷ vs) = ap (λ rest. view v ∷ rest) (list_of-view vs)

-- the items of an array are the data of its values
pub items_in-array : (d : Data) (vs : List Value) → as_array d ≡ Some (items_view vs) → items_in d ≡ map view vs
items_in-array d vs is = rw is (list_of-view vs)

pub list_all-map : (test : Data → Bool) (vs : List Value) → list_all test (map view vs) ≡ list_all (λ v. test (view v)) vs
list_all-map test [] = refl
list_all-map test (v ∷ vs) = ap (λ rest. test (view v) && rest) (list_all-map test vs)

pub map-view : {A : Type 0} (f : Data → A) (vs : List Value) → map (λ v. f (view v)) vs ≡ map f (map view vs)
map-view f [] = refl
map-view f (v ∷ vs) = ap (λ rest. f (view v) ∷ rest) (map-view f vs)

-- a test of all items is a test of the data of all values
pub is_array_of-array : (test : Data → Bool) (d : Data) (vs : List Value) → as_array d ≡ Some (items_view vs) → is_array_of test d ≡ list_all (λ v. test (view v)) vs
is_array_of-array test d vs is = rw is (rw (list_of-view vs) (list_all-map test vs))

-- what is read of each item is read of the data of each value
pub map-items_in : {A : Type 0} (f : Data → A) (d : Data) (vs : List Value) → as_array d ≡ Some (items_view vs) → map (λ v. f (view v)) vs ≡ map f (items_in d)
map-items_in f d vs is = map-view f vs ∙ ap (map f) (sym (items_in-array d vs is))
