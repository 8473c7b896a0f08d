-- The names of sockets, octet by octet.
use Rattle.std.proofs.Common.{◌≡◌, ◌≢◌, ◌<◌, ◌≤◌, ◌+◌, ◌-◌, ◌/◌, ◌%◌, ℕ, List, [], ◌∷◌, ◌++◌, Bool, true, false, refl, ap, sym, ◌∙◌, arith}
use Rattle.std.specs.Prelude.{IsTrue, bytes_eq, codes, decimal}
use Rattle.std.specs.Cmp.Lexicographic.{other_text, same_text}
use Rattle.std.proofs.lemmas.Fmt.{decimal_digit, decimal_step}
use Rattle.live_io.specs.Names.{IsNoName, path_name}
use Rattle.live_io.specs.declared.sockets.names.SocketRole.TheVariants as role

-- the name of a path of one of the first ten streams
pub name_one : (stream path : ℕ) → stream < 10 → path_name stream path ≡ (48 + stream) ∷ (97 + path) ∷ []
name_one stream path few = ap (λ l. l ++ (97 + path) ∷ []) (decimal_digit stream few)

-- the name of a path of a stream from 10 on
pub name_two : (stream path : ℕ) → 10 ≤ stream → stream < 16 → path_name stream path ≡ 49 ∷ (48 + (stream - 10)) ∷ (97 + path) ∷ []
name_two stream path many few =
    let tens : stream / 10 ≡ 1 = omega (arith, many, few) in
    let ones : stream % 10 ≡ stream - 10 = omega (arith, many, few) in
    let one : decimal (stream / 10) ≡ 49 ∷ [] = ap decimal tens ∙ decimal_digit 1 (omega arith) in
    let digits : decimal stream ≡ 49 ∷ (48 + (stream - 10)) ∷ [] =
    decimal_step stream many (omega (arith, few)) ∙ (ap (λ l. l ++ (48 + stream % 10) ∷ []) one ∙ ap (λ n. 49 ∷ (48 + n) ∷ []) ones) in
    ap (λ l. l ++ (97 + path) ∷ []) digits

-- no socket has a name that is no path's and no copy's
pub no_name : (name : List ℕ) → ((stream path : ℕ) → stream < 16 → path < 4 → name ≢ path_name stream path) → name ≢ codes "to_a" → name ≢ codes "to_b" → IsNoName name
no_name name paths a b (role.Path stream path) is = paths stream path is.0 is.1
no_name name paths a b role.ToA is = a
no_name name paths a b role.ToB is = b

-- a comparison with a text has the same result as one with an equal text
pub is_text : (name text own : List ℕ) (r : Bool) → r ≡ bytes_eq name text → own ≡ text → (IsTrue r → name ≡ own) × (name ≡ own → IsTrue r)
is_text name text own true told is = (λ t. same_text name text told ∙ sym is, λ e. refl)
is_text name text own false told is = (λ t. absurd (let f : false ≡ true = t in cc), λ e. absurd (other_text name text told (e ∙ is)))
