-- Needed ports, one after another.
use Rattle.std.proofs.Common.{◌≡◌, inl, inr, ◌<◌, ◌≤◌, ◌+◌, ℕ, zero, suc, List, [], ◌∷◌, ◌++◌, length, drop, get_or, Option, Some, None, refl, sym, ap, subst, ◌∙◌, arith, append_assoc, add-one, drop-cons}
use Rattle.std.proofs.lemmas.Bool.{cases_lt}
use Rattle.std.proofs.lemmas.List.{append-nil, drop_all}
use Rattle.rtp_stream.specs.declared.stream_spec.Stream.{Stream}
use Rattle.studio_config.specs.Ports.{port_at}
use Rattle.studio_config.specs.Rows.{first_of}
use Rattle.studio_config.specs.Studio.{Studio}
use Rattle.studio_config.specs.declared.ports.Ports.{Ports}
use Rattle.studio_config.specs.declared.config.keys.Key.{Key}
use Rattle.studio_config.specs.declared.config.keys.Key.TheVariants as key
use Rattle.studio_config.specs.declared.config.fault.ConfigTable.TheVariants as place
use Rattle.studio_config.specs.declared.config.fault.SpecError.{SpecError}
use Rattle.live_io.specs.Ports.{AreSaid, Need, first_missing, missing_at, missing_in, needs_of, output_needs, path_need, path_needs, port_key, row_needs}

-- some were said, and then others
pub said_append : (xs ys : List Need) (a b : List ℕ) → AreSaid xs a → AreSaid ys b → AreSaid (xs ++ ys) (a ++ b)
said_append [] ys [] b first second = second
said_append [] ys (p ∷ a) b first second = absurd (cc)
said_append (x ∷ xs) ys [] b first second = absurd (cc)
said_append (x ∷ xs) ys (p ∷ a) b first second =
    let here : x.port ≡ Some p = cc in
    let more : AreSaid xs a = cc in
    let rest : AreSaid (xs ++ ys) (a ++ b) = said_append xs ys a b more second in
    cc

-- needs whose ports are configured have no fault
pub first_after : (xs ys : List Need) (a : List ℕ) → AreSaid xs a → first_missing (xs ++ ys) ≡ first_missing ys
first_after [] ys a said = refl
first_after (x ∷ xs) ys [] said = absurd (cc)
first_after (x ∷ xs) ys (p ∷ a) said =
    let here : x.port ≡ Some p = cc in
    let more : AreSaid xs a = cc in
    rw here (first_after xs ys a more)

first_of_more : (f a b : Option SpecError) (e : SpecError) → (a ≡ Some e → b ≡ Some e) → first_of f a ≡ Some e → first_of f b ≡ Some e
first_of_more (Some f) a b e more first = first
first_of_more None a b e more first = more first

-- a fault stays the first where more follow
pub first_longer : (xs ys : List Need) (e : SpecError) → first_missing xs ≡ Some e → first_missing (xs ++ ys) ≡ Some e
first_longer [] ys e first = absurd (let f : None ≡ Some e = first in cc)
first_longer (x ∷ xs) ys e first = first_of_more (missing_in x) (first_missing xs) (first_missing (xs ++ ys)) e (first_longer xs ys e) first

-- the needs of a stream's first paths begin those of all
pub row_rest : (rows : List (List (Option ℕ))) (number n m : ℕ) → n ≤ m → (rest : List Need) × (row_needs rows number m ≡ row_needs rows number n ++ rest)
row_rest rows number n zero h = ([], ap (row_needs rows number) (let e : 0 ≡ n = omega (arith, h) in e) ∙ sym (append-nil (row_needs rows number n)))
row_rest rows number n (suc m) h = elim (cases_lt m n) [
  | inl past ↦ ([], ap (row_needs rows number) (let e : suc m ≡ n = omega (arith, h, past) in e) ∙ sym (append-nil (row_needs rows number n)))
  | inr below ↦
      let rest = row_rest rows number n m below in
      (rest.0 ++ path_need rows number m ∷ [], ap (λ l. l ++ path_need rows number m ∷ []) rest.1 ∙ append_assoc (row_needs rows number n) rest.0 (path_need rows number m ∷ []))
]

-- the first path that has no port, after paths that have theirs
pub row_broken : (rows : List (List (Option ℕ))) (number n m : ℕ) (own : List ℕ) (e : SpecError) → AreSaid (row_needs rows number n) own → n < m → missing_in (path_need rows number n) ≡ Some e
    → first_missing (row_needs rows number m) ≡ Some e
row_broken rows number n m own e said within missing =
    let rest = row_rest rows number (suc n) m (omega (arith, within)) in
    let first : first_missing (row_needs rows number (suc n)) ≡ Some e =
    first_after (row_needs rows number n) (path_need rows number n ∷ []) own said ∙ rw missing refl in
    ap first_missing rest.1 ∙ first_longer (row_needs rows number (suc n)) rest.0 e first

-- a path that has no port, under the names that its fault was found with
pub need_missing : (rows : List (List (Option ℕ))) (number n path : ℕ) (named : Key) (port : Option ℕ) (e : SpecError) → path ≡ n → port ≡ port_at rows number path → port ≡ None
    → named ≡ port_key n → missing_at (place.Stream number) named None ≡ Some e → missing_in (path_need rows number n) ≡ Some e
need_missing rows number n path named port e here is none called missing =
    let absent : port_at rows number n ≡ None = ap (port_at rows number) (sym here) ∙ sym is ∙ none in
    rw absent (subst (λ k. missing_at (place.Stream number) k None ≡ Some e) called missing)

-- the needs of the streams so far were said, and these are left
pub record IsFinding (rows : List (List (Option ℕ))) (streams : List Stream) (n : ℕ) (found : List ℕ) : Type 0 where
  pub needs : List Need
  pub said : AreSaid needs found
  pub whole : path_needs rows 0 streams ≡ needs ++ path_needs rows n (drop n streams)

-- the needs of one stream more, and of the rest
next_needs : (rows : List (List (Option ℕ))) (streams : List Stream) (n : ℕ) (stream : Stream) → n < length streams → stream ≡ get_or streams n stream
    → path_needs rows n (drop n streams) ≡ row_needs rows n stream.paths ++ path_needs rows (suc n) (drop (suc n) streams)
next_needs rows streams n stream within is =
    ap (path_needs rows n) (drop-cons streams n stream within)
    ∙ ap (λ (s : Stream). row_needs rows n s.paths ++ path_needs rows (suc n) (drop (suc n) streams)) (sym is)

pub find_more : (rows : List (List (Option ℕ))) (streams : List Stream) (n : ℕ) (stream : Stream) (found found_then own : List ℕ) → n < length streams → stream ≡ get_or streams n stream
    → IsFinding rows streams n found → found_then ≡ found ++ own → AreSaid (row_needs rows n stream.paths) own → IsFinding rows streams (n + 1) found_then
find_more rows streams n stream found found_then own within is f grown said = rw add-one (record {
  needs = f.needs ++ row_needs rows n stream.paths;
  said = rw grown (said_append f.needs (row_needs rows n stream.paths) found own f.said said);
  whole = f.whole ∙ ap (λ l. f.needs ++ l) (next_needs rows streams n stream within is)
      ∙ sym (append_assoc f.needs (row_needs rows n stream.paths) (path_needs rows (suc n) (drop (suc n) streams)));
})

pub find_broken : (rows : List (List (Option ℕ))) (streams : List Stream) (n : ℕ) (stream : Stream) (found : List ℕ) (e : SpecError) → n < length streams → stream ≡ get_or streams n stream
    → IsFinding rows streams n found → first_missing (row_needs rows n stream.paths) ≡ Some e → first_missing (path_needs rows 0 streams) ≡ Some e
find_broken rows streams n stream found e within is f broken =
    ap first_missing (f.whole ∙ ap (λ l. f.needs ++ l) (next_needs rows streams n stream within is))
    ∙ first_after f.needs (row_needs rows n stream.paths ++ path_needs rows (suc n) (drop (suc n) streams)) found f.said
    ∙ first_longer (row_needs rows n stream.paths) (path_needs rows (suc n) (drop (suc n) streams)) e broken

pub find_none : (rows : List (List (Option ℕ))) (streams : List Stream) → IsFinding rows streams 0 []
find_none rows streams = record { needs = []; said = refl; whole = refl }

pub find_all : (rows : List (List (Option ℕ))) (streams : List Stream) (n : ℕ) (found : List ℕ) → length streams ≤ n → IsFinding rows streams n found → AreSaid (path_needs rows 0 streams) found
find_all rows streams n found all f =
    rw (f.whole ∙ ap (λ l. f.needs ++ path_needs rows n l) (drop_all n streams all) ∙ append-nil f.needs) f.said

-- a path's port is the first that is missing
pub path_first : (studio : Studio) (ports : Ports) (streams : List Stream) (e : SpecError) → ports ≡ studio.ports → streams ≡ studio.streams
    → first_missing (path_needs ports.paths 0 streams) ≡ Some e → first_missing (needs_of studio) ≡ Some e
path_first studio ports streams e same all broken =
    let here : first_missing (path_needs studio.ports.paths 0 studio.streams) ≡ Some e =
    subst (λ (p : Ports). first_missing (path_needs p.paths 0 studio.streams) ≡ Some e) same (subst (λ (ss : List Stream). first_missing (path_needs ports.paths 0 ss) ≡ Some e) all broken) in
    first_longer (path_needs studio.ports.paths 0 studio.streams) (output_needs studio) e here

-- the output's are left
after_paths : (studio : Studio) (ports : Ports) (streams : List Stream) (found : List ℕ) → ports ≡ studio.ports → streams ≡ studio.streams
    → AreSaid (path_needs ports.paths 0 streams) found → first_missing (needs_of studio) ≡ first_missing (output_needs studio)
after_paths studio ports streams found same all said =
    let here : AreSaid (path_needs studio.ports.paths 0 studio.streams) found =
    subst (λ (p : Ports). AreSaid (path_needs p.paths 0 studio.streams) found) same (subst (λ (ss : List Stream). AreSaid (path_needs ports.paths 0 ss) found) all said) in
    first_after (path_needs studio.ports.paths 0 studio.streams) (output_needs studio) found here

-- the output's first one is
pub first_address : (studio : Studio) (ports : Ports) (streams : List Stream) (found : List ℕ) (e : SpecError) → ports ≡ studio.ports → streams ≡ studio.streams
    → AreSaid (path_needs ports.paths 0 streams) found → missing_at place.Output key.ToA ports.to_a ≡ Some e → first_missing (needs_of studio) ≡ Some e
first_address studio ports streams found e same all said missing =
    let here : missing_at place.Output key.ToA studio.ports.to_a ≡ Some e = subst (λ (p : Ports). missing_at place.Output key.ToA p.to_a ≡ Some e) same missing in
    after_paths studio ports streams found same all said ∙ rw here refl

-- its second one is
pub second_address : (studio : Studio) (ports : Ports) (streams : List Stream) (found : List ℕ) (e : SpecError) → ports ≡ studio.ports → streams ≡ studio.streams
    → AreSaid (path_needs ports.paths 0 streams) found → missing_at place.Output key.ToA ports.to_a ≡ None → missing_at place.Output key.ToB ports.to_b ≡ Some e
    → first_missing (needs_of studio) ≡ Some e
second_address studio ports streams found e same all said there missing =
    let first : missing_at place.Output key.ToA studio.ports.to_a ≡ None = subst (λ (p : Ports). missing_at place.Output key.ToA p.to_a ≡ None) same there in
    let here : missing_at place.Output key.ToB studio.ports.to_b ≡ Some e = subst (λ (p : Ports). missing_at place.Output key.ToB p.to_b ≡ Some e) same missing in
    after_paths studio ports streams found same all said ∙ rw (first, here) refl
