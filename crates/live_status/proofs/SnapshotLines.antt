-- Lines that are written one after another, some of them left out.
use Rattle.std.proofs.Common.{◌≡◌, inl, inr, ℕ, suc, ℤ, ◌+◌, ◌<◌, List, [], ◌∷◌, ◌++◌, Option, get_or, length, take, drop, refl, sym, ap, subst, ◌∙◌, arith, append_assoc, append-nil, drop-cons, take-append-drop}
use Rattle.std.specs.Io.KnownBytes.{Appends}
use Rattle.std.proofs.KnownBytes.{Appends-nil, Appends-trans}
use Rattle.status_page.specs.declared.snapshot.PathState.{PathState}
use Rattle.status_page.specs.declared.snapshot.StreamState.{StreamState}
use Rattle.live_status.specs.SnapshotLines.{AreSomeOf, WritesPart, WritesSome, path_lines, paths_lines, stream_lines, streams_lines}

-- none of the lines
pub some-none : (lines : List (List ℕ)) → AreSomeOf lines []
some-none [] = refl
some-none (line ∷ lines) = inl (some-none lines)

-- a line alone
pub some-one : (line text : List ℕ) → text ≡ line → AreSomeOf (line ∷ []) text
some-one line text is = inr ([], is ∙ sym (append-nil line), refl)

-- some of further lines
pub some-append : (xs ys : List (List ℕ)) (t u : List ℕ) → AreSomeOf xs t → AreSomeOf ys u → AreSomeOf (xs ++ ys) (t ++ u)
some-append [] ys t u some more = subst (λ (l : List ℕ). AreSomeOf ys (l ++ u)) (sym some) more
some-append (x ∷ xs) ys t u some more = elim some [
  | inl left_out ↦ inl (some-append xs ys t u left_out more)
  | inr taken ↦ inr (taken.0 ++ u, ap (λ l. l ++ u) taken.1 ∙ append_assoc x taken.0 u, some-append xs ys taken.0 u taken.2 more)
]

-- nothing was written
pub wrote-none : (a : Option (List ℕ)) (lines : List (List ℕ)) → WritesSome a lines a
wrote-none a lines = ([], some-none lines, Appends-nil a)

-- further lines were written
pub wrote-more : (a b c : Option (List ℕ)) (xs ys : List (List ℕ)) → WritesSome a xs b → WritesSome b ys c → WritesSome a (xs ++ ys) c
wrote-more a b c xs ys some more = (some.0 ++ more.0, some-append xs ys some.0 more.0 some.1 more.1, Appends-trans a b c some.0 more.0 some.2 more.2)

-- a part of the lines, and none of further ones
pub part-longer : (a b : Option (List ℕ)) (xs ys : List (List ℕ)) → WritesPart a xs b → WritesPart a (xs ++ ys) b
part-longer a b xs ys part =
    (part.0, part.1, subst (AreSomeOf (xs ++ ys)) (append-nil (part.0 ++ part.1)) (some-append xs ys (part.0 ++ part.1) [] part.2 (some-none ys)), part.3)

-- a part of lines after others
pub part-later : (a b c : Option (List ℕ)) (xs ys : List (List ℕ)) → WritesSome a xs b → WritesPart b ys c → WritesPart a (xs ++ ys) c
part-later a b c xs ys some part =
    (some.0 ++ part.0, part.1, subst (AreSomeOf (xs ++ ys)) (sym (append_assoc some.0 part.0 part.1)) (some-append xs ys some.0 (part.0 ++ part.1) some.1 part.2), Appends-trans a b c some.0 part.0 some.2 part.3)

-- a text that was held was written whole, or a part of it
pub held-written : (a b : Option (List ℕ)) (lines : List (List ℕ)) (held : List ℕ) → AreSomeOf lines held → Appends a b held → WritesSome a lines b
held-written a b lines held some wrote = (held, some, wrote)

pub held-broken : (a b : Option (List ℕ)) (lines : List (List ℕ)) (held : List ℕ) → AreSomeOf lines held → (n : ℕ) × (n < length held) × Appends a b (take n held) → WritesPart a lines b
held-broken a b lines held some broke = (take broke.0 held, drop broke.0 held, subst (AreSomeOf lines) (sym (take-append-drop broke.0 held)) some, broke.2)

-- of all lines, some of those before these were written
pub record AreWriting (lines : List (List ℕ)) (a b : Option (List ℕ)) (left : List (List ℕ)) : Type 0 where
  pub done : List (List ℕ)
  pub wrote : WritesSome a done b
  pub rest : lines ≡ done ++ left

pub writing-none : (lines : List (List ℕ)) (a : Option (List ℕ)) → AreWriting lines a a lines
writing-none lines a = record { done = []; wrote = wrote-none a []; rest = refl }

pub writing-more : (lines : List (List ℕ)) (a b c : Option (List ℕ)) (left piece left_then : List (List ℕ)) → left ≡ piece ++ left_then
    → AreWriting lines a b left → WritesSome b piece c → AreWriting lines a c left_then
writing-more lines a b c left piece left_then is w some = record {
  done = w.done ++ piece;
  wrote = wrote-more a b c w.done piece w.wrote some;
  rest = w.rest ∙ ap (λ l. w.done ++ l) is ∙ sym (append_assoc w.done piece left_then);
}

pub writing-broken : (lines : List (List ℕ)) (a b c : Option (List ℕ)) (left piece left_then : List (List ℕ)) → left ≡ piece ++ left_then
    → AreWriting lines a b left → WritesPart b piece c → WritesPart a lines c
writing-broken lines a b c left piece left_then is w part =
    subst (λ (all : List (List ℕ)). WritesPart a all c) (sym (w.rest ∙ ap (λ l. w.done ++ l) is))
    (part-later a b c w.done (piece ++ left_then) w.wrote (part-longer b c piece left_then part))

pub writing-all : (lines : List (List ℕ)) (a b : Option (List ℕ)) (left : List (List ℕ)) → left ≡ [] → AreWriting lines a b left → WritesSome a lines b
writing-all lines a b left none w = subst (λ (all : List (List ℕ)). WritesSome a all b) (sym (w.rest ∙ ap (λ l. w.done ++ l) none ∙ append-nil w.done)) w.wrote

-- the lines of the next stream, and of the rest
pub streams_next : (n : ℕ) (time : ℤ) (streams : List StreamState) (stream : StreamState) → n < length streams → stream ≡ get_or streams n stream
    → streams_lines n time (drop n streams) ≡ stream_lines n time stream ++ streams_lines (n + 1) time (drop (n + 1) streams)
streams_next n time streams stream within is =
    ap (streams_lines n time) (drop-cons streams n stream within)
    ∙ ap (λ (s : StreamState). stream_lines n time s ++ streams_lines (suc n) time (drop (suc n) streams)) (sym is)
    ∙ ap (λ k. stream_lines n time stream ++ streams_lines k time (drop k streams)) (let e : suc n ≡ n + 1 = omega arith in e)

-- of the next path
pub paths_next : (stream n letter : ℕ) (time : ℤ) (paths : List PathState) (path : PathState) → letter ≡ n → n < length paths → path ≡ get_or paths n path
    → paths_lines stream n time (drop n paths) ≡ path_lines stream letter time path ++ paths_lines stream (n + 1) time (drop (n + 1) paths)
paths_next stream n letter time paths path here within is =
    ap (paths_lines stream n time) (drop-cons paths n path within)
    ∙ ap (λ (p : PathState). path_lines stream n time p ++ paths_lines stream (suc n) time (drop (suc n) paths)) (sym is)
    ∙ ap (λ l. path_lines stream l time path ++ paths_lines stream (suc n) time (drop (suc n) paths)) (sym here)
    ∙ ap (λ k. path_lines stream letter time path ++ paths_lines stream k time (drop k paths)) (let e : suc n ≡ n + 1 = omega arith in e)
