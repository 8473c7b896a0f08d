-- Cursors that are behind, and what contracts see of them.
use Rattle.std.proofs.Common.{◌≡◌, ◌≢◌, inl, inr, ◌<◌, ◌≤◌, ◌+◌, ℕ, zero, suc, List, [], ◌∷◌, length, map, set, get_or, ℤ, Option, Some, None, IfSome, slice_get, refl, sym, ap, subst, ◌∙◌, arith}
use Rattle.std.specs.Option.{option_map}
use Rattle.std.proofs.lemmas.Bool.{cases_eq}
use Rattle.std.proofs.lemmas.List.{get_or-map, length-map, length-set}
use Rattle.std.proofs.lemmas.Option.{slice_get-get_or, slice_get-map, slice_get_within, get_or_from_slice_get}
use Rattle.studio_mix.proofs.MixerLemmas.{set_same_at, set_other_at}
use Rattle.rtp_stream.specs.declared.stream_spec.Stream.{Stream}
use Rattle.studio_session.specs.Event.{Arrival}
use Rattle.studio_session.specs.Play.{AreNew}
use Rattle.studio_session.specs.Cursor.{CursorState, at_place}
use Rattle.studio_session.specs.PushedEvents.{AreHanded, IsHanded}
use Rattle.studio_session.proofs.HandedLemmas.{handed_other}
use Rattle.studio_engine.specs.Cursors.{AreBehind, all_at}
use Rattle.studio_engine.specs.Engine.{AreIdle, HaveCome}
use Rattle.studio_engine.proofs.HandLemmas.{is_other}

-- cursors that are set to a number of events have taken that number
pub all_come : (count : ℕ) (cursors : List CursorState) → HaveCome count (all_at count cursors)
all_come count cursors = λ i d within.
    let long = length-map cursors (at_place count) in
    ap (λ (c : CursorState). c.place) (get_or-map (at_place count) cursors i d d (omega (arith, within, long)))

-- nothing changes if the cursors have taken that number already
pub at_come : (count : ℕ) (cursors : List CursorState) → HaveCome count cursors → all_at count cursors ≡ cursors
at_come count [] come = refl
at_come count (cursor ∷ cursors) come =
    let same : at_place count cursor ≡ cursor = ap (λ n. at_place n cursor) (sym (come 0 cursor (omega arith))) in
    ap (λ c. c ∷ all_at count cursors) same ∙ ap (λ l. cursor ∷ l) (at_come count cursors (λ i d within. come (suc i) d (omega (arith, within))))

pub length_at : (count : ℕ) (cursors : List CursorState) → length (all_at count cursors) ≡ length cursors
length_at count cursors = length-map cursors (at_place count)

-- the cursor of a stream, as contracts see it
pub seen_at : (count : ℕ) (cursors : List CursorState) (i : ℕ) (cursor : CursorState) → slice_get cursors i ≡ Some cursor → slice_get (all_at count cursors) i ≡ Some (at_place count cursor)
seen_at count cursors i cursor at = slice_get-map (at_place count) cursors i ∙ ap (option_map (at_place count)) at

pub unseen_at : (count : ℕ) (cursors : List CursorState) (i : ℕ) → slice_get cursors i ≡ None → slice_get (all_at count cursors) i ≡ None
unseen_at count cursors i none = slice_get-map (at_place count) cursors i ∙ ap (option_map (at_place count)) none

-- a cursor as contracts see it is one of the engine's cursors, set to the number of events
pub is_seen : (count : ℕ) (cursors : List CursorState) (i : ℕ) (cursor d : CursorState) → slice_get (all_at count cursors) i ≡ Some cursor → at_place count (get_or cursors i d) ≡ cursor
is_seen count cursors i cursor d at =
    let long = length-map cursors (at_place count) in
    let within : i < length (all_at count cursors) = slice_get_within (all_at count cursors) i cursor at in
    sym (get_or-map (at_place count) cursors i d cursor (omega (arith, within, long))) ∙ get_or_from_slice_get (all_at count cursors) i cursor cursor at

-- idle cursors are idle as contracts see them
pub rest_at : (count : ℕ) (cursors : List CursorState) → AreIdle cursors → AreIdle (all_at count cursors)
rest_at count cursors idle = λ i d within.
    let long = length-map cursors (at_place count) in
    let here : i < length cursors = omega (arith, within, long) in
    ap (λ (c : CursorState). c.reading) (get_or-map (at_place count) cursors i d d here) ∙ idle i d here

pub rest_of : (count : ℕ) (cursors : List CursorState) → AreIdle (all_at count cursors) → AreIdle cursors
rest_of count cursors idle = λ i d within.
    let long = length-map cursors (at_place count) in
    sym (ap (λ (c : CursorState). c.reading) (get_or-map (at_place count) cursors i d d within)) ∙ idle i d (omega (arith, within, long))

-- before the first event each cursor has taken none
pub new_come : (streams : List Stream) (open_at : ℤ) (cursors : List CursorState) → AreNew streams open_at cursors (length streams) → HaveCome 0 cursors
new_come streams open_at cursors new = λ i d within.
    let count = new.count_is in
    let here : i < length streams = omega (arith, within, count) in
    let some = stream_at streams i here in
    (new.each i (get_or cursors i d) some.0 (slice_get-get_or cursors i d within) some.1).0
  where
    stream_at : (streams : List Stream) (i : ℕ) → i < length streams → (stream : Stream) × (slice_get streams i ≡ Some stream)
    stream_at [] i h = absurd (omega (arith, h))
    stream_at (stream ∷ streams) zero h = (stream, refl)
    stream_at (stream ∷ streams) (suc i) h = stream_at streams i (omega (arith, h))

-- cursors that have taken this number of events have not taken more
pub behind_come : (count : ℕ) (cursors : List CursorState) → HaveCome count cursors → AreBehind count cursors
behind_come count cursors come = λ i d within. let here = come i d within in omega (arith, here)

-- what holds for cursors before and after a call holds for equal cursors
pub of_both : (P : List CursorState → List CursorState → Type 0) (first seen_first cursors seen : List CursorState) → first ≡ seen_first → cursors ≡ seen → P first cursors → P seen_first seen
of_both P first seen_first cursors seen before after said = subst (λ l. P seen_first l) after (subst (λ l. P l cursors) before said)

-- the first `number` cursors caught up: they passed over all events that they missed
pub record AreCaught (count : ℕ) (first cursors : List CursorState) (number : ℕ) : Type 0 where
  pub length_is : length cursors ≡ length first
  pub each : (i : ℕ) (old new : CursorState) → i < number → slice_get first i ≡ Some old → slice_get cursors i ≡ Some new → new ≡ at_place count old
  pub others : (i : ℕ) (old new : CursorState) → number ≤ i → slice_get first i ≡ Some old → slice_get cursors i ≡ Some new → new ≡ old

pub caught_none : (count : ℕ) (first : List CursorState) → AreCaught count first first 0
caught_none count first = record {
  length_is = refl;
  each = λ i old new h is at. absurd (omega (arith, h));
  others = λ i old new h is at. one new old (sym at ∙ is);
}
  where
    one : (x y : CursorState) → Some x ≡ Some y → x ≡ y
    one x y e = cc

-- the next cursor is as it was
pub uncaught : (count : ℕ) (first cursors : List CursorState) (i : ℕ) (d : CursorState) → AreCaught count first cursors i → i < length cursors → get_or cursors i d ≡ get_or first i d
uncaught count first cursors i d before within =
    let long = before.length_is in
    let here : i < length first = omega (arith, within, long) in
    before.others i (get_or first i d) (get_or cursors i d) (omega arith) (slice_get-get_or first i d here) (slice_get-get_or cursors i d within)

-- one more cursor caught up
pub caught_more : (count : ℕ) (first cursors : List CursorState) (i : ℕ) (d moved : CursorState) → AreCaught count first cursors i → i < length cursors
    → moved ≡ at_place count (get_or cursors i d) → AreCaught count first (set cursors i moved) (i + 1)
caught_more count first cursors i d moved before within one = record {
  length_is = length-set cursors i moved ∙ before.length_is;
  each = λ j old new h is at. elim (cases_eq j i) [
    | inl e ↦
        let same : new ≡ moved = set_same_at cursors i moved new within (subst (λ k. slice_get (set cursors i moved) k ≡ Some new) e at) in
        let was : get_or cursors i d ≡ old = uncaught count first cursors i d before within ∙ get_or_from_slice_get first i old d (subst (λ k. slice_get first k ≡ Some old) e is) in
        same ∙ one ∙ ap (at_place count) was
    | inr ne ↦ before.each j old new (omega (arith, h, ne)) is (set_other_at cursors i j moved new ne at)
  ];
  others = λ j old new h is at. elim (cases_eq j i) [
    | inl e ↦ absurd (omega (arith, e, h))
    | inr ne ↦ before.others j old new (omega (arith, h)) is (set_other_at cursors i j moved new ne at)
  ];
}

-- a list is determined by its elements
same_all : (f : CursorState → CursorState) (xs ys : List CursorState) → length ys ≡ length xs → ((i : ℕ) (x y : CursorState) → slice_get xs i ≡ Some x → slice_get ys i ≡ Some y → y ≡ f x) → ys ≡ map f xs
same_all f [] [] long each = refl
same_all f [] (y ∷ ys) long each = absurd (omega (arith, long))
same_all f (x ∷ xs) [] long each = absurd (omega (arith, long))
same_all f (x ∷ xs) (y ∷ ys) long each =
    ap (λ c. c ∷ ys) (each 0 x y refl refl) ∙ ap (λ l. f x ∷ l) (same_all f xs ys (omega (arith, long)) (λ i a b is at. each (suc i) a b is at))

-- all cursors caught up
pub caught_all : (count : ℕ) (first cursors : List CursorState) (i : ℕ) → AreCaught count first cursors i → length cursors ≤ i → cursors ≡ all_at count first
caught_all count first cursors i caught past =
    let long = caught.length_is in
    same_all (at_place count) first cursors long (λ j old new is at.
    let within : j < length cursors = slice_get_within cursors j new at in
    caught.each j old new (omega (arith, within, past)) is at)

-- the element at a place that was set
pub set_at : (xs : List CursorState) (i : ℕ) (x : CursorState) → i < length xs → slice_get (set xs i x) i ≡ Some x
set_at [] i x h = absurd (omega (arith, h))
set_at (y ∷ ys) zero x h = refl
set_at (y ∷ ys) (suc i) x h = set_at ys i x (omega (arith, h))

set_other : (xs : List CursorState) (i j : ℕ) (x d : CursorState) → j ≢ i → get_or (set xs i x) j d ≡ get_or xs j d
set_other [] i j x d ne = refl
set_other (y ∷ ys) zero zero x d ne = absurd (ne refl)
set_other (y ∷ ys) zero (suc j) x d ne = refl
set_other (y ∷ ys) (suc i) zero x d ne = refl
set_other (y ∷ ys) (suc i) (suc j) x d ne = set_other ys i j x d (λ e. ne (ap suc e))

-- a place that was set twice has the second element
pub set_twice : (xs : List CursorState) (i : ℕ) (x y : CursorState) → set (set xs i x) i y ≡ set xs i y
set_twice [] i x y = refl
set_twice (z ∷ zs) zero x y = refl
set_twice (z ∷ zs) (suc i) x y = ap (λ l. z ∷ l) (set_twice zs i x y)

-- there is no element past the end
pub past_none : (xs : List CursorState) (i : ℕ) → length xs ≤ i → slice_get xs i ≡ None
past_none [] i h = refl
past_none (x ∷ xs) zero h = absurd (omega (arith, h))
past_none (x ∷ xs) (suc i) h = past_none xs i (omega (arith, h))

-- what follows for the element of an option, if there is one
pub each_some : {A : Type 0} (P Q : A → Type 0) (o : Option A) → ((x : A) → P x → Q x) → IfSome o P → IfSome o Q
each_some P Q None f h = tt
each_some P Q (Some x) f h = f x h

-- a datagram that its own stream's cursor took, once it had passed over what it missed
pub handed_alone : (stream path count : ℕ) (octets : List ℕ) (first : List CursorState) (moved d : CursorState) → stream < length first → moved.place ≡ count + 1
    → IsHanded (Arrival stream path octets) stream (at_place count (get_or first stream d)) moved
    → AreHanded (Arrival stream path octets) (all_at count first) (all_at (count + 1) (set first stream moved)) (length first)
handed_alone stream path count octets first moved d within place own =
    let event = Arrival stream path octets in
    let after = set first stream moved in
    let long = length-set first stream moved in
    let moved_is : at_place (count + 1) moved ≡ moved = ap (λ n. at_place n moved) (sym place) in
    record {
      length_is = length_at (count + 1) after ∙ long ∙ sym (length_at count first);
      each = λ i old new h is at.
          let old_is = is_seen count first i old d is in
          let new_is = is_seen (count + 1) after i new d at in
          elim (cases_eq i stream) [
            | inl e ↦
                let here : get_or after stream d ≡ moved = get_or_from_slice_get after stream moved d (set_at first stream moved within) in
                let new_moved : new ≡ moved = sym new_is ∙ ap (at_place (count + 1)) (ap (λ n. get_or after n d) e ∙ here) ∙ moved_is in
                let old_own : at_place count (get_or first stream d) ≡ old = ap (λ n. at_place count (get_or first n d)) (sym e) ∙ old_is in
                subst (λ n. IsHanded event n old new) (sym e) (subst (IsHanded event stream old) (sym new_moved) (subst (λ c. IsHanded event stream c moved) old_own own))
            | inr ne ↦
                let same : get_or after i d ≡ get_or first i d = set_other first stream i moved d ne in
                let passed : at_place (count + 1) (get_or first i d) ≡ new = ap (at_place (count + 1)) (sym same) ∙ new_is in
                subst (IsHanded event i old) passed (subst (λ c. IsHanded event i c (at_place (count + 1) (get_or first i d))) old_is
                (handed_other event i (at_place count (get_or first i d)) (is_other stream path i octets ne)))
          ];
      others = λ i old new h is at.
          let inside : i < length (all_at count first) = slice_get_within (all_at count first) i old is in
          let same = length_at count first in
          absurd (omega (arith, h, inside, same));
    }
